-- What the loops over eight places make and tell. Assumes nothing.
use Rattle.std.proofs.Common.{◌≡◌, ℕ, zero, suc, ◌+◌, ◌*◌, ◌^◌, ◌<◌, ◌≤◌, Bool, true, false, MatchBool, eqb, ◌≢◌, List, [], ◌∷◌, ◌++◌, map, reverse, length, get_or, take, drop, fold, take-append-drop, set, sym, refl, ap, ◌∙◌, subst, add-zero, zero-add, arith, below_more}
use denote.Param.Members.{Called, Mut}
use Rattle.std.specs.Array.{IsFromFnResult, IsFromFnResultFrom}
use Rattle.std.specs.Int.Digits.{number_from_digits, number_from_digits_after}
use Rattle.std.proofs.lemmas.Int.Digits.{number_after_append, number_after_ge, number_more, number_push}
use Rattle.std.proofs.lemmas.Grind.{reverse_onto}
use Rattle.std.specs.List.{AllWithin, ContainsAt as Has, HoldsAt, IsAnyAnswer, range_with_len}
use Rattle.std.proofs.lemmas.Bool.Decides.{Decides-eqb}
use Rattle.std.proofs.lemmas.List.Elements.{contains_decides}
use Rattle.std.proofs.lemmas.List.FromFn.{get_or-range_with_len}
use Rattle.std.proofs.lemmas.List.{get_or_default, get_or-set_other, get_or-set_same, length-set, map-append}
use Rattle.std.proofs.lemmas.Bool.{false_from_ne_true}
use Rattle.maps.specs.Permutations.{eight, image, inverse, perm_belongs, perm_code, place, times}
use Rattle.std.proofs.lemmas.Float.{T_from_true}
use Rattle.maps.specs.Bounds.{holds}
use Rattle.maps.specs.Images.{Perm, image_of, met, perm, perm_held, perm_of, place_of, place_small, small}
use Rattle.maps.specs.PermutationLaws.{code_weighs, image_eight, inverse_image, length_eight, same, weigh, weigh_small}

-- a list of eight with the image f i of each i
pub eight_is : (f : ℕ → ℕ) (z : List ℕ) → length z ≡ 8 → ((i : ℕ) → i < 8 → image z i ≡ f i) → z ≡ eight f
eight_is f z l e = same l (length_eight _) (λ i h. e i h ∙ sym (image_eight f i h))

-- what `array::from_fn` makes, where each call of f gives h of its index and leaves f as it was
module _ {F : Type 0} {g : Mut F (ℕ × Unit {0}) ℕ} {f : F} (h : ℕ → ℕ) (same_f : (i y : ℕ) (q : F) → Called g f (i, tt) y q → (q ≡ f) × (y ≡ h i)) where
  made_from : (ys : List ℕ) (i n k : ℕ) → IsFromFnResultFrom g f ys i n → k < n → image ys (i + k) ≡ h (i + k)
  made_from ys i zero k r b = absurd (omega arith)
  made_from ys i (suc n) zero (q, y, at, call, r) b = rw add-zero (at.1 0 ∙ (same_f i y q call).1)
  made_from ys i (suc n) (suc k) (q, y, at, call, r) b =
      let e : i + suc k ≡ (i + 1) + k = omega arith in
      rw e (made_from ys (i + 1) n k (subst (λ p. IsFromFnResultFrom g p ys (i + 1) n) (same_f i y q call).0 r) (omega arith))

  pub eight_made : (ys : List ℕ) → IsFromFnResult g f ys 8 → ys ≡ eight h
  eight_made ys r = eight_is h ys r.long (λ k b. simp zero-add at (made_from ys 0 8 k r.each b))

-- a list of eight that sends the first n images back to their places
pub record Inverted (x z : List ℕ) (n : ℕ) : Type 0 where
  pub long : length z ≡ 8
  pub so_far : (k : ℕ) → k < n → image z (image x k) ≡ k

pub inverted_more : (x z : List ℕ) (i v : ℕ) → Perm x → Inverted x z i → i < 8 → v ≡ image x i → Inverted x (set z v i) (i + 1)
inverted_more x z i v p h l e = record {
  long = length-set z v i ∙ h.long;
  so_far = below_more _ _
      (λ k b. get_or-set_other z v (image x k) i 0 (λ s. apart k b (s ∙ e)) ∙ h.so_far k b)
      (ap (image (set z v i)) (sym e) ∙ get_or-set_same z v i 0 (omega (arith, h.long, e, small p i l)));
}
  where
    apart : (k : ℕ) → k < i → image x k ≢ image x i
    apart k b s = omega (arith, sym (place_of p k (omega arith)) ∙ (ap (place x) s ∙ place_of p i l))

pub inverted_all : (x z : List ℕ) (n : ℕ) → Perm x → Inverted x z n → 8 ≤ n → z ≡ inverse x
inverted_all x z n p h l = same h.long (length_eight _) (λ v b. ap (image z) (sym (image_of p v b)) ∙ (h.so_far (place x v) (omega (arith, place_small p v b)) ∙ sym (inverse_image x v b)))

-- the code from the highest image down
from_top : (x : List ℕ) → number_from_digits 8 (reverse x) ≡ weigh x
from_top [] = refl
from_top (d ∷ ds) = ap (number_from_digits 8) (reverse_onto ds d []) ∙ (number_push 8 (reverse ds) d ∙ omega (arith, from_top ds))

pub number_more_of : {A : Type 0} (f : A → ℕ) (xs : List A) (x : A) → number_from_digits 8 (map f (xs ++ (x ∷ []))) ≡ number_from_digits 8 (map f xs) * 8 + f x
number_more_of f xs x = ap (number_from_digits 8) (map-append f xs (x ∷ [])) ∙ number_push 8 (map f xs) (f x)

folded : (n : ℕ) (ds : List ℕ) → fold (λ n d. n * 8 + d) n ds ≡ number_from_digits_after 8 n ds
folded n [] = refl
folded n (d ∷ ds) = folded (n * 8 + d) ds

module _ {x : List ℕ} (p : Perm x) where
  pub code_folds : fold (λ n d. n * 8 + d) 0 (reverse x) ≡ perm_code x
  code_folds = folded 0 (reverse x) ∙ (from_top x ∙ sym (code_weighs p))

  -- one image more, below what comes of them all
  pub code_room : (ys : List ℕ) (n v : ℕ) → n < length (reverse x) → ys ≡ take n (reverse x) → v ≡ get_or (reverse x) n v → number_from_digits 8 ys * 8 + v < 8 ^ 8
  code_room ys n v h e f =
      let l = reverse x in
      let ds = take (n + 1) l in
      let a : number_from_digits 8 ds ≡ number_from_digits 8 ys * 8 + v = number_more 8 l n h ∙ omega (arith, ap (number_from_digits 8) e, f ∙ get_or_default l n v 0 h) in
      let b : number_from_digits 8 l ≡ number_from_digits_after 8 (number_from_digits 8 ds) (drop (n + 1) l) =
      ap (number_from_digits 8) (sym (take-append-drop (n + 1) l)) ∙ number_after_append 8 0 ds (drop (n + 1) l) in
      omega (arith, number_after_ge 8 (number_from_digits 8 ds) (drop (n + 1) l) (omega arith), from_top x, weigh_small p)

-- a number below 8 that is no image
pub lacking : (x : List ℕ) (v : ℕ) → v < 8 → (Has x v → ⊥) → perm_belongs x ≡ false
lacking x v h n = false_from_ne_true _ (λ e.
    let p = perm x (T_from_true _ e) in
    let b : place x v < length x = omega (arith, place_small p v h, p.long) in
    n (place x v, b, λ d. get_or_default x (place x v) d 0 b ∙ image_of p v h))

pub found : (x : List ℕ) (v : ℕ) → Has x v → 1 ≤ times v x
found x v h = met v x h.0 h.1 (h.2 0)

nth : (v : ℕ) → v < 8 → get_or (range_with_len 0 8) v 0 ≡ v
nth v h = get_or-range_with_len 0 8 v 0 h ∙ omega arith

-- what looking for v among x answers
abbrev pub Looked : List ℕ → ℕ → Bool → Type 0
Looked x v = IsAnyAnswer (λ y t. eqb y v ≡ t) x

-- what looking for each number below 8 among eight images tells
pub told : (x : List ℕ) (r : Bool) → length x ≡ 8 → MatchBool r (AllWithin (λ v. Looked x v true) (range_with_len 0 8) 0 8) ((k : ℕ) × (k < 8) × HoldsAt (λ v. Looked x v false) (range_with_len 0 8) k) → perm_belongs x ≡ r
told x true l a =
    holds _ (perm_held _ (perm_of x l (λ v h. found x v ((contains_decides eqb Decides-eqb x v true (subst (λ v. Looked x v true) (nth v h) (a v 0 (omega arith) h))).0 refl))))
told x false l (k, h, n) =
    lacking x k h (λ m. let e = (contains_decides eqb Decides-eqb x k false (subst (λ v. Looked x v false) (nth k h) (n 0))).1 m in cc)
