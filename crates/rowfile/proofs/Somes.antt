-- Some element of a list, and number fields read one after another. Assumes nothing.
use Rattle.std.proofs.Common.{◌≡◌, ℕ, ◌+◌, ◌^◌, ◌<◌, List, [], ◌∷◌, ◌++◌, map, length, get_or, take, drop, decimal, sym, refl, ap, ◌∙◌, subst, inl, inr, append_assoc, arith, length-append}
use lib.ListN.{length-map}
use Rattle.std.proofs.lemmas.List.{map_push, take-append-drop, drop_more}
use Rattle.std.proofs.lemmas.Fmt.{decimal_injective}
use Rattle.std.proofs.ByRecursion.{All-push}
use Rattle.rowfile.specs.Lines.{Bytes, Writes}
use Rattle.rowfile.specs.Files.{Small}
use Rattle.rowfile.specs.Faults.{Any, NoNumber}

some_later : {X : Type 0} (P : X → Type 0) (xs ys : List X) → Any P ys → Any P (xs ++ ys)
some_later P [] ys h = h
some_later P (x ∷ xs) ys h = inr (some_later P xs ys h)

pub some_at : {X : Type 0} (P : X → Type 0) (xs front back : List X) (x : X) → xs ≡ front ++ (x ∷ back) → P x → Any P xs
some_at P xs front back x e h = subst (Any P) (sym e) (some_later P front (x ∷ back) (inl h))

pub split_at : {X : Type 0} (xs : List X) (i : ℕ) (d : X) → i < length xs → xs ≡ take i xs ++ (get_or xs i d ∷ drop (i + 1) xs)
split_at xs i d l = sym (take-append-drop i xs) ∙ ap (λ k. take i xs ++ k) (drop_more xs i d l)

pub some_index : {X : Type 0} (P : X → Type 0) (xs : List X) (i : ℕ) (d : X) → i < length xs → P (get_or xs i d) → Any P xs
some_index P xs i d l h = some_at P xs (take i xs) (drop (i + 1) xs) (get_or xs i d) (split_at xs i d l) h

-- where a number with P is written, some number has P
pub some_number : (P : ℕ → Type 0) (ns ms : List ℕ) (gs : List Bytes) (n : ℕ) → map decimal ns ≡ map decimal ms ++ (decimal n ∷ gs) → Small ns → n < 2 ^ 32 → P n → Any P ns
some_number P [] [] gs n e s l h = let z : ◌≡◌ {A = ℕ} 0 1 = cc in absurd (omega arith)
some_number P [] (m ∷ ms) gs n e s l h = let z : ◌≡◌ {A = ℕ} 0 1 = cc in absurd (omega arith)
some_number P (k ∷ ns) [] gs n e s l h =
    let d : decimal k ≡ decimal n = cc in
    let k_small : k < 2 ^ 64 = omega (arith, s.0) in
    let n_small : n < 2 ^ 64 = omega arith in
    inl (subst P (sym (decimal_injective k n k_small n_small d)) h)
some_number P (k ∷ ns) (m ∷ ms) gs n e s l h = inr (some_number P ns ms gs n (cc) s.1 l h)

-- of the fields fs, those before gs write the numbers ns
pub record Read (fs gs : List Bytes) (ns : List ℕ) : Type 0 where
  pub front : fs ≡ map decimal ns ++ gs
  pub small : Small ns

pub read_none : (fs : List Bytes) → Read fs fs []
read_none fs = record { front = refl; small = tt }

module _ {fs gs : List Bytes} {ns : List ℕ} (r : Read fs gs ns) where
  pub read_count : length fs ≡ length ns + length gs
  read_count = ap length r.front ∙ (length-append (map decimal ns) gs ∙ ap (λ k. k + length gs) (length-map ns decimal))

  -- the next field is f, and hs follow
  module _ {f : Bytes} {hs : List Bytes} (next : gs ≡ f ∷ hs) where
    split : fs ≡ map decimal ns ++ (f ∷ hs)
    split = r.front ∙ ap (λ l. map decimal ns ++ l) next

    pub read_more : {n : ℕ} → Writes f n → Read fs hs (ns ++ n ∷ [])
    read_more {n} w = record {
      front = split ∙ (ap (λ g. map decimal ns ++ (g ∷ hs)) w.1 ∙ (sym (append_assoc (map decimal ns) (decimal n ∷ []) hs) ∙ ap (λ l. l ++ hs) (sym (map_push decimal ns n))));
      small = All-push (λ k. k < 2 ^ 32) ns n r.small w.0;
    }

    pub read_bad : NoNumber f → Any NoNumber fs
    read_bad b = some_at NoNumber fs (map decimal ns) hs f split b
