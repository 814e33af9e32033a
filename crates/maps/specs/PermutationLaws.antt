-- The rule of permutations keeps the laws: they form a group, and their codes are numbers to the base 8. Assumes nothing.
use Rattle.std.specs.Prelude.{◌≡◌, ℕ, zero, suc, ◌+◌, ◌*◌, ◌/◌, ◌%◌, ◌^◌, ◌<◌, T, List, [], ◌∷◌, length, refl}
use Rattle.std.proofs.Common.{sym, subst, ◌∙◌}
use Rattle.std.proofs.Math.Path.{ap}
use Rattle.std.proofs.Math.Nat.{div-div-eq-div-mul, pow-succ'}
use native.Mathlib.Omega.{arith}
use Rattle.std.proofs.lemmas.List.FromFn.{get_or-map-range_with_len}
use Rattle.std.specs.List.{AllByRecursion}
use Rattle.std.proofs.ByRecursion.{All-from_get_or}
use Rattle.std.proofs.lemmas.List.{ext_get_or}
use Rattle.std.proofs.lemmas.Bool.{and_from, and_parts, lt-ltb, ltb-true}
use Rattle.exchange.specs.Laws.{Braids}
use Rattle.exchange.specs.Rules.{Numbers, Sound}
use Rattle.maps.specs.Permutations.{Conjugates, conjugate, eight, identity, image, images, inverse, perm_belongs, perm_code, perm_cross, perm_elements, perm_rule, place, product, unconjugate}
use Rattle.std.proofs.lemmas.Float.{T_from_true}
use Rattle.maps.specs.Bounds.{holds}
use Rattle.maps.specs.Conjugation.{Group, conj_belongs, conj_conj, conj_is, conj_only, unconj_belongs, unconj_is, unconj_only}
use Rattle.maps.specs.Images.{Perm, image_of, perm, perm_from, perm_held, place_of, place_small, small}

pub image_eight : (f : ℕ → ℕ) (i : ℕ) → i < 8 → image (eight f) i ≡ f i
unfolding eight
image_eight f i h = get_or-map-range_with_len f 0 8 i i 0 h (omega arith)

pub length_eight : (f : ℕ → ℕ) → length (eight f) ≡ 8
unfolding eight
length_eight f = refl

-- lists of eight that agree at every place
pub same : {x y : List ℕ} → length x ≡ 8 → length y ≡ 8 → ((i : ℕ) → i < 8 → image x i ≡ image y i) → x ≡ y
same {x} {y} l k e = ext_get_or 0 x y (l ∙ sym k) (λ i h. e i (omega arith))

pub product_image : (x y : List ℕ) (i : ℕ) → i < 8 → image (product x y) i ≡ image y (image x i)
product_image x y i h = image_eight (λ i. image y (image x i)) i h

pub inverse_image : (x : List ℕ) (v : ℕ) → v < 8 → image (inverse x) v ≡ place x v
inverse_image x v h = image_eight (place x) v h

identity_image : (i : ℕ) → i < 8 → image identity i ≡ i
unfolding eight
identity_image i h = image_eight (λ i. i) i h

pub group : Group perm_belongs product inverse identity
group = record {
  mul_belongs = λ x y p q.
      let P = perm x p in
      let Q = perm y q in
      perm_held _ (perm_from (product x y) (length_eight _) (λ v. place x (place y v)) (λ v h. place_small P _ (place_small Q v h)) (λ v h.
      product_image x y _ (place_small P _ (place_small Q v h)) ∙ (ap (image y) (image_of P _ (place_small Q v h)) ∙ image_of Q v h)));
  inv_belongs = λ x p.
      let P = perm x p in
      perm_held _ (perm_from (inverse x) (length_eight _) (image x) (small P) (λ v h. inverse_image x _ (small P v h) ∙ place_of P v h));
  one_belongs = perm_held _ (perm_from identity refl (λ v. v) (λ v h. h) identity_image);
  assoc = λ x y z p q r.
      let P = perm x p in
      same (length_eight _) (length_eight _) (λ i h. product_image (product x y) z i h ∙ (ap (image z) (product_image x y i h) ∙ sym (product_image x (product y z) i h ∙ product_image y z _ (small P i h))));
  one_left = λ x p.
      let P = perm x p in
      same (length_eight _) P.long (λ i h. product_image identity x i h ∙ ap (image x) (identity_image i h));
  one_right = λ x p.
      let P = perm x p in
      same (length_eight _) P.long (λ i h. product_image x identity i h ∙ identity_image _ (small P i h));
  inv_left = λ x p.
      let P = perm x p in
      same (length_eight _) refl (λ i h. product_image (inverse x) x i h ∙ (ap (image x) (inverse_image x i h) ∙ (image_of P i h ∙ sym (identity_image i h))));
  inv_right = λ x p.
      let P = perm x p in
      same (length_eight _) refl (λ i h. product_image x (inverse x) i h ∙ (inverse_image x _ (small P i h) ∙ (place_of P i h ∙ sym (identity_image i h))));
}

pub made_element : {x y : List ℕ} → x ≡ y → T (perm_belongs y) → T (perm_belongs x)
made_element e h = subst (λ (w : List ℕ). T (perm_belongs w)) (sym e) h

weighed : (n : ℕ) → n < 8 ^ 8 → perm_code (images n) ≡ n
unfolding eight
weighed n h = omega arith

-- the code, the highest place first
abbrev pub weigh : List ℕ → ℕ
weigh [] = 0
weigh (d ∷ ds) = d + 8 * weigh ds

pub weigh_lt : (x : List ℕ) → AllByRecursion (λ d. d < 8) x → weigh x < 8 ^ length x
weigh_lt [] a = omega arith
weigh_lt (d ∷ ds) a = omega (arith, pow-succ' 8 (length ds), weigh_lt ds a.1)

digit_at : (x : List ℕ) (i : ℕ) → AllByRecursion (λ d. d < 8) x → i < length x → weigh x / 8 ^ i % 8 ≡ image x i
digit_at [] i a h = absurd (omega arith)
digit_at (d ∷ ds) zero a h = omega arith
digit_at (d ∷ ds) (suc i) a h =
    let w = weigh ds in
    let e : (d + 8 * w) / 8 ≡ w = omega arith in
    let f : (d + 8 * w) / 8 ^ suc i ≡ w / 8 ^ i = ap (λ n. (d + 8 * w) / n) (pow-succ' 8 i) ∙ (sym (div-div-eq-div-mul (d + 8 * w) 8 (8 ^ i)) ∙ ap (λ n. n / 8 ^ i) e) in
    ap (λ n. n % 8) f ∙ digit_at ds i a.1 (omega arith)

module _ {x : List ℕ} (p : Perm x) where
  listed : eight (image x) ≡ x
  listed = same (length_eight _) p.long (image_eight (image x))

  pub code_weighs : perm_code x ≡ weigh x
  unfolding eight
  code_weighs = let e : perm_code x ≡ weigh (eight (image x)) = omega arith in e ∙ ap weigh listed

  pub digits : AllByRecursion (λ d. d < 8) x
  digits = All-from_get_or (λ d. d < 8) x 0 (λ i h. small p i (omega (arith, p.long)))

  pub weigh_small : weigh x < 8 ^ 8
  weigh_small = subst (λ n. weigh x < 8 ^ n) p.long (weigh_lt x digits)

  unweighed : images (perm_code x) ≡ x
  unweighed = same (length_eight _) p.long (λ i h. image_eight (λ i. perm_code x / 8 ^ i % 8) i h ∙ (ap (λ n. n / 8 ^ i % 8) code_weighs ∙ digit_at x i digits (omega (arith, p.long))))

numbers : Numbers perm_elements
numbers = record {
  kind_small = λ x b. omega arith;
  code_small = λ x b. omega (arith, code_weighs (perm x b), weigh_small (perm x b));
  code_is_one = λ x b. T_from_true _ (and_from _ _ (lt-ltb _ _ (omega (arith, code_weighs (perm x b), weigh_small (perm x b)))) (holds _ (subst (λ (w : List ℕ). T (perm_belongs w)) (sym (unweighed (perm x b))) b)));
  element_of_code = λ x b. unweighed (perm x b);
  element_belongs = λ n b. T_from_true _ (and_parts _ _ (holds _ b)).1;
  code_of_element = λ n b. weighed n (ltb-true n (8 ^ 8) (and_parts _ _ (holds _ b)).0);
  rest_belongs = group.one_belongs;
}

braided : Braids perm_elements perm_cross
braided t h =
    let e = conj_conj group t.0 t.1 t.2 h.0 h.1 h.2 in
    ap (λ (w : List ℕ). (t.2, conjugate t.1 t.2, w)) (sym e)

pub perm_sound : Sound perm_rule
perm_sound = record {
  numbers = numbers;
  crosses = record { belong = λ x y h. (h.1, conj_belongs group x y h.0 h.1); left_kind = λ x y h. refl; right_kind = λ x y h. refl };
  uncrosses = record { belong = λ u v h. (unconj_belongs group u v h.0 h.1, h.0); left_kind = λ x y h. refl; right_kind = λ x y h. refl };
  uncross_undoes = λ x y h. ap (λ (w : List ℕ). (w, y)) (unconj_only group y (conjugate x y) x h.1 (conj_belongs group x y h.0 h.1) h.0 (sym (conj_is group x y h.0 h.1)));
  cross_undoes = λ u v h. ap (λ (w : List ℕ). (u, w)) (conj_only group (product (product u v) (inverse u)) u v (unconj_belongs group u v h.0 h.1) h.0 h.1 (sym (unconj_is group u v h.0 h.1)));
  braids = braided;
}

-- y z = x y, read at each place
conjugates : (x y z : List ℕ) → product y z ≡ product x y → Conjugates x y z
conjugates x y z e i h = sym (product_image y z i h) ∙ (ap (λ (w : List ℕ). image w i) e ∙ product_image x y i h)

pub conjugate_conjugates : (x y : List ℕ) → T (perm_belongs x) → T (perm_belongs y) → Conjugates x y (conjugate x y)
conjugate_conjugates x y p q = conjugates x y (conjugate x y) (conj_is group x y p q)

pub unconjugate_conjugates : (u v : List ℕ) → T (perm_belongs u) → T (perm_belongs v) → Conjugates (unconjugate u v) u v
unconjugate_conjugates u v p q = conjugates (unconjugate u v) u v (sym (unconj_is group u v p q))
