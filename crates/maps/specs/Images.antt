-- Eight images, each of 0 to 7 once: below 8, no two alike, and none left out. Assumes nothing.
use Rattle.std.specs.Prelude.{◌≡◌, ℕ, zero, suc, ◌+◌, ◌<◌, ◌≤◌, cond, T, ltb, List, [], ◌∷◌, length, Decides, count_by, ◌==◌, nat_eq, nat_lt, refl}
use Rattle.std.proofs.Common.{sym, ap, ◌∙◌, ⊎_elim, arith}
use Rattle.std.proofs.lemmas.List.Sums.{sum_by-cons, count_by-le-length, get_or-le-sum_by}
use Rattle.std.proofs.lemmas.Bool.{and_parts, cases_eq, eqb-true, eq-eqb}
use Rattle.std.proofs.lemmas.Bool.Decides.{Decides-eqb, Decides-below_and, eqb_tells, nat_tests}
use Rattle.maps.specs.Permutations.{each_once, image, perm_belongs, place, times}
use Rattle.std.proofs.lemmas.Float.{T_from_true}
use Rattle.maps.specs.Bounds.{holds}

pub record Perm (x : List ℕ) : Type 0 where
  pub long : length x ≡ 8
  pub once : (v : ℕ) → v < 8 → times v x ≡ 1

once_decides : (x : List ℕ) (n : ℕ) → Decides (each_once x n) ((v : ℕ) → v < n → times v x ≡ 1)
unfolding each_once
once_decides x = Decides-below_and (λ v. nat_eq (times v x) 1) (λ v. times v x ≡ 1) (each_once x) (λ v. Decides-eqb (times v x) 1) refl (λ _. refl)

pub perm : (x : List ℕ) → T (perm_belongs x) → Perm x
perm x h =
    let e = and_parts (length x == 8) (each_once x 8) (holds _ h) in
    record { long = eqb-true (length x) 8 e.0; once = (once_decides x 8).0 e.1 }

pub perm_held : (x : List ℕ) → Perm x → T (perm_belongs x)
perm_held x p = T_from_true _ (simp (eq-eqb (length x) 8 p.long, (once_decides x 8).1 p.once))

abbrev hit : ℕ → ℕ → ℕ
hit w v = cond (w == v) 1 0

times_cons : (v w : ℕ) (ws : List ℕ) → times v (w ∷ ws) ≡ hit w v + times v ws
times_cons v w ws = sum_by-cons (λ w. hit w v) w ws

-- how many images are below n
under : ℕ → List ℕ → ℕ
under n x = count_by (λ w. ltb w n) x

under_cons : (n w : ℕ) (ws : List ℕ) → under n (w ∷ ws) ≡ cond (nat_lt w n) 1 0 + under n ws
unfolding under
under_cons n w ws = sum_by-cons (λ w. cond (nat_lt w n) 1 0) w ws

under_suc : (n : ℕ) (x : List ℕ) → under (suc n) x ≡ times n x + under n x
unfolding under
under_suc n [] = refl
under_suc n (w ∷ ws) =
    let a = under_cons (suc n) w ws in
    let b = under_cons n w ws in
    let c = times_cons n w ws in
    let i = under_suc n ws in
    grind (arith, nat_tests)

under_zero : (x : List ℕ) → under 0 x ≡ 0
unfolding under
under_zero [] = refl
under_zero (w ∷ ws) = let a = under_cons 0 w ws in let i = under_zero ws in grind (arith, nat_tests)

-- the numbers below n, each an image once
exactly : (x : List ℕ) (n : ℕ) → ((v : ℕ) → v < n → times v x ≡ 1) → under n x ≡ n
exactly x zero h = under_zero x
exactly x (suc n) h = omega (arith, under_suc n x, h n (omega arith), exactly x n (λ v l. h v (omega arith)))

-- the same, each at least once
at_least : (x : List ℕ) (n : ℕ) → ((v : ℕ) → v < n → 1 ≤ times v x) → n ≤ under n x
at_least x zero h = omega arith
at_least x (suc n) h = omega (arith, under_suc n x, h n (omega arith), at_least x n (λ v l. h v (omega arith)))

-- and one of them more often
beside : (x : List ℕ) (n : ℕ) → ((v : ℕ) → v < n → 1 ≤ times v x) → (v : ℕ) → v < n → n + times v x ≤ suc (under n x)
beside x zero h v l = absurd (omega arith)
beside x (suc n) h v l =
    ⊎_elim
    (λ e. omega (arith, under_suc n x, at_least x n (λ v l. h v (omega arith)), ap (λ w. times w x) e))
    (λ d. omega (arith, under_suc n x, h n (omega arith), beside x n (λ v l. h v (omega arith)) v (omega (arith, d))))
    (cases_eq v n)

-- where all are counted, each is below n
all_under : (n : ℕ) (x : List ℕ) → under n x ≡ length x → (i : ℕ) → i < length x → image x i < n
unfolding under
all_under n [] e i h = absurd (omega arith)
all_under n (w ∷ ws) e zero h =
    let a = under_cons n w ws in
    let b = count_by-le-length (λ w. ltb w n) ws in
    grind (arith, nat_tests)
all_under n (w ∷ ws) e (suc i) h =
    let a = under_cons n w ws in
    let b = count_by-le-length (λ w. ltb w n) ws in
    all_under n ws (grind (arith, nat_tests)) i (omega arith)

pub met : (v : ℕ) (x : List ℕ) (i : ℕ) → i < length x → image x i ≡ v → 1 ≤ times v x
met v x i h e =
    let f : ℕ → ℕ = λ w. hit w v in
    let d : f (image x i) ≡ 1 = simp (eq-eqb (image x i) v e) in
    omega (arith, get_or-le-sum_by f x i 0 h)

-- the place of the image at i is i
place_image : (v : ℕ) (x : List ℕ) (i : ℕ) → times v x ≡ 1 → i < length x → image x i ≡ v → place x v ≡ i
place_image v [] i o h e = absurd (omega arith)
place_image v (w ∷ ws) zero o h e = simp (eq-eqb w v e)
place_image v (w ∷ ws) (suc i) o h e =
    let a = times_cons v w ws in
    let b = met v ws i (omega arith) e in
    ⊎_elim
    (λ t. let d : hit w v ≡ 1 = simp t.0 in absurd (omega arith))
    (λ t. let d : hit w v ≡ 0 = simp t.0 in simp t.0 (ap suc (place_image v ws i (omega arith) (omega arith) e)))
    (eqb_tells w v)

-- the image at the place of v is v
image_place : (v : ℕ) (x : List ℕ) → 1 ≤ times v x → (place x v < length x) × (image x (place x v) ≡ v)
image_place v [] o = absurd (omega arith)
image_place v (w ∷ ws) o =
    let a = times_cons v w ws in
    ⊎_elim
    (λ t. simp t.0 (omega arith, t.1))
    (λ t. let d : hit w v ≡ 0 = simp t.0 in let i = image_place v ws (omega arith) in simp t.0 (omega arith, i.1))
    (eqb_tells w v)

module _ {x : List ℕ} (p : Perm x) where
  pub small : (i : ℕ) → i < 8 → image x i < 8
  small i h =
      all_under 8 x (exactly x 8 p.once ∙ sym p.long) i (omega (arith, p.long))

  pub place_of : (i : ℕ) → i < 8 → place x (image x i) ≡ i
  place_of i h = place_image (image x i) x i (p.once _ (small i h)) (omega (arith, p.long)) refl

  pub place_small : (v : ℕ) → v < 8 → place x v < 8
  place_small v h = omega (arith, (image_place v x (omega (arith, p.once v h))).0, p.long)

  pub image_of : (v : ℕ) → v < 8 → image x (place x v) ≡ v
  image_of v h = (image_place v x (omega (arith, p.once v h))).1

-- eight images of which each number below 8 is one
pub perm_of : (x : List ℕ) → length x ≡ 8 → ((v : ℕ) → v < 8 → 1 ≤ times v x) → Perm x
unfolding under
perm_of x l one = record { long = l; once = λ v h. omega (arith, one v h, beside x 8 one v h, count_by-le-length (λ w. ltb w 8) x) }

pub perm_from : (x : List ℕ) → length x ≡ 8 → (f : ℕ → ℕ) → ((v : ℕ) → v < 8 → f v < 8) → ((v : ℕ) → v < 8 → image x (f v) ≡ v) → Perm x
perm_from x l f s e = perm_of x l (λ v h. met v x (f v) (omega (arith, s v h)) (e v h))
