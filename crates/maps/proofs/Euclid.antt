-- Euclid's algorithm, with the factor of each remainder. Assumes nothing.
use Rattle.std.proofs.Common.{◌≡◌, ℕ, suc, ◌+◌, ◌-◌, ◌*◌, ◌/◌, ◌%◌, ◌<◌, ◌≤◌, true, false, not, ◌&&◌, T, Decides, sym, refl, ap, ◌∙◌, subst, mod-lt, arith}
use Prim.Native.Nat.{◌∣◌}
use native.Mathlib.Nat.{div-add-mod, dvd-mod_iff, dvd-mul_right_of_dvd, dvd_of_mod-eq-zero, dvd-one, dvd_refl, dvd-zero, mod-eq-zero_of_dvd}
use Rattle.std.proofs.lemmas.Bool.{and_from, false_from_ne_true, eq-eqb, lt-ltb}
use Rattle.std.proofs.lemmas.Bool.Decides.{Decides-and, Decides-below_and, Decides-eqb, Decides-not}
use Rattle.maps.specs.Affine.{coprime, divides, inverts, none_shared}
use Rattle.std.proofs.lemmas.Float.{T_from_true}
use Rattle.maps.specs.Residues.{Same, rest_of, same_add, same_cancel, same_less, same_mul}
use Rattle.std.proofs.lemmas.Nat.{mul-mod_second}

-- two remainders r and s with factors t and u: what divides both divides a and m
pub record Remainders (a m r s t u : ℕ) : Type 0 where
  pub r_some : 0 < r
  pub r_low : r ≤ m
  pub s_low : s < m
  pub t_low : t < m
  pub u_low : u < m
  pub first : Same m (a * t) r
  pub second : Same m (a * u) s
  pub shared : (k : ℕ) → k ∣ r → k ∣ s → (k ∣ a) × (k ∣ m)

-- the next remainder and its factor
next_factor : (a m r s t u : ℕ) → 0 < m → Same m (a * t) r → Same m (a * u) s → Same m (a * ((t + (m - (r / s * u) % m)) % m)) (r % s)
next_factor a m r s t u h e f =
    let q = r / s in
    let w = t + (m - (q * u) % m) in
    let Q = (q * u) / m + 1 in
    let g : Same m (a * (w % m) + q * s) (a * w + q * (a * u)) = same_add m (a * (w % m)) (q * s) (a * w) (q * (a * u)) (mul-mod_second a w m) (same_mul m q s (a * u) (sym f)) in
    let k : a * w + q * (a * u) ≡ a * t + m * (a * Q) = omega (arith, ap (λ n. a * n) (rest_of m (q * u) h)) in
    let l : r ≡ r % s + q * s = omega (arith, div-add-mod r s) in
    same_cancel m (a * (w % m)) (r % s) (q * s) h (g ∙ (ap (λ n. n % m) k ∙ (same_less m (a * t) (a * Q) ∙ (e ∙ ap (λ n. n % m) l))))

pub remainders_step : (a m r s t u : ℕ) → Remainders a m r s t u → 0 < s → Remainders a m s (r % s) u ((t + (m - (r / s * u) % m)) % m)
remainders_step a m r s t u h p = record {
  r_some = p;
  r_low = omega (arith, h.s_low);
  s_low = omega (arith, mod-lt r p, h.s_low);
  t_low = h.u_low;
  u_low = mod-lt _ (omega (arith, h.t_low));
  first = h.second;
  second = next_factor a m r s t u (omega (arith, h.t_low)) h.first h.second;
  shared = λ k x y. h.shared k ((dvd-mod_iff k x).0 y) x;
}

Apart : ℕ → ℕ → ℕ → Type 0
Apart a m n = (a % suc (suc n) ≡ 0) × (m % suc (suc n) ≡ 0) → ⊥

coprime_decides : (a m n : ℕ) → Decides (none_shared a m n) ((k : ℕ) → k < n → Apart a m k)
unfolding none_shared Apart
coprime_decides a m =
    Decides-below_and
    (λ n. not (divides (suc (suc n)) a && divides (suc (suc n)) m))
    (Apart a m)
    (none_shared a m)
    (λ n. Decides-not _ (Decides-and _ _ (Decides-eqb (a % suc (suc n)) 0) (Decides-eqb (m % suc (suc n)) 0)))
    refl
    (λ _. refl)

-- a number with an inverse shares no divisor with m
pub coprime_from_inverse : (a m i : ℕ) → Same m (a * i) 1 → coprime a m ≡ true
unfolding Apart
coprime_from_inverse a m i e =
    (coprime_decides a m m).1 (λ n h d.
    let k = suc (suc n) in
    let p = dvd_of_mod-eq-zero k d.0 in
    let q = dvd_of_mod-eq-zero k d.1 in
    let v = (dvd-mod_iff k q).1 (dvd-mul_right_of_dvd k p i) in
    omega (arith, dvd-one.0 ((dvd-mod_iff k q).0 (subst (λ n. k ∣ n) e v))))

-- a last remainder above 1 divides both
pub not_coprime : (a m r s t u : ℕ) → Remainders a m r s t u → s ≡ 0 → (r ≡ 1 → ⊥) → coprime a m ≡ false
unfolding Apart
not_coprime a m r s t u h z n =
    let d = h.shared r (dvd_refl r) (subst (λ k. r ∣ k) (sym z) (dvd-zero r)) in
    let two : r ≡ suc (suc (r - 2)) = omega (arith, n, h.r_some) in
    false_from_ne_true _ (λ e. (coprime_decides a m m).0 e (r - 2) (omega (arith, h.r_low, n, h.r_some)) (subst (λ k. (a % k ≡ 0) × (m % k ≡ 0)) two (mod-eq-zero_of_dvd r d.0, mod-eq-zero_of_dvd r d.1)))

-- a last remainder of 1 has the inverse of a as its factor
pub inverse_found : (a m r s t u : ℕ) → Remainders a m r s t u → r ≡ 1 → T (coprime a m) × T (inverts m a t)
inverse_found a m r s t u h e =
    let f : Same m (a * t) 1 = h.first ∙ ap (λ n. n % m) e in
    (T_from_true _ (coprime_from_inverse a m t f), T_from_true _ (and_from _ _ (lt-ltb t m h.t_low) (eq-eqb _ _ f)))
