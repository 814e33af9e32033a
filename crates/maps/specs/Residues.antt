-- Numbers that are the same modulo m. Assumes nothing.
use Rattle.std.specs.Prelude.{◌≡◌, ℕ, ◌+◌, ◌-◌, ◌*◌, ◌/◌, ◌%◌, ◌<◌, refl}
use Rattle.std.proofs.Common.{sym, ap, ◌∙◌, mod-lt, arith}
use Rattle.std.proofs.lemmas.Nat.{mul-mod_second}
use Rattle.std.proofs.Math.Nat.{add-mul-mod_self_left, div-add-mod, add-mod}

abbrev pub Same : ℕ → ℕ → ℕ → Type 0
Same m x y = x % m ≡ y % m

module _ (m : ℕ) where
  pub same_add : (x y u v : ℕ) → Same m x u → Same m y v → Same m (x + y) (u + v)
  same_add x y u v p q = add-mod x y m ∙ (ap (λ n. (n + y % m) % m) p ∙ (ap (λ n. (u % m + n) % m) q ∙ sym (add-mod u v m)))

  -- multiples of m do not count
  pub same_less : (x k : ℕ) → Same m (x + m * k) x
  same_less x k = add-mul-mod_self_left x m k

  pub same_mul : (k x u : ℕ) → Same m x u → Same m (k * x) (k * u)
  same_mul k x u e = sym (mul-mod_second k x m) ∙ (ap (λ n. (k * n) % m) e ∙ mul-mod_second k u m)

  -- z and what it lacks to a multiple of m
  pub rest_of : (z : ℕ) → 0 < m → z + (m - z % m) ≡ m * (z / m + 1)
  rest_of z h = omega (arith, div-add-mod z m, mod-lt z h)

  pub same_cancel : (x y z : ℕ) → 0 < m → Same m (x + z) (y + z) → Same m x y
  same_cancel x y z h e =
      let r = m - z % m in
      let q = z / m + 1 in
      let f : (x + z) + r ≡ x + m * q = omega (arith, rest_of z h) in
      let g : (y + z) + r ≡ y + m * q = omega (arith, rest_of z h) in
      sym (same_less x q) ∙ (ap (λ n. n % m) (sym f) ∙ (same_add (x + z) r (y + z) r e refl ∙ (ap (λ n. n % m) g ∙ same_less y q)))
