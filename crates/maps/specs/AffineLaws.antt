-- The rule of affine residues keeps the laws. Assumes nothing.
use Rattle.std.specs.Prelude.{◌≡◌, ℕ, zero, suc, ◌+◌, ◌-◌, ◌*◌, ◌%◌, ◌<◌, true, false, T, ◌⊎◌, ◌==◌, ◌≢◌, nat_lt, refl}
use Rattle.std.proofs.Common.{sym, ap, subst, ◌∙◌, inl, inr, ⊎_elim, mod-eq_of_lt, mod-lt, arith}
use Rattle.std.proofs.lemmas.Bool.{and_from, and_parts, cases_eq, eq-eqb, eqb-true, false_from_ne_true, lt-ltb, ltb-true}
use Rattle.std.proofs.lemmas.Bool.Decides.{eqb_tells}
use Rattle.exchange.specs.Rules.{Sound}
use Rattle.maps.specs.Affine.{Commute, affine_parameters, affine_rule, back, coprime, inverts, line}
use Rattle.maps.specs.Making.{is_modulus}
use Rattle.std.proofs.lemmas.Float.{T_from_true}
use Rattle.std.proofs.lemmas.Nat.{mul-mod_second}
use Rattle.std.proofs.Math.Nat.{mod-add-mod}
use Rattle.maps.specs.Bounds.{holds, modulus_bounds}
use Rattle.maps.specs.Residues.{Same, same_add, same_less, same_mul}

both : {x y u v : ℕ} → x ≡ u → y ≡ v → ◌≡◌ {A = ℕ × ℕ} (x, y) (u, v)
both p q = cc

-- the one number below n that f sends to v
back_is : (f : ℕ → ℕ) (n v x : ℕ) → x < n → f x ≡ v → ((y : ℕ) → y < n → f y ≡ v → y ≡ x) → back f n v ≡ x
unfolding back
back_is f zero v x h e one = absurd (omega arith)
back_is f (suc n) v x h e one =
    ⊎_elim
    (λ t. simp t.0 (one n (omega arith) t.1))
    (λ t. simp t.0 (back_is f n v x (by_cases (cases_eq x n) t) e (λ y b. one y (omega arith))))
    (eqb_tells (f n) v)
  where
    by_cases : (x ≡ n) ⊎ (x ≢ n) → ((f n == v) ≡ false) × (f n ≢ v) → x < n
    by_cases (inl s) t = absurd (t.1 (ap f (sym s) ∙ e))
    by_cases (inr d) t = omega (arith, d)

-- a line whose slope has an inverse is undone by it
module _ (m a b i : ℕ) (low : b < m) (inv : Same m (a * i) 1) where
  abbrev unline : ℕ → ℕ
  unline y = (i * (y + (m - b))) % m

  line_unline : (y : ℕ) → y < m → line m a b (unline y) ≡ y
  line_unline y h =
      let k = y + (m - b) in
      let w = i * k in
      let e : a * w ≡ k * (a * i) = omega arith in
      let f : Same m (a * (w % m)) (k * 1) = mul-mod_second a w m ∙ (ap (λ n. n % m) e ∙ same_mul m k (a * i) 1 inv) in
      let g : k * 1 + b ≡ y + m * 1 = omega arith in
      same_add m (a * (w % m)) b (k * 1) b f refl ∙ (ap (λ n. n % m) g ∙ (same_less m y 1 ∙ mod-eq_of_lt h))

  unline_line : (x : ℕ) → x < m → unline (line m a b x) ≡ x
  unline_line x h =
      let k = a * x + b in
      let e : k + (m - b) ≡ a * x + m * 1 = omega arith in
      let f : Same m (k % m + (m - b)) (a * x) = mod-add-mod k m (m - b) ∙ (ap (λ n. n % m) e ∙ same_less m (a * x) 1) in
      let g : i * (a * x) ≡ x * (a * i) = omega arith in
      let q : x * 1 ≡ x = omega arith in
      same_mul m i (k % m + (m - b)) (a * x) f ∙ (ap (λ n. n % m) g ∙ (same_mul m x (a * i) 1 inv ∙ (ap (λ n. n % m) q ∙ mod-eq_of_lt h)))

  pub unline_is_back : (y : ℕ) → y < m → unline y ≡ back (line m a b) m y
  unline_is_back y h = sym (back_is (line m a b) m y (unline y) (mod-lt _ (omega arith)) (line_unline y h) (λ x l e. sym (unline_line x l) ∙ ap unline e))

  pub back_low : (y : ℕ) → y < m → back (line m a b) m y < m
  back_low y h = subst (λ n. n < m) (unline_is_back y h) (mod-lt _ (omega arith))

  pub line_back : (y : ℕ) → y < m → line m a b (back (line m a b) m y) ≡ y
  line_back y h = ap (line m a b) (sym (unline_is_back y h)) ∙ line_unline y h

  pub back_line : (x : ℕ) → x < m → back (line m a b) m (line m a b x) ≡ x
  back_line x h = sym (unline_is_back (line m a b x) (mod-lt _ (omega arith))) ∙ unline_line x h

module _ (m a b c d : ℕ) (e : Same m (a * d + b) (c * b + d)) where
  pub commute : Commute m a b c d
  commute x h =
      let f : (p q r s : ℕ) → Same m (p * ((r * x + s) % m) + q) (p * (r * x + s) + q) = λ p q r s. same_add m (p * ((r * x + s) % m)) q (p * (r * x + s)) q (mul-mod_second p (r * x + s) m) refl in
      let g : a * (c * x + d) + b ≡ (a * c) * x + (a * d + b) = omega arith in
      let k : c * (a * x + b) + d ≡ (a * c) * x + (c * b + d) = omega arith in
      f a b c d ∙ (ap (λ n. n % m) g ∙ (same_add m ((a * c) * x) (a * d + b) ((a * c) * x) (c * b + d) refl e ∙ sym (f c d a b ∙ ap (λ n. n % m) k)))

-- what the rule of the parameters says
pub record Parameters (m a b c d : ℕ) : Type 0 where
  pub modulus : is_modulus m ≡ true
  pub a_low : a < m
  pub b_low : b < m
  pub c_low : c < m
  pub d_low : d < m
  pub a_coprime : coprime a m ≡ true
  pub c_coprime : coprime c m ≡ true
  pub commuting : Same m (a * d + b) (c * b + d)

pub parameters : (m a b c d : ℕ) → affine_parameters m a b c d ≡ true → Parameters m a b c d
parameters m a b c d h =
    let t = and_parts (is_modulus m) _ h in
    let ta = and_parts (nat_lt a m) _ t.1 in
    let tb = and_parts (nat_lt b m) _ ta.1 in
    let tc = and_parts (nat_lt c m) _ tb.1 in
    let td = and_parts (nat_lt d m) _ tc.1 in
    let pa = and_parts (coprime a m) _ td.1 in
    let pc = and_parts (coprime c m) _ pa.1 in
    record {
      modulus = t.0;
      a_low = ltb-true a m ta.0;
      b_low = ltb-true b m tb.0;
      c_low = ltb-true c m tc.0;
      d_low = ltb-true d m td.0;
      a_coprime = pa.0;
      c_coprime = pc.0;
      commuting = eqb-true _ _ pc.1;
    }

pub accepted : (m a b c d : ℕ) → Parameters m a b c d → affine_parameters m a b c d ≡ true
accepted m a b c d p =
    and_from _ _ p.modulus
    (and_from _ _ (lt-ltb a m p.a_low)
    (and_from _ _ (lt-ltb b m p.b_low)
    (and_from _ _ (lt-ltb c m p.c_low)
    (and_from _ _ (lt-ltb d m p.d_low)
    (and_from _ _ p.a_coprime
    (and_from _ _ p.c_coprime (eq-eqb _ _ p.commuting)))))))

pub refused : (m a b c d : ℕ) → (Parameters m a b c d → ⊥) → affine_parameters m a b c d ≡ false
refused m a b c d n = false_from_ne_true _ (λ e. n (parameters m a b c d e))

pub inverse_low : (m a i : ℕ) → T (inverts m a i) → i < m
inverse_low m a i h = ltb-true i m (and_parts _ _ (holds (inverts m a i) h)).0

pub inverse_same : (m a i : ℕ) → T (inverts m a i) → Same m (a * i) 1
inverse_same m a i h = eqb-true _ _ (and_parts _ _ (holds (inverts m a i) h)).1

module _ (m a b c d i j : ℕ) (h : T (affine_parameters m a b c d)) (ti : T (inverts m a i)) (tj : T (inverts m c j)) where
  pub affine_sound : Sound (affine_rule m a b c d)
  affine_sound =
      let p = parameters m a b c d (holds _ h) in
      let bounds = modulus_bounds m (T_from_true _ p.modulus) in
      let ia = inverse_same m a i ti in
      let ic = inverse_same m c j tj in
      let low : (x : ℕ) → T (nat_lt x m) → x < m = λ x t. ltb-true x m (holds _ t) in
      let in_range : (x : ℕ) → x < m → T (nat_lt x m) = λ x l. T_from_true _ (lt-ltb x m l) in
      let reduced : (x : ℕ) → T (nat_lt (x % m) m) = λ x. in_range (x % m) (mod-lt x (omega arith)) in
      record {
        numbers = record {
          kind_small = λ x t. omega arith;
          code_small = λ x t. omega (arith, low x t);
          code_is_one = λ x t. t;
          element_of_code = λ x t. refl;
          element_belongs = λ n t. t;
          code_of_element = λ n t. refl;
          rest_belongs = in_range 0 (omega arith);
        };
        crosses = record { belong = λ x y t. (reduced _, reduced _); left_kind = λ x y t. refl; right_kind = λ x y t. refl };
        uncrosses = record {
          belong = λ u v t. (in_range _ (back_low m c d j p.d_low ic v (low v t.1)), in_range _ (back_low m a b i p.b_low ia u (low u t.0)));
          left_kind = λ x y t. refl;
          right_kind = λ x y t. refl;
        };
        uncross_undoes = λ x y t. both (back_line m c d j p.d_low ic x (low x t.0)) (back_line m a b i p.b_low ia y (low y t.1));
        cross_undoes = λ u v t. both (line_back m a b i p.b_low ia u (low u t.0)) (line_back m c d j p.d_low ic v (low v t.1));
        braids = λ t u. ap (λ (w : ℕ). (line m a b (line m a b t.2), w, line m c d (line m c d t.0))) (sym (commute m a b c d p.commuting t.1 (low t.1 u.1)));
      }
