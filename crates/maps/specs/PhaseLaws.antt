-- The phase rule keeps the laws of a returning map. Assumes nothing.
use Rattle.std.specs.Prelude.{◌≡◌, ℕ, ◌+◌, ◌-◌, ◌*◌, ◌/◌, ◌%◌, ◌<◌, ◌≤◌, true, false, T, ◌==◌, ◌≢◌, nat_eq, refl}
use Rattle.std.proofs.Math.Path.{sym, ap}
use Rattle.std.proofs.Common.{subst, ◌∙◌, inl, inr, mod-eq_of_lt, mod-lt, arith}
use Rattle.std.proofs.Math.Logic.{⊎_elim}
use Rattle.std.proofs.Math.Nat.{mod-add-mod, add-mod-mod}
use Rattle.std.proofs.lemmas.Bool.{eq-eqb, ne_eqb}
use Rattle.std.proofs.lemmas.Bool.Decides.{eqb_tells, nat_tests}
use Rattle.exchange.specs.Laws.{Triple, Braids, Keeps, Pair, Undoes, first, last}
use Rattle.exchange.specs.Rules.{Numbers, Returns, Sound, Trades}
use Rattle.maps.specs.Making.{is_modulus}
use Rattle.maps.specs.Phases.{Passage, gained, lost, passes, phase_belongs, phase_cross, phase_elements, phase_map, phase_rule, shift, soliton}
use Rattle.std.proofs.lemmas.Float.{T_from_true}
use Rattle.maps.specs.Bounds.{holds, modulus_bounds, on_elements}
use Rattle.maps.specs.Residues.{rest_of, same_less}
use Rattle.maps.specs.declared.soliton.Soliton.{Soliton}

tupled : {a b c d : ℕ} → a ≡ c → b ≡ d → ◌≡◌ {A = ℕ × ℕ} (a, b) (c, d)
tupled p q = cc

-- what belonging says
elements : (m k p : ℕ) → T (phase_belongs m (soliton k p)) → (1 ≤ k) × (k ≤ 255) × (p < m)
elements m k p h = let e = holds _ h in (grind (arith, nat_tests), grind (arith, nat_tests), grind (arith, nat_tests))

belonging : (m k p : ℕ) → 1 ≤ k → k ≤ 255 → p < m → T (phase_belongs m (soliton k p))
belonging m k p a b c = let e : phase_belongs m (soliton k p) ≡ true = grind (arith, nat_tests) in T_from_true _ e

module _ (m : ℕ) where
  commute : (a b p : ℕ) → gained m a (gained m b p) ≡ gained m b (gained m a p)
  commute a b p = mod-add-mod (p + b) m a ∙ (ap (λ s. s % m) (omega arith) ∙ sym (mod-add-mod (p + a) m b))

  back : (t p : ℕ) → p < m → lost m t (gained m t p) ≡ p
  back t p h =
      let e : (p + t) + (m - t % m) ≡ p + m * (t / m + 1) = omega (arith, rest_of m t (omega arith)) in
      mod-add-mod (p + t) m (m - t % m) ∙ (ap (λ s. s % m) e ∙ (same_less m p (t / m + 1) ∙ mod-eq_of_lt h))

  forth : (t p : ℕ) → p < m → gained m t (lost m t p) ≡ p
  forth t p h = commute t _ p ∙ back t p h

  small : (a p : ℕ) → 0 < m → gained m a p < m
  small a p h = mod-lt (p + a) h

  stays : (x y : Soliton) → x.kind ≡ y.kind → phase_cross m x y ≡ (x, y)
  stays x y e = simp (eq-eqb x.kind y.kind e)

  moves : (x y : Soliton) → (x.kind ≢ y.kind) → phase_cross m x y ≡ passes m x y
  moves x y n = simp (ne_eqb x.kind y.kind n)

  left_kind : (x y : Soliton) → (phase_cross m x y).0.kind ≡ y.kind
  left_kind x y = ⊎_elim (λ e. simp e.0 e.1) (λ e. simp e.0) (eqb_tells x.kind y.kind)

  right_kind : (x y : Soliton) → (phase_cross m x y).1.kind ≡ x.kind
  right_kind x y = ⊎_elim (λ e. simp e.0 (sym e.1)) (λ e. simp e.0) (eqb_tells x.kind y.kind)

  keeps : Keeps (phase_elements m) (phase_cross m)
  keeps x y h = ⊎_elim (λ e. simp e.0 h) (λ e.
      let p = elements m x.kind x.phase h.0 in
      let q = elements m y.kind y.phase h.1 in
      let r : Pair (phase_elements m) (passes m x y).0 (passes m x y).1 = (belonging m _ _ q.0 q.1 (small _ _ (omega arith)), belonging m _ _ p.0 p.1 (small _ _ (omega arith))) in
      simp e.0 r) (eqb_tells x.kind y.kind)

  -- crossing twice
  returned : Undoes (phase_elements m) (phase_cross m) (phase_cross m)
  returned x y h =
      ⊎_elim
      (λ e. simp e.0)
      (λ e.
      let b = ne_eqb y.kind x.kind (λ q. e.1 (sym q)) in
      let t = shift x y in
      let s : t ≡ shift y x = ap (λ n. 2 * n) (omega arith) in
      let p = elements m x.kind x.phase h.0 in
      let q = elements m y.kind y.phase h.1 in
      let f = forth t x.phase p.2 in
      let g = back t y.phase q.2 in
      let r : (soliton x.kind (gained m t (lost m t x.phase)), soliton y.kind (lost m t (gained m t y.phase))) ≡ (x, y) = ap (λ (p : ℕ × ℕ). (soliton x.kind p.0, soliton y.kind p.1)) (simp (f, g)) in
      simp (e.0, b, sym s) r)
      (eqb_tells x.kind y.kind)

  Braid : Soliton → Soliton → Soliton → Type 0
  Braid x y z = let f = phase_cross m in first f (last f (first f (x, y, z))) ≡ last f (first f (last f (x, y, z)))

  -- three different kinds: each soliton is shifted twice, in either order
  all_pass : (x y z : Soliton) → (x.kind == y.kind) ≡ false → (x.kind == z.kind) ≡ false → (y.kind == z.kind) ≡ false → Braid x y z
  unfolding Braid
  all_pass x y z a b c =
      let f = commute (shift x z) (shift y z) z.phase in
      let g = commute (shift x y) (m - shift y z % m) y.phase in
      let h = commute (m - shift x y % m) (m - shift x z % m) x.phase in
      simp (a, b, c) (cc (f, g, h))

  -- the ends alike: what the middle one passes it passes back
  ends_alike : (x y z : Soliton) → Triple (phase_elements m) (x, y, z) → x.kind ≡ z.kind → Braid x y z
  unfolding Braid
  ends_alike x y z h e =
      let f = phase_cross m in
      let u = f x y in
      let v = f y z in
      let r : last f (first f (x, y, z)) ≡ first f (x, y, z) = ap (λ (p : Soliton × Soliton). (u.0, p.0, p.1)) (stays u.1 z (right_kind x y ∙ e)) in
      let l : first f (last f (x, y, z)) ≡ last f (x, y, z) = ap (λ (p : Soliton × Soliton). (p.0, p.1, v.1)) (stays x v.0 (e ∙ sym (left_kind y z))) in
      ap (first f) r ∙ (ap (λ (p : Soliton × Soliton). (p.0, p.1, z)) (returned x y (h.0, h.1)) ∙ sym (ap (last f) l ∙ ap (λ (p : Soliton × Soliton). (x, p.0, p.1)) (returned y z (h.1, h.2))))

  -- two neighbours alike: they do not cross, and the third passes both
  left_alike : (x y z : Soliton) → x.kind ≡ y.kind → (x.kind == z.kind) ≡ false → Braid x y z
  unfolding Braid
  left_alike x y z e d =
      let a = eq-eqb x.kind y.kind e in
      let b = ap (λ k. nat_eq k z.kind) (sym e) ∙ d in
      simp (a, b, d)

  right_alike : (x y z : Soliton) → y.kind ≡ z.kind → (x.kind == z.kind) ≡ false → Braid x y z
  unfolding Braid
  right_alike x y z e d =
      let a = eq-eqb y.kind z.kind e in
      let b = ap (λ k. nat_eq x.kind k) e ∙ d in
      simp (a, b, d)

  braided : Braids (phase_elements m) (phase_cross m)
  unfolding Braid
  braided t h =
      let x = t.0 in
      let y = t.1 in
      let z = t.2 in
      ⊎_elim
      (λ e. ends_alike x y z h e.1)
      (λ d. ⊎_elim (λ e. left_alike x y z e.1 d.0) (λ a. ⊎_elim (λ e. right_alike x y z e.1 d.0) (λ b. all_pass x y z a.0 d.0 b.0) (eqb_tells y.kind z.kind)) (eqb_tells x.kind y.kind))
      (eqb_tells x.kind z.kind)

  numbers : T (is_modulus m) → Numbers (phase_elements m)
  numbers h =
      let r = modulus_bounds m h in
      let of_code : (k p : ℕ) → p < m → soliton ((65536 * k + p) / 65536) ((65536 * k + p) % 65536) ≡ soliton k p = λ k p b. ap (λ (n : ℕ × ℕ). soliton n.0 n.1) (tupled (omega arith) (omega arith)) in
      record {
        kind_small = λ x b. (elements m x.kind x.phase b).1;
        code_small = λ x b. let e = elements m x.kind x.phase b in omega arith;
        code_is_one = λ x b. subst (λ (y : Soliton). T (phase_belongs m y)) (sym (of_code x.kind x.phase (elements m x.kind x.phase b).2)) b;
        element_of_code = λ x b. of_code x.kind x.phase (elements m x.kind x.phase b).2;
        element_belongs = λ n b. b;
        code_of_element = λ n b. omega arith;
        rest_belongs = belonging m 1 0 (omega arith) (omega arith) (omega arith);
      }

  pub phase_sound : T (is_modulus m) → Sound (phase_rule m)
  phase_sound h =
      let trades : Trades (phase_elements m) (phase_cross m) = record { belong = keeps; left_kind = λ x y _. left_kind x y; right_kind = λ x y _. right_kind x y } in
      record { numbers = numbers h; crosses = trades; uncrosses = trades; uncross_undoes = returned; cross_undoes = returned; braids = braided }

  pub phase_returns : Returns (phase_rule m)
  phase_returns = record { twice = returned; alike = λ x y _ e. stays x y e }

  sum_kept : (t p q : ℕ) → p < m → (gained m t q + lost m t p) % m ≡ (p + q) % m
  sum_kept t p q h =
      let l = lost m t p in
      mod-add-mod (q + t) m l ∙ (ap (λ s. s % m) (omega arith) ∙ (sym (add-mod-mod q (l + t) m) ∙ (ap (λ s. (q + s) % m) (forth t p h) ∙ ap (λ s. s % m) (omega arith))))

  passage : (x y : Soliton) → Pair (phase_elements m) x y → Passage m x y (passes m x y).0 (passes m x y).1
  passage x y h =
      let t = shift x y in
      let p = elements m x.kind x.phase h.0 in
      record {
        left_kind = refl;
        right_kind = refl;
        left_moved = inr refl;
        right_moved = inl (sym (forth t x.phase p.2));
        sum_kept = sum_kept t x.phase y.phase p.2;
      }

  pub cross_passage : (x y : Soliton) (r : Soliton × Soliton) → Pair (phase_elements m) x y → (x.kind ≢ y.kind) → r ≡ (phase_map m).cross x y → Passage m x y r.0 r.1
  cross_passage x y r h n e =
      let f = on_elements (phase_belongs m) (phase_cross m) x y (sym (holds _ h.0)) (sym (holds _ h.1)) in
      subst (λ (p : Soliton × Soliton). Passage m x y p.0 p.1) (sym (e ∙ (f ∙ moves x y n))) (passage x y h)
