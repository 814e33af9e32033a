-- Capacity boxes keep the laws. Assumes nothing.
use Rattle.std.specs.Prelude.{◌≡◌, ℕ, ◌+◌, ◌*◌, ◌/◌, ◌%◌, ◌<◌, ◌≤◌, Bool, true, false, cond, ◌&&◌, T, ◌⊎◌, refl}
use Rattle.std.proofs.Common.{sym, subst, inl, inr, ⊎_elim, arith, leb→le, le→leb}
use Rattle.std.proofs.lemmas.Bool.{cases_lt}
use Rattle.exchange.proofs.Tests.{T_both, T_parts}
use Rattle.maps.specs.declared.capacity.Holder.{Holder}
use Rattle.maps.specs.Capacity.{BallsKept, capacity_map, capacity_rule, carried, fits, holder, holders}
use Rattle.exchange.specs.Laws.{Braids, Keeps}
use Rattle.exchange.specs.Rules.{Numbers, Returns, Sound, Trades}

-- the balls left in the box: x, where a carrier (M, c) meets a box (L, b)
abbrev Left : ℕ → ℕ → ℕ → ℕ → ℕ → Type 0
Left M c L b x =
    ((b + c ≤ L) × (b + c ≤ M) × (x ≡ c))
    ⊎ (((L < b + c) × (b + c ≤ M) × (x + b ≡ L))
    ⊎ (((b + c ≤ L) × (M < b + c) × (x + M ≡ c + (b + c)))
    ⊎ ((L < b + c) × (M < b + c) × (x + M ≡ c + L))))

-- the first boxes of the two sides of the braid law hold as many balls
first_balls : (A a B b C c b1 a1 c1 c2 d1 d2 : ℕ) → a ≤ A → b ≤ B → c ≤ C → Left A a B b b1 → b1 + a1 ≡ a + b → Left A a1 C c c1 → Left B b1 C c1 c2 → Left B b C c d1 → Left A a C d1 d2 → c2 ≡ d2
first_balls A a B b C c b1 a1 c1 c2 d1 d2 ha hb hc (inl w) s w2 w3 w4 w5 = omega arith
first_balls A a B b C c b1 a1 c1 c2 d1 d2 ha hb hc (inr (inl w)) s w2 w3 w4 w5 = omega arith
first_balls A a B b C c b1 a1 c1 c2 d1 d2 ha hb hc (inr (inr (inl w))) s w2 w3 w4 w5 = omega arith
first_balls A a B b C c b1 a1 c1 c2 d1 d2 ha hb hc (inr (inr (inr w))) s w2 w3 w4 w5 = omega arith

-- and so do the last ones
last_balls : (A a B b C c b1 a1 c1 a2 d1 e1 d2 f1 e2 f2 : ℕ) → a ≤ A → b ≤ B → c ≤ C → Left A a B b b1 → b1 + a1 ≡ a + b → Left A a1 C c c1 → c1 + a2 ≡ a1 + c → Left B b C c d1 → d1 + e1 ≡ b + c → Left A a C d1 d2 → d2 + f1 ≡ a + d1 → Left A f1 B e1 e2 → e2 + f2 ≡ f1 + e1 → a2 ≡ f2
last_balls A a B b C c b1 a1 c1 a2 d1 e1 d2 f1 e2 f2 ha hb hc (inl w) s w2 s2 w4 s4 w5 s5 w6 s6 = omega arith
last_balls A a B b C c b1 a1 c1 a2 d1 e1 d2 f1 e2 f2 ha hb hc (inr (inl w)) s w2 s2 w4 s4 w5 s5 w6 s6 = omega arith
last_balls A a B b C c b1 a1 c1 a2 d1 e1 d2 f1 e2 f2 ha hb hc (inr (inr (inl w))) s w2 s2 w4 s4 w5 s5 w6 s6 = omega arith
last_balls A a B b C c b1 a1 c1 a2 d1 e1 d2 f1 e2 f2 ha hb hc (inr (inr (inr w))) s w2 s2 w4 s4 w5 s5 w6 s6 = omega arith

-- and the middle ones, since no ball is lost
sums : (p0 p1 q0 q1 r0 r1 u0 u1 v0 v1 w0 w1 x y z : ℕ) → p0 + p1 ≡ x + y → q0 + q1 ≡ p1 + z → r0 + r1 ≡ p0 + q0 → u0 + u1 ≡ y + z → v0 + v1 ≡ x + u0 → w0 + w1 ≡ v1 + u1 → r0 ≡ v0 → q1 ≡ w1 → r1 ≡ w0
sums p0 p1 q0 q1 r0 r1 u0 u1 v0 v1 w0 w1 x y z a b c d e f g h = omega arith

record Fits (h : Holder) : Type 0 where
  low : 1 ≤ h.capacity
  high : h.capacity ≤ 255
  room : h.balls ≤ h.capacity

fitting : (h : Holder) → T (fits h) → Fits h
fitting h t =
    let p = T_parts _ _ t in
    let q = T_parts _ _ p.1 in
    record { low = leb→le _ _ p.0; high = leb→le _ _ q.0; room = leb→le _ _ q.1 }

fitted : (h : Holder) → Fits h → T (fits h)
fitted h f = T_both _ _ (le→leb _ _ f.low) (T_both _ _ (le→leb _ _ f.high) (le→leb _ _ f.room))

module _ (x y : Holder) (f : Fits x) (g : Fits y) where
  left_way : Left x.capacity x.balls y.capacity y.balls (carried x y).0.balls
  left_way =
      ⊎_elim
      (λ p. ⊎_elim (λ q. inr (inr (inr (p, q, omega arith)))) (λ q. inr (inl (p, q, omega arith))) (cases_lt x.capacity (y.balls + x.balls)))
      (λ p. ⊎_elim (λ q. inr (inr (inl (p, q, omega arith)))) (λ q. inl (p, q, omega arith)) (cases_lt x.capacity (y.balls + x.balls)))
      (cases_lt y.capacity (y.balls + x.balls))

  kept : (carried x y).0.balls + (carried x y).1.balls ≡ x.balls + y.balls
  kept = omega arith

  still_fits : Fits (carried x y).0 × Fits (carried x y).1
  still_fits = (record { low = g.low; high = g.high; room = omega arith }, record { low = f.low; high = f.high; room = omega arith })

  twice : carried (carried x y).0 (carried x y).1 ≡ (x, y)
  twice =
      let a : (carried (carried x y).0 (carried x y).1).0.balls ≡ x.balls = omega arith in
      let b : (carried (carried x y).0 (carried x y).1).1.balls ≡ y.balls = omega arith in
      λ i. (holder x.capacity (a i), holder y.capacity (b i))

  alike : x.capacity ≡ y.capacity → carried x y ≡ (x, y)
  alike e =
      let a : (carried x y).0.balls ≡ x.balls = omega arith in
      let b : (carried x y).1.balls ≡ y.balls = omega arith in
      let e' = sym e in
      λ i. (holder (e' i) (a i), holder (e i) (b i))

keeps : Keeps holders carried
keeps x y h = let k = still_fits x y (fitting x h.0) (fitting y h.1) in (fitted _ k.0, fitted _ k.1)

-- the first and the last holder of the two sides agree, and so does the middle one, since no ball is lost
braids : Braids holders carried
braids t h =
    let x = t.0 in
    let y = t.1 in
    let z = t.2 in
    let fx = fitting x h.0 in
    let fy = fitting y h.1 in
    let fz = fitting z h.2 in
    let p = carried x y in
    let q = carried p.1 z in
    let r = carried p.0 q.0 in
    let u = carried y z in
    let v = carried x u.0 in
    let w = carried v.1 u.1 in
    let fp = still_fits x y fx fy in
    let fq = still_fits p.1 z fp.1 fz in
    let fu = still_fits y z fy fz in
    let fv = still_fits x u.0 fx fu.0 in
    let first_same : r.0.balls ≡ v.0.balls = first_balls x.capacity x.balls y.capacity y.balls z.capacity z.balls p.0.balls p.1.balls q.0.balls r.0.balls u.0.balls v.0.balls fx.room fy.room fz.room (left_way x y fx fy) (kept x y fx fy) (left_way p.1 z fp.1 fz) (left_way p.0 q.0 fp.0 fq.0) (left_way y z fy fz) (left_way x u.0 fx fu.0) in
    let last_same : q.1.balls ≡ w.1.balls = last_balls x.capacity x.balls y.capacity y.balls z.capacity z.balls p.0.balls p.1.balls q.0.balls q.1.balls u.0.balls u.1.balls v.0.balls v.1.balls w.0.balls w.1.balls fx.room fy.room fz.room (left_way x y fx fy) (kept x y fx fy) (left_way p.1 z fp.1 fz) (kept p.1 z fp.1 fz) (left_way y z fy fz) (kept y z fy fz) (left_way x u.0 fx fu.0) (kept x u.0 fx fu.0) (left_way v.1 u.1 fv.1 fu.1) (kept v.1 u.1 fv.1 fu.1) in
    let middle_same : r.1.balls ≡ w.0.balls = sums p.0.balls p.1.balls q.0.balls q.1.balls r.0.balls r.1.balls u.0.balls u.1.balls v.0.balls v.1.balls w.0.balls w.1.balls x.balls y.balls z.balls (kept x y fx fy) (kept p.1 z fp.1 fz) (kept p.0 q.0 fp.0 fq.0) (kept y z fy fz) (kept x u.0 fx fu.0) (kept v.1 u.1 fv.1 fu.1) first_same last_same in
    λ i. (holder z.capacity (first_same i), holder y.capacity (middle_same i), holder x.capacity (last_same i))

trades : Trades holders carried
trades = record { belong = keeps; left_kind = λ x y h. refl; right_kind = λ x y h. refl }

decoded : (x : Holder) → Fits x → holders.element (holders.code x) ≡ x
decoded x f =
    let q : (256 * x.capacity + x.balls) / 256 ≡ x.capacity = omega arith in
    let r : (256 * x.capacity + x.balls) % 256 ≡ x.balls = omega arith in
    λ i. holder (q i) (r i)

numbers : Numbers holders
numbers = record {
  kind_small = λ x h. (fitting x h).high;
  code_small = λ x h. let f = fitting x h in omega arith;
  code_is_one = λ x h. subst (λ (y : Holder). T (fits y)) (sym (decoded x (fitting x h))) h;
  element_of_code = λ x h. decoded x (fitting x h);
  element_belongs = λ n h. h;
  code_of_element = λ n h. omega arith;
  rest_belongs = tt;
}

pub sound : Sound capacity_rule
sound = record {
  numbers = numbers;
  crosses = trades;
  uncrosses = trades;
  uncross_undoes = λ x y h. twice x y (fitting x h.0) (fitting y h.1);
  cross_undoes = λ x y h. twice x y (fitting x h.0) (fitting y h.1);
  braids = braids;
}

pub returns : Returns capacity_rule
returns = record {
  twice = λ x y h. twice x y (fitting x h.0) (fitting y h.1);
  alike = λ x y h. alike x y (fitting x h.0) (fitting y h.1);
}

-- no ball is lost in any pair, of elements or not
pub balls_kept : (x y : Holder) (r : Holder × Holder) → r ≡ capacity_map.cross x y → BallsKept x y r
balls_kept x y r e = subst (BallsKept x y) (sym e) (whichever (fits x) (fits y) (fitting x) (fitting y))
  where
    whichever : (a b : Bool) → (T a → Fits x) → (T b → Fits y) → BallsKept x y (cond (a && b) (carried x y) (x, y))
    whichever true true f g = kept x y (f tt) (g tt)
    whichever true false f g = refl
    whichever false b f g = refl
