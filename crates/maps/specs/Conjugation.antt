-- Conjugation in a group is a lawful exchange. Assumes nothing.
use Rattle.std.specs.Prelude.{◌≡◌, Bool, T}
use Rattle.std.proofs.Common.{sym, ap, ◌∙◌}

-- what conjugation asks of a product, an inverse and a unit
pub record Group {E : Type 0} (belongs : E → Bool) (mul : E → E → E) (inv : E → E) (one : E) : Type 0 where
  pub mul_belongs : (x y : E) → T (belongs x) → T (belongs y) → T (belongs (mul x y))
  pub inv_belongs : (x : E) → T (belongs x) → T (belongs (inv x))
  pub one_belongs : T (belongs one)
  pub assoc : (x y z : E) → T (belongs x) → T (belongs y) → T (belongs z) → mul (mul x y) z ≡ mul x (mul y z)
  pub one_left : (x : E) → T (belongs x) → mul one x ≡ x
  pub one_right : (x : E) → T (belongs x) → mul x one ≡ x
  pub inv_left : (x : E) → T (belongs x) → mul (inv x) x ≡ one
  pub inv_right : (x : E) → T (belongs x) → mul x (inv x) ≡ one

module _ {E : Type 0} {belongs : E → Bool} {mul : E → E → E} {inv : E → E} {one : E} (g : Group belongs mul inv one) where
  abbrev conj : E → E → E
  conj x y = mul (mul (inv y) x) y

  abbrev unconj : E → E → E
  unconj u v = mul (mul u v) (inv u)

  pub conj_belongs : (x y : E) → T (belongs x) → T (belongs y) → T (belongs (conj x y))
  conj_belongs x y p q = g.mul_belongs _ y (g.mul_belongs _ x (g.inv_belongs y q) p) q

  pub unconj_belongs : (u v : E) → T (belongs u) → T (belongs v) → T (belongs (unconj u v))
  unconj_belongs u v p q = g.mul_belongs _ (inv u) (g.mul_belongs u v p q) (g.inv_belongs u p)

  -- y and its inverse, side by side, vanish
  gone : (y w : E) → T (belongs y) → T (belongs w) → mul y (mul (inv y) w) ≡ w
  gone y w p q = sym (g.assoc y (inv y) w p (g.inv_belongs y p) q) ∙ (ap (λ (a : E). mul a w) (g.inv_right y p) ∙ g.one_left w q)

  gone' : (y w : E) → T (belongs y) → T (belongs w) → mul (inv y) (mul y w) ≡ w
  gone' y w p q = sym (g.assoc (inv y) y w (g.inv_belongs y p) p q) ∙ (ap (λ (a : E). mul a w) (g.inv_left y p) ∙ g.one_left w q)

  -- the conjugate z of x by y is the one element with y z = x y
  pub conj_is : (x y : E) → T (belongs x) → T (belongs y) → mul y (conj x y) ≡ mul x y
  conj_is x y p q =
      let i = g.inv_belongs y q in
      ap (mul y) (g.assoc (inv y) x y i p q) ∙ gone y (mul x y) q (g.mul_belongs x y p q)

  pub conj_only : (x y z : E) → T (belongs x) → T (belongs y) → T (belongs z) → mul y z ≡ mul x y → conj x y ≡ z
  conj_only x y z p q r e =
      let i = g.inv_belongs y q in
      g.assoc (inv y) x y i p q ∙ (ap (mul (inv y)) (sym e) ∙ gone' y z q r)

  pub unconj_is : (u v : E) → T (belongs u) → T (belongs v) → mul (unconj u v) u ≡ mul u v
  unconj_is u v p q =
      let w = g.mul_belongs u v p q in
      let i = g.inv_belongs u p in
      g.assoc (mul u v) (inv u) u w i p ∙ (ap (mul (mul u v)) (g.inv_left u p) ∙ g.one_right (mul u v) w)

  pub unconj_only : (u v x : E) → T (belongs u) → T (belongs v) → T (belongs x) → mul x u ≡ mul u v → unconj u v ≡ x
  unconj_only u v x p q r e =
      let i = g.inv_belongs u p in
      ap (λ (a : E). mul a (inv u)) (sym e) ∙ (g.assoc x u (inv u) r p i ∙ (ap (mul x) (g.inv_right u p) ∙ g.one_right x r))

  -- conjugating by y and then by z is conjugating by z first, and then by y seen through z
  pub conj_conj : (x y z : E) → T (belongs x) → T (belongs y) → T (belongs z) → conj (conj x z) (conj y z) ≡ conj (conj x y) z
  conj_conj x y z p q r =
      let P = conj y z in
      let Q = conj x z in
      let R = conj x y in
      let S = conj R z in
      let bP = conj_belongs y z q r in
      let bQ = conj_belongs x z p r in
      let bR = conj_belongs x y p q in
      let bS = conj_belongs R z bR r in
      let a1 = g.assoc z P S r bP bS in
      let a2 = g.assoc y z S q r bS in
      let a3 = g.assoc y R z q bR r in
      let a4 = g.assoc x y z p q r in
      let a5 = g.assoc x z P p r bP in
      let a6 = g.assoc z Q P r bQ bP in
      let e1 = conj_is y z q r in
      let e2 = conj_is x z p r in
      let e3 = conj_is x y p q in
      let e4 = conj_is R z bR r in
      let e : mul z (mul P S) ≡ mul z (mul Q P) = cc in
      let f : mul P S ≡ mul Q P = sym (gone' z (mul P S) r (g.mul_belongs P S bP bS)) ∙ (ap (mul (inv z)) e ∙ gone' z (mul Q P) r (g.mul_belongs Q P bQ bP)) in
      conj_only Q P S bQ bP bS f
