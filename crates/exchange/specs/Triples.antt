-- Exchanges at the first two and at the last two of three elements. Assumes nothing.
use Rattle.std.specs.Prelude.{◌≡◌}
use Rattle.std.proofs.Common.{ap}
use Rattle.exchange.specs.Meaning.{Elements, Exchange}
use Rattle.exchange.specs.Laws.{Triple, Keeps, Undoes, first, last}

module _ {E : Type 0} (e : Elements E) (f : Exchange E) (keeps : Keeps e f) where
  pub first_belong : (t : E × E × E) → Triple e t → Triple e (first f t)
  first_belong t h = let p = keeps t.0 t.1 (h.0, h.1) in (p.0, p.1, h.2)

  pub last_belong : (t : E × E × E) → Triple e t → Triple e (last f t)
  last_belong t h = let p = keeps t.1 t.2 (h.1, h.2) in (h.0, p.0, p.1)

module _ {E : Type 0} (e : Elements E) (f g : Exchange E) (u : Undoes e f g) where
  pub first_undone : (t : E × E × E) → Triple e t → first g (first f t) ≡ t
  first_undone t h = ap (λ (p : E × E). (p.0, p.1, t.2)) (u t.0 t.1 (h.0, h.1))

  pub last_undone : (t : E × E × E) → Triple e t → last g (last f t) ≡ t
  last_undone t h = ap (λ (p : E × E). (t.0, p.0, p.1)) (u t.1 t.2 (h.1, h.2))
