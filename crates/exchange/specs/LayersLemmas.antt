-- The mirror and the inverse of a lawful map are lawful, and of a returning map returning. Assumes nothing.
use Rattle.std.specs.Prelude.{◌≡◌, Bool, true, false, T, refl}
use Rattle.std.proofs.Common.{sym, subst, ◌∙◌}
use Rattle.std.proofs.Math.Path.{ap, fun_ext}
use Rattle.exchange.specs.Meaning.{Elements, Exchange, Meaning}
use Rattle.exchange.specs.Laws.{Braids, Exchanges, Lawful, Returning, first, last}
use Rattle.exchange.specs.Layers.{inverse, mirror, turned}
use Rattle.exchange.specs.Triples.{first_belong, last_belong, first_undone, last_undone}

swap : {E : Type 0} → E × E → E × E
swap p = (p.1, p.0)

turned_exchanges : {E : Type 0} {e : Elements E} {f : Exchange E} → Exchanges e f → Exchanges e (turned f)
unfolding swap
turned_exchanges ex = record {
  belong = λ x y h. let p = ex.belong y x (h.1, h.0) in (p.1, p.0);
  left_kind = λ x y h. ex.right_kind y x (h.1, h.0);
  right_kind = λ x y h. ex.left_kind y x (h.1, h.0);
  left_stranger = λ x y h. ap swap (ex.right_stranger y x h);
  right_stranger = λ x y h. ap swap (ex.left_stranger y x h);
}

-- the three neighbours from behind
reversed : {E : Type 0} → E × E × E → E × E × E
reversed t = (t.2, t.1, t.0)

module _ {E : Type 0} {m : Meaning E} (l : Lawful m) where
  -- both sides, crossed forward by the braid law, are the three that they started from
  uncross_braids : Braids m.elements m.uncross
  uncross_braids t h =
      let e = m.elements in
      let f = first m.uncross in
      let g = last m.uncross in
      let F = first m.cross in
      let G = last m.cross in
      let v = g (f (g t)) in
      let h1 = last_belong e m.uncross l.uncrosses.belong t h in
      let h2 = first_belong e m.uncross l.uncrosses.belong (g t) h1 in
      let h3 = last_belong e m.uncross l.uncrosses.belong (f (g t)) h2 in
      let k1 = first_belong e m.cross l.crosses.belong v h3 in
      let k2 = last_belong e m.cross l.crosses.belong (F v) k1 in
      let e1 = last_undone e m.uncross m.cross l.cross_undoes (f (g t)) h2 in
      let e2 = first_undone e m.uncross m.cross l.cross_undoes (g t) h1 in
      let e3 = last_undone e m.uncross m.cross l.cross_undoes t h in
      let b = l.braids v h3 in
      let d1 = first_undone e m.cross m.uncross l.uncross_undoes (G (F v)) k2 in
      let d2 = last_undone e m.cross m.uncross l.uncross_undoes (F v) k1 in
      let d3 = first_undone e m.cross m.uncross l.uncross_undoes v h3 in
      cc

  pub inverse_lawful : Lawful (inverse m)
  inverse_lawful = record {
    numbered = l.numbered;
    crosses = l.uncrosses;
    uncrosses = l.crosses;
    uncross_undoes = l.cross_undoes;
    cross_undoes = l.uncross_undoes;
    braids = uncross_braids;
  }

  pub mirror_lawful : Lawful (mirror m)
  unfolding swap reversed
  mirror_lawful = record {
    numbered = l.numbered;
    crosses = turned_exchanges l.crosses;
    uncrosses = turned_exchanges l.uncrosses;
    uncross_undoes = λ x y h. ap swap (l.uncross_undoes y x (h.1, h.0));
    cross_undoes = λ x y h. ap swap (l.cross_undoes y x (h.1, h.0));
    braids = λ t h. ap reversed (sym (l.braids (t.2, t.1, t.0) (h.2, h.1, h.0)));
  }

-- a returning map runs backwards as it runs forwards
module _ {E : Type 0} {m : Meaning E} (l : Lawful m) (r : Returning m) where
  pub uncross_is_cross : (x y : E) → m.uncross x y ≡ m.cross x y
  uncross_is_cross x y = by (m.elements.belongs x) refl (m.elements.belongs y) refl
    where
      by : (a : Bool) → m.elements.belongs x ≡ a → (b : Bool) → m.elements.belongs y ≡ b → m.uncross x y ≡ m.cross x y
      by false ea b eb = l.uncrosses.left_stranger x y ea ∙ sym (l.crosses.left_stranger x y ea)
      by true ea false eb = l.uncrosses.right_stranger x y eb ∙ sym (l.crosses.right_stranger x y eb)
      by true ea true eb =
          let p = m.cross x y in
          let h = l.crosses.belong x y (subst T (sym ea) tt, subst T (sym eb) tt) in
          ap (λ (q : E × E). m.uncross q.0 q.1) (sym (r.twice x y)) ∙ l.uncross_undoes p.0 p.1 h

  pub inverse_returning : Returning (inverse m)
  inverse_returning = record {
    twice = λ x y. ap (λ (f : Exchange E). f (f x y).0 (f x y).1) (fun_ext (λ a. fun_ext (λ b. uncross_is_cross a b))) ∙ r.twice x y;
    alike = λ x y h. uncross_is_cross x y ∙ r.alike x y h;
  }
