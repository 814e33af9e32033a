-- A rule that keeps the laws on its elements, completed, is a lawful map. Assumes nothing.
use Rattle.std.proofs.Common.{◌≡◌, ℕ, ◌<◌, ◌≤◌, Bool, true, false, cond, ◌&&◌, T, ◌⊎◌, sym, refl, ap, ◌∙◌, subst, inl, inr, ⊎_elim, arith}
use Rattle.exchange.specs.Meaning.{Elements, Exchange, Meaning}
use Rattle.exchange.specs.Laws.{Triple, Braids, Exchanges, Keeps, Lawful, Numbered, Pair, Returning, Undoes, first, last, no_code}
use Rattle.exchange.specs.Rules.{Returns, Sound, Trades, completed, guarded}
use Rattle.std.proofs.lemmas.Bool.{and_left, and_right, cond-false}
use Rattle.exchange.proofs.Tests.{T_both}
use Rattle.exchange.specs.Triples.{first_belong, last_belong}

-- a choice made by a test that passes
chosen : {A : Type 0} (b : Bool) (x y : A) → T b → cond b x y ≡ x
chosen true x y t = refl
chosen false x y t = absurd t

paired : (a b : Bool) → (T a × T b) ⊎ ((a && b) ≡ false)
paired true true = inl (tt, tt)
paired true false = inr refl
paired false b = inr refl

small : (b : Bool) (n : ℕ) → (T b → n ≤ 255) → cond b n 0 ≤ 255
small true n h = h tt
small false n h = omega arith

module _ {E : Type 0} (e : Elements E) (f : Exchange E) where
  guarded_on : (x y : E) → Pair e x y → guarded e.belongs f x y ≡ f x y
  guarded_on x y h = chosen (e.belongs x && e.belongs y) (f x y) (x, y) (T_both _ _ h.0 h.1)

  first_on : (t : E × E × E) → Triple e t → first (guarded e.belongs f) t ≡ first f t
  first_on t h = ap (λ (p : E × E). (p.0, p.1, t.2)) (guarded_on t.0 t.1 (h.0, h.1))

  last_on : (t : E × E × E) → Triple e t → last (guarded e.belongs f) t ≡ last f t
  last_on t h = ap (λ (p : E × E). (t.0, p.0, p.1)) (guarded_on t.1 t.2 (h.1, h.2))

  undoes : (g : Exchange E) → Keeps e f → Undoes e f g → Undoes e (guarded e.belongs f) (guarded e.belongs g)
  undoes g k u x y h =
      ap (λ (p : E × E). guarded e.belongs g p.0 p.1) (guarded_on x y h)
      ∙ (chosen _ _ _ (T_both _ _ (k x y h).0 (k x y h).1) ∙ u x y h)

  braids : Keeps e f → Braids e f → Braids e (guarded e.belongs f)
  braids k b t h =
      let F = first f in
      let L = last f in
      let h1 = first_belong e f k t h in
      let k1 = last_belong e f k t h in
      let h2 = last_belong e f k (F t) h1 in
      let k2 = first_belong e f k (L t) k1 in
      cc (first_on t h, last_on (F t) h1, first_on (L (F t)) h2, last_on t h, first_on (L t) k1, last_on (F (L t)) k2, b t h)

module _ {E : Type 0} {m : Meaning E} (s : Sound m) where
  kind_on : (x : E) → T (m.elements.belongs x) → (completed m).elements.kind x ≡ m.elements.kind x
  kind_on x h = chosen (m.elements.belongs x) (m.elements.kind x) 0 h

  exchanges : (f : Exchange E) → Trades m.elements f → Exchanges (completed m).elements (guarded m.elements.belongs f)
  exchanges f t =
      let b = m.elements.belongs in
      let kind = (completed m).elements.kind in
      record {
        belong = λ x y h. subst (λ (p : E × E). Pair m.elements p.0 p.1) (sym (guarded_on m.elements f x y h)) (t.belong x y h);
        left_kind = λ x y h. ap (λ (p : E × E). kind p.0) (guarded_on m.elements f x y h) ∙ (kind_on _ (t.belong x y h).0 ∙ (t.left_kind x y h ∙ sym (kind_on y h.1)));
        right_kind = λ x y h. ap (λ (p : E × E). kind p.1) (guarded_on m.elements f x y h) ∙ (kind_on _ (t.belong x y h).1 ∙ (t.right_kind x y h ∙ sym (kind_on x h.0)));
        left_stranger = λ x y h. cond-false _ _ _ (and_left (b x) (b y) h);
        right_stranger = λ x y h. cond-false _ _ _ (and_right (b x) (b y) h);
      }

  numbered : Numbered (completed m).elements
  numbered =
      let n = s.numbers in
      let e = m.elements in
      record {
        kind_small = λ x. small (e.belongs x) (e.kind x) (n.kind_small x);
        code_small = λ x h. subst (λ (c : ℕ). c < no_code) (sym (chosen _ _ _ h)) (n.code_small x h);
        code_is_one = λ x h. subst (λ (c : ℕ). T (e.codes c)) (sym (chosen _ _ _ h)) (n.code_is_one x h);
        element_of_code = λ x h. ap (λ (c : ℕ). cond (e.codes c) (e.element c) e.rest) (chosen _ _ _ h) ∙ (chosen _ _ _ (n.code_is_one x h) ∙ n.element_of_code x h);
        element_belongs = λ k h. subst (λ (x : E). T (e.belongs x)) (sym (chosen _ _ _ h)) (n.element_belongs k h);
        code_of_element = λ k h. ap (λ (x : E). cond (e.belongs x) (e.code x) no_code) (chosen _ _ _ h) ∙ (chosen _ _ _ (n.element_belongs k h) ∙ n.code_of_element k h);
        no_element = λ k h. cond-false _ _ _ h;
        rest_belongs = n.rest_belongs;
        stranger_kind = λ x h. cond-false _ _ _ h;
        stranger_code = λ x h. cond-false _ _ _ h;
      }

  pub completed_lawful : Lawful (completed m)
  completed_lawful =
      let e = m.elements in
      record {
        numbered = numbered;
        crosses = exchanges m.cross s.crosses;
        uncrosses = exchanges m.uncross s.uncrosses;
        uncross_undoes = undoes e m.cross m.uncross s.crosses.belong s.uncross_undoes;
        cross_undoes = undoes e m.uncross m.cross s.uncrosses.belong s.cross_undoes;
        braids = braids e m.cross s.crosses.belong s.braids;
      }

  pub completed_returning : Returns m → Returning (completed m)
  completed_returning r =
      let e = m.elements in
      let G = (completed m).cross in
      let stays : (x y : E) → (e.belongs x && e.belongs y) ≡ false → G x y ≡ (x, y) = λ x y n. cond-false _ _ _ n in
      record {
        twice = λ x y. ⊎_elim (undoes e m.cross m.cross s.crosses.belong r.twice x y) (λ n. ap (λ (p : E × E). G p.0 p.1) (stays x y n) ∙ stays x y n) (paired (e.belongs x) (e.belongs y));
        alike = λ x y k. ⊎_elim (λ h. guarded_on e m.cross x y h ∙ r.alike x y h (sym (kind_on x h.0) ∙ (k ∙ kind_on y h.1))) (stays x y) (paired (e.belongs x) (e.belongs y));
      }
