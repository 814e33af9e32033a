-- What a granted call makes of a view that the plain book could have. Assumes nothing.
use Rattle.std.proofs.Common.{◌≡◌, ℕ, suc, ◌-◌, ◌<◌, T, ◌⊎◌, List, [], ◌∷◌, ◌++◌, length, take, sym, refl, ap, ◌∙◌, subst, ap₂, inl, inr, arith}
use Rattle.std.proofs.lemmas.List.{get_or_push, length-append, length_push, length-take-le, take_at}
use Rattle.exchange.specs.Meaning.{Meaning}
use Rattle.exchange.specs.Laws.{Lawful}
use Rattle.runs.specs.Sweeps.{Belong, made, newest, swept, taken}
use Rattle.runs.specs.Exchanges.{Move, Raises, Turns, Way, by, exchanged}
use Rattle.runs.specs.Book.{Booked, View, code, sweep, take_back}
use Rattle.runs.proofs.Sweeps.{append_belong, belong_append, made_append, sweep_belongs, sweep_undone}
use Rattle.runs.proofs.Places.{unpush}
use Rattle.runs.proofs.Reordering.{exchanged_belong, length_made, made_exchanged, reordering, turned_belong}
use Rattle.runs.proofs.Outcomes.{turns_alike}

-- what every run keeps: the view is the book's, and its carriers are elements; so is the filled row once there is a carrier
pub record Sound {E : Type 0} (m : Meaning E) (filled : List E) (v : View E) : Type 0 where
  pub is_made : (v.row, v.outgoing) ≡ made m filled v.incoming
  pub carriers_belong : Belong m v.incoming
  pub filled_belongs : (v.incoming ≡ []) ⊎ Belong m filled

newest_push : {E : Type 0} (m : Meaning E) (xs : List E) (x : E) → newest m (xs ++ (x ∷ [])) ≡ x
newest_push m xs x = get_or_push xs x m.elements.rest (length (xs ++ (x ∷ [])) - 1) (omega (arith, length_push xs x))

module _ {E : Type 0} {m : Meaning E} (l : Lawful m) where
  made_belong : (row xs : List E) → Belong m row → Belong m xs → Belong m (made m row xs).0
  made_belong row [] hr h = hr
  made_belong row (x ∷ xs) hr h = made_belong (swept m x row).0 xs (sweep_belongs l x row (h.0, hr)).1 h.1

  -- reordering, where the filled row need not belong as long as there is no carrier
  pub turned_made : (filled xs ys : List E) (moves : List Move) → ((xs ≡ []) ⊎ Belong m filled) → Belong m xs → Turns m moves xs ys →
      ((made m filled xs).0 ≡ (made m filled ys).0) × Turns m moves (made m filled xs).1 (made m filled ys).1
  turned_made filled xs ys moves (inr hf) h t = reordering l filled xs ys moves hf h t
  turned_made filled xs ys [] (inl e) h t = (ap (λ (zs : List E). (made m filled zs).0) t, ap (λ (zs : List E). (made m filled zs).1) t)
  turned_made filled xs ys (move ∷ moves) (inl e) h t = let none = ap length e in absurd (omega arith)

  module _ (filled : List E) (v : View E) (s : Sound m filled v) where
    filled_holds : ¬ (length v.incoming ≡ 0) → Belong m filled
    filled_holds h = split s.filled_belongs
      where
        split : ((v.incoming ≡ []) ⊎ Belong m filled) → Belong m filled
        split (inl e) = absurd (h (ap length e))
        split (inr hf) = hf

    pub sweep_step : (c : E) → T (m.elements.belongs c) → Belong m v.row →
        let out = swept m c v.row in
        Booked m filled (sweep c) v.incoming (v.incoming ++ (c ∷ [])) (code (m.elements.code out.1))
        × Sound m filled (record { row = out.0; incoming = v.incoming ++ (c ∷ []); outgoing = v.outgoing ++ (out.1 ∷ []) })
    sweep_step c hc hr =
        let out = swept m c v.row in
        let pushed : ◌≡◌ {A = List E × List E} (out.0, v.outgoing ++ (out.1 ∷ [])) (made m filled (v.incoming ++ (c ∷ []))) =
        ap (λ (r : List E × List E). ((swept m c r.0).0, r.1 ++ ((swept m c r.0).1 ∷ []))) s.is_made ∙ sym (made_append m filled v.incoming (c ∷ [])) in (
          (refl, ap (λ (x : E). code (m.elements.code x)) (sym (newest_push m v.outgoing out.1) ∙ ap (λ (r : List E × List E). newest m r.1) pushed)),
          record { is_made = pushed; carriers_belong = belong_append m v.incoming (c ∷ []) s.carriers_belong (hc, tt); filled_belongs = inr (from s.filled_belongs) },
        )
      where
        from : ((v.incoming ≡ []) ⊎ Belong m filled) → Belong m filled
        from (inl e) = subst (Belong m) (ap (λ (r : List E × List E). r.0) s.is_made ∙ ap (λ (xs : List E). (made m filled xs).0) e) hr
        from (inr hf) = hf

    pub take_back_step : ¬ (length v.incoming ≡ 0) →
        let former = taken m v.row (newest m v.outgoing) in
        let n = length v.incoming - 1 in
        Booked m filled take_back v.incoming (take n v.incoming) (code (m.elements.code former.0))
        × Sound m filled (record { row = former.1; incoming = take n v.incoming; outgoing = take n v.outgoing })
    take_back_step h =
        let n = length v.incoming - 1 in
        let front = take n v.incoming in
        let c = newest m v.incoming in
        let r = made m filled front in
        let w = swept m c r.0 in
        let e0 = unpush m v.incoming h in
        let e1 : ◌≡◌ {A = List E × List E} (v.row, v.outgoing) (w.0, r.1 ++ (w.1 ∷ [])) = s.is_made ∙ (ap (made m filled) e0 ∙ made_append m filled front (c ∷ [])) in
        let hx = append_belong m front (c ∷ []) (subst (Belong m) e0 s.carriers_belong) in
        let hf = filled_holds h in
        let e2 : taken m v.row (newest m v.outgoing) ≡ (c, r.0) =
        ap (λ (p : List E × List E). taken m p.0 (newest m p.1)) e1
        ∙ (ap (taken m w.0) (newest_push m r.1 w.1) ∙ sweep_undone l c r.0 (hx.1.0, made_belong filled front hf hx.0)) in
        let long : length r.1 ≡ n = length_made m filled front ∙ length-take-le n v.incoming (omega arith) in
        let e3 : take n v.outgoing ≡ r.1 = ap (λ (p : List E × List E). take n p.1) e1 ∙ take_at r.1 (w.1 ∷ []) n long in (
          (refl, ap (λ (p : E × List E). code (m.elements.code p.0)) e2),
          record { is_made = ap₂ (λ (p : E × List E) (q : List E). (p.1, q)) e2 e3; carriers_belong = hx.0; filled_belongs = inr hf },
        )

    pub exchange_step : (w : Way) (i : ℕ) → suc i < length v.incoming →
        Sound m filled (record { row = v.row; incoming = exchanged (by m w) i v.incoming; outgoing = exchanged (by m w) i v.outgoing })
    exchange_step w i h =
        let hf = filled_holds (omega arith) in
        record {
          is_made = ap (λ (r : List E × List E). (r.0, exchanged (by m w) i r.1)) s.is_made ∙ sym (made_exchanged l w i filled v.incoming hf s.carriers_belong);
          carriers_belong = exchanged_belong l w i v.incoming s.carriers_belong;
          filled_belongs = inr hf;
        }

    pub raise_step : (k : ℕ) (moves : List Move) (xs ys : List E) → Raises m k v.incoming moves → Turns m moves v.incoming xs → Turns m moves v.outgoing ys →
        Sound m filled (record { row = v.row; incoming = xs; outgoing = ys })
    raise_step k moves xs ys r t u =
        let long = ap length r.parts ∙ length-append r.front (r.raised ∷ r.later) in
        let Made-row = ap (λ (p : List E × List E). p.0) s.is_made in
        let made-out = ap (λ (p : List E × List E). p.1) s.is_made in
        let e = turned_made filled v.incoming xs moves s.filled_belongs s.carriers_belong t in
        let same = turns_alike m moves (made m filled v.incoming).1 ys (made m filled xs).1 (subst (λ (zs : List E). Turns m moves zs ys) made-out u) e.1 in
        record {
          is_made = ap₂ (λ (a b : List E). (a, b)) (Made-row ∙ e.0) same;
          carriers_belong = turned_belong l v.incoming xs moves s.carriers_belong t;
          filled_belongs = inr (filled_holds (omega arith));
        }
