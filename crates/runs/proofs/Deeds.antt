-- A call does one thing to whatever memory it is handed. Assumes nothing.
use Rattle.std.proofs.Common.{◌≡◌, ℕ, suc, ◌-◌, ◌⊎◌, List, [], ◌∷◌, length, set, sym, refl, ap, ◌∙◌, subst, subst₂, inl, inr, arith}
use Rattle.std.proofs.lemmas.List.{length-take-le}
use Rattle.exchange.specs.Meaning.{Meaning}
use Rattle.exchange.specs.declared.refusal.Refusal.{Refusal}
use Rattle.exchange.specs.declared.refusal.Refusal.TheVariants.{NoPlace, ShortMemory}
use Rattle.runs.specs.Sweeps.{at, newest, swept, taken}
use Rattle.runs.specs.Exchanges.{Move, Turns, by, exchanged}
use Rattle.runs.specs.Book.{Answer, Call, Grants, Refuses, code, codes, done, exchange, no_such_kind, raise, refused, sweep, take_back}
use Rattle.runs.specs.Calls.{Does, Done, Held, Leaves, Lifts, counts, lengths, refilled, view}
use Rattle.runs.specs.Theorems.{OneDeed, Reaches}
use Rattle.runs.proofs.Places.{length_exchanged}
use Rattle.runs.proofs.Rules.{not_short, one_refusal, short_from, verdict}
use Rattle.runs.proofs.Outcomes.{one_raise, raise_turns, turns_alike}

-- moves that can be done on a list can be done on any of its length
turns_along : {E : Type 0} (m : Meaning E) (moves : List Move) (xs ys us : List E) → length us ≡ length xs → Turns m moves xs ys → (zs : List E) × Turns m moves us zs
turns_along m [] xs ys us e t = (us, refl)
turns_along m (move ∷ moves) xs ys us e t =
    let f = by m move.0 in
    let r = turns_along m moves (exchanged f move.1 xs) ys (exchanged f move.1 us) (length_exchanged f move.1 us ∙ (e ∙ sym (length_exchanged f move.1 xs))) t.1 in
    (r.0, (omega (arith, t.0), r.1))

module _ {E : Type 0} {h h' h'' : Held E} where
  leaves_one : {n : ℕ} {r x y : List E} → Leaves h h' n r x y → Leaves h h'' n r x y → h' ≡ h''
  leaves_one s t = λ i. record {
    boxes = (s.boxes_kept ∙ sym t.boxes_kept) i;
    sweeps = (s.sweeps_left ∙ sym t.sweeps_left) i;
    row = (s.row_left ∙ sym t.row_left) i;
    incoming = (s.incoming_left ∙ sym t.incoming_left) i;
    outgoing = (s.outgoing_left ∙ sym t.outgoing_left) i;
  }

leaves : {E : Type 0} (h : Held E) (n : ℕ) (r x y : List E) → Leaves h (record { boxes = h.boxes; sweeps = n; row = r; incoming = x; outgoing = y }) n r x y
leaves h n r x y = record { boxes_kept = refl; sweeps_left = refl; row_left = refl; incoming_left = refl; outgoing_left = refl }

module _ {E : Type 0} (m : Meaning E) where
  even_view : (h : Held E) → Reaches (counts h) (lengths h) → length (view h).outgoing ≡ length (view h).incoming
  even_view h r =
      let a = length-take-le h.sweeps h.incoming r.2 in
      let b = length-take-le h.sweeps h.outgoing (omega arith) in
      b ∙ sym a

  deed : (call : Call E) (h : Held E) → Grants m (counts h) (lengths h) (view h) call → (h' : Held E) × (a : Answer) × Done m call h h' a
  deed (sweep c) h g =
      let s = swept m c (view h).row in
      (_, code (m.elements.code s.1), (leaves h (suc h.sweeps) (refilled h.boxes s.0 h.row) (set h.incoming h.sweeps c) (set h.outgoing h.sweeps s.1), refl))
  deed take_back h g =
      let t = taken m (view h).row (newest m (view h).outgoing) in
      (_, code (m.elements.code t.0), (leaves h (h.sweeps - 1) (refilled h.boxes t.1 h.row) h.incoming h.outgoing, refl))
  deed (exchange w i) h g =
      let xs = exchanged (by m w) i (view h).incoming in
      let ys = exchanged (by m w) i (view h).outgoing in
      (_, codes (m.elements.code (at m xs i)) (m.elements.code (at m xs (suc i))), (leaves h h.sweeps h.row (refilled h.sweeps xs h.incoming) (refilled h.sweeps ys h.outgoing), refl))
  deed (raise k) h g =
      let t = raise_turns m k (view h).incoming (λ f. g NoPlace (no_such_kind f)) in
      let u = turns_along m t.1.0 (view h).incoming t.0 (view h).outgoing (even_view h (not_short (counts h) (lengths h) (λ q. g ShortMemory (short_from q)))) t.1.2 in
      let lv = leaves h h.sweeps h.row (refilled h.sweeps t.0 h.incoming) (refilled h.sweeps u.0 h.outgoing) in
      (_, done, (record { moves = t.1.0; raises = t.1.1; incoming' = t.0; outgoing' = u.0; incoming_turned = t.1.2; outgoing_turned = u.1; leaves = lv }, refl))

  lifts_one : (k : ℕ) (h h' h'' : Held E) → Lifts m k h h' → Lifts m k h h'' → h' ≡ h''
  lifts_one k h h' h'' s t =
      let e = one_raise m k (view h).incoming s.moves t.moves s.raises t.raises in
      let ex = turns_alike m t.moves (view h).incoming s.incoming' t.incoming' (subst (λ (p : List Move). Turns m p (view h).incoming s.incoming') e s.incoming_turned) t.incoming_turned in
      let ey = turns_alike m t.moves (view h).outgoing s.outgoing' t.outgoing' (subst (λ (p : List Move). Turns m p (view h).outgoing s.outgoing') e s.outgoing_turned) t.outgoing_turned in
      leaves_one (subst₂ (λ (x y : List E). Leaves h h' h.sweeps h.row (refilled h.sweeps x h.incoming) (refilled h.sweeps y h.outgoing)) ex ey s.leaves) t.leaves

  one_done : (call : Call E) (h h' h'' : Held E) (a b : Answer) → Done m call h h' a → Done m call h h'' b → (h' ≡ h'') × (a ≡ b)
  one_done (sweep c) h h' h'' a b s t = (leaves_one s.0 t.0, s.1 ∙ sym t.1)
  one_done take_back h h' h'' a b s t = (leaves_one s.0 t.0, s.1 ∙ sym t.1)
  one_done (exchange w i) h h' h'' a b s t = (leaves_one s.0 t.0, s.1 ∙ sym t.1)
  one_done (raise k) h h' h'' a b s t = (lifts_one k h h' h'' s.0 t.0, s.1 ∙ sym t.1)

  some_deed : (call : Call E) (h : Held E) → (h' : Held E) × (a : Answer) × Does m call h h' a
  some_deed call h = split (verdict m (counts h) (lengths h) (view h) call)
    where
      split : ((r : Refusal) × Refuses m (counts h) (lengths h) (view h) call r) ⊎ Grants m (counts h) (lengths h) (view h) call → (h' : Held E) × (a : Answer) × Does m call h h' a
      split (inl r) = (h, refused r.0, Does.turned_away r.1 (leaves h h.sweeps h.row h.incoming h.outgoing) refl)
      split (inr g) = let d = deed call h g in (d.0, d.1, Does.granted g d.2)

  same_deed : (call : Call E) (h h' h'' : Held E) (a b : Answer) → Does m call h h' a → Does m call h h'' b → (h' ≡ h'') × (a ≡ b)
  same_deed call h h' h'' a b (Does.turned_away r s e) (Does.turned_away r' t f) = (leaves_one s t, e ∙ (ap refused (one_refusal r r') ∙ sym f))
  same_deed call h h' h'' a b (Does.turned_away r s e) (Does.granted g d) = absurd (g _ r.0)
  same_deed call h h' h'' a b (Does.granted g d) (Does.turned_away r s e) = absurd (g _ r.0)
  same_deed call h h' h'' a b (Does.granted g d) (Does.granted g' d') = one_done call h h' h'' a b d d'

  pub one_deed : OneDeed m
  one_deed = record { some = some_deed; one = same_deed }
