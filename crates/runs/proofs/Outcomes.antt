-- The plain book has one outcome for every call. Assumes nothing.
use Rattle.std.proofs.Common.{◌≡◌, ℕ, zero, suc, ◌+◌, ◌-◌, ◌<◌, ◌⊎◌, List, [], ◌∷◌, ◌++◌, length, take, sym, refl, ap, ◌∙◌, subst, ap₂, inl, inr, arith}
use native.Mathlib.Decide.{ℕ_discrete}
use Rattle.std.proofs.lemmas.List.{length-append}
use Rattle.exchange.specs.Meaning.{Meaning}
use Rattle.exchange.specs.declared.refusal.Refusal.{Refusal}
use Rattle.runs.specs.Sweeps.{at, made, newest}
use Rattle.runs.specs.Exchanges.{Lacks, Move, Raises, Turns, by, climb, exchanged}
use Rattle.runs.specs.Book.{Answer, Booked, Call, Grants, Lengths, Outcome, Refuses, book, code, codes, counts_of, done, exchange, granted, no_such_kind, raise, refused, sweep, take_back, turned_away}
use Rattle.runs.specs.Theorems.{OneOutcome}
use Rattle.runs.proofs.Places.{length_exchanged}
use Rattle.runs.proofs.Rules.{granted_place, lacks?, one_refusal, verdict}

module _ {E : Type 0} (m : Meaning E) where
  pub turns_alike : (moves : List Move) (xs ys zs : List E) → Turns m moves xs ys → Turns m moves xs zs → ys ≡ zs
  turns_alike [] xs ys zs s t = sym s ∙ t
  turns_alike (move ∷ moves) xs ys zs s t = turns_alike moves (exchanged (by m move.0) move.1 xs) ys zs s.1 t.1

  climb_turns : (i n : ℕ) (xs : List E) → i + n < length xs → (ys : List E) × Turns m (climb i n) xs ys
  climb_turns i zero xs h = (xs, refl)
  climb_turns i (suc n) xs h =
      let f = m.cross in
      let rest = climb_turns (suc i) n (exchanged f i xs) (omega (arith, length_exchanged f i xs)) in
      (rest.0, (omega arith, rest.1))

  -- where the newest carrier of a kind stands
  Newest : ℕ → List E → Type 0
  Newest k xs = (front : List E) × (x : E) × (later : List E) × (xs ≡ front ++ (x ∷ later)) × (m.elements.kind x ≡ k) × Lacks m k later

  find : (k : ℕ) (xs : List E) → ¬ Lacks m k xs → Newest k xs
  unfolding Newest
  find k [] h = absurd (h tt)
  find k (x ∷ xs) h = split (lacks? m k xs) (ℕ_discrete (m.elements.kind x) k) (find k xs)
    where
      split : Dec (Lacks m k xs) → Dec (m.elements.kind x ≡ k) → ((¬ Lacks m k xs) → Newest k xs) → Newest k (x ∷ xs)
      split (no a) b further = let f = further a in (x ∷ f.0, f.1, f.2, ap (λ (t : List E). x ∷ t) f.3, f.4, f.5)
      split (yes a) (yes b) further = ([], x, xs, refl, b, a)
      split (yes a) (no b) further = absurd (h (b, a))

  pub raise_turns : (k : ℕ) (xs : List E) → ¬ Lacks m k xs → (ys : List E) × ((moves : List Move) × Raises m k xs moves × Turns m moves xs ys)
  unfolding Newest
  raise_turns k xs h =
      let f = find k xs h in
      let long = ap length f.3 ∙ length-append f.0 (f.1 ∷ f.2) in
      let t = climb_turns (length f.0) (length f.2) xs (omega arith) in (
        t.0,
        (
          climb (length f.0) (length f.2),
          record { front = f.0; raised = f.1; later = f.2; parts = f.3; of_kind = f.4; none_later = f.5; climbs = refl },
          t.1,
        ),
      )

  pub lacks_none : (k : ℕ) (front : List E) (x : E) (later : List E) → Lacks m k (front ++ (x ∷ later)) → ¬ (m.elements.kind x ≡ k)
  lacks_none k [] x later h = h.0
  lacks_none k (y ∷ front) x later h = lacks_none k front x later h.1

  one_newest : (k : ℕ) (f g : List E) (x y : E) (a b : List E) → f ++ (x ∷ a) ≡ g ++ (y ∷ b) → m.elements.kind x ≡ k → m.elements.kind y ≡ k → Lacks m k a → Lacks m k b →
      (length f ≡ length g) × (length a ≡ length b)
  one_newest k [] [] x y a b e kx ky ha hb = (refl, let s : a ≡ b = cc in ap length s)
  one_newest k [] (z ∷ g) x y a b e kx ky ha hb =
      let s : a ≡ g ++ (y ∷ b) = cc in
      absurd (lacks_none k g y b (subst (Lacks m k) s ha) ky)
  one_newest k (z ∷ f) [] x y a b e kx ky ha hb =
      let s : b ≡ f ++ (x ∷ a) = cc in
      absurd (lacks_none k f x a (subst (Lacks m k) s hb) kx)
  one_newest k (z ∷ f) (w ∷ g) x y a b e kx ky ha hb =
      let r = one_newest k f g x y a b (cc) kx ky ha hb in
      (ap suc r.0, r.1)

  pub one_raise : (k : ℕ) (xs : List E) (p q : List Move) → Raises m k xs p → Raises m k xs q → p ≡ q
  one_raise k xs p q r s =
      let e = one_newest k r.front s.front r.raised s.raised r.later s.later (sym r.parts ∙ s.parts) r.of_kind s.of_kind r.none_later s.none_later in
      r.climbs ∙ (ap₂ climb e.0 e.1 ∙ sym s.climbs)

  booked : (filled : List E) (l : Lengths) (call : Call E) (xs : List E) → Grants m (counts_of (book m filled xs)) l (book m filled xs) call → (ys : List E) × (a : Answer) × Booked m filled call xs ys a
  booked filled l (sweep carrier) xs h = (xs ++ (carrier ∷ []), code (m.elements.code (newest m (made m filled (xs ++ (carrier ∷ []))).1)), (refl, refl))
  booked filled l take_back xs h = (take (length xs - 1) xs, code (m.elements.code (newest m xs)), (refl, refl))
  booked filled l (exchange w i) xs h =
      let ys = exchanged (by m w) i xs in
      (ys, codes (m.elements.code (at m ys i)) (m.elements.code (at m ys (suc i))), ((granted_place h, refl), refl))
  booked filled l (raise k) xs h =
      let t = raise_turns k xs (λ f. h _ (no_such_kind f)) in
      (t.0, done, (t.1, refl))

  one_booked : (filled : List E) (call : Call E) (xs ys zs : List E) (a b : Answer) → Booked m filled call xs ys a → Booked m filled call xs zs b → (ys ≡ zs) × (a ≡ b)
  one_booked filled (sweep carrier) xs ys zs a b s t =
      let e = s.0 ∙ sym t.0 in
      (e, s.1 ∙ (ap (λ (us : List E). code (m.elements.code (newest m (made m filled us).1))) e ∙ sym t.1))
  one_booked filled take_back xs ys zs a b s t = (s.0 ∙ sym t.0, s.1 ∙ sym t.1)
  one_booked filled (exchange w i) xs ys zs a b s t =
      let e = turns_alike ((w, i) ∷ []) xs ys zs s.0 t.0 in
      (e, s.1 ∙ (ap (λ (us : List E). codes (m.elements.code (at m us i)) (m.elements.code (at m us (suc i)))) e ∙ sym t.1))
  one_booked filled (raise k) xs ys zs a b s t =
      let e = one_raise k xs s.0.0 t.0.0 s.0.1 t.0.1 in
      (turns_alike t.0.0 xs ys zs (subst (λ (p : List Move). Turns m p xs ys) e s.0.2) t.0.2, s.1 ∙ sym t.1)

  pub some_outcome : (filled : List E) (l : Lengths) (call : Call E) (xs : List E) → (ys : List E) × (a : Answer) × Outcome m filled l call xs ys a
  some_outcome filled l call xs = split (verdict m (counts_of (book m filled xs)) l (book m filled xs) call)
    where
      split : ((r : Refusal) × Refuses m (counts_of (book m filled xs)) l (book m filled xs) call r) ⊎ Grants m (counts_of (book m filled xs)) l (book m filled xs) call → (ys : List E) × (a : Answer) × Outcome m filled l call xs ys a
      split (inl r) = (xs, refused r.0, turned_away r.1 refl refl)
      split (inr h) = let d = booked filled l call xs h in (d.0, d.1, granted h d.2)

  pub same_outcome : (filled : List E) (l : Lengths) (call : Call E) (xs ys zs : List E) (a b : Answer) → Outcome m filled l call xs ys a → Outcome m filled l call xs zs b → (ys ≡ zs) × (a ≡ b)
  same_outcome filled l call xs ys zs a b (turned_away r e f) (turned_away s e' f') = (e ∙ sym e', f ∙ (ap refused (one_refusal r s) ∙ sym f'))
  same_outcome filled l call xs ys zs a b (turned_away r e f) (granted h d) = absurd (h _ r.0)
  same_outcome filled l call xs ys zs a b (granted h d) (turned_away r e f) = absurd (h _ r.0)
  same_outcome filled l call xs ys zs a b (granted h d) (granted h' d') = one_booked filled call xs ys zs a b d d'

  pub one_outcome : OneOutcome m
  one_outcome = record { some = some_outcome; one = same_outcome }
