-- One call of a session: the run goes on, and the plain book answers alike. Assumes nothing.
use Rattle.std.proofs.Common.{◌≡◌, ℕ, ◌≤◌, Bool, true, false, List, [], ◌∷◌, ◌++◌, length, take, drop, Ok, Err, codes as bytes, Result, OnOk, sym, refl, ap, ◌∙◌, subst, subst₂, arith, length-take-le}
use Rattle.std.proofs.lemmas.List.{append-nil, drop_all, length-append, length-set, take-append-drop, take_all}
use Rattle.std.proofs.Math.Seq.{take-append_seam}
use Rattle.std.proofs.lemmas.Result.{IfOk-weaker}
use Rattle.exchange.specs.Meaning.{Meaning}
use Rattle.exchange.specs.Laws.{Lawful}
use Rattle.exchange.specs.declared.refusal.Refusal.{Refusal}
use Rattle.exchange.specs.declared.refusal.Refusal.TheVariants.{NotReturning, ShortMemory}
use Rattle.runs.specs.Book.{Answer, Call, Grants, Outcome, View, done, exchange, raise, refused, sweep, take_back}
use Rattle.runs.specs.Calls.{Does, Done, Held, Leaves, counts, lengths, refilled, view}
use Rattle.runs.specs.Exchanges.{by}
use Rattle.runs.specs.Runs.{Handed, Run, after}
use Rattle.runs.specs.Sweeps.{made}
use Rattle.runs.proofs.Rules.{granted_spare, not_short, short_from}
use Rattle.runs.proofs.Runs.{outcome, run_sound}
use Rattle.runs.proofs.Sweeps.{length_swept, length_taken}
use Rattle.bench.specs.Bench.{code_answer, codes_answer}
use Rattle.runs.proofs.Places.{length_exchanged, length_turned}
use Rattle.rowfile.specs.Lines.{Bytes}
use Rattle.session.specs.Played.{Attempted, Raised, Told, answer_fields, code_fields, coded_fields, printed, refusal_fields, session_lengths}
use Rattle.session.specs.Playing.{Playing}

-- what lies below a count, shown by the memory that it lies in
shows : {E : Type 0} (n : ℕ) (xs : List E) → n ≤ length xs → take n xs ≡ take (length xs) (take n xs)
shows n xs h = sym (take_all (length xs) (take n xs) (let e = length-take-le n xs h in omega arith))

beyond : {E : Type 0} (n n' : ℕ) (xs ys : List E) → n ≤ length xs → length ys ≡ length xs → take n' ys ++ drop (length ys) (take n xs) ≡ take n' ys
beyond n n' xs ys h e = ap (λ (l : List _). take n' ys ++ l) (drop_all (length ys) (take n xs) (let k = length-take-le n xs h in omega arith)) ∙ append-nil (take n' ys)

-- a call leaves the box count, and no more sweeps than the log has places
module _ {E : Type 0} (m : Meaning E) (h h' : Held E) (a : Answer) where
  done_boxes : (call : Call E) → Done m call h h' a → h'.boxes ≡ h.boxes
  done_boxes (sweep c) d = d.0.boxes_kept
  done_boxes take_back d = d.0.boxes_kept
  done_boxes (exchange w i) d = d.0.boxes_kept
  done_boxes (raise k) d = d.0.leaves.boxes_kept

  boxes_stay : (call : Call E) → Does m call h h' a → h'.boxes ≡ h.boxes
  boxes_stay call (Does.turned_away f lv e) = lv.boxes_kept
  boxes_stay call (Does.granted g d) = done_boxes call d

  done_sweeps : (call : Call E) → Grants m (counts h) (lengths h) (view h) call → Done m call h h' a → h.sweeps ≤ length h.incoming → h'.sweeps ≤ length h.incoming
  done_sweeps (sweep c) g d k = let e = d.0.sweeps_left in let s = granted_spare g in omega arith
  done_sweeps take_back g d k = let e = d.0.sweeps_left in omega arith
  done_sweeps (exchange w i) g d k = let e = d.0.sweeps_left in omega arith
  done_sweeps (raise j) g d k = let e = d.0.leaves.sweeps_left in omega arith

  sweeps_fit : (call : Call E) → Does m call h h' a → h.sweeps ≤ length h.incoming → h'.sweeps ≤ length h.incoming
  sweeps_fit call (Does.turned_away f lv e) k = let e = lv.sweeps_left in omega arith
  sweeps_fit call (Does.granted g d) k = done_sweeps call g d k

-- what stands below a count, replaced by as much
refilled_long : {E : Type 0} (n : ℕ) (new old : List E) → length new ≡ length (take n old) → length (refilled n new old) ≡ length old
refilled_long n new old e = let whole = ap length (take-append-drop n old) in omega (arith, e, whole, length-append new (drop n old), length-append (take n old) (drop n old))

-- a call leaves the lengths of the memory
abbrev pub SameLengths : {E : Type 0} → Held E → Held E → Type 0
SameLengths h h' = (length h'.row ≡ length h.row) × (length h'.incoming ≡ length h.incoming) × (length h'.outgoing ≡ length h.outgoing)

module _ {E : Type 0} (m : Meaning E) (h h' : Held E) (a : Answer) where
  leaves_lengths : (n : ℕ) (row incoming outgoing : List E) → Leaves h h' n row incoming outgoing → length row ≡ length h.row → length incoming ≡ length h.incoming → length outgoing ≡ length h.outgoing → SameLengths h h'
  leaves_lengths n row incoming outgoing lv r i o = (ap length lv.row_left ∙ r, ap length lv.incoming_left ∙ i, ap length lv.outgoing_left ∙ o)

  done_lengths : (call : Call E) → Done m call h h' a → SameLengths h h'
  done_lengths (sweep c) d = leaves_lengths _ _ _ _ d.0 (refilled_long h.boxes _ h.row (length_swept m c (take h.boxes h.row))) (length-set h.incoming h.sweeps c) (length-set h.outgoing h.sweeps _)
  done_lengths take_back d = leaves_lengths _ _ _ _ d.0 (refilled_long h.boxes _ h.row (length_taken m _ (take h.boxes h.row))) refl refl
  done_lengths (exchange w i) d = leaves_lengths _ _ _ _ d.0 refl (refilled_long h.sweeps _ h.incoming (length_exchanged (by m w) i _)) (refilled_long h.sweeps _ h.outgoing (length_exchanged (by m w) i _))
  done_lengths (raise k) d =
      let t = d.0 in
      leaves_lengths _ _ _ _ t.leaves refl (refilled_long h.sweeps _ h.incoming (length_turned m t.moves _ _ t.incoming_turned)) (refilled_long h.sweeps _ h.outgoing (length_turned m t.moves _ _ t.outgoing_turned))

  pub lengths_stay : (call : Call E) → Does m call h h' a → SameLengths h h'
  lengths_stay call (Does.turned_away f lv e) = leaves_lengths _ _ _ _ lv refl refl refl
  lengths_stay call (Does.granted g d) = done_lengths call d

-- the fields of a code, and of two, are those of the book's answer
pub code_told : (letter : Bytes) (r : Result ℕ Refusal) (all : List Bytes) → coded_fields (λ n. n ∷ []) letter r ≡ answer_fields letter all (code_answer r)
code_told letter (Ok n) all = refl
code_told letter (Err r) all = refl

pub codes_told : (letter : Bytes) (r : Result (ℕ × ℕ) Refusal) (all : List Bytes) → coded_fields (λ p. p.0 ∷ p.1 ∷ []) letter r ≡ answer_fields letter all (codes_answer r)
codes_told letter (Ok p) all = refl
codes_told letter (Err r) all = refl

module _ {E : Type 0} {m : Meaning E} (l : Lawful m) (filled xs : List E) (h h' : Held E) (p : Playing m filled h xs) where
  handed : Handed (view h) h
  handed =
      let r : h.boxes ≤ length h.row = omega (arith, p.boxes_are, p.row_long) in
      let i : h.sweeps ≤ length h.incoming = omega (arith, p.sweeps_fit, p.incoming_long) in
      let o : h.sweeps ≤ length h.outgoing = omega (arith, p.sweeps_fit, p.outgoing_long) in
      record {
        boxes_count = sym (length-take-le h.boxes h.row r);
        sweeps_count = sym (length-take-le h.sweeps h.incoming i);
        row_shown = shows h.boxes h.row r;
        incoming_shown = shows h.sweeps h.incoming i;
        outgoing_shown = shows h.sweeps h.outgoing o;
      }

  seen_after : SameLengths h h' → after (view h) h' ≡ view h'
  seen_after long =
      let r = beyond h.boxes h'.boxes h.row h'.row (omega (arith, p.boxes_are, p.row_long)) long.0 in
      let i = beyond h.sweeps h'.sweeps h.incoming h'.incoming (omega (arith, p.sweeps_fit, p.incoming_long)) long.1 in
      let o = beyond h.sweeps h'.sweeps h.outgoing h'.outgoing (omega (arith, p.sweeps_fit, p.outgoing_long)) long.2 in
      λ k. record { row = r k; incoming = i k; outgoing = o k }

  same_lengths : lengths h ≡ session_lengths filled
  same_lengths = λ k. record { row = p.row_long k; incoming = p.incoming_long k; outgoing = p.outgoing_long k }

  -- the book's outcome, and the session after it
  pub called : (call : Call E) (a : Answer) → Does m call h h' a → Outcome m filled (session_lengths filled) call xs (view h').incoming a × Playing m filled h' (view h').incoming
  called call a d =
      let s = (run_sound l filled p.run).1 in
      let long = lengths_stay m h h' a call d in
      let o = outcome l filled (view h) call h h' a s handed d in
      let b = boxes_stay m h h' a call d in
      let w = sweeps_fit m h h' a call d (omega (arith, p.sweeps_fit, p.incoming_long)) in (
        subst (λ (v : View E). Outcome m filled (session_lengths filled) call xs v.incoming a) (seen_after long)
            (subst₂ (λ (n : _) (zs : List E). Outcome m filled n call zs (after (view h) h').incoming a) same_lengths (sym p.log) o.0),
        record {
          calls = (call, lengths h, a) ∷ p.calls;
          run = subst (Run m filled ((call, lengths h, a) ∷ p.calls)) (seen_after long) (Run.next p.run handed d);
          log = refl;
          boxes_are = b ∙ p.boxes_are;
          row_long = long.0 ∙ p.row_long;
          incoming_long = long.1 ∙ p.incoming_long;
          outgoing_long = long.2 ∙ p.outgoing_long;
          sweeps_fit = omega (arith, w, p.incoming_long);
        },
      )

  -- a raise, granted or refused, on a map that is returning or not
  pub raised_done : (b : Bool) (k : ℕ) (out out' : Bytes) → Attempted b m k h h' done → out' ≡ out ++ printed (bytes "N" ∷ code_fields m (view h').incoming) → (ys : List E) × (fs : List Bytes) × Raised m b filled k xs ys fs × Playing m filled h' ys × (out' ≡ out ++ printed fs)
  raised_done true k out out' d e = let o = called (raise k) done d in ((view h').incoming, _, (done, o.0, refl), o.1, e)
  raised_done false k out out' d e = let q = d.1 in cc

  pub raised_refused : (b : Bool) (k : ℕ) (r : Refusal) (out out' : Bytes) → Attempted b m k h h' (refused r) → out' ≡ out ++ printed (refusal_fields r) → (ys : List E) × (fs : List Bytes) × Raised m b filled k xs ys fs × Playing m filled h' ys × (out' ≡ out ++ printed fs)
  raised_refused true k r out out' d e = let o = called (raise k) (refused r) d in ((view h').incoming, _, (refused r, o.0, refl), o.1, e)
  raised_refused false k r out out' d e =
      let q : r ≡ NotReturning = same d.1 in
      (xs, refusal_fields NotReturning, (refl, refl), subst (λ (n : Held E). Playing m filled n xs) (sym d.0) p, e ∙ ap (λ (s : Refusal). out ++ printed (refusal_fields s)) q)
    where
      same : refused r ≡ refused NotReturning → r ≡ NotReturning
      same q = cc

-- a call whose answer has its codes as fields, and its line where that could be written
pub told : {E A X : Type 0} {m : Meaning E} (l : Lawful m) (codes_of : A → List ℕ) (letter : Bytes) (call : Call E) (a : Answer) (r : Result A Refusal) (h h' : Held E) (out out' : Bytes) (written : Result (Unit {0}) X) → ((all : List Bytes) → coded_fields codes_of letter r ≡ answer_fields letter all a) → Does m call h h' a → OnOk written (out' ≡ out ++ printed (coded_fields codes_of letter r))
    → OnOk written ((filled xs : List E) → Playing m filled h xs → (ys : List E) × (fs : List Bytes) × Told m filled letter call xs ys fs × Playing m filled h' ys × (out' ≡ out ++ printed fs))
told {m = m} l codes_of letter call a r h h' out out' written fields d =
    IfOk-weaker written _ _ (λ u e filled xs p. let o = called l filled xs h h' p call a d in ((view h').incoming, _, (a, o.0, fields (code_fields m (view h').incoming)), o.1, e))

-- a raise that is done has found its memory long enough, and left it so
pub raise_reaches : {E : Type 0} (m : Meaning E) (b : Bool) (k : ℕ) (h h' : Held E) → Attempted b m k h h' done → h.sweeps ≤ length h'.incoming
raise_reaches m true k h h' (Does.turned_away f lv e) = cc
raise_reaches m true k h h' (Does.granted g d) =
    let enough = (not_short (counts h) (lengths h) (λ s. g ShortMemory (short_from s))).2 in
    let same = (done_lengths m h h' done (raise k) d).1 in
    omega arith
raise_reaches m false k h h' d = let q = d.1 in cc

-- the row of a session is what its carriers make of the filled row
pub whole_row : {E : Type 0} {m : Meaning E} (l : Lawful m) (filled xs : List E) (h : Held E) → Playing m filled h xs → h.row ≡ (made m filled xs).0
whole_row {m = m} l filled xs h p =
    sym (take_all h.boxes h.row (omega (arith, p.boxes_are, p.row_long)))
    ∙ (ap (λ (q : _). q.0) (run_sound l filled p.run).1.is_made ∙ ap (λ (zs : List _). (made m filled zs).0) (sym p.log))

-- a memory of n places written whole
pub rewritten : {E : Type 0} (n : ℕ) (new old : List E) → length new ≡ n → take n (new ++ old) ≡ new
rewritten n new old e = ap (λ (k : ℕ). take k (new ++ old)) (sym e) ∙ take-append_seam new old
