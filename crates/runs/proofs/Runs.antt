-- Every run keeps the promise. Assumes nothing.
use Rattle.std.proofs.Common.{◌≡◌, ℕ, suc, ◌-◌, ◌<◌, ◌≤◌, List, [], ◌∷◌, ◌++◌, map, length, take, drop, set, sym, refl, ap, ◌∙◌, subst, ap₂, subst₂, inl, arith, take-append-drop, take-suc-set}
use Rattle.std.proofs.lemmas.List.{append-nil, drop_all, length-append, length-set, take_all, take_at, take-take}
use Rattle.exchange.specs.Meaning.{Meaning}
use Rattle.exchange.specs.Laws.{Lawful}
use Rattle.exchange.specs.declared.refusal.Refusal.{Refusal}
use Rattle.exchange.specs.declared.refusal.Refusal.TheVariants.{ShortMemory}
use Rattle.runs.specs.Sweeps.{at, made, newest, swept, taken}
use Rattle.runs.specs.Exchanges.{Raises, Turns, Way, by, exchanged}
use Rattle.runs.specs.Book.{Answer, Booked, Call, Counts, Grants, Ground, Outcome, Refuses, View, book, code, codes, counts_of, exchange, raise, sweep, take_back}
use Rattle.runs.specs.Calls.{Does, Done, Held, Leaves, counts, lengths, refilled, view}
use Rattle.runs.specs.Runs.{BookRun, Handed, Promise, Run, Said, Shows, after}
use Rattle.runs.proofs.Insertion.{kinds_tell}
use Rattle.runs.proofs.Places.{length_exchanged, length_turned}
use Rattle.runs.proofs.Reordering.{length_made}
use Rattle.runs.proofs.Sweeps.{length_swept, length_taken}
use Rattle.runs.proofs.Rules.{Short, granted_belong, granted_carrier, granted_entry, granted_place, granted_spare, not_short, one_refusal, short_first, short_from, short_parts, short?}
use Rattle.runs.proofs.Steps.{Sound, exchange_step, raise_step, sweep_step, take_back_step, turned_made}

views : {E : Type 0} {v w : View E} → v.row ≡ w.row → v.incoming ≡ w.incoming → v.outgoing ≡ w.outgoing → v ≡ w
views p q r = λ i. record { row = p i; incoming = q i; outgoing = r i }

-- what lies below a count of a memory that reaches beyond it
shown_all : {E : Type 0} (n : ℕ) (memory xs : List E) → Shows n memory xs → length xs ≤ length memory → take n memory ≡ xs
shown_all n memory xs e h = e ∙ take_all (length memory) xs h

-- memory that is left as it was
left_all : {E : Type 0} (n n' : ℕ) (memory memory' xs : List E) → Shows n memory xs → n' ≡ n → memory' ≡ memory → take n' memory' ++ drop (length memory') xs ≡ xs
left_all n n' memory memory' xs e en em =
    ap₂ (λ (k : ℕ) (ys : List _). take k ys ++ drop (length ys) xs) en em ∙ (ap (λ (ys : List _). ys ++ drop (length memory) xs) e ∙ take-append-drop (length memory) xs)

-- memory that reaches beyond what was there
left_long : {E : Type 0} (n n' : ℕ) (memory memory' xs : List E) → n' ≡ n → memory' ≡ memory → length xs ≤ length memory → take n' memory' ++ drop (length memory') xs ≡ take n memory
left_long n n' memory memory' xs en em h =
    ap₂ (λ (k : ℕ) (ys : List _). take k ys ++ drop (length ys) xs) en em ∙ (ap (λ (ys : List _). take n memory ++ ys) (drop_all (length memory) xs h) ∙ append-nil (take n memory))

-- memory that was filled anew up to its count
left_refilled : {E : Type 0} (n n' : ℕ) (new old memory' xs : List E) → n' ≡ n → memory' ≡ refilled n new old → length new ≡ n → length xs ≤ n → take n' memory' ++ drop (length memory') xs ≡ new
left_refilled n n' new old memory' xs en em long h =
    left_long n n' (refilled n new old) memory' xs en em (simp length-append (omega arith)) ∙ take_at new (drop n old) n long

after_unchanged : {E : Type 0} (v : View E) (h h' : Held E) → Handed v h → Leaves h h' h.sweeps h.row h.incoming h.outgoing → after v h' ≡ v
after_unchanged v h h' hd lv = views
    (left_all h.boxes h'.boxes h.row h'.row v.row hd.row_shown lv.boxes_kept lv.row_left)
    (left_all h.sweeps h'.sweeps h.incoming h'.incoming v.incoming hd.incoming_shown lv.sweeps_left lv.incoming_left)
    (left_all h.sweeps h'.sweeps h.outgoing h'.outgoing v.outgoing hd.outgoing_shown lv.sweeps_left lv.outgoing_left)

-- what a call finds whose memory is not short
record Ready {E : Type 0} (v : View E) (h : Held E) : Type 0 where
  pub row_fits : length v.row ≤ length h.row
  pub incoming_fits : length v.incoming ≤ length h.incoming
  pub outgoing_fits : length v.outgoing ≤ length h.outgoing
  pub even_memory : length h.incoming ≡ length h.outgoing
  pub even_log : length v.outgoing ≡ length v.incoming
  pub row_is : (view h).row ≡ v.row
  pub incoming_is : (view h).incoming ≡ v.incoming
  pub outgoing_is : (view h).outgoing ≡ v.outgoing
  pub counts_are : counts h ≡ counts_of v

module _ {E : Type 0} {m : Meaning E} (filled : List E) (v : View E) (s : Sound m filled v) (h : Held E) (hd : Handed v h) where
  ready : ¬ Short (counts h) (lengths h) → Ready v h
  ready long =
      let room = not_short (counts h) (lengths h) long in
      let a : length v.row ≤ length h.row = omega (arith, hd.boxes_count, room.0) in
      let b : length h.incoming ≡ length h.outgoing = room.1 in
      let c : length v.incoming ≤ length h.incoming = omega (arith, hd.sweeps_count, room.2) in
      let d : length v.outgoing ≡ length v.incoming = ap (λ (p : List E × List E). length p.1) s.is_made ∙ length_made m filled v.incoming in
      record {
        row_fits = a;
        incoming_fits = c;
        outgoing_fits = omega arith;
        even_memory = b;
        even_log = d;
        row_is = shown_all h.boxes h.row v.row hd.row_shown a;
        incoming_is = shown_all h.sweeps h.incoming v.incoming hd.incoming_shown c;
        outgoing_is = shown_all h.sweeps h.outgoing v.outgoing hd.outgoing_shown (omega arith);
        counts_are = λ i. record { boxes = hd.boxes_count i; sweeps = hd.sweeps_count i };
      }

  is_book : v ≡ book m filled v.incoming
  is_book = views (ap (λ (p : List E × List E). p.0) s.is_made) refl (ap (λ (p : List E × List E). p.1) s.is_made)

  -- memory that is short is refused alike whatever it shows, and other memory shows all that is there
  refuses_too : (call : Call E) (r : Refusal) → Refuses m (counts h) (lengths h) (view h) call r → Refuses m (counts_of (book m filled v.incoming)) (lengths h) (book m filled v.incoming) call r
  refuses_too call r f = split (short? m (counts h) (lengths h) (view h) call)
    where
      B : View E
      B = book m filled v.incoming

      split : Dec (Ground m (counts h) (lengths h) (view h) call ShortMemory) → Refuses m (counts_of B) (lengths h) B call r
      split (yes g) =
          let same : counts h ≡ counts_of B = (λ i. record { boxes = hd.boxes_count i; sweeps = hd.sweeps_count i }) ∙ ap counts_of is_book in
          subst (Refuses m (counts_of B) (lengths h) B call) (one_refusal (short_first g) f) (short_first (short_from (subst (λ (n : Counts). Short n (lengths h)) same (short_parts g))))
      split (no g) =
          let k = ready (λ q. g (short_from q)) in
          subst (λ (w : View E). Refuses m (counts_of w) (lengths h) w call r) is_book
          (subst₂ (λ (n : Counts) (w : View E). Refuses m n (lengths h) w call r) k.counts_are (views k.row_is k.incoming_is k.outgoing_is) f)

  grants_ready : (call : Call E) → Grants m (counts h) (lengths h) (view h) call → Ready v h
  grants_ready call f = ready (λ q. f ShortMemory (short_from q))

  grants_view : (call : Call E) → Grants m (counts h) (lengths h) (view h) call → Grants m (counts_of v) (lengths h) v call
  grants_view call f =
      let k = grants_ready call f in
      subst₂ (λ (n : Counts) (w : View E). Grants m n (lengths h) w call) k.counts_are (views k.row_is k.incoming_is k.outgoing_is) f

-- a granted call takes the view v as the plain book takes its list
abbrev Next : {E : Type 0} → Meaning E → List E → View E → Call E → View E → Answer → Type 0
Next m filled v call w a = Booked m filled call v.incoming w.incoming a × Sound m filled w

module _ {E : Type 0} {m : Meaning E} (l : Lawful m) (filled : List E) (v : View E) (s : Sound m filled v) (h h' : Held E) (hd : Handed v h) where
  sweep_next : (c : E) (a : Answer) → Grants m (counts h) (lengths h) (view h) (sweep c) → Done m (sweep c) h h' a → Next m filled v (sweep c) (after v h') a
  sweep_next c a g (lv, answer) =
      let k = grants_ready filled v s h hd (sweep c) g in
      let f = grants_view filled v s h hd (sweep c) g in
      let out = swept m c (view h).row in
      let long : length out.0 ≡ h.boxes = length_swept m c (view h).row ∙ (ap length k.row_is ∙ sym hd.boxes_count) in
      let spare : h.sweeps < length h.incoming = granted_spare g in
      let spare' : h.sweeps < length h.outgoing = omega (arith, k.even_memory) in
      subst₂ (Next m filled v (sweep c))
      (sym (views
      (left_refilled h.boxes h'.boxes out.0 h.row h'.row v.row lv.boxes_kept lv.row_left long (omega (arith, hd.boxes_count))
      ∙ ap (λ (r : List E). (swept m c r).0) k.row_is)
      (left_long (suc h.sweeps) h'.sweeps (set h.incoming h.sweeps c) h'.incoming v.incoming lv.sweeps_left lv.incoming_left (simp length-set k.incoming_fits)
      ∙ (take-suc-set h.incoming h.sweeps c spare ∙ ap (λ (xs : List E). xs ++ (c ∷ [])) k.incoming_is))
      (left_long (suc h.sweeps) h'.sweeps (set h.outgoing h.sweeps out.1) h'.outgoing v.outgoing lv.sweeps_left lv.outgoing_left (simp length-set k.outgoing_fits)
      ∙ (take-suc-set h.outgoing h.sweeps out.1 spare' ∙ ap₂ (λ (r xs : List E). xs ++ ((swept m c r).1 ∷ [])) k.row_is k.outgoing_is))))
      (sym (answer ∙ ap (λ (r : List E). code (m.elements.code (swept m c r).1)) k.row_is))
      (sweep_step l filled v s c (granted_carrier f) (granted_belong f))

  take_back_next : (a : Answer) → Grants m (counts h) (lengths h) (view h) take_back → Done m take_back h h' a → Next m filled v take_back (after v h') a
  take_back_next a g (lv, answer) =
      let k = grants_ready filled v s h hd take_back g in
      let f = grants_view filled v s h hd take_back g in
      let n = h.sweeps - 1 in
      let former = taken m (view h).row (newest m (view h).outgoing) in
      let long : length former.1 ≡ h.boxes = length_taken m (newest m (view h).outgoing) (view h).row ∙ (ap length k.row_is ∙ sym hd.boxes_count) in
      let fewer : n ≤ h.sweeps = omega arith in
      subst₂ (Next m filled v take_back)
      (sym (views
      (left_refilled h.boxes h'.boxes former.1 h.row h'.row v.row lv.boxes_kept lv.row_left long (omega (arith, hd.boxes_count))
      ∙ ap₂ (λ (r xs : List E). (taken m r (newest m xs)).1) k.row_is k.outgoing_is)
      (left_long n h'.sweeps h.incoming h'.incoming v.incoming lv.sweeps_left lv.incoming_left k.incoming_fits
      ∙ (sym (take-take n h.sweeps h.incoming fewer) ∙ ap₂ (λ (j : ℕ) (xs : List E). take (j - 1) xs) hd.sweeps_count k.incoming_is))
      (left_long n h'.sweeps h.outgoing h'.outgoing v.outgoing lv.sweeps_left lv.outgoing_left k.outgoing_fits
      ∙ (sym (take-take n h.sweeps h.outgoing fewer) ∙ ap₂ (λ (j : ℕ) (xs : List E). take (j - 1) xs) hd.sweeps_count k.outgoing_is))))
      (sym (answer ∙ ap₂ (λ (r xs : List E). code (m.elements.code (taken m r (newest m xs)).0)) k.row_is k.outgoing_is))
      (take_back_step l filled v s (granted_entry f))

  -- both halves filled anew, the row left alone
  log_refilled : (k : Ready v h) (xs ys : List E) → Leaves h h' h.sweeps h.row (refilled h.sweeps xs h.incoming) (refilled h.sweeps ys h.outgoing) →
      length xs ≡ length v.incoming → length ys ≡ length v.outgoing → after v h' ≡ record { row = v.row; incoming = xs; outgoing = ys }
  log_refilled k xs ys lv ex ey = views
      (left_long h.boxes h'.boxes h.row h'.row v.row lv.boxes_kept lv.row_left k.row_fits ∙ k.row_is)
      (left_refilled h.sweeps h'.sweeps xs h.incoming h'.incoming v.incoming lv.sweeps_left lv.incoming_left (omega (arith, hd.sweeps_count)) (omega (arith, hd.sweeps_count)))
      (left_refilled h.sweeps h'.sweeps ys h.outgoing h'.outgoing v.outgoing lv.sweeps_left lv.outgoing_left (omega (arith, hd.sweeps_count, k.even_log)) (omega (arith, hd.sweeps_count, k.even_log)))

  exchange_next : (w : Way) (i : ℕ) (a : Answer) → Grants m (counts h) (lengths h) (view h) (exchange w i) → Done m (exchange w i) h h' a → Next m filled v (exchange w i) (after v h') a
  exchange_next w i a g (lv, answer) =
      let k = grants_ready filled v s h hd (exchange w i) g in
      let f = grants_view filled v s h hd (exchange w i) g in
      let ex = exchanged (by m w) i in
      let told : List E → Answer = λ xs. codes (m.elements.code (at m xs i)) (m.elements.code (at m xs (suc i))) in
      subst₂ (Next m filled v (exchange w i))
      (sym (log_refilled k (ex (view h).incoming) (ex (view h).outgoing) lv
      (length_exchanged (by m w) i (view h).incoming ∙ ap length k.incoming_is) (length_exchanged (by m w) i (view h).outgoing ∙ ap length k.outgoing_is)
      ∙ views refl (ap ex k.incoming_is) (ap ex k.outgoing_is)))
      (sym (answer ∙ ap (λ (xs : List E). told (ex xs)) k.incoming_is))
      (((granted_place f, refl), refl), exchange_step l filled v s w i (granted_place f))

  raise_next : (j : ℕ) (a : Answer) → Grants m (counts h) (lengths h) (view h) (raise j) → Done m (raise j) h h' a → Next m filled v (raise j) (after v h') a
  raise_next j a g (lift, answer) =
      let k = grants_ready filled v s h hd (raise j) g in
      let moves = lift.moves in
      let xs = lift.incoming' in
      let ys = lift.outgoing' in
      let raises = subst (λ (zs : List E). Raises m j zs moves) k.incoming_is lift.raises in
      let t = subst (λ (zs : List E). Turns m moves zs xs) k.incoming_is lift.incoming_turned in
      let u = subst (λ (zs : List E). Turns m moves zs ys) k.outgoing_is lift.outgoing_turned in
      subst₂ (Next m filled v (raise j))
      (sym (log_refilled k xs ys lift.leaves (length_turned m moves v.incoming xs t) (length_turned m moves v.outgoing ys u)))
      (sym answer)
      (((moves, raises, t), refl), raise_step l filled v s j moves xs ys raises t u)

  next : (call : Call E) (a : Answer) → Grants m (counts h) (lengths h) (view h) call → Done m call h h' a → Next m filled v call (after v h') a
  next (sweep c) = sweep_next c
  next take_back = take_back_next
  next (exchange w i) = exchange_next w i
  next (raise j) = raise_next j

module _ {E : Type 0} {m : Meaning E} (l : Lawful m) (filled : List E) where
  -- a call is answered as the book answers it, and leaves what the book has
  pub outcome : (v : View E) (call : Call E) (h h' : Held E) (a : Answer) → Sound m filled v → Handed v h → Does m call h h' a →
      Outcome m filled (lengths h) call v.incoming (after v h').incoming a × Sound m filled (after v h')
  outcome v call h h' a s hd (Does.turned_away {r = r} f lv answer) =
      let same = after_unchanged v h h' hd lv in
      (Outcome.turned_away (refuses_too filled v s h hd call r f) (ap (λ (w : View E). w.incoming) same) answer, subst (Sound m filled) (sym same) s)
  outcome v call h h' a s hd (Does.granted g d) =
      let n = next l filled v s h h' hd call a g d in
      let g' = subst (λ (w : View E). Grants m (counts_of w) (lengths h) w call) (is_book filled v s h hd) (grants_view filled v s h hd call g) in
      (Outcome.granted g' n.0, n.1)

  pub run_sound : {calls : List (Said E)} {v : View E} → Run m filled calls v → BookRun m filled calls v.incoming × Sound m filled v
  run_sound Run.start = (BookRun.start, record { is_made = refl; carriers_belong = tt; filled_belongs = inl refl })
  run_sound (Run.next {calls = calls} {v = v} {call = call} {h = h} {h' = h'} {a = a} r hd d) =
      let before = run_sound r in
      let now = outcome v call h h' a before.1 hd d in
      (BookRun.next before.0 now.0, now.1)

  pub promise : Promise m filled
  promise = record {
    by_the_book = λ calls v r. let s = run_sound r in (s.0, s.1.is_made);
    reordering = λ c d v w r q moves t.
        let s = (run_sound r).1 in
        let u = (run_sound q).1 in
        let e = turned_made l filled v.incoming w.incoming moves s.filled_belongs s.carriers_belong t in
        (row s ∙ (e.0 ∙ sym (row u)), subst₂ (Turns m moves) (sym (out s)) (sym (out u)) e.1);
    kinds_tell = λ returning c d v w r q.
        let s = (run_sound r).1 in
        let u = (run_sound q).1 in (
          λ e. (([], e.0), ap (map m.elements.kind) e.0),
          λ t. let e = kinds_tell l returning v.incoming w.incoming t.0.0 s.carriers_belong t.0.1 t.1 in
              (e, out s ∙ (ap (λ (xs : List E). (made m filled xs).1) e ∙ sym (out u))),
        );
  }
    where
      row : {v : View E} → Sound m filled v → v.row ≡ (made m filled v.incoming).0
      row s = ap (λ (p : List E × List E). p.0) s.is_made

      out : {v : View E} → Sound m filled v → v.outgoing ≡ (made m filled v.incoming).1
      out s = ap (λ (p : List E × List E). p.1) s.is_made
