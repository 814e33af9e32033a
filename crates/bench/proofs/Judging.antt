-- How the rules of refusal are gone through, rank by rank, on the memory that a call is handed. Assumes nothing.
use Rattle.std.proofs.Common.{◌≡◌, ℕ, suc, ◌<◌, ◌≤◌, true, ◌⊎◌, length, inl, inr, ⊎_elim, arith}
use Rattle.std.proofs.lemmas.Bool.{both_ways, cases_eq, cases_lt}
use Rattle.exchange.specs.Meaning.{Meaning}
use Rattle.exchange.specs.declared.refusal.Refusal.TheVariants.{LogEmpty, LogFull, ShortMemory, Stray}
use Rattle.runs.specs.Book.{Call, Ground, Refuses, exchange, log_empty, log_full, no_element, no_next_place, no_such_kind, raise, read, sweep, take_back}
use Rattle.runs.specs.Book.{short_log, short_row, stray, uneven_log, wrong_carrier}
use Rattle.runs.specs.Calls.{Held, counts, lengths, view}
use Rattle.runs.specs.Exchanges.{Lacks, Way}
use Rattle.runs.specs.Sweeps.{Belong, newest, taken}
use Rattle.runs.specs.Theorems.{Reaches}
use Rattle.runs.proofs.Rules
use Rattle.runs.proofs.Rules.{belong?, clear_start, not_short, short_from, short_parts, stray_part}

module _ {E : Type 0} (m : Meaning E) (h : Held E) (call : Call E) where
  -- no rule of a rank below k is broken
  abbrev pub Clear : ℕ → Type 0
  Clear k = Rules.Clear m (counts h) (lengths h) (view h) call k

  clear_more : (k : ℕ) → Clear k → ¬ Ground m (counts h) (lengths h) (view h) call (Rules.due call k) → Clear (suc k)
  clear_more k clear none = Rules.clear_more call k clear none

  -- the memory reaches the counts
  abbrev pub Reaching : Type 0
  Reaching = Reaches (counts h) (lengths h)

  pub reaching : Reaching → Clear 2
  reaching r = clear_more 1 (clear_start call) (λ g. elim (short_parts g) [ inl a ↦ absurd (omega arith) | inr (inl a) ↦ a r.1 | inr (inr a) ↦ absurd (omega arith) ])

  pub not_reaching : ¬ Reaching → Refuses m (counts h) (lengths h) (view h) call ShortMemory
  not_reaching n = (ground (cases_lt (length h.row) h.boxes) (cases_eq (length h.incoming) (length h.outgoing)) (cases_lt (length h.incoming) h.sweeps), clear_start call)
    where
      ground : (length h.row < h.boxes) ⊎ (h.boxes ≤ length h.row) → (length h.incoming ≡ length h.outgoing) ⊎ (length h.incoming ≡ length h.outgoing → ⊥) → (length h.incoming < h.sweeps) ⊎ (h.sweeps ≤ length h.incoming) → Ground m (counts h) (lengths h) (view h) call ShortMemory
      ground (inl a) b c = short_row a
      ground (inr a) (inr b) c = uneven_log b
      ground (inr a) (inl b) (inl c) = short_log c
      ground (inr a) (inl b) (inr c) = absurd (n (a, b, c))

  -- what a call that has come so far knows of its memory
  pub reached : (k : ℕ) → 2 ≤ k → Clear k → Reaching
  reached k le clear = not_short (counts h) (lengths h) (λ s. clear ShortMemory (omega arith) (short_from s))

  pub nothing_astray : (k : ℕ) → 4 ≤ k → Clear k → Belong m (read m call (view h))
  nothing_astray k le clear = ⊎_elim (λ b. b) (λ n. absurd (clear Stray (omega arith) (stray n))) (either (belong? m (read m call (view h))))
    where
      either : Dec (Belong m (read m call (view h))) → Belong m (read m call (view h)) ⊎ (¬ Belong m (read m call (view h)))
      either (yes b) = inl b
      either (no n) = inr n

  pub nothing_stray : Clear 3 → Belong m (read m call (view h)) → Clear 4
  nothing_stray clear b = clear_more 3 clear (λ g. stray_part g b)

-- what each call asks of the log
module _ {E : Type 0} (m : Meaning E) (h : Held E) where
  pub not_full : (c : E) → Reaching m h (sweep c) → ¬ (h.sweeps ≡ length h.incoming) → Clear m h (sweep c) 3
  not_full c r n = clear_more m h (sweep c) 2 (reaching m h (sweep c) r) (λ g. elim g [ log_full f ↦ n f ])

  pub room : (c : E) → Clear m h (sweep c) 6 → (h.sweeps < length h.incoming) × (h.sweeps < length h.outgoing)
  room c clear =
      let r = reached m h (sweep c) 6 (omega arith) clear in
      let n : ¬ (h.sweeps ≡ length h.incoming) = λ e. clear LogFull (omega arith) (log_full e) in
      (omega arith, omega arith)

  pub not_empty : Reaching m h take_back → ¬ (h.sweeps ≡ 0) → Clear m h take_back 3
  not_empty r n = clear_more m h take_back 2 (reaching m h take_back r) (λ g. elim g [ log_empty f ↦ n f ])

  pub some_entry : Clear m h take_back 5 → (0 < h.sweeps) × (h.sweeps ≤ length h.incoming) × (h.sweeps ≤ length h.outgoing)
  some_entry clear =
      let r = reached m h take_back 5 (omega arith) clear in
      let n : ¬ (h.sweeps ≡ 0) = λ e. clear LogEmpty (omega arith) (log_empty e) in
      (omega arith, r.2, omega arith)

  pub same_carrier : Clear m h take_back 5 → m.elements.code (taken m (view h).row (newest m (view h).outgoing)).0 ≡ m.elements.code (newest m (view h).incoming) → Clear m h take_back 6
  same_carrier clear e = clear_more m h take_back 5 clear (λ g. elim g [ wrong_carrier f ↦ f e ])

  pub in_the_log : (w : Way) (i : ℕ) → Reaching m h (exchange w i) → suc i < h.sweeps → Clear m h (exchange w i) 3
  in_the_log w i r n = clear_more m h (exchange w i) 2 (reaching m h (exchange w i) r) (λ g. elim g [ no_next_place f ↦ absurd (omega arith) ])

  pub of_the_kind : (k : ℕ) → Reaching m h (raise k) → ¬ Lacks m k (view h).incoming → Clear m h (raise k) 3
  of_the_kind k r n = clear_more m h (raise k) 2 (reaching m h (raise k) r) (λ g. elim g [ no_such_kind f ↦ n f ])

  pub an_element : (c : E) → Clear m h (sweep c) 4 → m.elements.belongs c ≡ true → Clear m h (sweep c) 6
  an_element c clear b = clear_more m h (sweep c) 5 (clear_more m h (sweep c) 4 clear (λ g. elim g [ no_element f ↦ both_ways _ f b ])) (λ g. elim g [ ])

  -- exchanges and raises have no further rule
  pub exchange_clear : (w : Way) (i : ℕ) → Clear m h (exchange w i) 4 → Clear m h (exchange w i) 6
  exchange_clear w i clear = clear_more m h (exchange w i) 5 (clear_more m h (exchange w i) 4 clear (λ g. elim g [ ])) (λ g. elim g [ ])

  pub raise_clear : (k : ℕ) → Clear m h (raise k) 4 → Clear m h (raise k) 6
  raise_clear k clear = clear_more m h (raise k) 5 (clear_more m h (raise k) 4 clear (λ g. elim g [ ])) (λ g. elim g [ ])

  pub take_back_clear : Clear m h take_back 4 → Clear m h take_back 5
  take_back_clear clear = clear_more m h take_back 4 clear (λ g. elim g [ ])
