-- The rules of refusal can be decided, and the first one that is broken is one alone. Assumes nothing.
use Rattle.std.proofs.Common.{◌≡◌, ℕ, suc, ◌<◌, ◌≤◌, Bool, true, false, T, ◌⊎◌, List, [], ◌∷◌, get_or, sym, refl, ap, ◌∙◌, subst, inl, inr, arith}
use native.Mathlib.Decide.{dec_le, dec_lt, ℕ_discrete}
use Rattle.std.proofs.lemmas.Bool.{both_ways, cases_eq, cases_lt, cases_order}
use Rattle.exchange.specs.Meaning.{Meaning}
use Rattle.exchange.specs.declared.refusal.Refusal.{Refusal}
use Rattle.exchange.specs.declared.refusal.Refusal.TheVariants.{TooLong, NoElement, LogFull, LogEmpty, NoPlace, NotReturning, ShortMemory, Stray, WrongCarrier}
use Rattle.runs.specs.Sweeps.{Belong, newest, taken}
use Rattle.runs.specs.Exchanges.{Lacks, Way}
use Rattle.runs.specs.Book.{Call, Counts, Grants, Ground, Lengths, Refuses, View, exchange, raise, rank, read, sweep, take_back}
use Rattle.runs.specs.Theorems.{Reaches}
use Rattle.runs.specs.Book.{log_empty, log_full, no_element, no_next_place, no_such_kind, short_log, short_row, stray, uneven_log, wrong_carrier}

test : (b : Bool) → Dec (T b)
test true = yes tt
test false = no (λ h. h)

module _ {E : Type 0} (m : Meaning E) where
  pub belong? : (xs : List E) → Dec (Belong m xs)
  belong? [] = yes tt
  belong? (x ∷ xs) = both (test (m.elements.belongs x)) (belong? xs)
    where
      both : Dec (T (m.elements.belongs x)) → Dec (Belong m xs) → Dec (Belong m (x ∷ xs))
      both (yes a) (yes b) = yes (a, b)
      both (yes a) (no b) = no (λ h. b h.1)
      both (no a) d = no (λ h. a h.0)

  pub lacks? : (k : ℕ) (xs : List E) → Dec (Lacks m k xs)
  lacks? k [] = yes tt
  lacks? k (x ∷ xs) = both (ℕ_discrete (m.elements.kind x) k) (lacks? k xs)
    where
      both : Dec (m.elements.kind x ≡ k) → Dec (Lacks m k xs) → Dec (Lacks m k (x ∷ xs))
      both (no a) (yes b) = yes (a, b)
      both (no a) (no b) = no (λ h. b h.1)
      both (yes a) d = no (λ h. h.0 a)

-- the one refusal of each rank that a call can meet
abbrev pub log_rule : {E : Type 0} → Call E → Refusal
log_rule (sweep carrier) = LogFull
log_rule take_back = LogEmpty
log_rule (exchange w i) = NoPlace
log_rule (raise k) = NoPlace

abbrev pub due : {E : Type 0} → Call E → ℕ → Refusal
due call k = get_or (NotReturning ∷ ShortMemory ∷ log_rule call ∷ Stray ∷ NoElement ∷ WrongCarrier ∷ []) k TooLong

-- no rule of a rank below k is broken
abbrev pub Clear : {E : Type 0} → Meaning E → Counts → Lengths → View E → Call E → ℕ → Type 0
Clear m n l v call k = (s : Refusal) → rank s < k → ¬ Ground m n l v call s

rank_log_rule : {E : Type 0} (call : Call E) → rank (log_rule call) ≡ 2
rank_log_rule (sweep carrier) = refl
rank_log_rule take_back = refl
rank_log_rule (exchange w i) = refl
rank_log_rule (raise k) = refl

-- memory that no call may be handed
abbrev pub Short : Counts → Lengths → Type 0
Short n l = (l.row < n.boxes) ⊎ ((¬ (l.incoming ≡ l.outgoing)) ⊎ (l.incoming < n.sweeps))

pub not_short : (n : Counts) (l : Lengths) → ¬ Short n l → Reaches n l
not_short n l h = (row (cases_lt l.row n.boxes), even (cases_eq l.incoming l.outgoing), log (cases_lt l.incoming n.sweeps))
  where
    row : ((l.row < n.boxes) ⊎ (n.boxes ≤ l.row)) → n.boxes ≤ l.row
    row (inl a) = absurd (h (inl a))
    row (inr a) = a

    even : ((l.incoming ≡ l.outgoing) ⊎ (l.incoming ≡ l.outgoing → ⊥)) → l.incoming ≡ l.outgoing
    even (inl a) = a
    even (inr a) = absurd (h (inr (inl a)))

    log : ((l.incoming < n.sweeps) ⊎ (n.sweeps ≤ l.incoming)) → n.sweeps ≤ l.incoming
    log (inl a) = absurd (h (inr (inr a)))
    log (inr a) = a

module _ {E : Type 0} {m : Meaning E} {n : Counts} {l : Lengths} {v : View E} where
  ground_due : {call : Call E} {r : Refusal} → Ground m n l v call r → (r ≡ due call (rank r)) × (0 < rank r) × (rank r < 6)
  ground_due (short_row h) = (refl, omega arith, omega arith)
  ground_due (uneven_log h) = (refl, omega arith, omega arith)
  ground_due (short_log h) = (refl, omega arith, omega arith)
  ground_due (log_full h) = (refl, omega arith, omega arith)
  ground_due (log_empty h) = (refl, omega arith, omega arith)
  ground_due (no_next_place h) = (refl, omega arith, omega arith)
  ground_due (no_such_kind h) = (refl, omega arith, omega arith)
  ground_due (stray h) = (refl, omega arith, omega arith)
  ground_due (no_element h) = (refl, omega arith, omega arith)
  ground_due (wrong_carrier h) = (refl, omega arith, omega arith)

  pub short_parts : {call : Call E} → Ground m n l v call ShortMemory → Short n l
  short_parts (short_row h) = inl h
  short_parts (uneven_log h) = inr (inl h)
  short_parts (short_log h) = inr (inr h)

  pub short_from : {call : Call E} → Short n l → Ground m n l v call ShortMemory
  short_from (inl h) = short_row h
  short_from (inr (inl h)) = uneven_log h
  short_from (inr (inr h)) = short_log h

  pub clear_start : (call : Call E) → Clear m n l v call 1
  clear_start call s h g = omega (arith, (ground_due g).1)

  pub clear_more : (call : Call E) (k : ℕ) → Clear m n l v call k → ¬ Ground m n l v call (due call k) → Clear m n l v call (suc k)
  clear_more call k clear none s h g = split (cases_order (rank s) k)
    where
      split : ((rank s ≡ k) ⊎ ((rank s < k) ⊎ (k < rank s))) → ⊥
      split (inl q) = none (subst (Ground m n l v call) ((ground_due g).0 ∙ ap (due call) q) g)
      split (inr (inl q)) = clear s q g
      split (inr (inr q)) = omega arith

  pub clear_all : (call : Call E) → Clear m n l v call 6 → Grants m n l v call
  clear_all call clear r g = clear r (ground_due g).2 g

  -- no rule comes before that of short memory
  pub short_first : {call : Call E} → Ground m n l v call ShortMemory → Refuses m n l v call ShortMemory
  short_first {call} g = (g, clear_start call)

  pub stray_part : {call : Call E} → Ground m n l v call Stray → ¬ Belong m (read m call v)
  stray_part (stray h) = h

  pub one_refusal : {call : Call E} {r s : Refusal} → Refuses m n l v call r → Refuses m n l v call s → r ≡ s
  one_refusal {call} {r} {s} (g, below) (g', below') = split (cases_order (rank r) (rank s))
    where
      split : ((rank r ≡ rank s) ⊎ ((rank r < rank s) ⊎ (rank s < rank r))) → r ≡ s
      split (inl e) = (ground_due g).0 ∙ (ap (due call) e ∙ sym (ground_due g').0)
      split (inr (inl h)) = absurd (below' r h g)
      split (inr (inr h)) = absurd (below s h g')

module _ {E : Type 0} (m : Meaning E) (n : Counts) (l : Lengths) (v : View E) where
  pub short? : (call : Call E) → Dec (Ground m n l v call ShortMemory)
  short? call = split (dec_lt l.row n.boxes) (ℕ_discrete l.incoming l.outgoing) (dec_lt l.incoming n.sweeps)
    where
      split : Dec (l.row < n.boxes) → Dec (l.incoming ≡ l.outgoing) → Dec (l.incoming < n.sweeps) → Dec (Ground m n l v call ShortMemory)
      split (yes a) b c = yes (short_row a)
      split (no a) (no b) c = yes (uneven_log b)
      split (no a) (yes b) (yes c) = yes (short_log c)
      split (no a) (yes b) (no c) = no (λ g. elim (short_parts g) [ inl h ↦ a h | inr (inl h) ↦ h b | inr (inr h) ↦ c h ])

  log_rule? : (call : Call E) → Dec (Ground m n l v call (log_rule call))
  log_rule? (sweep carrier) = split (ℕ_discrete n.sweeps l.incoming)
    where
      split : Dec (n.sweeps ≡ l.incoming) → Dec (Ground m n l v (sweep carrier) LogFull)
      split (yes h) = yes (log_full h)
      split (no h) = no (λ g. elim g [ log_full f ↦ h f ])
  log_rule? take_back = split (ℕ_discrete n.sweeps 0)
    where
      split : Dec (n.sweeps ≡ 0) → Dec (Ground m n l v take_back LogEmpty)
      split (yes h) = yes (log_empty h)
      split (no h) = no (λ g. elim g [ log_empty f ↦ h f ])
  log_rule? (exchange w i) = split (dec_le n.sweeps (suc i))
    where
      split : Dec (n.sweeps ≤ suc i) → Dec (Ground m n l v (exchange w i) NoPlace)
      split (yes h) = yes (no_next_place h)
      split (no h) = no (λ g. elim g [ no_next_place f ↦ h f ])
  log_rule? (raise k) = split (lacks? m k v.incoming)
    where
      split : Dec (Lacks m k v.incoming) → Dec (Ground m n l v (raise k) NoPlace)
      split (yes h) = yes (no_such_kind h)
      split (no h) = no (λ g. elim g [ no_such_kind f ↦ h f ])

  stray? : (call : Call E) → Dec (Ground m n l v call Stray)
  stray? call = split (belong? m (read m call v))
    where
      split : Dec (Belong m (read m call v)) → Dec (Ground m n l v call Stray)
      split (yes h) = no (λ g. stray_part g h)
      split (no h) = yes (stray h)

  no_element? : (call : Call E) → Dec (Ground m n l v call NoElement)
  no_element? (sweep carrier) = split (m.elements.belongs carrier) refl
    where
      split : (b : Bool) → m.elements.belongs carrier ≡ b → Dec (Ground m n l v (sweep carrier) NoElement)
      split false e = yes (no_element e)
      split true e = no (λ g. elim g [ no_element f ↦ both_ways (m.elements.belongs carrier) f e ])
  no_element? take_back = no (λ g. elim g [ ])
  no_element? (exchange w i) = no (λ g. elim g [ ])
  no_element? (raise k) = no (λ g. elim g [ ])

  wrong_carrier? : (call : Call E) → Dec (Ground m n l v call WrongCarrier)
  wrong_carrier? (sweep carrier) = no (λ g. elim g [ ])
  wrong_carrier? take_back = split (ℕ_discrete (m.elements.code (taken m v.row (newest m v.outgoing)).0) (m.elements.code (newest m v.incoming)))
    where
      split : Dec (m.elements.code (taken m v.row (newest m v.outgoing)).0 ≡ m.elements.code (newest m v.incoming)) → Dec (Ground m n l v take_back WrongCarrier)
      split (yes e) = no (λ g. elim g [ wrong_carrier f ↦ f e ])
      split (no e) = yes (wrong_carrier e)
  wrong_carrier? (exchange w i) = no (λ g. elim g [ ])
  wrong_carrier? (raise k) = no (λ g. elim g [ ])

  Verdict : Call E → Type 0
  Verdict call = ((r : Refusal) × Refuses m n l v call r) ⊎ Grants m n l v call

  -- one rule more, and what is said if all up to it are kept
  look : (call : Call E) (k : ℕ) → Dec (Ground m n l v call (due call k)) → rank (due call k) ≡ k → Clear m n l v call k → (Clear m n l v call (suc k) → Verdict call) → Verdict call
  unfolding Verdict
  look call k (yes g) e clear more = inl (due call k, (g, λ s h. clear s (subst (λ (j : ℕ). rank s < j) e h)))
  look call k (no g) e clear more = more (clear_more call k clear g)

  pub verdict : (call : Call E) → ((r : Refusal) × Refuses m n l v call r) ⊎ Grants m n l v call
  unfolding Verdict
  verdict call =
      look call 1 (short? call) refl (clear_start call) (λ c1.
      look call 2 (log_rule? call) (rank_log_rule call) c1 (λ c2.
      look call 3 (stray? call) refl c2 (λ c3.
      look call 4 (no_element? call) refl c3 (λ c4.
      look call 5 (wrong_carrier? call) refl c4 (λ c5.
      inr (clear_all call c5))))))

-- what a granted call finds
module _ {E : Type 0} {m : Meaning E} {n : Counts} {l : Lengths} {v : View E} where
  pub granted_belong : {call : Call E} → Grants m n l v call → Belong m (read m call v)
  granted_belong {call} g = split (belong? m (read m call v))
    where
      split : Dec (Belong m (read m call v)) → Belong m (read m call v)
      split (yes h) = h
      split (no h) = absurd (g Stray (stray h))

  pub granted_carrier : {c : E} → Grants m n l v (sweep c) → T (m.elements.belongs c)
  granted_carrier {c} g = split (m.elements.belongs c) refl
    where
      split : (b : Bool) → m.elements.belongs c ≡ b → T b
      split true e = tt
      split false e = absurd (g NoElement (no_element e))

  pub granted_spare : {c : E} → Grants m n l v (sweep c) → n.sweeps < l.incoming
  granted_spare g =
      let a = (not_short n l (λ q. g ShortMemory (short_from q))).2 in
      let b : ¬ (n.sweeps ≡ l.incoming) = λ e. g LogFull (log_full e) in
      omega arith

  pub granted_entry : Grants m n l v take_back → ¬ (n.sweeps ≡ 0)
  granted_entry g e = g LogEmpty (log_empty e)

  pub granted_place : {w : Way} {i : ℕ} → Grants m n l v (exchange w i) → suc i < n.sweeps
  granted_place {w} {i} g = split (cases_lt (suc i) n.sweeps)
    where
      split : ((suc i < n.sweeps) ⊎ (n.sweeps ≤ suc i)) → suc i < n.sweeps
      split (inl h) = h
      split (inr h) = absurd (g NoPlace (no_next_place h))
