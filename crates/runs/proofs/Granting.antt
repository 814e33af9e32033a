-- A call is granted exactly when its memory reaches and it finds what it must. Assumes nothing.
use Rattle.std.proofs.Common.{◌≡◌, ℕ, T, ◌↔◌, List, subst, arith}
use native.Mathlib.Decide.{ℕ_discrete}
use Rattle.exchange.specs.Meaning.{Meaning}
use Rattle.exchange.specs.declared.refusal.Refusal.{Refusal}
use Rattle.exchange.specs.declared.refusal.Refusal.TheVariants.{NoPlace, ShortMemory, WrongCarrier}
use Rattle.runs.specs.Sweeps.{Belong, newest, taken}
use Rattle.runs.specs.Exchanges.{Lacks, Move, Raises}
use Rattle.runs.specs.Book.{Call, Counts, Grants, Ground, Lengths, View, exchange, raise, read, sweep, take_back}
use Rattle.runs.specs.Book.{log_empty, log_full, no_element, no_next_place, no_such_kind, short_log, short_row, stray, uneven_log, wrong_carrier}
use Rattle.runs.specs.Theorems.{Finds, Granting, Reaches}
use Rattle.runs.proofs.Sweeps.{append_belong, belong_append}
use Rattle.runs.proofs.Rules.{granted_belong, granted_carrier, granted_entry, granted_place, granted_spare, not_short, short_from}
use Rattle.runs.proofs.Outcomes.{lacks_none, raise_turns}

module _ {E : Type 0} (m : Meaning E) (n : Counts) (l : Lengths) (v : View E) where
  found_read : (call : Call E) → Finds m n l v call → Belong m (read m call v)
  found_read (sweep carrier) f = f.1.1
  found_read take_back f = (f.2, (f.1.0, f.1.1))
  found_read (exchange w i) f = (f.1, (f.2, (f.3, (f.4, tt))))
  found_read (raise k) f = belong_append m v.incoming v.outgoing f.1 f.2

  raises_lack : (k : ℕ) (moves : List Move) → Raises m k v.incoming moves → ¬ Lacks m k v.incoming
  raises_lack k moves r h = lacks_none m k r.front r.raised r.later (subst (Lacks m k) r.parts h) r.of_kind

  broken : {call : Call E} {r : Refusal} → Ground m n l v call r → Reaches n l → Finds m n l v call → ⊥
  broken (short_row h) a f = omega arith
  broken (uneven_log h) a f = h a.1
  broken (short_log h) a f = omega arith
  broken (log_full h) a f = omega (arith, f.0)
  broken (log_empty h) a f = omega (arith, f.0)
  broken (no_next_place h) a f = omega (arith, f.0)
  broken (no_such_kind {k = k} h) a f = raises_lack k f.0.0 f.0.1 h
  broken (stray {call = call} h) a f = h (found_read call f)
  broken (no_element h) a f = subst T h f.1.0
  broken (wrong_carrier h) a f = h f.3

  finds : (call : Call E) → Grants m n l v call → Finds m n l v call
  finds (sweep carrier) g = (granted_spare g, (granted_carrier g, granted_belong g))
  finds take_back g =
      let b = granted_belong g in
      let e = granted_entry g in
      (omega arith, (b.1.0, b.1.1), b.0, same (ℕ_discrete (m.elements.code (taken m v.row (newest m v.outgoing)).0) (m.elements.code (newest m v.incoming))))
    where
      same : Dec (m.elements.code (taken m v.row (newest m v.outgoing)).0 ≡ m.elements.code (newest m v.incoming)) →
          m.elements.code (taken m v.row (newest m v.outgoing)).0 ≡ m.elements.code (newest m v.incoming)
      same (yes e) = e
      same (no e) = absurd (g WrongCarrier (wrong_carrier e))
  finds (exchange w i) g = let b = granted_belong g in (granted_place g, b.0, b.1.0, b.1.1.0, b.1.1.1.0)
  finds (raise k) g =
      let b = append_belong m v.incoming v.outgoing (granted_belong g) in
      let t = (raise_turns m k v.incoming (λ f. g NoPlace (no_such_kind f))).1 in
      ((t.0, t.1), b.0, b.1)

  pub reaches_and_finds : (call : Call E) → Grants m n l v call ↔ (Reaches n l × Finds m n l v call)
  reaches_and_finds call = (λ g. (not_short n l (λ q. g ShortMemory (short_from q)), finds call g), λ f r g. broken g f.0 f.1)

pub granting : {E : Type 0} (m : Meaning E) → Granting m
granting m = reaches_and_finds m
