-- What a call leaves of the memory that it was handed. Assumes nothing.
use Rattle.std.proofs.Common.{◌≡◌, Err, refl}
use Rattle.std.specs.Prelude.{Result}
use Rattle.std.proofs.lemmas.Result.{err_from_is_err_and}
use Rattle.std.specs.Result.{IsErrAnd}
use Rattle.exchange.specs.Meaning.{Meaning}
use Rattle.exchange.specs.declared.refusal.Refusal.{Refusal}
use Rattle.runs.specs.Book.{Answer, Call, Refuses, refused}
use Rattle.runs.specs.Calls.{Does, Held, counts, lengths, turned_away, view}

module _ {E : Type 0} {m : Meaning E} {call : Call E} {h : Held E} {r : Refusal} where
  -- a refused call leaves everything as it was
  pub unchanged : Refuses m (counts h) (lengths h) (view h) call r → Does m call h h (refused r)
  unchanged f = turned_away f (record { boxes_kept = refl; sweeps_left = refl; row_left = refl; incoming_left = refl; outgoing_left = refl }) refl

  -- a refusal is answered as it was passed up
  pub passed_up : {U : Type 0} {h' : Held E} (answer : Result U Refusal → Answer) (q : Result U Refusal) → IsErrAnd q (λ s. s ≡ r) → Does m call h h' (answer (Err r)) → Does m call h h' (answer q)
  passed_up answer q e d = let p = err_from_is_err_and q e in rw (p.1, p.2) d
