use Rattle.std.proofs.Common.{◌≡◌, ℕ, List, length}
use Rattle.rowfile.specs.Judging.{fields_of}
use Rattle.rowfile.proofs.Somes.{Read}
use Rattle.rowfile.proofs.lines.count_numbers.Given as goal

-- the fields so far write as many numbers as are counted
abbrev pub invariant-loop-field : goal.invariant-loop-field
invariant-loop-field l = (ns : List ℕ) × Read (fields_of l.fields) (fields_of l.field-iterator) ns × (length ns ≡ l.count)
