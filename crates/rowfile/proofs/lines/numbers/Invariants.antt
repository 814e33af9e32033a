use Rattle.std.proofs.Common.{◌≡◌, ◌+◌, length, take}
use Rattle.rowfile.specs.Judging.{fields_of}
use Rattle.rowfile.proofs.Somes.{Read}
use Rattle.rowfile.proofs.lines.numbers.Given as goal

-- the values so far are what the fields so far write
abbrev pub invariant-loop-i : goal.invariant-loop-i
invariant-loop-i g l =
    Read (fields_of l.fields) (fields_of l.i-iterator.iter) (take l.i-iterator.count l.values)
    × (length l.values ≡ g.row.N)
    × (l.i-iterator.count + length (fields_of l.i-iterator.iter) ≡ g.row.N)
