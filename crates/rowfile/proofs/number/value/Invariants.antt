use Rattle.std.proofs.Common.{◌^◌, ◌<◌, drop}
use Rattle.std.proofs.str.Numerals.{SoFar}
use Rattle.rowfile.proofs.number.value.Given as goal

-- the digits so far write the value
abbrev pub invariant-loop-digit : goal.invariant-loop-digit
invariant-loop-digit l = SoFar 10 l.digits (drop l.digit-index l.digits) l.value × (l.value < 2 ^ 32)
