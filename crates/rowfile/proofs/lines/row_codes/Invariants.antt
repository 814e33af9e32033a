use Rattle.std.proofs.Common.{vec_items}
use Rattle.rowfile.specs.Files.{Codes}
use Rattle.rowfile.specs.Judging.{fields_of}
use Rattle.rowfile.proofs.Somes.{Read}
use Rattle.rowfile.proofs.lines.row_codes.Given as goal

-- the fields so far write the codes so far
abbrev pub invariant-loop-field : goal.invariant-loop-field
invariant-loop-field l = Read (fields_of l.fields) (fields_of l.field-iterator) (vec_items l.codes) × Codes l.heading (vec_items l.codes)
