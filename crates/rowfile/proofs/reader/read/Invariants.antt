use Rattle.std.proofs.Common.{◌≡◌, ◌+◌, ◌≤◌, length}
use Rattle.rowfile.specs.Stepping.{said, Ready}
use Rattle.rowfile.proofs.Texts.{Before}
use Rattle.rowfile.proofs.reader.read.Given as goal

abbrev pub invariant-loop-ended : goal.invariant-loop-ended
invariant-loop-ended l =
    let rest = l.ended-iterator.rest.now in
    Before l.text (said l.reader) rest l.line × Ready l.reader × (l.line + length rest ≤ length l.text + 1) × (l.offset + length rest ≡ length l.text)
