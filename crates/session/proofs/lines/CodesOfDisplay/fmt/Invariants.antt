use Rattle.std.proofs.Common.{take}
use Rattle.std.specs.Fmt.{HasWritten, IsPlainFormatter}
use Rattle.rowfile.specs.Lines.{led}
use Rattle.session.specs.Played.{code_fields}
use Rattle.session.proofs.lines.CodesOfDisplay.fmt.Given as goal

abbrev pub invariant-loop-x : goal.invariant-loop-x
invariant-loop-x g l =
    IsPlainFormatter l.initial.f → HasWritten g.W.Write.write_str_gives l.initial.f (led 9 (code_fields (g.M.ExchangeMap.meaning l.self.map.now) (take l.x-index l.x-items))) l.f
