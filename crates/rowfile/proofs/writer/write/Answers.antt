use Rattle.std.proofs.Common.{[], refl, inl, arith}
use Rattle.rowfile.specs.Writing.Unwritten.{no_room}
use Rattle.rowfile.specs.Writing.{filed}
use Rattle.rowfile.proofs.Laid.{laid_file}
use Rattle.rowfile.proofs.Bounds.{text_bounds}
use Rattle.rowfile.proofs.writer.write.Goals as goal

pub returns-then-commands-gt-MAX_BYTES : goal.returns-then-commands-gt-MAX_BYTES
returns-then-commands-gt-MAX_BYTES c =
    let k = c.in_ok-check.ensures in
    let b = text_bounds c.args.heading c.args.codes.now c.args.commands.now k in
    (no_room k (inl (omega (arith, b.0))) refl refl, refl)

pub lay-length-requires : goal.lay-length-requires
lay-length-requires c = (text_bounds c.args.heading c.args.codes.now c.args.commands.now c.in_ok-check.ensures).1 c.if-commands-gt-MAX_BYTES.false

pub returns : goal.returns
returns c =
    laid_file (filed c.args.heading c.args.codes.now c.args.commands.now) c.args.out.now [] c.lay.new.out c.lay-length.result c.lay.result _
    c.in_ok-check.ensures c.lay-length.ensures c.if-length-gt-MAX_BYTES.false c.if-length-out.false c.lay.ensures
