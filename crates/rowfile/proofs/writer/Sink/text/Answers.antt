use Rattle.std.proofs.Common.{◌^◌, ◌<◌, [], ◌∷◌, map, length, decimal, arith, length-append}
use Rattle.rowfile.specs.Lines.{led, line_of}
use Rattle.rowfile.specs.Files.{written, text_of}
use Rattle.rowfile.specs.Writing.{filed}
use Rattle.rowfile.specs.declared.file.Stage.TheVariants.{Map}
use Rattle.rowfile.proofs.Bounds.{text_lines, text_length}
use Rattle.rowfile.proofs.Laid.{appends_then, appends_as}
use Rattle.rowfile.proofs.writer.Sink.text.Goals as goal

pub commands-requires : goal.commands-requires
commands-requires c =
    let p : length (text_of (filed c.args.contents.heading c.args.contents.codes.now c.args.contents.commands.now)) < 2 ^ 63 = c.requires.1 in
    let N = led 9 (map decimal c.args.contents.codes.now) in
    omega (arith, c.heading.ensures.lays.1, c.line.ensures.lays.1, text_length c.args.contents.heading c.args.contents.codes.now c.args.contents.commands.now, length-append (line_of (written Map c.args.contents.heading)) (10 ∷ []), length-append N (10 ∷ []))

pub returns : goal.returns
returns c =
    let a = appends_then (appends_then c.heading.ensures c.line.ensures) c.commands.ensures in
    appends_as (text_lines c.args.contents.heading c.args.contents.codes.now c.args.contents.commands.now) a
