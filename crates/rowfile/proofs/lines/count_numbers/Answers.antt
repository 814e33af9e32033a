use Rattle.std.proofs.Common.{◌+◌, [], ◌∷◌, ◌++◌, length, ap, ◌∙◌, arith}
use Rattle.std.proofs.lemmas.List.{length_push}
use Rattle.std.proofs.lemmas.Result.{err_from_is_err_and}
use Rattle.rowfile.proofs.Parts.{behind_short}
use Rattle.rowfile.proofs.Somes.{read_count, read_more, read_bad}
use Rattle.rowfile.proofs.lines.count_numbers.Goals as goal

pub returns-in_err-number : goal.returns-in_err-number
returns-in_err-number c =
    let p = err_from_is_err_and c.from_residual.result c.from_residual.ensures.1 in
    rw p.1 (read_bad c.loop-field.invariant.1 c.in-Some.ensures.steps c.in_err-number.ensures)

pub overflow_add-count : goal.overflow_add-count
overflow_add-count c = omega (arith, read_count c.loop-field.invariant.1, ap length c.in-Some.ensures.steps, behind_short 9 c.args.fields.bytes.now)

pub loop-field-preserved : goal.loop-field-preserved
loop-field-preserved c =
    let i = c.loop-field.invariant in
    let n = c.in_ok-number.field-0 in
    (i.0 ++ n ∷ [], read_more i.1 c.in-Some.ensures.steps c.in_ok-number.ensures, length_push i.0 n ∙ ap (λ k. k + 1) i.2)
