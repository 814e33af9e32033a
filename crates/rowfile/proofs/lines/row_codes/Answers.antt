use Rattle.std.proofs.Common.{◌≡◌, false, ◌∷◌, ◌++◌, map, vec_items, codes as bytes, decimal, sym, refl, ap, ◌∙◌, inl, inr, arith}
use Rattle.std.proofs.lemmas.Result.{err_from_is_err_and}
use Rattle.rowfile.specs.Headings.{has_code}
use Rattle.rowfile.specs.Faults.Ground.{no_rule}
use Rattle.rowfile.specs.Judging.{fields_of}
use Rattle.rowfile.proofs.Somes.{some_number, read_bad}
use Rattle.rowfile.proofs.Words.{row_misnumbered}
use Rattle.rowfile.proofs.lines.row_codes.Goals as goal

pub returns-in_err-count_numbers : goal.returns-in_err-count_numbers
returns-in_err-count_numbers c =
    let p = err_from_is_err_and c.from_residual.result c.from_residual.ensures.1 in
    rw (p.1, p.2) (row_misnumbered c.args.heading _ c.in_err-count_numbers.ensures)

pub returns-then-branch-gt-MAX_CODES : goal.returns-then-branch-gt-MAX_CODES
returns-then-branch-gt-MAX_CODES c =
    let w = c.in_ok-count_numbers.ensures in
    no_rule w.0 (ap (λ k. bytes "row" ∷ k) w.1) w.2 (inl (refl, omega (arith, w.3)))

pub returns-in_err-code : goal.returns-in_err-code
returns-in_err-code c =
    let p = err_from_is_err_and c.from_residual-in_err-code.result c.from_residual-in_err-code.ensures.1 in
    rw (p.1, p.2) (row_misnumbered c.args.heading _ (read_bad c.loop-field.invariant.0 c.in-Some.ensures.steps c.in_err-code.ensures))

pub returns-then-not-is_code : goal.returns-then-not-is_code
returns-then-not-is_code c =
    let w = c.in_ok-count_numbers.ensures in
    let n = c.in_ok-code.ensures in
    let ms = vec_items c.loop-field.codes in
    let e = sym w.1 ∙ (c.loop-field.invariant.0.front ∙ ap (λ k. map decimal ms ++ k) (c.in-Some.ensures.steps ∙ ap (λ k. k ∷ fields_of c.next.new.self) n.1)) in
    let s = some_number (λ k. has_code c.args.heading.map k ≡ false) w.0 ms _ c.in_ok-code.code e w.2 n.0 (sym c.if-not-is_code.ensures) in
    no_rule w.0 (ap (λ k. bytes "row" ∷ k) w.1) w.2 (inr (refl, omega (arith, w.3), s))
