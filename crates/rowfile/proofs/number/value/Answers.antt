use Rattle.std.proofs.Common.{arith}
use Rattle.std.proofs.str.Numerals.{too_large}
use Rattle.rowfile.proofs.number.value.Goals as goal

pub returns-in_err-checked_mul : goal.returns-in_err-checked_mul
returns-in_err-checked_mul c =
    let l = c.loop-digit in
    rw c.from_residual-in_err-checked_mul.ensures (too_large 10 c.args.digits.now c.args.digits.now l.digit-index l.value l.invariant.0 c.loop-digit-test.true 4294967295 (omega arith) (omega (arith, c.in_err-checked_mul.ensures)))

pub returns-in_err-value : goal.returns-in_err-value
returns-in_err-value c =
    let l = c.loop-digit in
    let d = rw c.from.ensures at c.in_ok-digit.ensures.value in
    rw c.from_residual-in_err-value.ensures (too_large 10 c.args.digits.now c.args.digits.now l.digit-index l.value l.invariant.0 c.loop-digit-test.true 4294967295 (omega arith) (omega (arith, d.1, c.in_ok-checked_mul.ensures, c.in_err-value.ensures)))
