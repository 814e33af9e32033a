use Rattle.std.proofs.Common.{◌-◌, ◌<◌, length, take, drop, ap, arith}
use Rattle.std.proofs.lemmas.Bool.{ltb-true, ltb-false}
use Rattle.rowfile.specs.Lines.{behind}
use Rattle.rowfile.proofs.Numbers.{first_rest}
use Rattle.rowfile.proofs.Parts.{parts_cut}
use Rattle.rowfile.proofs.fields.FieldsIterator.next.Goals as goal

pub returns-clause-steps : goal.returns-clause-steps
returns-clause-steps c =
    let xs = c.args.self.now.bytes.now in
    let ys = take (length xs - 1) (drop 1 xs) in
    let p : 0 < length xs = omega (arith, ltb-true, ltb-false) in
    let e = ap (behind 9) (first_rest xs p) in
    let f = parts_cut 9 ys c.until.result c.until.ensures in
    let g = c.split_at.ensures.front in
    let h = c.split_at.ensures.back in
    cc

pub returns-clause-goes : goal.returns-clause-goes
returns-clause-goes c = let e = returns-clause-steps c in record { on = λ f. (tt, tt, omega (arith, ap length e)); keeps = tt; rests = λ f. tt }
