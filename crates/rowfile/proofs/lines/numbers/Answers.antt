use Rattle.std.proofs.Common.{◌≡◌, ℕ, List, Bor, length, refl, inl, inr, arith}
use lib.ListN.{length-replicate}
use Rattle.std.proofs.lemmas.Iterator.Consumers.{YieldsList-from_first, count_from_yields_List}
use Rattle.std.proofs.lemmas.Result.{err_from_is_err_and}
use Rattle.std.specs.Iterator.{Drains, YieldsFirstRef}
use Rattle.rowfile.specs.Lines.{Bytes}
use Rattle.rowfile.specs.declared.fields.Fields.{Fields}
use Rattle.rowfile.specs.Judging.{fields_of}
use Rattle.rowfile.proofs.Parts.{behind_short}
use Rattle.rowfile.proofs.Somes.{read_none, read_bad}
use Rattle.rowfile.proofs.lines.numbers.Goals as goal

counted : (f : Fields) (n : ℕ) → ((xs : List (Bor Bytes)) × Drains (YieldsFirstRef fields_of) f xs × (n ≡ length xs)) → n ≡ length (fields_of f)
counted f n h = count_from_yields_List f n h (YieldsList-from_first (λ x. x.now) fields_of (fields_of f) refl)

pub count-requires-clause-fits : goal.count-requires-clause-fits
count-requires-clause-fits g c = inl (omega (arith, behind_short 9 c.args.fields.bytes.now))

pub loop-i-init : goal.loop-i-init
loop-i-init g c =
    let n = counted c.args.fields c.count.result c.count.ensures.ran in
    let e = c.enumerate-i-items.ensures in
    rw c.into_iter-i-iterator.ensures.into_iter_gives (rw (e.source, e.count) (read_none (fields_of c.args.fields), length-replicate g.row.N 0, omega arith))

pub returns-in_err-values : goal.returns-in_err-values
returns-in_err-values g c =
    let n = counted c.args.fields c.count.result c.count.ensures.ran in
    let p = err_from_is_err_and c.from_residual.result c.from_residual.ensures.1 in
    rw (p.1, p.2) (inr (refl, omega arith, read_bad c.loop-i.invariant.0 c.in-Some.ensures.steps.0 c.in_err-values.ensures))
