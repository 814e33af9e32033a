use Rattle.std.proofs.Common.{refl, inl, inr}
use Rattle.std.proofs.lemmas.Result.{err_from_is_err_and}
use Rattle.rowfile.specs.Copying.{Copies, OnlyTexts}
use Rattle.rowfile.proofs.Copies.{copy_ok, copy_err, says_parts}
use Rattle.rowfile.proofs.Exact.{one_text}
use Rattle.rowfile.proofs.copier.rewrite.Goals as goal

pub returns-in_err-file : goal.returns-in_err-file
returns-in_err-file c =
    let p = err_from_is_err_and c.from_residual.result c.from_residual.ensures.1 in
    let x : Copies c.args.text.now c.args.out.now c.from_residual.result c.args.out.now = rw (p.1, p.2) (refl, inl c.in_err-file.ensures.says) in
    let z : OnlyTexts c.args.text.now c.from_residual.result = rw (p.1, p.2) (inl c.in_err-file.ensures.says) in
    record { copies = x; one_text = one_text; only_texts = z }

pub returns-in_err-write : goal.returns-in_err-write
returns-in_err-write c =
    let p = err_from_is_err_and c.from_residual-in_err-write.result c.from_residual-in_err-write.ensures.1 in
    let t = c.args.text.now in
    let k = says_parts t c.in_ok-file.file.heading c.deref.result.now _ c.deref-2.result.now _ c.deref.ensures.value c.deref-2.ensures.value c.in_ok-file.ensures.says in
    let y = copy_err t c.args.out.now c.write.new.out _ k.0 k.1 c.in_err-write.field-0.0 c.in_err-write.ensures in
    let x : Copies t c.args.out.now c.from_residual-in_err-write.result c.write.new.out = rw (p.1, p.2) y in
    let z : OnlyTexts t c.from_residual-in_err-write.result = rw (p.1, p.2) (inr (_, k.0, k.1)) in
    record { copies = x; one_text = one_text; only_texts = z }

pub returns : goal.returns
returns c =
    let t = c.args.text.now in
    let k = says_parts t c.in_ok-file.file.heading c.deref.result.now _ c.deref-2.result.now _ c.deref.ensures.value c.deref-2.ensures.value c.in_ok-file.ensures.says in
    record { copies = copy_ok t c.args.out.now c.write.new.out _ k.0 k.1 c.in_ok-write.field-0 c.in_ok-write.ensures; one_text = one_text; only_texts = (_, k.0, k.1) }
