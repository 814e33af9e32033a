use Rattle.std.proofs.Common.{◌≡◌, List, map, length, decimal, Err, Result, ap, ◌∙◌, subst, arith}
use Rattle.std.proofs.lemmas.Slice.Eq.{text_from_reads}
use Rattle.std.proofs.lemmas.Result.{err_from_is_err_and}
use Rattle.std.proofs.lemmas.Bool.{ltb-true, ltb-false}
use Rattle.exchange.specs.declared.refusal.Refusal.{Refusal}
use Rattle.rowfile.specs.Lines.{Bytes}
use Rattle.rowfile.specs.Judging.{Misses, Named, fields_of}
use Rattle.rowfile.specs.declared.file.MapName.{MapName}
use Rattle.rowfile.specs.Files.{Small, name_word, parameters}
use Rattle.rowfile.specs.declared.file.MapName.TheVariants.{Perm, Aff, Phase}
use Rattle.rowfile.proofs.Words.{misnamed, one}
use Rattle.rowfile.proofs.lines.map_name.Goals as goal

-- a name without the numbers that belong to it
misses : (m : MapName) (w : Bytes) (fs : List Bytes) (e : Refusal) (r : Result MapName Refusal) → (x : Refusal) × (r ≡ Err x) × (x ≡ e) → w ≡ name_word m → Misses (length (parameters m)) fs e → Named w fs r
misses m w fs e r p q h = rw (p.1, p.2) (misnamed w fs m e q h)

pub returns-in_err-numbers-in-perm : goal.returns-in_err-numbers-in-perm
returns-in_err-numbers-in-perm c =
    misses Perm c.args.name.now (fields_of c.args.fields) _ _ (err_from_is_err_and c.from_residual-in_err-numbers-in-perm.result c.from_residual-in_err-numbers-in-perm.ensures.1) (text_from_reads c.args.name.now _ (omega (arith, ltb-true, ltb-false)) (omega arith, (omega arith, (omega arith, (omega arith, tt))))) c.in_err-numbers-in-perm.ensures

pub returns-in_err-m-in-aff : goal.returns-in_err-m-in-aff
returns-in_err-m-in-aff c =
    misses (Aff 0 0 0 0 0) c.args.name.now (fields_of c.args.fields) _ _ (err_from_is_err_and c.from_residual-in_err-m-in-aff.result c.from_residual-in_err-m-in-aff.ensures.1) (text_from_reads c.args.name.now _ (omega (arith, ltb-true, ltb-false)) (omega arith, (omega arith, (omega arith, tt)))) c.in_err-m-in-aff.ensures

pub returns-in_err-m-in-phase : goal.returns-in_err-m-in-phase
returns-in_err-m-in-phase c =
    misses (Phase 0) c.args.name.now (fields_of c.args.fields) _ _ (err_from_is_err_and c.from_residual-in_err-m-in-phase.result c.from_residual-in_err-m-in-phase.ensures.1) (text_from_reads c.args.name.now _ (omega (arith, ltb-true, ltb-false)) (omega arith, (omega arith, (omega arith, (omega arith, (omega arith, tt)))))) c.in_err-m-in-phase.ensures

pub returns-in_ok-m-in-phase : goal.returns-in_ok-m-in-phase
returns-in_ok-m-in-phase c =
    let h = c.in_ok-m-in-phase.ensures in
    let e = one _ h.2 in
    (text_from_reads c.args.name.now _ (omega (arith, ltb-true, ltb-false)) (omega arith, (omega arith, (omega arith, (omega arith, (omega arith, tt))))), h.0 ∙ ap (map decimal) e, subst Small e h.1)
