use Rattle.std.proofs.Common.{◌≡◌, length, sym, refl, ap, arith}
use Rattle.std.proofs.lemmas.Result.{err_from_is_err_and}
use Rattle.exchange.specs.declared.refusal.Refusal.TheVariants.{BadForm}
use Rattle.rowfile.specs.Faults.Ground.{no_rule}
use Rattle.rowfile.proofs.Words.{heading_short, heading_sideless, heading_misnamed}
use Rattle.rowfile.proofs.lines.heading.Goals as goal

pub returns-in_err-ok_or : goal.returns-in_err-ok_or
returns-in_err-ok_or c =
    let p = err_from_is_err_and c.from_residual.result c.from_residual.ensures.1 in
    let h = c.in_err-ok_or.ensures in
    let v = rw h.ok_part at h.value in
    let r : c.in_err-ok_or.field-0.0 ≡ BadForm = cc in
    let s = rw h.ok_part at c.next.ensures.steps in
    rw (p.1, p.2, r) (heading_short _ (omega (arith, ap length s.0)))

pub returns-in_err-side : goal.returns-in_err-side
returns-in_err-side c =
    let p = err_from_is_err_and c.from_residual-in_err-side.result c.from_residual-in_err-side.ensures.1 in
    let s = rw c.in_ok-ok_or.ensures.ok_part at c.next.ensures.steps in
    let h = c.in_err-side.ensures in
    rw (p.1, p.2, h.0, s) (heading_sideless _ _ h.1)

pub returns-in_err-name : goal.returns-in_err-name
returns-in_err-name c =
    let p = err_from_is_err_and c.from_residual-in_err-name.result c.from_residual-in_err-name.ensures.1 in
    let h = c.in_err-name.ensures in
    let v = rw h.ok_part at h.value in
    let r : c.in_err-name.field-0.0 ≡ BadForm = cc in
    let s = rw c.in_ok-ok_or.ensures.ok_part at c.next.ensures.steps in
    let t = rw h.ok_part at c.next-2.ensures.steps in
    rw (p.1, p.2, r) (heading_short _ (omega (arith, ap length s, ap length t.0)))

pub returns-in_err-map : goal.returns-in_err-map
returns-in_err-map c =
    let p = err_from_is_err_and c.from_residual-in_err-map.result c.from_residual-in_err-map.ensures.1 in
    let s = rw c.in_ok-ok_or.ensures.ok_part at c.next.ensures.steps in
    let t = rw c.in_ok-name.ensures.ok_part at c.next-2.ensures.steps in
    rw (p.1, p.2, s, t) (heading_misnamed c.in_ok-side.side _ _ _ _ c.in_ok-side.ensures c.in_err-map.ensures)

pub returns-then-not-parameters_hold : goal.returns-then-not-parameters_hold
returns-then-not-parameters_hold c =
    let h = c.in_ok-map.ensures in
    let w = c.in_ok-side.ensures in
    let s = rw c.in_ok-ok_or.ensures.ok_part at c.next.ensures.steps in
    let t = rw c.in_ok-name.ensures.ok_part at c.next-2.ensures.steps in
    no_rule (record { side = c.in_ok-side.side; map = c.in_ok-map.map }) (cc (s, t, h.0, h.1, w)) h.2 (refl, sym c.if-not-parameters_hold.ensures)
