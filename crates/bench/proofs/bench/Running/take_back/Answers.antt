use Rattle.std.proofs.Common.{◌≤◌, T, List, ◌++◌, length, drop, refl, ap, ◌∙◌, subst, arith, take-append-drop, rules}
use native.Mathlib.Nat.{sub-zero}
use Rattle.runs.specs.Book.{code, wrong_carrier}
use Rattle.runs.specs.Calls.{granted, turned_away}
use Rattle.runs.proofs.Rules.{clear_all}
use Rattle.bench.specs.Bench.{code_answer}
use Rattle.bench.proofs.Acting.{passed_up, unchanged}
use Rattle.bench.proofs.Judging.{nothing_astray, reached, same_carrier, some_entry}
use Rattle.bench.proofs.Reading.{newest_removed}
use Rattle.bench.proofs.bench.Running.take_back.Goals as goal

pub returns-in_err-judge_take_back-clause-does : goal.returns-in_err-judge_take_back-clause-does
returns-in_err-judge_take_back-clause-does g c = passed_up code_answer _ c.from_residual.ensures.1 (unchanged c.in_err-judge_take_back.ensures)

pub returns-in_err-came-clause-does : goal.returns-in_err-came-clause-does
returns-in_err-came-clause-does g c =
    let e = some_entry _ _ c.in_ok-judge_take_back.ensures in
    absurd (c.in_err-came.ensures.removed.0 (e.0, (omega arith, omega arith)))

pub slice_bounds-recover-end : goal.slice_bounds-recover-end
slice_bounds-recover-end g c =
    let h : c.args.self.now.boxes ≤ length c.args.row.now = (reached _ _ _ 5 (search rules) c.in_ok-judge_take_back.ensures).0 in
    search rules

pub recover-requires : goal.recover-requires
recover-requires g c =
    let clear = c.in_ok-judge_take_back.ensures in
    let e = some_entry _ _ clear in
    let b = nothing_astray _ _ _ 5 (omega arith) clear in
    let removed = newest_removed (g.M.ExchangeMap.meaning c.args.map.now) _ _ _ e.1 e.2 c.in_ok-came.ensures.removed in
    (subst (λ x. T ((g.M.ExchangeMap.meaning c.args.map.now).elements.belongs x)) removed.1 b.1.0, simp sub-zero b.1.1)

pub returns-in_err-code-clause-does : goal.returns-in_err-code-clause-does
returns-in_err-code-clause-does g c =
    let clear = c.in_ok-judge_take_back.ensures in
    let e = some_entry _ _ clear in
    let removed = newest_removed (g.M.ExchangeMap.meaning c.args.map.now) _ _ _ e.1 e.2 c.in_ok-came.ensures.removed in
    let wrong = simp sub-zero at c.in_err-code.ensures in
    passed_up code_answer _ c.from_residual-in_err-code.ensures.1 (rw wrong.1
    (turned_away (wrong_carrier (rw (removed.0, removed.1) wrong.0), clear)
    (record {
      boxes_kept = refl;
      sweeps_left = refl;
      row_left = simp sub-zero (ap (λ (l : List _). l ++ drop c.args.self.now.boxes c.args.row.now) wrong.2 ∙ take-append-drop c.args.self.now.boxes c.args.row.now);
      incoming_left = ◌∙◌ {b = c.remove_newest.new.self.incoming.now} (search rules) removed.2;
      outgoing_left = ◌∙◌ {b = c.remove_newest.new.self.outgoing.now} (search rules) removed.3;
    }) refl))

pub returns-clause-does : goal.returns-clause-does
returns-clause-does g c =
    let clear = c.in_ok-judge_take_back.ensures in
    let e = some_entry _ _ clear in
    let removed = newest_removed (g.M.ExchangeMap.meaning c.args.map.now) _ _ _ e.1 e.2 c.in_ok-came.ensures.removed in
    let right = simp sub-zero at c.in_ok-code.ensures in
    granted (clear_all _ (same_carrier _ _ clear (rw (removed.0, removed.1) right.0)))
    (rw removed.1 (
      record {
        boxes_kept = refl;
        sweeps_left = refl;
        row_left = simp sub-zero (ap (λ (l : List _). l ++ drop c.args.self.now.boxes c.args.row.now) right.2);
        incoming_left = ◌∙◌ {b = c.remove_newest.new.self.incoming.now} (search rules) removed.2;
        outgoing_left = ◌∙◌ {b = c.remove_newest.new.self.outgoing.now} (search rules) removed.3;
      },
      ap code right.1,
    ))
