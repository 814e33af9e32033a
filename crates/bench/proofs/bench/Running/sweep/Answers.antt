use Rattle.std.proofs.Common.{◌≡◌, ◌≤◌, ◌++◌, length, take, drop, set, refl, ap, ◌∙◌, add-one, rules}
use native.Mathlib.Nat.{sub-zero}
use Rattle.runs.specs.Book.{code}
use Rattle.runs.specs.Calls.{granted}
use Rattle.runs.specs.Sweeps.{swept}
use Rattle.bench.specs.Bench.{code_answer}
use Rattle.bench.specs.Log.{Entries}
use Rattle.bench.proofs.Acting.{passed_up, unchanged}
use Rattle.runs.proofs.Rules.{clear_all}
use Rattle.bench.proofs.Judging.{reached, room}
use Rattle.bench.proofs.bench.Running.sweep.Goals as goal

pub returns-in_err-judge_sweep-clause-does : goal.returns-in_err-judge_sweep-clause-does
returns-in_err-judge_sweep-clause-does g c = passed_up code_answer _ c.from_residual.ensures.1 (unchanged c.in_err-judge_sweep.ensures)

pub slice_bounds-sweep_row-end : goal.slice_bounds-sweep_row-end
slice_bounds-sweep_row-end g c =
    let h : c.args.self.now.boxes ≤ length c.args.row.now = (reached _ _ _ 6 (search rules) c.in_ok-judge_sweep.ensures).0 in
    search rules

pub returns-in_err-add-clause-does : goal.returns-in_err-add-clause-does
returns-in_err-add-clause-does g c = absurd (c.in_err-add.ensures.added.0 (room _ _ _ c.in_ok-judge_sweep.ensures))

pub returns-clause-does : goal.returns-clause-does
returns-clause-does g c =
    let m = g.M.ExchangeMap.meaning c.args.map.now in
    let added = c.in_ok-add.ensures.added.1 in
    let run : (c.sweep_row-gone.new.row, c.sweep_row-gone.result) ≡ swept m c.args.carrier (take c.args.self.now.boxes c.args.row.now) = c.sweep_row-gone.ensures ∙ ap (λ n. swept m c.args.carrier (take n c.args.row.now)) (sub-zero _) in
    granted (clear_all _ c.in_ok-judge_sweep.ensures) (
      record {
        boxes_kept = refl;
        sweeps_left = add-one _;
        row_left = simp sub-zero (ap (λ p. p.0 ++ drop c.args.self.now.boxes c.args.row.now) run);
        incoming_left = ◌∙◌ {b = c.add.new.self.incoming.now} (search rules) (ap (λ (l : Entries _). l.incoming) added);
        outgoing_left = ◌∙◌ {b = c.add.new.self.outgoing.now} (search rules) (ap (λ (l : Entries _). l.outgoing) added ∙ ap (λ p. set c.args.halves.now.outgoing.now c.args.self.now.sweeps p.1) run);
      },
      ap code (c.code.ensures ∙ ap (λ p. m.elements.code p.1) run),
    )
