use Rattle.std.proofs.Common.{sym}
use native.Mathlib.Nat.{sub-zero}
use Rattle.runs.specs.Book.{log_full, no_element, stray}
use Rattle.bench.proofs.Judging.{an_element, not_full, nothing_stray, reaching}
use Rattle.bench.proofs.bench.Running.judge_sweep.Goals as goal

pub returns-then-self-halves : goal.returns-then-self-halves
returns-then-self-halves g c = (log_full c.if-self-halves.true, reaching _ _ _ c.in_ok-judge_memory.ensures.enough)

pub returns-then-not-all_belong : goal.returns-then-not-all_belong
returns-then-not-all_belong g c = (stray (simp sub-zero at c.if-not-all_belong.ensures.1), not_full _ _ _ c.in_ok-judge_memory.ensures.enough c.if-self-halves.false)

pub returns-then-not-belongs : goal.returns-then-not-belongs
returns-then-not-belongs g c = (
  no_element (sym c.if-not-belongs.ensures),
  nothing_stray _ _ _ (not_full _ _ _ c.in_ok-judge_memory.ensures.enough c.if-self-halves.false) (simp sub-zero at (c.if-not-all_belong.ensures.0 tt)),
)

pub returns : goal.returns
returns g c =
    an_element _ _ _
    (nothing_stray _ _ _ (not_full _ _ _ c.in_ok-judge_memory.ensures.enough c.if-self-halves.false) (simp sub-zero at (c.if-not-all_belong.ensures.0 tt)))
    (sym c.if-not-belongs.ensures)
