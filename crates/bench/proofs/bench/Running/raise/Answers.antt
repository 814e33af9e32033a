use Rattle.std.proofs.Common.{refl, ◌∙◌, arith, rules}
use Rattle.runs.specs.Calls.{granted}
use Rattle.runs.proofs.Rules.{clear_all}
use Rattle.bench.specs.Bench.{done_answer}
use Rattle.bench.proofs.Acting.{passed_up, unchanged}
use Rattle.bench.proofs.Climbing.{newest_within, raises}
use Rattle.bench.proofs.bench.Running.raise.Goals as goal

pub returns-in_err-place-clause-does : goal.returns-in_err-place-clause-does
returns-in_err-place-clause-does g c = passed_up done_answer _ c.from_residual.ensures.1 (unchanged c.in_err-place.ensures.judged)

pub climb_entries-requires : goal.climb_entries-requires
climb_entries-requires g c =
    let p = c.in_ok-place.ensures.place in
    let w = newest_within _ _ _ _ _ p.0.2 p.1 in
    (omega arith, p.0.2, omega arith)

pub returns-clause-does : goal.returns-clause-does
returns-clause-does g c =
    let p = c.in_ok-place.ensures.place in
    let up = c.in_ok-climb_entries.ensures.climbed in
    granted (clear_all _ c.in_ok-place.ensures.judged) (
      record {
        moves = _;
        raises = raises _ _ _ _ _ p.0.2 p.1;
        incoming' = up.1.list;
        outgoing' = up.2.list;
        incoming_turned = up.1.turned;
        outgoing_turned = up.2.turned;
        leaves = record {
          boxes_kept = refl;
          sweeps_left = refl;
          row_left = refl;
          incoming_left = ◌∙◌ {b = c.climb_entries.new.log.incoming.now} (search rules) up.1.kept;
          outgoing_left = ◌∙◌ {b = c.climb_entries.new.log.outgoing.now} (search rules) up.2.kept;
        };
      },
      refl,
    )
