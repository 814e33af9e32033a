use Rattle.std.proofs.Common.{◌+◌, [], ◌∷◌, get_or, refl, sym, ap, ◌∙◌}
use Rattle.std.proofs.lemmas.List.{drop_more, set_past}
use Rattle.rowfile.specs.Writing.{Appends}
use Rattle.rowfile.specs.declared.writer.Sink.{Sink}
use Rattle.rowfile.proofs.Laid.{laid_past, left_step}
use Rattle.rowfile.proofs.writer.Sink.bytes.Goals as goal
use Rattle.rowfile.proofs.writer.Sink.bytes.Goals.{then-at-self, else-at-self}

pub returns-then-self : goal.returns-then-self
returns-then-self c =
    let s = c.args.self.now in
    record { same = refl; lays = (sym (laid_past s.out.now s.at c.args.bytes.now c.if-self.true), refl) }

pub loop-byte-preserved : goal.loop-byte-preserved
loop-byte-preserved c =
    let s : Sink = record { out = c.loop-byte.self.out; at = c.loop-byte.at } in
    let b = get_or c.args.bytes.now c.loop-byte.byte-index 0 in
    let t : Sink = record { out = c.if-at-self.self.out; at = c.loop-byte.at + 1 } in
    let a : Appends s (b ∷ []) t = elim c.if-at-self.branch [
      | then-at-self w ↦ record { same = ap (λ k. k.out.ghost_name) w.self-is; lays = (ap (λ k. k.out.now) w.self-is, refl) }
      | else-at-self w ↦ record { same = ap (λ k. k.out.ghost_name) w.self-is; lays = (ap (λ k. k.out.now) w.self-is ∙ sym (set_past s.out.now s.at b w.if-at-self.false), refl) }
    ] in
    left_step c.loop-byte.invariant (drop_more c.args.bytes.now c.loop-byte.byte-index 0 c.loop-byte-test.true) a
