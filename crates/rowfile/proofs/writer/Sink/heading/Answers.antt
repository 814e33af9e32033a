use Rattle.std.proofs.Common.{◌≡◌, ◌+◌, [], ◌∷◌, ap, ◌∙◌, arith, rules}
use Rattle.rowfile.specs.Files.{Small}
use Rattle.rowfile.proofs.Bounds.{numbers_short}
use Rattle.rowfile.proofs.writer.Sink.heading.Goals as goal
use Rattle.rowfile.proofs.writer.Sink.heading.Goals.{in-Left, in-Right}

pub line-requires-in-Aff : goal.line-requires-in-Aff
line-requires-in-Aff c =
    let b : c.match-heading.self.at ≡ c.args.self.now.at + 6 = elim c.match-heading.branch [ in-Left w ↦ ap (λ k. k.at) w.self-is ∙ w.bytes.ensures.lays.1 | in-Right w ↦ ap (λ k. k.at) w.self-is ∙ w.bytes-in-Right.ensures.lays.1 ] in
    let ns = c.in-Aff.m ∷ c.in-Aff.a ∷ c.in-Aff.b ∷ c.in-Aff.c ∷ c.in-Aff.d ∷ [] in
    let s : Small ns = search rules in
    omega (arith, numbers_short ns s)

pub line-requires-in-Phase : goal.line-requires-in-Phase
line-requires-in-Phase c =
    let b : c.match-heading.self.at ≡ c.args.self.now.at + 6 = elim c.match-heading.branch [ in-Left w ↦ ap (λ k. k.at) w.self-is ∙ w.bytes.ensures.lays.1 | in-Right w ↦ ap (λ k. k.at) w.self-is ∙ w.bytes-in-Right.ensures.lays.1 ] in
    let s : Small (c.in-Phase.m ∷ []) = search rules in
    omega (arith, numbers_short (c.in-Phase.m ∷ []) s)
