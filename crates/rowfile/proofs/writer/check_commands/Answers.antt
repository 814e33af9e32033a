use Rattle.std.proofs.Common.{◌+◌, take, drop, get_or, sym, ap, subst, ◌∙◌, arith, rules}
use borrow.Author.Tests.{tests}
use Rattle.std.proofs.ByRecursion.{All-from_get_or}
use Rattle.std.proofs.lemmas.List.{length-take-le, get_or-take}
use Rattle.std.proofs.lemmas.Iterator.{YieldsList-from_slice, IsFirst-from_position}
use Rattle.exchange.specs.declared.refusal.Refusal.TheVariants.{NoElement}
use Rattle.rowfile.specs.Faults.{Breaks}
use Rattle.rowfile.specs.Files.{KeepsLine}
use Rattle.rowfile.specs.Writing.{line_number}
use Rattle.rowfile.specs.declared.file.Stage.TheVariants.{Commands}
use Rattle.rowfile.specs.declared.file.Command.TheVariants.{Print}
use Rattle.rowfile.proofs.Somes.{split_at}
use Rattle.rowfile.proofs.writer.check_commands.Goals as goal

pub returns-in-Some : goal.returns-in-Some
returns-in-Some c =
    let cs = c.args.commands.now in
    let i = c.in-Some.place in
    let h = IsFirst-from_position _ _ _ (λ d. Breaks (Commands c.args.heading) d NoElement) (KeepsLine (Commands c.args.heading)) c.in-Some.ensures.ran (YieldsList-from_slice cs (cc)) (λ x q k. search (rules, tests)) (λ x q k. search (rules, tests)) in
    let l = length-take-le i cs (omega arith) in
    (take i cs, get_or cs i Print, drop (i + 1) cs, split_at cs i Print h.0, All-from_get_or _ (take i cs) Print (λ k k_in. subst (KeepsLine (Commands c.args.heading)) (sym (get_or-take i cs k Print (omega arith))) (h.2 k Print (omega arith) (omega arith))), h.1 Print, c.command_line.ensures ∙ ap line_number (sym l))

pub returns-in-None : goal.returns-in-None
returns-in-None c =
    let cs = c.args.commands.now in
    let h = IsFirst-from_position _ _ _ (λ d. Breaks (Commands c.args.heading) d NoElement) (KeepsLine (Commands c.args.heading)) c.in-None.ensures.ran (YieldsList-from_slice cs (cc)) (λ x q k. search (rules, tests)) (λ x q k. search (rules, tests)) in
    All-from_get_or _ cs Print (λ k l. h k Print (omega arith) l)
