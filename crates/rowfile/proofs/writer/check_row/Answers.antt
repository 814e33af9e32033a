use Rattle.std.proofs.Common.{◌≡◌, ◌^◌, ◌<◌, false, T, refl, inr, arith, rules}
use borrow.Author.Tests.{tests}
use Rattle.std.proofs.ByRecursion.{All-from_get_or}
use Rattle.std.proofs.lemmas.Iterator.{YieldsList-from_slice, cases_from_all}
use Rattle.rowfile.specs.Headings.{has_code}
use Rattle.rowfile.proofs.Somes.{some_index}
use Rattle.rowfile.proofs.writer.check_row.Goals as goal

pub returns-then-not-all : goal.returns-then-not-all
returns-then-not-all c =
    let h = cases_from_all _ _ _ (λ n. T (has_code c.args.heading.map n)) (λ n. has_code c.args.heading.map n ≡ false) c.if-not-all.ensures.ran (YieldsList-from_slice c.args.codes.now (cc)) (λ x q k. search (rules, tests)) (λ x q k. search (rules, tests)) in
    inr (refl, omega arith, some_index _ c.args.codes.now h.0 0 h.1 (h.2 0))

pub returns : goal.returns
returns c =
    let ns = c.args.codes.now in
    let h = cases_from_all _ _ _ (λ n. T (has_code c.args.heading.map n)) (λ n. has_code c.args.heading.map n ≡ false) c.if-not-all.ensures.ran (YieldsList-from_slice c.args.codes.now (cc)) (λ x q k. search (rules, tests)) (λ x q k. search (rules, tests)) in
    (All-from_get_or (λ n. n < 2 ^ 32) ns 0 (λ i l. (c.type_inv.codes i).fits), (omega arith, All-from_get_or _ ns 0 (λ i l. h i 0 (omega arith) l)))
