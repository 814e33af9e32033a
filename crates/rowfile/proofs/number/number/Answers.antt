use Rattle.std.proofs.Common.{◌≡◌, ℕ, ◌-◌, ◌<◌, List, [], ◌∷◌, length, get_or, take, drop, sym, ◌∙◌, arith, length-drop, length-take}
use Rattle.std.proofs.lemmas.List.{nil_from_length}
use Rattle.std.proofs.lemmas.Bool.{eqb-true, eqb-false, ltb-true, ltb-false}
use Rattle.std.proofs.lemmas.Fmt.{decimal_digit}
use Rattle.rowfile.proofs.Numbers.{no_lead, first_rest, valued}
use Rattle.rowfile.proofs.number.number.Goals as goal

alone : (k : ℕ) (ks : List ℕ) → k ≡ 48 → length ks ≡ 0 → k ∷ ks ≡ 48 ∷ []
alone k ks e z = let n = nil_from_length ks z in cc

pub returns-in_default : goal.returns-in_default
returns-in_default c = no_lead c.args.field.now (λ p l h. omega (arith, ltb-true, ltb-false)) (λ p e o. omega (arith, ltb-true, ltb-false))

pub returns-in-48 : goal.returns-in-48
returns-in-48 c =
    let xs = c.args.field.now in
    let p : 0 < length xs = omega (arith, ltb-true, ltb-false) in
    let z : length (take (length xs - 1) (drop 1 xs)) ≡ 0 = eqb-true _ _ (sym c.if-is_empty.ensures) in
    (omega arith, first_rest xs p ∙ (alone (get_or xs 0 0) (take (length xs - 1) (drop 1 xs)) c.in-48.is z ∙ sym (decimal_digit 0 (omega arith))))

pub returns-in-49-to-57 : goal.returns-in-49-to-57
returns-in-49-to-57 c = rw c.ok_or.ensures.value (valued _ c.args.field.now c.value.result (omega arith) c.value.ensures)

pub returns-in_default-first : goal.returns-in_default-first
returns-in_default-first c = no_lead c.args.field.now (λ p l h. omega arith) (λ p e o. eqb-false _ 0 (sym c.if-is_empty.ensures) (simp (length-take, length-drop) (omega arith)))

pub returns-in_default-first-2 : goal.returns-in_default-first-2
returns-in_default-first-2 c = no_lead c.args.field.now (λ p l h. omega arith) (λ p e o. omega arith)

pub returns-in_default-first-3 : goal.returns-in_default-first-3
returns-in_default-first-3 c = no_lead c.args.field.now (λ p l h. omega arith) (λ p e o. omega arith)
