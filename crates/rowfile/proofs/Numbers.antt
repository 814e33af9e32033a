-- Numbers as fields write them. Assumes nothing.
use Rattle.std.proofs.Common.{◌≡◌, ℕ, ◌-◌, ◌^◌, ◌<◌, ◌≤◌, List, [], ◌∷◌, length, get_or, take, drop, decimal, Some, None, Option, sym, ap, ◌∙◌, subst, ⊎_elim, arith}
use Rattle.std.specs.Str.Parse.{AllDigits, IsNumeral, digits_value}
use Rattle.std.proofs.lemmas.List.{take_rest}
use Rattle.std.specs.Option.{SomeIff, ok_or}
use Rattle.std.proofs.lemmas.Str.Parse.{numerals_by_value, tells_digits}
use Rattle.std.proofs.lemmas.Bool.{cases_eq}
use Rattle.std.proofs.lemmas.Fmt.{decimal_is_IsNumeral, decimal-digits_value, decimal_digit, decimal_nonempty, first_decimal}
use Rattle.rowfile.specs.Lines.{Writes, ReadsNumber}

pub written_digits : (cs : List ℕ) (n : ℕ) → Writes cs n → AllDigits 10 cs
written_digits cs n w = rw w.1 ((decimal_is_IsNumeral n (omega arith)).0.1)

-- digits behind a first that is not 0 are the number of their value
pub valued : {E : Type 0} (e : E) (cs : List ℕ) (r : Option ℕ) → 49 ≤ get_or cs 0 0 → SomeIff r (IsNumeral 10 cs × (digits_value 10 cs ≤ 4294967295)) (digits_value 10 cs) → ReadsNumber cs (ok_or r e)
valued e cs (Some n) l h =
    (omega arith, sym (ap decimal h.1 ∙ decimal-digits_value (numerals_by_value _ tells_digits) cs h.0.0.1 h.0.0.0 (λ z. absurd (omega arith)) (omega arith)))
valued e cs None l h = λ n w. let d = decimal_is_IsNumeral n (omega arith) in let q = rw (← w.1) at d in h (q.0, omega arith)

-- no field, a first byte that is no digit, or a 0 with more behind it
pub no_lead : (cs : List ℕ) → (0 < length cs → 49 ≤ get_or cs 0 0 → get_or cs 0 0 ≤ 57 → ⊥) → (0 < length cs → get_or cs 0 0 ≡ 48 → length cs ≡ 1 → ⊥) → (n : ℕ) → Writes cs n → ⊥
no_lead [] k z n w = let s : n < 2 ^ 64 = omega arith in omega (arith, decimal_nonempty n s, ap length w.1)
no_lead (c ∷ cs) k z n w = ⊎_elim zero_case some_case (cases_eq n 0)
  where
    some_case : (n ≡ 0 → ⊥) → ⊥
    some_case e =
        let s : n < 2 ^ 64 = omega arith in
        let p : 0 < n = omega arith in
        let f = subst (λ l. 48 < get_or l 0 0) (sym w.1) (first_decimal n p s) in
        let d = tells_digits.parts c cs (written_digits (c ∷ cs) n w) in
        k (omega arith) f d.0.1

    zero_case : n ≡ 0 → ⊥
    zero_case e =
        let q : c ∷ cs ≡ 48 ∷ [] = w.1 ∙ (ap decimal e ∙ decimal_digit 0 (omega arith)) in
        let q0 : c ≡ 48 = cc in
        z (omega arith) q0 (ap length q)

-- a list as its first element and the rest
pub first_rest : (cs : List ℕ) → 0 < length cs → cs ≡ get_or cs 0 0 ∷ take (length cs - 1) (drop 1 cs)
first_rest [] h = absurd (omega arith)
first_rest (c ∷ cs) h = ap (λ l. c ∷ l) (sym (take_rest (c ∷ cs) 1))
