use Rattle.std.proofs.Common.{◌∷◌, [], ◌+◌, ◌/◌, ◌%◌, ◌^◌, ◌<◌, length, decimal, sym, ap, ◌∙◌, subst, mod-eq_of_lt, arith, rules}
use Rattle.std.proofs.lemmas.Fmt.{decimal_digit, decimal_step, decimal_nonempty}
use Rattle.std.proofs.lemmas.List.{length_push}
use Rattle.rowfile.specs.Writing.{Appends}
use Rattle.rowfile.proofs.Laid.{appends_as, appends_then}
use Rattle.rowfile.proofs.writer.Sink.+number.Goals as goal
use Rattle.rowfile.proofs.writer.Sink.+number.Goals.{then-n-ge10, else-n-ge10}

pub number-requires : goal.number-requires
number-requires t c =
    let n = c.args.n in
    let s : n < 2 ^ 64 = omega arith in
    let e = ap length (decimal_step n c.if-n-ge10.true s) ∙ length_push (decimal (n / 10)) (48 + n % 10) in
    (search rules, omega arith)

pub bytes-requires : goal.bytes-requires
bytes-requires t c =
    let n = c.args.n in
    let s : n < 2 ^ 64 = omega arith in
    elim c.if-n-ge10.branch [
      | then-n-ge10 w ↦
          let e = ap length (decimal_step n w.if-n-ge10.true s) ∙ length_push (decimal (n / 10)) (48 + n % 10) in
          omega (arith, e, w.number.ensures.lays.1, ap (λ k. k.at) w.self-is)
      | else-n-ge10 w ↦ omega (arith, decimal_nonempty n s, ap (λ k. k.at) w.self-is)
    ]

pub returns : goal.returns
returns t c =
    let n = c.args.n in
    let s : n < 2 ^ 64 = omega arith in
    elim c.if-n-ge10.branch [
      | then-n-ge10 w ↦
          appends_as (sym (decimal_step n w.if-n-ge10.true s)) (appends_then (subst (λ k. Appends c.args.self.now (decimal (n / 10)) k) (sym w.self-is) w.number.ensures) c.bytes.ensures)
      | else-n-ge10 w ↦
          let d = ap (λ d. (48 + d) ∷ []) (mod-eq_of_lt w.if-n-ge10.false) ∙ sym (decimal_digit n w.if-n-ge10.false) in
          appends_as d (subst (λ k. Appends k ((48 + n % 10) ∷ []) c.bytes.new.self) w.self-is c.bytes.ensures)
    ]
