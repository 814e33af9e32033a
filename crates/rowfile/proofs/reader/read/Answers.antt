use Rattle.std.proofs.Common.{◌≡◌, ◌==◌, length, Err, Result, MatchResult, sym, refl, length-append, ap, subst, arith, rules}
use Rattle.std.proofs.lemmas.List.{nil_from_length}
use Rattle.std.proofs.lemmas.Fn.{always_returns_same}
use Rattle.std.proofs.lemmas.Result.{err_from_is_err_and, MatchResult-weaker}
use Rattle.rowfile.specs.Lines.{Bytes}
use Rattle.std.specs.Bool.{⊤}
use Rattle.rowfile.specs.Faults.{Unready}
use Rattle.rowfile.specs.Faults.Faulty.{too_long}
use Rattle.rowfile.specs.Reading.{Reads, Accepts, Rejects, Refuses, file_of}
use Rattle.rowfile.specs.Stepping.{said, place}
use Rattle.exchange.specs.declared.refusal.Refusal.TheVariants.{TooLong, BadForm}
use Rattle.rowfile.specs.declared.file.ReadError.{ReadError}
use Rattle.rowfile.specs.declared.file.ReadError.TheVariants.{Fault}
use Rattle.rowfile.specs.declared.file.RowFile.{RowFile}
use Rattle.rowfile.proofs.Exact.{only_file, only_fault}
use Rattle.rowfile.proofs.Parts.{line_before_end, line_without_end}
use Rattle.rowfile.proofs.Texts.{mapped, unread_so_far, before_more, refused_line, unended_line, missing_line, whole_file, stage_so_far}
use Rattle.rowfile.proofs.reader.read.Goals as goal

-- every answer that is right is the only one
verdict : (t : Bytes) (r : Result RowFile ReadError) → Reads t r → record { says : Reads t r; accepts : Accepts t r; rejects : Rejects t r }
verdict t r x = record { says = x; accepts = only_file t r x; rejects = only_fault t r x }

pub returns-then-text-gt-MAX_BYTES : goal.returns-then-text-gt-MAX_BYTES
returns-then-text-gt-MAX_BYTES c = rw c.at.ensures (verdict c.args.text.now (Err (Fault (record { line = 0; refusal = TooLong }))) (too_long c.if-text-gt-MAX_BYTES.true))

pub returns-in_default : goal.returns-in_default
returns-in_default c =
    let s = c.in-Some.ensures.steps in
    let f = (s.1.2 (λ b. b == 10) (always_returns_same _ _ _ (λ a r q k. (search rules, refl)))).1 in
    let i = c.loop-ended.invariant in
    let l = line_without_end c.loop-ended.ended-iterator.rest.now c.in-Some.ended.now c.next.new.self.rest.now s.1.0 s.0 s.1.1 f s.2 c.in_default.ensures in
    rw c.at-in_default.ensures (verdict c.args.text.now (Err (Fault (record { line = c.loop-ended.line; refusal = BadForm }))) (unended_line i.0 c.if-text-gt-MAX_BYTES.false s.2 l))

pub returns-in_err-map_err : goal.returns-in_err-map_err
returns-in_err-map_err c =
    let s = c.in-Some.ensures.steps in
    let f = (s.1.2 (λ b. b == 10) (always_returns_same _ _ _ (λ a r q k. (search rules, refl)))).1 in
    let i = c.loop-ended.invariant in
    let l = line_before_end c.loop-ended.ended-iterator.rest.now c.in-Some.ended.now c.next.new.self.rest.now s.1.0 s.0 s.1.1 f s.2 c.in-Some-without_end.bytes.now c.in-Some-without_end.ensures in
    let p = err_from_is_err_and c.from_residual.result c.from_residual.ensures.1 in
    let q : MatchResult c.map_err.result (λ x. ⊤) (Refuses c.args.text.now) = MatchResult-weaker c.map_err.result (mapped _ _ _ c.read_line.result c.map_err.result (c.read_line.ensures i.1) c.map_err.ensures.cases)
    (λ x h. tt)
    (λ z h.
    let w : z ≡ place c.loop-ended.line h.0 = search (rules, h.2) in
    rw w (refused_line i.0 c.if-text-gt-MAX_BYTES.false _ c.next.new.self.rest.now h.0 l (unread_so_far c.loop-ended.reader _ h.0 h.1))) in
    let x : Reads c.args.text.now c.from_residual.result = rw (p.1, p.2) (rw c.in_err-map_err.was at q) in
    verdict c.args.text.now c.from_residual.result x

pub loop-ended-preserved : goal.loop-ended-preserved
loop-ended-preserved c =
    let s = c.in-Some.ensures.steps in
    let f = (s.1.2 (λ b. b == 10) (always_returns_same _ _ _ (λ a r q k. (search rules, refl)))).1 in
    let i = c.loop-ended.invariant in
    let l = line_before_end c.loop-ended.ended-iterator.rest.now c.in-Some.ended.now c.next.new.self.rest.now s.1.0 s.0 s.1.1 f s.2 c.in-Some-without_end.bytes.now c.in-Some-without_end.ensures in
    let q = rw c.in_ok-map_err.was at (mapped _ _ _ c.read_line.result c.map_err.result (c.read_line.ensures i.1) c.map_err.ensures.cases) in
    let n = length-append c.in-Some.ended.now c.next.new.self.rest.now in
    (before_more i.0 _ _ (said c.read_line.new.self) l q.0, q.1, omega (arith, ap length s.0), omega (arith, ap length s.0))

pub returns : goal.returns
returns c =
    let i = c.loop-ended.invariant in
    let e = nil_from_length _ c.in-None.ensures.steps.0 in
    let q = mapped _ _ _ c.finish.result c.map_err-2.result c.finish.ensures c.map_err-2.ensures.cases in
    verdict c.args.text.now c.map_err-2.result (MatchResult-weaker c.map_err-2.result q
    (λ f h. whole_file i.0 c.if-text-gt-MAX_BYTES.false (file_of f) e h)
    (λ z h.
    let w : z ≡ Fault (record { line = c.loop-ended.line; refusal = h.0 }) = search (rules, h.2) in
    let m = missing_line i.0 c.if-text-gt-MAX_BYTES.false e (subst Unready (sym (stage_so_far _ _ _)) h.1.0) in
    rw (w, h.1.1) m))
