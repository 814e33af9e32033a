-- One more line of a text. Assumes nothing.
use Rattle.std.proofs.Common.{◌≡◌, ℕ, suc, ◌+◌, ◌<◌, ◌≤◌, List, [], ◌∷◌, ◌++◌, map, length, Ok, Err, vec_items, Result, sym, refl, ap, ◌∙◌, subst, append_assoc, arith}
use Rattle.std.specs.Result.{MatchResult, IsErrAnd}
use Rattle.std.proofs.ByRecursion.{All-push}
use Rattle.std.proofs.lemmas.List.{map_push, length_push}
use Rattle.exchange.specs.declared.refusal.Refusal.{Refusal}
use Rattle.exchange.specs.declared.refusal.Refusal.TheVariants.{BadForm}
use Rattle.rowfile.specs.Lines.{Bytes, lines, fields, line_of}
use Rattle.rowfile.specs.Files.{File, Said, nothing, headed, rowed, stage_of, written, lines_of, text_of, KeepsLine, KeepsLines, Keeps}
use Rattle.rowfile.specs.Faults.{Bad, Faulty, Unready}
use Rattle.rowfile.specs.Judging.{Unread}
use Rattle.rowfile.specs.Faults.Bad.{missing, unended, faulty}
use Rattle.rowfile.specs.Faults.Faulty.{at_line}
use Rattle.rowfile.specs.Reading.{Refuses}
use Rattle.rowfile.specs.Stepping.{Follows, place, said, so_far}
use Rattle.rowfile.specs.declared.file.Command.{Command}
use Rattle.rowfile.specs.declared.file.Stage.{Stage}
use Rattle.rowfile.specs.declared.lines.LineError.{LineError}
use Rattle.rowfile.specs.declared.lines.LineError.TheVariants.{Refused, Memory}
use Rattle.rowfile.specs.declared.reader.Reader.{Reader}
use Rattle.rowfile.specs.declared.file.Stage.TheVariants.{Map, Row, Commands}
use Rattle.rowfile.proofs.Parts.{some_part, parted_parts, text_from_lines}

pub follows_lines : (s : Said) (fs : List Bytes) (t : Said) → Follows s fs t → lines_of t ≡ lines_of s ++ fs ∷ []
follows_lines nothing fs t p = ap lines_of p.3 ∙ ap (λ l. l ∷ []) (sym p.1)
follows_lines (headed h) fs t p = ap lines_of p.3 ∙ ap (λ l. written Map h ∷ l ∷ []) (sym p.1)
follows_lines (rowed f) fs t p =
    let h = f.heading in
    ap lines_of p.3
    ∙ (ap (λ l. written Map h ∷ written (Row h) f.codes ∷ l) (map_push (written (Commands h)) f.commands p.0)
    ∙ ap (λ l. written Map h ∷ written (Row h) f.codes ∷ (map (written (Commands h)) f.commands ++ l ∷ [])) (sym p.1))

pub follows_keeps : (s : Said) (fs : List Bytes) (t : Said) → Follows s fs t → KeepsLines s → KeepsLines t
follows_keeps nothing fs t p k = subst KeepsLines (sym p.3) p.2
follows_keeps (headed h) fs t p k = subst KeepsLines (sym p.3) (k, p.2, tt)
follows_keeps (rowed f) fs t p k =
    subst KeepsLines (sym p.3) (k.0, k.1, All-push (KeepsLine (Commands f.heading)) f.commands p.0 k.2 p.2)

pub stage_so_far : (st : Stage) (ns : List ℕ) (cs : List Command) → stage_of (so_far st ns cs) ≡ st
stage_so_far Map ns cs = refl
stage_so_far (Row h) ns cs = refl
stage_so_far (Commands h) ns cs = refl

-- an error that `map_err` has passed on
pub mapped : {X E F : Type 0} (P : X → Type 0) (Q : E → Type 0) (R : E → F → Type 0) (r : Result X E) (out : Result X F) → MatchResult r P Q → MatchResult r (λ x. out ≡ Ok x) (λ e. IsErrAnd out (R e)) → MatchResult out P (λ z. (e : E) × Q e × R e z)
mapped P Q R (Ok x) (Ok y) p m = let e : x ≡ y = cc in subst P e p
mapped P Q R (Ok x) (Err z) p m = let w : ◌≡◌ {A = ℕ} 0 1 = cc in absurd (omega arith)
mapped P Q R (Err e) (Ok y) q m = absurd m
mapped P Q R (Err e) (Err z) q m = (e, q, m)

-- what a line is refused for, at the stage that has been reached
pub unread_so_far : (r : Reader) (fs : List Bytes) (e : LineError) → Unread r.stage fs e → Unread (stage_of (said r)) fs e
unread_so_far r fs e h = subst (λ st. Unread st fs e) (sym (stage_so_far r.stage (vec_items r.codes) (vec_items r.commands))) h

-- what the text t says before `rest`, of which the line n is the next
pub record Before (t : Bytes) (s : Said) (rest : Bytes) (n : ℕ) : Type 0 where
  pub front : lines t ≡ map line_of (lines_of s) ++ lines rest
  pub kept : KeepsLines s
  pub count : n ≡ suc (length (lines_of s))

unended_bad : (s : Stage) (b : Bytes) → 0 < length b → Bad s (b ∷ []) BadForm
unended_bad s [] l = absurd (omega arith)
unended_bad s (c ∷ cs) l = unended c cs

module _ {t : Bytes} {s : Said} {rest : Bytes} {n : ℕ} (h : Before t s rest n) where
  pub before_more : (b us : Bytes) (u : Said) → lines rest ≡ b ∷ lines us → Follows s (fields b) u → Before t u us (n + 1)
  before_more b us u e f = record {
    front = h.front ∙ ap (λ l. map line_of (lines_of s) ++ l) e ∙ (sym (append_assoc (map line_of (lines_of s)) (b ∷ []) (lines us))
        ∙ ap (λ l. l ++ lines us) (ap (λ k. map line_of (lines_of s) ++ k ∷ []) (sym (parted_parts 9 b)) ∙ (sym (map_push line_of (lines_of s) (fields b)) ∙ ap (map line_of) (sym (follows_lines s (fields b) u f)))));
    kept = follows_keeps s (fields b) u f h.kept;
    count = omega (arith, h.count, length_push (lines_of s) (fields b), ap length (follows_lines s (fields b) u f));
  }

  module _ (short : length t ≤ 32768) where
    stops : (ls : List Bytes) (r : Refusal) → lines rest ≡ ls → Bad (stage_of s) ls r → Faulty t n r
    stops ls r e b = at_line s ls short (h.front ∙ ap (λ k. map line_of (lines_of s) ++ k) e) h.kept h.count b

    pub unended_line : 0 < length rest → lines rest ≡ rest ∷ [] → Faulty t n BadForm
    unended_line l e = stops (rest ∷ []) BadForm e (unended_bad (stage_of s) rest l)

    pub refused_line : (b us : Bytes) (e : LineError) → lines rest ≡ b ∷ lines us → Unread (stage_of s) (fields b) e → Refuses t (place n e)
    refused_line b us (Refused r) e g = let q = some_part 10 us in stops (b ∷ q.0 ∷ q.1) r (e ∙ ap (λ k. b ∷ k) q.2) (faulty b q.0 q.1 g)
    refused_line b us Memory e g = tt

    pub missing_line : rest ≡ [] → Unready (stage_of s) → Faulty t n BadForm
    missing_line e u = stops ([] ∷ []) BadForm (ap lines e) (missing u)

    pub whole_file : (f : File) → rest ≡ [] → s ≡ rowed f → Keeps f × (t ≡ text_of f)
    whole_file f e r =
        let w : t ≡ text_of f = text_from_lines t (map line_of (lines_of (rowed f))) (h.front ∙ (ap (λ k. map line_of (lines_of s) ++ lines k) e ∙ ap (λ k. map line_of (lines_of k) ++ [] ∷ []) r)) in
        ((subst KeepsLines r h.kept, subst (λ k. length k ≤ 32768) w short), w)
