-- Bytes laid one behind another. Assumes nothing.
use Rattle.std.proofs.Common.{◌≡◌, ℕ, suc, ◌+◌, ◌≤◌, [], ◌∷◌, ◌++◌, length, take, drop, set, Ok, sym, refl, ap, ◌∙◌, subst, append_assoc, add-zero, arith, length-append, length-set}
use Rattle.std.proofs.lemmas.List.{take_more_set, take-append-drop, drop-set-lt, set_past}
use Rattle.rowfile.specs.Lines.{Bytes}
use Rattle.rowfile.specs.Writing.{Appends, laid, Lays, WritesFile}
use Rattle.rowfile.specs.declared.writer.Sink.{Sink}
use Rattle.rowfile.specs.Files.{File, rowed, text_of, KeepsLines}

laid_append : (out : Bytes) (at : ℕ) (xs ys : Bytes) → laid out at (xs ++ ys) ≡ laid (laid out at xs) (at + length xs) ys
laid_append out at [] ys = ap (λ n. laid out n ys) (omega arith)
laid_append out at (x ∷ xs) ys = laid_append (set out at x) (at + 1) xs ys ∙ ap (λ n. laid (laid (set out at x) (at + 1) xs) n ys) (omega arith)

-- bytes laid behind the end change nothing
pub laid_past : (out : Bytes) (at : ℕ) (bs : Bytes) → length out ≤ at → laid out at bs ≡ out
laid_past out at [] h = refl
laid_past out at (b ∷ bs) h = ap (λ k. laid k (at + 1) bs) (set_past out at b h) ∙ laid_past out (at + 1) bs (omega arith)

pub lays_then : (out : Bytes) (at : ℕ) (xs ys mid after : Bytes) (r s : ℕ) → Lays out at xs mid r → Lays mid r ys after s → Lays out at (xs ++ ys) after s
lays_then out at xs ys mid after r s f g =
    (g.0 ∙ (ap (λ m. laid m r ys) f.0 ∙ (ap (λ n. laid (laid out at xs) n ys) f.1 ∙ sym (laid_append out at xs ys))), omega (arith, g.1, f.1, length-append xs ys))

pub appends_then : {s t u : Sink} {xs ys : Bytes} → Appends s xs t → Appends t ys u → Appends s (xs ++ ys) u
appends_then {s} {t} {u} {xs} {ys} f g = record { same = g.same ∙ f.same; lays = lays_then s.out.now s.at xs ys t.out.now u.out.now t.at u.at f.lays g.lays }

pub appends_as : {s t : Sink} {xs ys : Bytes} → xs ≡ ys → Appends s xs t → Appends s ys t
appends_as {s} {t} e h = subst (λ bs. Appends s bs t) e h

-- the bytes that are left, laid from here on, make the whole
pub record Left (s : Sink) (bs : Bytes) (start : Sink) (all : Bytes) : Type 0 where
  pub same : s.out.ghost_name ≡ start.out.ghost_name
  pub text : laid s.out.now s.at bs ≡ laid start.out.now start.at all
  pub place : s.at + length bs ≡ start.at + length all

module _ {s start : Sink} {bs all : Bytes} (h : Left s bs start all) where
  pub left_step : {t : Sink} {xs ys : Bytes} → bs ≡ xs ++ ys → Appends s xs t → Left t ys start all
  left_step {t} {xs} {ys} e f = record {
    same = f.same ∙ h.same;
    text = ap (λ m. laid m t.at ys) f.lays.0 ∙ (ap (λ n. laid (laid s.out.now s.at xs) n ys) f.lays.1 ∙ (sym (laid_append s.out.now s.at xs ys) ∙ (ap (laid s.out.now s.at) (sym e) ∙ h.text)));
    place = omega (arith, h.place, f.lays.1, length-append xs ys, ap length e);
  }

laid_within : (out : Bytes) (n : ℕ) (bs : Bytes) → n + length bs ≤ length out → laid out n bs ≡ take n out ++ (bs ++ drop (n + length bs) out)
laid_within out n [] h = sym (rw add-zero (take-append-drop n out))
laid_within out n (b ∷ bs) h =
    let s = length-set out n b in
    let i = laid_within (set out n b) (n + 1) bs (omega arith) in
    let t = take_more_set out n b (omega arith) in
    let d : drop (n + 1 + length bs) (set out n b) ≡ drop (n + suc (length bs)) out = drop-set-lt (n + 1 + length bs) out n b (omega arith) ∙ ap (λ k. drop k out) (omega arith) in
    i ∙ (ap (λ k. k ++ (bs ++ drop (n + 1 + length bs) (set out n b))) t ∙ (append_assoc (take n out) (b ∷ []) (bs ++ drop (n + 1 + length bs) (set out n b)) ∙ ap (λ k. take n out ++ (b ∷ (bs ++ k))) d))

-- bytes laid from the start, where there is room for all
pub laid_whole : (out bs : Bytes) → length bs ≤ length out → laid out 0 bs ≡ bs ++ drop (length bs) out
laid_whole out bs h = laid_within out 0 bs (omega arith) ∙ ap (λ k. bs ++ drop k out) (omega arith)

-- a file that keeps the rules, laid where its text fits
pub laid_file : (f : File) (out none after : Bytes) (n m : ℕ) (before : Bytes) → KeepsLines (rowed f) → Lays none 0 (text_of f) before n → n ≤ 32768 → n ≤ length out → Lays out 0 (text_of f) after m → WritesFile f out (Ok n) after
laid_file f out none after n m before k l short fits g =
    let e : n ≡ length (text_of f) = omega (arith, l.1) in
    ((k, omega arith), e, fits, g.0 ∙ (laid_whole out (text_of f) (omega arith) ∙ ap (λ i. text_of f ++ drop i out) (sym e)))
