-- Bytes cut at a mark. Assumes nothing.
use Rattle.std.proofs.Common.{◌≡◌, ℕ, zero, suc, ◌+◌, ◌-◌, min, get_or, ◌<◌, ◌≤◌, Bool, true, false, cond, eqb, List, [], ◌∷◌, ◌++◌, length, take, drop, sym, refl, ap, ◌∙◌, ⊎_elim, arith, length-append}
use Rattle.std.proofs.lemmas.List.{take_all, drop_all, drop_more, take_more, take-append-le, get_or_append_left}
use Rattle.std.proofs.Math.Seq.{drop-append_seam, take-append_seam, get_or-append_seam}
use Rattle.std.proofs.lemmas.Bool.{cases_eq, cases_lt, eqb-true, eqb-false, eq-eqb, ne_eqb, cond-true, cond-false}
use Rattle.std.specs.List.{IsFirstMatchOrLen}
use Rattle.rowfile.specs.Lines.{Bytes, First, parts, behind, grown, lines, led, parted, ended}

-- the first part ends before the first mark
pub parts_cut : (s : ℕ) (bs : Bytes) (n : ℕ) → First s bs n → parts s bs ≡ take n bs ∷ behind s (drop n bs)
parts_cut s [] zero f = refl
parts_cut s [] (suc n) f = absurd (omega (arith, f.within))
parts_cut s (c ∷ cs) zero f = cond-true (eqb c s) _ _ (eq-eqb c s (f.found (omega arith)))
parts_cut s (c ∷ cs) (suc n) f =
    let e = parts_cut s cs n (record { within = omega (arith, f.within); before = λ k l. f.before (suc k) (omega arith); found = λ l. f.found (omega arith) }) in
    cond-false (eqb c s) _ _ (ne_eqb c s (f.before 0 (omega arith))) ∙ ap (grown c) e

-- there are no more parts than bytes
grown_short : (c : ℕ) (ps : List Bytes) (n : ℕ) → length ps ≤ suc n → length (grown c ps) ≤ suc (suc n)
grown_short c [] n h = omega arith
grown_short c (p ∷ ps) n h = omega arith

parts_short : (s : ℕ) (bs : Bytes) → length (parts s bs) ≤ suc (length bs)
parts_short s [] = omega arith
parts_short s (c ∷ cs) = by (eqb c s) (parts_short s cs)
  where
    by : (b : Bool) → length (parts s cs) ≤ suc (length cs) → length (cond b ([] ∷ parts s cs) (grown c (parts s cs))) ≤ suc (suc (length cs))
    by true h = omega arith
    by false h = grown_short c (parts s cs) (length cs) h

pub behind_short : (s : ℕ) (bs : Bytes) → length (behind s bs) ≤ length bs
behind_short s [] = omega arith
behind_short s (c ∷ cs) = parts_short s cs

pub some_part : (s : ℕ) (bs : Bytes) → (p : Bytes) × (ps : List Bytes) × (parts s bs ≡ p ∷ ps)
some_part s [] = ([], [], refl)
some_part s (c ∷ cs) = by (eqb c s) (some_part s cs)
  where
    by : (b : Bool) → (p : Bytes) × (ps : List Bytes) × (parts s cs ≡ p ∷ ps) → (p : Bytes) × (ps : List Bytes) × (cond b ([] ∷ parts s cs) (grown c (parts s cs)) ≡ p ∷ ps)
    by true q = ([], parts s cs, refl)
    by false q = (c ∷ q.0, q.1, ap (grown c) q.2)

-- the parts, put together again, are the bytes
parted_step : (s c : ℕ) (cs : Bytes) → parted s (parts s cs) ≡ cs → parted s (parts s (c ∷ cs)) ≡ c ∷ cs
parted_step s c cs h = ⊎_elim mark other (cases_eq c s)
  where
    q : (p : Bytes) × (ps : List Bytes) × (parts s cs ≡ p ∷ ps)
    q = some_part s cs

    whole : q.0 ++ led s q.1 ≡ cs
    whole = ap (parted s) (sym q.2) ∙ h

    mark : c ≡ s → parted s (parts s (c ∷ cs)) ≡ c ∷ cs
    mark e = ap (parted s) (cond-true (eqb c s) _ _ (eq-eqb c s e)) ∙ (ap (led s) q.2 ∙ (ap (λ l. s ∷ l) whole ∙ ap (λ k. k ∷ cs) (sym e)))

    other : (c ≡ s → ⊥) → parted s (parts s (c ∷ cs)) ≡ c ∷ cs
    other n = ap (parted s) (cond-false (eqb c s) _ _ (ne_eqb c s n) ∙ ap (grown c) q.2) ∙ ap (λ l. c ∷ l) whole

pub parted_parts : (s : ℕ) (bs : Bytes) → parted s (parts s bs) ≡ bs
parted_parts s [] = refl
parted_parts s (c ∷ cs) = parted_step s c cs (parted_parts s cs)

-- lines ended by byte 10 are lines with an empty one behind
led_ended : (ls : List Bytes) → led 10 (ls ++ [] ∷ []) ≡ 10 ∷ ended ls
led_ended [] = refl
led_ended (l ∷ ls) = ap (λ k. 10 ∷ (l ++ k)) (led_ended ls)

parted_ended : (ls : List Bytes) → parted 10 (ls ++ [] ∷ []) ≡ ended ls
parted_ended [] = refl
parted_ended (l ∷ ls) = ap (λ k. l ++ k) (led_ended ls)

pub text_from_lines : (t : Bytes) (ls : List Bytes) → lines t ≡ ls ++ [] ∷ [] → t ≡ ended ls
text_from_lines t ls e = sym (parted_parts 10 t) ∙ (ap (parted 10) e ∙ parted_ended ls)

-- the first line, and the lines that follow it
pub next_line : (t : Bytes) (n : ℕ) → First 10 t n → n < length t → lines t ≡ take n t ∷ lines (drop (n + 1) t)
next_line t n f l = parts_cut 10 t n f ∙ ap (λ k. take n t ∷ behind 10 k) (drop_more t n 0 l)

pub last_line : (t : Bytes) (n : ℕ) → First 10 t n → n ≡ length t → lines t ≡ t ∷ []
last_line t n f e = let h : length t ≤ n = omega arith in parts_cut 10 t n f ∙ cc (take_all n t h, drop_all n t h)

-- bytes that std cut behind the first byte 10, and what follows them
module _ (t x us : Bytes) (i : ℕ) (cut : t ≡ x ++ us) (size : length x ≡ min (i + 1) (length t)) (match : IsFirstMatchOrLen (λ b. eqb b 10) t i) (some : 0 < length t) where
  first : (n : ℕ) → n ≤ length t → n ≤ i → (n < length t → n ≡ i) → First 10 t n
  first n h b f = record {
    within = h;
    before = λ k l e. absurd (eqb-false (get_or t k 0) 10 (match.0 k 0 (omega arith) (omega arith)) e);
    found = λ l. eqb-true (get_or t n 0) 10 (ap (λ k. eqb (get_or t k 0) 10) (f l) ∙ match.1 (omega (arith, f l)) 0);
  }

  last_is : get_or x (length x - 1) 0 ≡ get_or t (length x - 1) 0
  last_is = sym (ap (λ l. get_or l (length x - 1) 0) cut ∙ get_or_append_left x us 0 (length x - 1) (omega arith))

  pub ended_line : get_or x (length x - 1) 0 ≡ 10 → lines t ≡ take (length x - 1) x ∷ lines us
  ended_line e = ⊎_elim within beyond (cases_lt i (length t))
    where
      within : i < length t → lines t ≡ take (length x - 1) x ∷ lines us
      within l =
          let n : i ≡ length x - 1 = omega arith in
          let f : take i t ≡ take (length x - 1) x = ap (take i) cut ∙ (take-append-le i x us (omega arith) ∙ ap (λ k. take k x) n) in
          let b : drop (i + 1) t ≡ us = ap (drop (i + 1)) cut ∙ (ap (λ k. drop k (x ++ us)) (omega arith) ∙ drop-append_seam x us) in
          next_line t i (first i (omega arith) (omega arith) (λ k. refl)) l ∙ cc

      beyond : length t ≤ i → lines t ≡ take (length x - 1) x ∷ lines us
      beyond l = absurd (eqb-false (get_or t (length x - 1) 0) 10 (match.0 (length x - 1) 0 (omega arith) (omega arith)) (sym last_is ∙ e))

  pub unended_line : (get_or x (length x - 1) 0 ≡ 10 → ⊥) → lines t ≡ t ∷ []
  unended_line e = ⊎_elim within beyond (cases_lt i (length t))
    where
      within : i < length t → lines t ≡ t ∷ []
      within l = absurd (e (last_is ∙ (ap (λ k. get_or t k 0) (omega arith) ∙ eqb-true (get_or t i 0) 10 (match.1 l 0))))

      beyond : length t ≤ i → lines t ≡ t ∷ []
      beyond l = last_line t (length t) (first (length t) (omega arith) l (λ k. absurd (omega arith))) refl

  -- the same of what stands before the byte 10
  pub line_before_end : (b : Bytes) → x ≡ b ++ 10 ∷ [] → lines t ≡ b ∷ lines us
  line_before_end b e =
      let n : length x - 1 ≡ length b = omega (arith, ap length e, length-append b (10 ∷ [])) in
      let last : get_or x (length x - 1) 0 ≡ 10 = ap (λ k. get_or x k 0) n ∙ (ap (λ l. get_or l (length b) 0) e ∙ get_or-append_seam b 10 [] 0) in
      let front : take (length x - 1) x ≡ b = ap (λ k. take k x) n ∙ (ap (take (length b)) e ∙ take-append_seam b (10 ∷ [])) in
      ended_line last ∙ ap (λ k. k ∷ lines us) front

  pub line_without_end : ((front : Bytes) → x ≡ front ++ 10 ∷ [] → ⊥) → lines t ≡ t ∷ []
  line_without_end h =
      let n = length x - 1 in
      let whole : take (n + 1) x ≡ x = take_all (n + 1) x (omega arith) in
      unended_line (λ e. h (take n x) (sym whole ∙ (take_more x n 0 (omega arith) ∙ ap (λ k. take n x ++ k ∷ []) e)))
