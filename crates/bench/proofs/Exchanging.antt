-- An exchange in the memory of a log. Assumes nothing.
use Rattle.std.proofs.Common.{◌≡◌, ℕ, zero, suc, ◌+◌, ◌<◌, ◌≤◌, List, [], ◌∷◌, ◌++◌, length, get_or, take, drop, set, sym, ap, ◌∙◌, add-one, arith, take-append-drop, length-take-le}
use Rattle.std.proofs.lemmas.List.{get_or_append_left, get_or_default, get_or_read}
use Rattle.std.proofs.lemmas.Grind.{common_steps}
use Rattle.exchange.specs.Meaning.{Exchange, Meaning}
use Rattle.runs.specs.Sweeps.{at}
use Rattle.runs.specs.Exchanges.{exchanged}
use Rattle.runs.proofs.Places.{exchanged_set, length_exchanged}

module _ {E : Type 0} (f : Exchange E) where
  -- it takes two writes
  pub two_writes : (i : ℕ) (xs : List E) (d e : E) (p : E × E) → i + 1 < length xs → p ≡ f (get_or xs (i + 1) d) (get_or xs i e) → set (set xs i p.1) (i + 1) p.0 ≡ exchanged f i xs
  two_writes i xs d e p h q =
      let h' : suc i < length xs = omega arith in
      let r : p ≡ f (get_or xs (suc i) d) (get_or xs i d) = (rw add-one at q) ∙ ap (f (get_or xs (suc i) d)) (get_or_default xs i e d (omega arith)) in
      rw add-one (ap (λ (s : E × E). set (set xs i s.1) (suc i) s.0) r ∙ sym (exchanged_set f i xs d h'))

  -- below a count, with the rest kept, it is that of the whole
  pub below_count : (n i : ℕ) (xs : List E) → suc i < n → n ≤ length xs → exchanged f i (take n xs) ++ drop n xs ≡ exchanged f i xs
  below_count zero i xs h k = absurd (omega arith)
  below_count (suc n) i [] h k = absurd (omega arith)
  below_count (suc zero) zero (x ∷ xs) h k = absurd (omega arith)
  below_count (suc (suc n)) zero (x ∷ []) h k = absurd (omega arith)
  below_count (suc (suc n)) zero (x ∷ y ∷ zs) h k = ap (λ (l : List E). (f y x).1 ∷ (f y x).0 ∷ l) (take-append-drop n zs)
  below_count (suc n) (suc i) (x ∷ xs) h k = ap (λ (l : List E). x ∷ l) (below_count n i xs (omega arith) (omega arith))

  pub read_below : (m : Meaning E) (n i j : ℕ) (xs : List E) (x : E) → suc i < n → n ≤ length xs → j < n → x ≡ get_or (exchanged f i xs) j x → x ≡ at m (exchanged f i (take n xs)) j
  read_below m n i j xs x h k l e =
      let ys = exchanged f i (take n xs) in
      let long : length ys ≡ n = length_exchanged f i (take n xs) ∙ length-take-le n xs k in
      let whole : length (exchanged f i xs) ≡ length xs = length_exchanged f i xs in
      get_or_read (exchanged f i xs) j x (omega arith) e m.elements.rest
      ∙ (ap (λ (zs : List E). get_or zs j m.elements.rest) (sym (below_count n i xs h k))
      ∙ get_or_append_left ys (drop n xs) m.elements.rest j (omega arith))

-- what stands at two neighbouring places after two writes
pub two_reads : {E : Type 0} (i : ℕ) (xs : List E) (x y : E) (zs : List E) → i + 1 < length xs → zs ≡ set (set xs i x) (i + 1) y → (x ≡ get_or zs i x) × (y ≡ get_or zs (i + 1) y)
two_reads i xs x y zs h e = rw e (grind (arith, common_steps), grind (arith, common_steps))
