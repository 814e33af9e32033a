-- A row filled with the elements of codes, put after put. Assumes nothing.
use Rattle.std.proofs.Common.{◌≡◌, ℕ, zero, suc, ◌+◌, ◌<◌, ◌≤◌, T, List, [], ◌∷◌, ◌++◌, map, length, get_or, take, drop, set, Ok, Err, Result, sym, refl, ap, ◌∙◌, subst, ap₂, ⊎_elim, le_of_suc-le-suc, not-suc-le-zero, add-one, arith}
use Rattle.std.proofs.lemmas.List.{append-nil, drop_all, take_all}
use Rattle.std.proofs.ByRecursion.{All-get_or}
use Rattle.exchange.specs.Meaning.{Meaning}
use Rattle.exchange.specs.Laws.{Lawful}
use Rattle.exchange.specs.declared.refusal.Refusal.{Refusal}
use Rattle.bench.specs.Bench.{Put, Room}
use Rattle.bench.specs.declared.bench.Filling.{Filling}
use Rattle.session.specs.Playing.{Fills, Rowed}

-- a put that finds room for an element is granted
granted : {E U : Type 0} (m : Meaning E) (x : E) (b : Filling) (row : List E) (r : Result U Refusal) (b' : Filling) (row' : List E) → Room b row → T (m.elements.belongs x) → Put m x b row r b' row' → (b'.boxes ≡ b.boxes + 1) × (row' ≡ set row b.boxes x)
granted m x b row (Ok u) b' row' room t p = (p.2, p.3)
granted m x b row (Err e) b' row' room t p = ⊎_elim (λ q. absurd (q.0 room)) (λ q. absurd (subst T q.1 t)) p.0

-- the first i places hold the elements of the first i codes
pub filled : {E : Type 0} → (ℕ → E) → ℕ → List ℕ → List E → List E
filled f i codes row = map f (take i codes) ++ drop i row

-- one place more
filled_next : {E : Type 0} (f : ℕ → E) (i d : ℕ) (codes : List ℕ) (row : List E) → i < length codes → length row ≡ length codes → set (filled f i codes row) i (f (get_or codes i d)) ≡ filled f (suc i) codes row
unfolding filled
filled_next f i d [] row h e = absurd (not-suc-le-zero h)
filled_next f zero d (c ∷ codes) [] h e = let z : ◌≡◌ {A = ℕ} 0 1 = cc in absurd (omega arith)
filled_next f zero d (c ∷ codes) (x ∷ row) h e = refl
filled_next f (suc i) d (c ∷ codes) [] h e = let z : ◌≡◌ {A = ℕ} 0 1 = cc in absurd (omega arith)
filled_next f (suc i) d (c ∷ codes) (x ∷ row) h e = ap (λ (l : List _). f c ∷ l) (filled_next f i d codes row (le_of_suc-le-suc h) (omega arith))

-- the bench has taken the first i codes
abbrev pub Filled : {E : Type 0} → Meaning E → List ℕ → ℕ → List E → Filling → List E → Type 0
Filled m codes i row₀ b row = Rowed m codes → length row₀ ≡ length codes → (b.boxes ≡ i) × (row ≡ filled m.elements.element i codes row₀)

module _ {E : Type 0} (m : Meaning E) (codes : List ℕ) (row₀ : List E) where
  pub filled_none : (b : Filling) → b.boxes ≡ 0 → Filled m codes 0 row₀ b row₀
  unfolding filled
  filled_none b e r k = (e, refl)

  pub filled_all : (i : ℕ) (b : Filling) (row : List E) → length codes ≤ i → i ≤ length codes → Filled m codes i row₀ b row → Fills m codes row₀ b row
  unfolding filled
  filled_all i b row h h' f r k =
      let p = f r k in
      (omega (arith, p.0), p.1 ∙ (ap₂ (λ (ns : List ℕ) (ys : List E). map m.elements.element ns ++ ys) (take_all i codes h) (drop_all i row₀ (omega arith)) ∙ append-nil _))

pub filled_more : {E U : Type 0} {m : Meaning E} (l : Lawful m) (codes : List ℕ) (row₀ : List E) (i d : ℕ) (x : E) (b : Filling) (row : List E) (r : Result U Refusal) (b' : Filling) (row' : List E) → i < length codes → length row ≡ length row₀ → Filled m codes i row₀ b row → x ≡ m.elements.element (get_or codes i d) → Put m x b row r b' row' → Filled m codes (i + 1) row₀ b' row'
filled_more {m = m} l codes row₀ i d x b row r b' row' h long f e put rowed k =
    let p = f rowed k in
    let belongs = subst (λ y. T (m.elements.belongs y)) (sym e) (l.numbered.element_belongs (get_or codes i d) (All-get_or (λ n. T (m.elements.codes n)) codes i d h rowed.0)) in
    let q = granted m x b row r b' row' (omega (arith, p.0, rowed.1), omega (arith, p.0)) belongs put in
    let f' = m.elements.element in (
      q.0 ∙ ap (λ (n : ℕ). n + 1) p.0,
      q.1 ∙ (ap₂ (λ (ys : List _) (n : ℕ). set ys n x) p.1 p.0 ∙ (ap (set (filled f' i codes row₀) i) e ∙ (filled_next f' i d codes row₀ h k ∙ ap (λ (n : ℕ). filled f' n codes row₀) (sym (add-one i))))),
    )
