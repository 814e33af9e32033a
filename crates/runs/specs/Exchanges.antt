-- Exchanges of neighbours in a list of carriers, the oldest first. Assumes nothing.
use Rattle.std.specs.Prelude.{◌≡◌, ℕ, zero, suc, ◌<◌, List, [], ◌∷◌, ◌++◌, length}
use Rattle.exchange.specs.Meaning.{Exchange, Meaning}

-- an exchange crosses its two carriers, an exchange back uncrosses them
pub data Way : Type 0 where
  forth : Way
  back : Way

abbrev pub by : {E : Type 0} → Meaning E → Way → Exchange E
by m forth = m.cross
by m back = m.uncross

-- the carrier at i + 1 is the left one and the carrier at i the right one; a list without the place i + 1 stays as it is
abbrev pub exchanged : {E : Type 0} → Exchange E → ℕ → List E → List E
exchanged f i [] = []
exchanged f zero (x ∷ []) = x ∷ []
exchanged f zero (x ∷ y ∷ zs) = (f y x).1 ∷ (f y x).0 ∷ zs
exchanged f (suc i) (x ∷ xs) = x ∷ exchanged f i xs

-- an exchange or an exchange back, and its place
abbrev pub Move : Type 0
Move = Way × ℕ

-- these moves, done in turn, each at a place whose next place is in the list, turn one list into the other
abbrev pub Turns : {E : Type 0} → Meaning E → List Move → List E → List E → Type 0
Turns m [] xs ys = xs ≡ ys
Turns m (move ∷ moves) xs ys = (suc move.1 < length xs) × Turns m moves (exchanged (by m move.0) move.1 xs) ys

-- n exchanges, at i, i + 1 and so on
abbrev pub climb : ℕ → ℕ → List Move
climb i zero = []
climb i (suc n) = (forth, i) ∷ climb (suc i) n

-- no carrier of the list has the kind k
abbrev pub Lacks : {E : Type 0} → Meaning E → ℕ → List E → Type 0
Lacks m k [] = Unit {0}
Lacks m k (x ∷ xs) = (¬ (m.elements.kind x ≡ k)) × Lacks m k xs

-- the moves that carry the newest carrier of the kind k to the last place
pub record Raises {E : Type 0} (m : Meaning E) (k : ℕ) (xs : List E) (moves : List Move) : Type 0 where
  pub front : List E
  pub raised : E
  pub later : List E
  pub parts : xs ≡ front ++ (raised ∷ later)
  pub of_kind : m.elements.kind raised ≡ k
  pub none_later : Lacks m k later
  pub climbs : moves ≡ climb (length front) (length later)
