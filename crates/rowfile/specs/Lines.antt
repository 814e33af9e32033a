-- Texts cut into lines and lines into fields, and the numbers in fields. Assumes nothing.
use Rattle.std.specs.Prelude.{◌≡◌, ℕ, ◌^◌, ◌<◌, ◌≤◌, cond, List, [], ◌∷◌, ◌++◌, length, decimal, Result, MatchResult, ◌==◌, ◌≢◌, slice_index}

abbrev pub Bytes : Type 0
Bytes = List ℕ

-- one more byte in front of the first part
abbrev pub grown : ℕ → List Bytes → List Bytes
grown c [] = (c ∷ []) ∷ []
grown c (p ∷ ps) = (c ∷ p) ∷ ps

-- the parts between the bytes s, at least one
abbrev pub parts : ℕ → Bytes → List Bytes
parts s [] = [] ∷ []
parts s (c ∷ cs) = cond (c == s) ([] ∷ parts s cs) (grown c (parts s cs))

-- the parts behind the first byte, which is an s
abbrev pub behind : ℕ → Bytes → List Bytes
behind s [] = []
behind s (c ∷ cs) = parts s cs

abbrev pub lines : Bytes → List Bytes
lines = parts 10

abbrev pub fields : Bytes → List Bytes
fields = parts 9

-- n is the place of the first byte s, or the length where there is none
pub record First (s : ℕ) (bs : Bytes) (n : ℕ) : Type 0 where
  pub within : n ≤ length bs
  pub before : (k : ℕ) → k < n → slice_index bs k ≢ s
  pub found : n < length bs → slice_index bs n ≡ s

-- each part behind a byte s
abbrev pub led : ℕ → List Bytes → Bytes
led s [] = []
led s (p ∷ ps) = s ∷ (p ++ led s ps)

-- parts with a byte s between them
abbrev pub parted : ℕ → List Bytes → Bytes
parted s [] = []
parted s (p ∷ ps) = p ++ led s ps

-- a line of these fields
abbrev pub line_of : List Bytes → Bytes
line_of = parted 9

-- each line ended by byte 10
abbrev pub ended : List Bytes → Bytes
ended [] = []
ended (l ∷ ls) = l ++ (10 ∷ ended ls)

-- the field writes the number n: in decimal, below 2 ^ 32
abbrev pub Writes : Bytes → ℕ → Type 0
Writes f n = (n < 2 ^ 32) × (f ≡ decimal n)

-- the number that a field writes, or an error where it writes none
abbrev pub ReadsNumber : {E : Type 0} → Bytes → Result ℕ E → Type 0
ReadsNumber f r = MatchResult r (λ n. Writes f n) (λ _. (n : ℕ) → Writes f n → ⊥)
