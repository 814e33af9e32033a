-- The laws of exchange maps. Assumes nothing.
use Rattle.std.specs.Prelude.{◌≡◌, ℕ, ◌<◌, ◌≤◌, false, T}
use Rattle.exchange.specs.Meaning.{Elements, Exchange, Meaning}

-- the code of whatever does not belong
abbrev pub no_code : ℕ
no_code = 4294967295

-- both values of a pair are elements
abbrev pub Pair : {E : Type 0} → Elements E → E → E → Type 0
Pair e x y = T (e.belongs x) × T (e.belongs y)

-- kinds and codes are numbers in their bounds; codes and elements stand for each other; a value that does not belong has kind 0 and no code
pub record Numbered {E : Type 0} (e : Elements E) : Type 0 where
  pub kind_small : (x : E) → e.kind x ≤ 255
  pub code_small : (x : E) → T (e.belongs x) → e.code x < no_code
  pub code_is_one : (x : E) → T (e.belongs x) → T (e.codes (e.code x))
  pub element_of_code : (x : E) → T (e.belongs x) → e.element (e.code x) ≡ x
  pub element_belongs : (n : ℕ) → T (e.codes n) → T (e.belongs (e.element n))
  pub code_of_element : (n : ℕ) → T (e.codes n) → e.code (e.element n) ≡ n
  pub no_element : (n : ℕ) → e.codes n ≡ false → e.element n ≡ e.rest
  pub rest_belongs : T (e.belongs e.rest)
  pub stranger_kind : (x : E) → e.belongs x ≡ false → e.kind x ≡ 0
  pub stranger_code : (x : E) → e.belongs x ≡ false → e.code x ≡ no_code

-- two elements become two elements
abbrev pub Keeps : {E : Type 0} → Elements E → Exchange E → Type 0
Keeps {E = E} e f = (x y : E) → Pair e x y → Pair e (f x y).0 (f x y).1

-- elements stay elements, the kinds change sides, and a pair with a value that does not belong stays as it is
pub record Exchanges {E : Type 0} (e : Elements E) (f : Exchange E) : Type 0 where
  pub belong : Keeps e f
  pub left_kind : (x y : E) → Pair e x y → e.kind (f x y).0 ≡ e.kind y
  pub right_kind : (x y : E) → Pair e x y → e.kind (f x y).1 ≡ e.kind x
  pub left_stranger : (x y : E) → e.belongs x ≡ false → f x y ≡ (x, y)
  pub right_stranger : (x y : E) → e.belongs y ≡ false → f x y ≡ (x, y)

-- g takes every pair of elements back to what it was before f
abbrev pub Undoes : {E : Type 0} → Elements E → Exchange E → Exchange E → Type 0
Undoes {E = E} e f g = (x y : E) → Pair e x y → g (f x y).0 (f x y).1 ≡ (x, y)

-- f at the first two of three neighbours, and at the last two
abbrev pub first : {E : Type 0} → Exchange E → E × E × E → E × E × E
first f t = ((f t.0 t.1).0, (f t.0 t.1).1, t.2)

abbrev pub last : {E : Type 0} → Exchange E → E × E × E → E × E × E
last f t = (t.0, (f t.1 t.2).0, (f t.1 t.2).1)

-- all three values are elements
abbrev pub Triple : {E : Type 0} → Elements E → E × E × E → Type 0
Triple e t = T (e.belongs t.0) × T (e.belongs t.1) × T (e.belongs t.2)

-- the braid law: of three elements, the first pair, the last and the first again give the same three as last, first, last
abbrev pub Braids : {E : Type 0} → Elements E → Exchange E → Type 0
Braids {E = E} e f = (t : E × E × E) → Triple e t → first f (last f (first f t)) ≡ last f (first f (last f t))

pub record Lawful {E : Type 0} (m : Meaning E) : Type 0 where
  pub numbered : Numbered m.elements
  pub crosses : Exchanges m.elements m.cross
  pub uncrosses : Exchanges m.elements m.uncross
  pub uncross_undoes : Undoes m.elements m.cross m.uncross
  pub cross_undoes : Undoes m.elements m.uncross m.cross
  pub braids : Braids m.elements m.cross

-- what a returning map keeps besides, of every pair of values: crossing twice gives the pair back, and a pair of equal kinds stays as it is
pub record Returning {E : Type 0} (m : Meaning E) : Type 0 where
  pub twice : (x y : E) → m.cross (m.cross x y).0 (m.cross x y).1 ≡ (x, y)
  pub alike : (x y : E) → m.elements.kind x ≡ m.elements.kind y → m.cross x y ≡ (x, y)
