-- What an exchange map means: its functions, as functions of values. Assumes nothing.
use Rattle.std.specs.Prelude.{ℕ, Bool}

pub record Elements (E : Type 0) : Type 0 where
  -- whether a value is an element
  pub belongs : E → Bool
  -- a number from 0 to 255
  pub kind : E → ℕ
  -- the number that stands for the element
  pub code : E → ℕ
  -- whether a number is the code of an element
  pub codes : ℕ → Bool
  -- the element of a code, and `rest` for any other number
  pub element : ℕ → E
  pub rest : E

-- what becomes of two neighbours, a left and a right one: the new left and the new right
abbrev pub Exchange : Type 0 → Type 0
Exchange E = E → E → E × E

pub record Meaning (E : Type 0) : Type 0 where
  pub elements : Elements E
  pub cross : Exchange E
  pub uncross : Exchange E
