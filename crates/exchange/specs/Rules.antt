-- A map given by its rule on elements alone, and what completes it. Assumes nothing.
use Rattle.std.specs.Prelude.{◌≡◌, ℕ, ◌<◌, ◌≤◌, Bool, cond, ◌&&◌, T}
use Rattle.exchange.specs.Meaning.{Elements, Exchange, Meaning}
use Rattle.exchange.specs.Laws.{Braids, Keeps, Pair, Undoes, no_code}

-- f on two elements, and any other pair as it is
abbrev pub guarded : {E : Type 0} → (E → Bool) → Exchange E → Exchange E
guarded belongs f x y = cond (belongs x && belongs y) (f x y) (x, y)

-- m on its elements and codes, and elsewhere what every map answers
abbrev pub completed : {E : Type 0} → Meaning E → Meaning E
completed {E = E} m =
    let e : Elements E = m.elements in
    record {
      elements = record {
        belongs = e.belongs;
        kind = λ x. cond (e.belongs x) (e.kind x) 0;
        code = λ x. cond (e.belongs x) (e.code x) no_code;
        codes = e.codes;
        element = λ n. cond (e.codes n) (e.element n) e.rest;
        rest = e.rest;
      };
      cross = guarded e.belongs m.cross;
      uncross = guarded e.belongs m.uncross;
    }

-- what a rule owes of its elements, for the completed map to be lawful
pub record Numbers {E : Type 0} (e : Elements E) : Type 0 where
  pub kind_small : (x : E) → T (e.belongs x) → e.kind x ≤ 255
  pub code_small : (x : E) → T (e.belongs x) → e.code x < no_code
  pub code_is_one : (x : E) → T (e.belongs x) → T (e.codes (e.code x))
  pub element_of_code : (x : E) → T (e.belongs x) → e.element (e.code x) ≡ x
  pub element_belongs : (n : ℕ) → T (e.codes n) → T (e.belongs (e.element n))
  pub code_of_element : (n : ℕ) → T (e.codes n) → e.code (e.element n) ≡ n
  pub rest_belongs : T (e.belongs e.rest)

pub record Trades {E : Type 0} (e : Elements E) (f : Exchange E) : Type 0 where
  pub belong : Keeps e f
  pub left_kind : (x y : E) → Pair e x y → e.kind (f x y).0 ≡ e.kind y
  pub right_kind : (x y : E) → Pair e x y → e.kind (f x y).1 ≡ e.kind x

pub record Sound {E : Type 0} (m : Meaning E) : Type 0 where
  pub numbers : Numbers m.elements
  pub crosses : Trades m.elements m.cross
  pub uncrosses : Trades m.elements m.uncross
  pub uncross_undoes : Undoes m.elements m.cross m.uncross
  pub cross_undoes : Undoes m.elements m.uncross m.cross
  pub braids : Braids m.elements m.cross

-- the same of a returning map
pub record Returns {E : Type 0} (m : Meaning E) : Type 0 where
  pub twice : Undoes m.elements m.cross m.cross
  pub alike : (x y : E) → Pair m.elements x y → m.elements.kind x ≡ m.elements.kind y → m.cross x y ≡ (x, y)
