-- A carrier over a row of boxes, back again, and what a list of carriers makes of a row. Assumes nothing.
use Rattle.std.specs.Prelude.{ℕ, ◌-◌, T, List, [], ◌∷◌, length, slice_index_or}
use Rattle.exchange.specs.Meaning.{Meaning}

-- the row left and the outgoing carrier: at each box, first to last, carrier and box cross into the new box and the new carrier
abbrev pub swept : {E : Type 0} → Meaning E → E → List E → List E × E
swept m carrier [] = ([], carrier)
swept m carrier (box ∷ row) =
    let crossed = m.cross carrier box in
    let rest = swept m crossed.1 row in
    (crossed.0 ∷ rest.0, rest.1)

-- the carrier recovered and the former row: at each box, last to first, box and carrier uncross into the former carrier and the former box
abbrev pub taken : {E : Type 0} → Meaning E → List E → E → E × List E
taken m [] carrier = (carrier, [])
taken m (box ∷ row) carrier =
    let rest = taken m row carrier in
    let uncrossed = m.uncross box rest.0 in
    (uncrossed.0, uncrossed.1 ∷ rest.1)

-- what carriers, swept in turn, the oldest first, make of a row: the row left and the outgoing carriers
abbrev pub made : {E : Type 0} → Meaning E → List E → List E → List E × List E
made m row [] = (row, [])
made m row (carrier ∷ carriers) =
    let sweep = swept m carrier row in
    let rest = made m sweep.0 carriers in
    (rest.0, sweep.1 ∷ rest.1)

-- every value of a list is an element
abbrev pub Belong : {E : Type 0} → Meaning E → List E → Type 0
Belong m [] = Unit {0}
Belong m (x ∷ xs) = T (m.elements.belongs x) × Belong m xs

-- the value at a place, and the rest element where the list has no such place
abbrev pub at : {E : Type 0} → Meaning E → List E → ℕ → E
at m xs i = slice_index_or xs i m.elements.rest

-- the value at the last place, and the rest element of an empty list
abbrev pub newest : {E : Type 0} → Meaning E → List E → E
newest m xs = at m xs (length xs - 1)
