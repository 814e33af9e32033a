-- Two maps over a map, with its elements, kinds and codes. Assumes nothing.
use Rattle.exchange.specs.Meaning.{Exchange, Meaning}

-- an exchange with left and right taken the other way round
abbrev pub turned : {E : Type 0} → Exchange E → Exchange E
turned f x y = ((f y x).1, (f y x).0)

abbrev pub mirror : {E : Type 0} → Meaning E → Meaning E
mirror m = record { elements = m.elements; cross = turned m.cross; uncross = turned m.uncross }

-- cross and uncross trade places
abbrev pub inverse : {E : Type 0} → Meaning E → Meaning E
inverse m = record { elements = m.elements; cross = m.uncross; uncross = m.cross }
