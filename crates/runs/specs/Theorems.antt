-- What holds of sweeps, exchanges and the plain book over every lawful map. Assumes nothing.
use Rattle.std.specs.Prelude.{◌≡◌, ℕ, suc, ◌<◌, ◌≤◌, T, ◌↔◌, List, [], ◌∷◌, ◌++◌, map, length, slice_index_or}
use Rattle.exchange.specs.Meaning.{Meaning}
use Rattle.exchange.specs.Laws.{Returning}
use Rattle.runs.specs.Sweeps.{Belong, at, made, newest, swept, taken}
use Rattle.runs.specs.Exchanges.{Move, Raises, Turns, Way, by, exchanged}
use Rattle.runs.specs.Book.{Answer, Call, Counts, Grants, Lengths, Outcome, View, exchange, raise, sweep, take_back}
use Rattle.runs.specs.Calls.{Does, Held}

-- a carrier and a row of elements
abbrev pub Belongs : {E : Type 0} → Meaning E → E → List E → Type 0
Belongs m carrier row = T (m.elements.belongs carrier) × Belong m row

-- a carrier meets the boxes from the first to the last, and the carriers follow one another
pub record InTurn {E : Type 0} (m : Meaning E) : Type 0 where
  pub no_box : (c : E) → swept m c [] ≡ ([], c)
  pub one_box : (c b : E) → swept m c (b ∷ []) ≡ ((m.cross c b).0 ∷ [], (m.cross c b).1)
  pub more_boxes : (c : E) (near far : List E) → swept m c (near ++ far) ≡ ((swept m c near).0 ++ (swept m (swept m c near).1 far).0, (swept m (swept m c near).1 far).1)
  pub no_carrier : (row : List E) → made m row [] ≡ (row, [])
  pub one_carrier : (row : List E) (c : E) → made m row (c ∷ []) ≡ ((swept m c row).0, (swept m c row).1 ∷ [])
  pub more_carriers : (row xs ys : List E) → made m row (xs ++ ys) ≡ ((made m (made m row xs).0 ys).0, (made m row xs).1 ++ (made m (made m row xs).0 ys).1)

-- an exchange at i makes of the left carrier at i + 1 and the right one at i the new left at i + 1 and the new right at i, and nothing else; without the place i + 1 it does nothing
pub record AtAPlace {E : Type 0} (m : Meaning E) : Type 0 where
  pub same_length : (w : Way) (i : ℕ) (xs : List E) → length (exchanged (by m w) i xs) ≡ length xs
  pub crossed : (w : Way) (i : ℕ) (xs : List E) (d : E) → suc i < length xs → (slice_index_or (exchanged (by m w) i xs) (suc i) d, slice_index_or (exchanged (by m w) i xs) i d) ≡ by m w (slice_index_or xs (suc i) d) (slice_index_or xs i d)
  pub elsewhere : (w : Way) (i j : ℕ) (xs : List E) (d : E) → ¬ (j ≡ i) → ¬ (j ≡ suc i) → slice_index_or (exchanged (by m w) i xs) j d ≡ slice_index_or xs j d
  pub no_place : (w : Way) (i : ℕ) (xs : List E) → length xs ≤ suc i → exchanged (by m w) i xs ≡ xs

-- a raise takes the kind k from its newest place to the last and lets the later kinds follow; then there is nothing more to raise
pub record Raising {E : Type 0} (m : Meaning E) : Type 0 where
  pub kinds_after : (k : ℕ) (xs ys : List E) (moves : List Move) → Belong m xs → (r : Raises m k xs moves) → Turns m moves xs ys → map m.elements.kind ys ≡ map m.elements.kind r.front ++ (map m.elements.kind r.later ++ (k ∷ []))
  pub raised_already : (k : ℕ) (xs ys : List E) (moves : List Move) → Belong m xs → Raises m k xs moves → Turns m moves xs ys → Raises m k ys []

-- sweep and take-back give elements, and each undoes the other
pub record Undo {E : Type 0} (m : Meaning E) : Type 0 where
  pub sweep_belongs : (c : E) (row : List E) → Belongs m c row → Belongs m (swept m c row).1 (swept m c row).0
  pub take_back_belongs : (c : E) (row : List E) → Belongs m c row → Belongs m (taken m row c).0 (taken m row c).1
  pub sweep_undone : (c : E) (row : List E) → Belongs m c row → taken m (swept m c row).0 (swept m c row).1 ≡ (c, row)
  pub take_back_undone : (c : E) (row : List E) → Belongs m c row → swept m (taken m row c).0 (taken m row c).1 ≡ (row, c)

-- reordered carriers leave the same row, and the same moves reorder what goes out
abbrev pub Reordering : {E : Type 0} → Meaning E → Type 0
Reordering {E = E} m = (row xs ys : List E) (moves : List Move) → Belong m row → Belong m xs → Turns m moves xs ys → ((made m row xs).0 ≡ (made m row ys).0) × Turns m moves (made m row xs).1 (made m row ys).1

-- over a returning map, moves that leave the kind at every place leave the list
abbrev pub KindsTell : {E : Type 0} → Meaning E → Type 0
KindsTell {E = E} m = Returning m → (xs ys : List E) (moves : List Move) → Belong m xs → Turns m moves xs ys → map m.elements.kind xs ≡ map m.elements.kind ys → xs ≡ ys

-- the plain book has one outcome for every call
pub record OneOutcome {E : Type 0} (m : Meaning E) : Type 0 where
  pub some : (filled : List E) (l : Lengths) (call : Call E) (xs : List E) → (ys : List E) × (a : Answer) × Outcome m filled l call xs ys a
  pub one : (filled : List E) (l : Lengths) (call : Call E) (xs ys zs : List E) (a b : Answer) → Outcome m filled l call xs ys a → Outcome m filled l call xs zs b → (ys ≡ zs) × (a ≡ b)

-- a call does one thing to whatever memory it is handed
pub record OneDeed {E : Type 0} (m : Meaning E) : Type 0 where
  pub some : (call : Call E) (h : Held E) → (h' : Held E) × (a : Answer) × Does m call h h' a
  pub one : (call : Call E) (h h' h'' : Held E) (a b : Answer) → Does m call h h' a → Does m call h h'' b → (h' ≡ h'') × (a ≡ b)

-- memory that reaches: a row of no fewer places than boxes, and two halves of one length, of no fewer places than sweeps
abbrev pub Reaches : Counts → Lengths → Type 0
Reaches n l = (n.boxes ≤ l.row) × (l.incoming ≡ l.outgoing) × (n.sweeps ≤ l.incoming)

-- what a call must find besides
abbrev pub Finds : {E : Type 0} → Meaning E → Counts → Lengths → View E → Call E → Type 0
Finds m n l v (sweep carrier) = (n.sweeps < l.incoming) × Belongs m carrier v.row
Finds m n l v take_back = (0 < n.sweeps) × Belongs m (newest m v.outgoing) v.row × T (m.elements.belongs (newest m v.incoming))
    × (m.elements.code (taken m v.row (newest m v.outgoing)).0 ≡ m.elements.code (newest m v.incoming))
Finds m n l v (exchange w i) = (suc i < n.sweeps) × T (m.elements.belongs (at m v.incoming i)) × T (m.elements.belongs (at m v.incoming (suc i)))
    × T (m.elements.belongs (at m v.outgoing i)) × T (m.elements.belongs (at m v.outgoing (suc i)))
Finds m n l v (raise k) = ((moves : List Move) × Raises m k v.incoming moves) × Belong m v.incoming × Belong m v.outgoing

-- a call is granted exactly when its memory reaches and it finds what it must
abbrev pub Granting : {E : Type 0} → Meaning E → Type 0
Granting {E = E} m = (n : Counts) (l : Lengths) (v : View E) (call : Call E) → Grants m n l v call ↔ (Reaches n l × Finds m n l v call)
