-- Capacity boxes: what is held, its numbers, and the carrier rule. Assumes nothing.
use Rattle.std.specs.Prelude.{◌≡◌, ℕ, ◌+◌, ◌-◌, ◌*◌, ◌/◌, ◌%◌, Bool, ◌&&◌, nat_le}
use Rattle.exchange.specs.Meaning.{Elements, Meaning}
use Rattle.exchange.specs.Rules.{completed}
use Rattle.maps.specs.declared.capacity.Holder.{Holder}

abbrev pub holder : ℕ → ℕ → Holder
holder capacity balls = record { capacity = capacity; balls = balls }

abbrev pub fits : Holder → Bool
fits h = nat_le 1 h.capacity && (nat_le h.capacity 255 && nat_le h.balls h.capacity)

-- the balls that do not fit: s balls into room for n
abbrev pub excess : ℕ → ℕ → ℕ
excess s n = s - n

-- A carrier (M, c) meets a box (L, b), s balls in all: p of them are too many for the box, q too many for the carrier.
-- The box gets the carrier's balls and those too many for the carrier, less those too many for itself, and the carrier the other way round.
abbrev pub carried : Holder → Holder → Holder × Holder
carried left right =
    let s : ℕ = right.balls + left.balls in
    let p : ℕ = excess s right.capacity in
    let q : ℕ = excess s left.capacity in
    (holder right.capacity (left.balls + q - p), holder left.capacity (right.balls + p - q))

abbrev pub holders : Elements Holder
holders = record {
  belongs = fits;
  kind = λ h. h.capacity;
  code = λ h. 256 * h.capacity + h.balls;
  codes = λ n. fits (holder (n / 256) (n % 256));
  element = λ n. holder (n / 256) (n % 256);
  rest = holder 1 0;
}

abbrev pub capacity_rule : Meaning Holder
capacity_rule = record { elements = holders; cross = carried; uncross = carried }

abbrev pub capacity_map : Meaning Holder
capacity_map = completed capacity_rule

-- no ball is lost and none is made
abbrev pub BallsKept : Holder → Holder → Holder × Holder → Type 0
BallsKept x y r = r.0.balls + r.1.balls ≡ x.balls + y.balls
