-- The phase map's rule on its elements: solitons, each of a kind and at a phase below the modulus. Assumes nothing.
use Rattle.std.specs.Prelude.{◌≡◌, ℕ, ◌+◌, ◌-◌, ◌*◌, ◌/◌, ◌%◌, min, Bool, cond, ◌&&◌, ◌⊎◌, ◌==◌, nat_le, nat_lt}
use Rattle.exchange.specs.Meaning.{Elements, Exchange, Meaning}
use Rattle.exchange.specs.Rules.{completed}
use Rattle.maps.specs.declared.soliton.Soliton.{Soliton}

abbrev pub soliton : ℕ → ℕ → Soliton
soliton k p = record { kind = k; phase = p }

-- a kind from 1 to 255 and a phase below the modulus
abbrev pub phase_belongs : ℕ → Soliton → Bool
phase_belongs m x = nat_le 1 x.kind && (nat_le x.kind 255 && nat_lt x.phase m)

-- how far two solitons of unequal kinds shift each other: twice the smaller kind
abbrev pub shift : Soliton → Soliton → ℕ
shift x y = 2 * min x.kind y.kind

-- a phase t further on, and one t further back
abbrev pub gained : ℕ → ℕ → ℕ → ℕ
gained m t p = (p + t) % m

abbrev pub lost : ℕ → ℕ → ℕ → ℕ
lost m t p = gained m (m - t % m) p

-- the sign: the one that passes from left to right loses the shift, the other gains it
abbrev pub passes : ℕ → Exchange Soliton
passes m x y = (soliton y.kind (gained m (shift x y) y.phase), soliton x.kind (lost m (shift x y) x.phase))

-- solitons of equal kinds stay as they are
abbrev pub phase_cross : ℕ → Exchange Soliton
phase_cross m x y = cond (x.kind == y.kind) (x, y) (passes m x y)

abbrev pub phase_elements : ℕ → Elements Soliton
phase_elements m = record {
  belongs = phase_belongs m;
  kind = λ x. x.kind;
  code = λ x. 65536 * x.kind + x.phase;
  codes = λ n. phase_belongs m (soliton (n / 65536) (n % 65536));
  element = λ n. soliton (n / 65536) (n % 65536);
  rest = soliton 1 0;
}

abbrev pub phase_rule : ℕ → Meaning Soliton
phase_rule m = record { elements = phase_elements m; cross = phase_cross m; uncross = phase_cross m }

abbrev pub phase_map : ℕ → Meaning Soliton
phase_map m = completed (phase_rule m)

-- two phases a shift apart, whichever is ahead
abbrev pub Apart : ℕ → ℕ → ℕ → ℕ → Type 0
Apart m t p q = (p ≡ gained m t q) ⊎ (q ≡ gained m t p)

-- passing, whatever the sign: the kinds change sides, each phase moves by the shift, and the sum of the phases stays the same modulo m
pub record Passage (m : ℕ) (x y u v : Soliton) : Type 0 where
  pub left_kind : u.kind ≡ y.kind
  pub right_kind : v.kind ≡ x.kind
  pub left_moved : Apart m (shift x y) y.phase u.phase
  pub right_moved : Apart m (shift x y) x.phase v.phase
  pub sum_kept : (u.phase + v.phase) % m ≡ (x.phase + y.phase) % m
