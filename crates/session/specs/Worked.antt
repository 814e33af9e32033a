-- The worked examples, as one table: what the definitions give, and what they should. Assumes nothing.
use Rattle.std.specs.Prelude.{◌≡◌, ℕ, cond, List, [], ◌∷◌, ◌++◌, map}
use Rattle.exchange.specs.Refusals.{number_of}
use Rattle.exchange.specs.declared.refusal.Refusal.TheVariants.{BadParameters}
use Rattle.maps.specs.Affine.{affine_map, affine_parameters}
use Rattle.maps.specs.Capacity.{capacity_map, holder}
use Rattle.maps.specs.Permutations.{perm_map}
use Rattle.maps.specs.Phases.{phase_map, soliton}
use Rattle.maps.specs.declared.capacity.Holder.{Holder}
use Rattle.maps.specs.declared.soliton.Soliton.{Soliton}
use Rattle.runs.specs.Sweeps.{made, swept}

-- capacity and balls of the left, then of the right
abbrev held : Holder × Holder → List ℕ
held p = p.0.capacity ∷ p.0.balls ∷ p.1.capacity ∷ p.1.balls ∷ []

-- kind and phase of the left, then of the right
abbrev phased : Soliton × Soliton → List ℕ
phased p = p.0.kind ∷ p.0.phase ∷ p.1.kind ∷ p.1.phase ∷ []

abbrev pair : {A : Type 0} → A × A → List A
pair p = p.0 ∷ p.1 ∷ []

-- boxes of capacity 1 with these balls
abbrev boxes : List ℕ → List Holder
boxes balls = map (holder 1) balls

abbrev balls : List Holder → List ℕ
balls row = map (λ h. h.balls) row

abbrev swap01 : List ℕ
swap01 = 1 ∷ 0 ∷ 2 ∷ 3 ∷ 4 ∷ 5 ∷ 6 ∷ 7 ∷ []

abbrev swap12 : List ℕ
swap12 = 0 ∷ 2 ∷ 1 ∷ 3 ∷ 4 ∷ 5 ∷ 6 ∷ 7 ∷ []

abbrev swap02 : List ℕ
swap02 = 2 ∷ 1 ∷ 0 ∷ 3 ∷ 4 ∷ 5 ∷ 6 ∷ 7 ∷ []

abbrev row : List Holder
row = boxes (0 ∷ 1 ∷ 1 ∷ 0 ∷ 1 ∷ [])

-- what the definitions give, and what the examples say
abbrev pub worked : List (List ℕ × List ℕ)
worked =
    (held (capacity_map.cross (holder 3 2) (holder 1 1)), 1 ∷ 0 ∷ 3 ∷ 3 ∷ [])
    ∷ (held (capacity_map.cross (holder 2 2) (holder 1 1)), 1 ∷ 1 ∷ 2 ∷ 2 ∷ [])
    ∷ (held (capacity_map.cross (holder 1 0) (holder 2 2)), 2 ∷ 1 ∷ 1 ∷ 1 ∷ [])
    ∷ (held (capacity_map.cross (holder 1 1) (holder 1 0)), 1 ∷ 1 ∷ 1 ∷ 0 ∷ [])
    ∷ (pair ((affine_map 10 3 5 7 5).cross 2 4), 7 ∷ 9 ∷ [])
    ∷ (pair ((affine_map 10 3 5 7 5).uncross 7 9), 2 ∷ 4 ∷ [])
    ∷ (cond (affine_parameters 10 3 5 7 1) [] (number_of BadParameters ∷ []), 4 ∷ [])
    ∷ ((perm_map.cross swap01 swap12).0 ++ (perm_map.cross swap01 swap12).1, swap12 ++ swap02)
    ∷ (phased ((phase_map 10).cross (soliton 3 1) (soliton 2 4)), 2 ∷ 8 ∷ 3 ∷ 7 ∷ [])
    ∷ (balls (swept capacity_map (holder 2 0) row).0, 0 ∷ 0 ∷ 0 ∷ 1 ∷ 0 ∷ [])
    ∷ (balls (made capacity_map row (holder 2 0 ∷ holder 1 1 ∷ [])).0, 1 ∷ 0 ∷ 0 ∷ 0 ∷ 1 ∷ [])
    ∷ (balls (made capacity_map row (holder 1 0 ∷ holder 2 1 ∷ [])).0, 1 ∷ 0 ∷ 0 ∷ 0 ∷ 1 ∷ [])
    ∷ []

abbrev pub Worked : Type 0
Worked = map (λ r. r.0) worked ≡ map (λ r. r.1) worked
