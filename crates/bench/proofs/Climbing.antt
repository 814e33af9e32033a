-- Exchanges upwards in the memory of a log, place after place. Assumes nothing.
use Rattle.std.proofs.Common.{◌≡◌, ℕ, suc, ◌+◌, ◌-◌, ◌<◌, ◌≤◌, List, ◌∷◌, ◌++◌, length, take, drop, sym, refl, ap, ◌∙◌, ap₂, add-one, arith, length-append, take-append-drop, length-take-le, take_at, drop_at}
use Rattle.exchange.specs.Meaning.{Meaning}
use Rattle.runs.specs.Exchanges.{Raises, Turns, climb, exchanged}
use Rattle.runs.proofs.Places.{length_exchanged}
use Rattle.bench.specs.Bench.{Newest}
use Rattle.bench.specs.Log.{Climbs}
use Rattle.bench.proofs.Exchanging.{below_count}

module _ {E : Type 0} (m : Meaning E) (n place : ℕ) where
  -- the climb has come to i, and what the rest of it makes of the list now, the whole of it makes of the old list
  pub record Rising (i : ℕ) (old new : List E) : Type 0 where
    pub long : length new ≡ length old
    pub rest : drop n new ≡ drop n old
    pub turns : (zs : List E) → Turns m (climb i (n - 1 - i)) (take n new) zs → Turns m (climb place (n - 1 - place)) (take n old) zs

  pub rising_more : (i : ℕ) (old new : List E) → suc i < n → n ≤ length new → Rising i old new → Rising (i + 1) old (exchanged m.cross i new)
  rising_more i old new h k r =
      let f = m.cross in
      let within : length (exchanged f i (take n new)) ≡ n = length_exchanged f i (take n new) ∙ length-take-le n new k in
      let whole = below_count f n i new h k in
      let taken : take n (exchanged f i new) ≡ exchanged f i (take n new) = ap (take n) (sym whole) ∙ take_at (exchanged f i (take n new)) (drop n new) n within in
      let left : n - 1 - i ≡ suc (n - 1 - suc i) = omega arith in
      let room : suc i < length (take n new) = rw length-take-le h in
      record {
        long = length_exchanged f i new ∙ r.long;
        rest = ap (drop n) (sym whole) ∙ (drop_at (exchanged f i (take n new)) (drop n new) n within ∙ r.rest);
        turns = λ zs t. r.turns zs (rw left (room, rw taken at (rw add-one at t)));
      }

  pub risen : (i : ℕ) (old new : List E) → n - 1 ≤ i → Rising i old new → Climbs m n place old new
  risen i old new h r =
      let none : n - 1 - i ≡ 0 = omega arith in
      record {
        list = take n new;
        turned = r.turns (take n new) (rw none refl);
        kept = sym (take-append-drop n new) ∙ ap (λ (l : List E). take n new ++ l) r.rest;
      }

-- the place of the newest carrier of a kind, among the first n
module _ {E : Type 0} (m : Meaning E) (k n i : ℕ) (xs : List E) (h : n ≤ length xs) (w : Newest m k (take n xs) i) where
  sizes : length w.front + suc (length w.later) ≡ n
  sizes = sym (length-append w.front (w.raised ∷ w.later)) ∙ (ap length (sym w.parts) ∙ length-take-le n xs h)

  pub newest_within : i < n
  newest_within = let s = sizes in let p = w.place in omega arith

  pub raises : Raises m k (take n xs) (climb i (n - 1 - i))
  raises =
      let s = sizes in
      let p = w.place in
      let up : n - 1 - i ≡ length w.later = omega arith in
      record {
        front = w.front;
        raised = w.raised;
        later = w.later;
        parts = w.parts;
        of_kind = w.of_kind;
        none_later = w.none_later;
        climbs = ap₂ climb (sym p) up;
      }
