-- What exchanges and raises do, place by place and to the kinds. Assumes nothing.
use Rattle.std.proofs.Common.{◌≡◌, ℕ, zero, suc, ◌+◌, ◌-◌, ◌<◌, ◌≤◌, List, [], ◌∷◌, ◌++◌, map, length, get_or, take, set, sym, refl, ap, ◌∙◌, subst, ap₂, subst₂, arith}
use Rattle.std.proofs.lemmas.List.{append_assoc, length-map, length_push, map_push, same_from_push, take_all, take_more}
use Rattle.exchange.specs.Meaning.{Exchange, Meaning}
use Rattle.exchange.specs.Laws.{Lawful}
use Rattle.runs.specs.Sweeps.{Belong, newest}
use Rattle.runs.specs.Exchanges.{Move, Raises, Turns, by, climb, exchanged}
use Rattle.runs.specs.Theorems.{AtAPlace, Raising}

pub length_exchanged : {E : Type 0} (f : Exchange E) (i : ℕ) (xs : List E) → length (exchanged f i xs) ≡ length xs
length_exchanged f i [] = refl
length_exchanged f zero (x ∷ []) = refl
length_exchanged f zero (x ∷ y ∷ zs) = refl
length_exchanged f (suc i) (x ∷ xs) = ap suc (length_exchanged f i xs)

pub length_turned : {E : Type 0} (m : Meaning E) (moves : List Move) (xs ys : List E) → Turns m moves xs ys → length ys ≡ length xs
length_turned m [] xs ys t = ap length (sym t)
length_turned m (move ∷ moves) xs ys t =
    let f = by m move.0 in
    length_turned m moves (exchanged f move.1 xs) ys t.1 ∙ length_exchanged f move.1 xs

module _ {E : Type 0} (f : Exchange E) where
  crossed_there : (i : ℕ) (xs : List E) (d : E) → suc i < length xs → (get_or (exchanged f i xs) (suc i) d, get_or (exchanged f i xs) i d) ≡ f (get_or xs (suc i) d) (get_or xs i d)
  crossed_there i [] d h = absurd (omega arith)
  crossed_there zero (x ∷ []) d h = absurd (omega arith)
  crossed_there zero (x ∷ y ∷ zs) d h = refl
  crossed_there (suc i) (x ∷ xs) d h = crossed_there i xs d (omega arith)

  kept_elsewhere : (i j : ℕ) (xs : List E) (d : E) → ¬ (j ≡ i) → ¬ (j ≡ suc i) → get_or (exchanged f i xs) j d ≡ get_or xs j d
  kept_elsewhere i j [] d h k = refl
  kept_elsewhere zero j (x ∷ []) d h k = refl
  kept_elsewhere zero zero (x ∷ y ∷ zs) d h k = absurd (h refl)
  kept_elsewhere zero (suc zero) (x ∷ y ∷ zs) d h k = absurd (k refl)
  kept_elsewhere zero (suc (suc j)) (x ∷ y ∷ zs) d h k = refl
  kept_elsewhere (suc i) zero (x ∷ xs) d h k = refl
  kept_elsewhere (suc i) (suc j) (x ∷ xs) d h k = kept_elsewhere i j xs d (λ e. h (ap suc e)) (λ e. k (ap suc e))

  kept_without : (i : ℕ) (xs : List E) → length xs ≤ suc i → exchanged f i xs ≡ xs
  kept_without i [] h = refl
  kept_without zero (x ∷ []) h = refl
  kept_without zero (x ∷ y ∷ zs) h = absurd (omega arith)
  kept_without (suc i) (x ∷ xs) h = ap (λ (t : List E). x ∷ t) (kept_without i xs (omega arith))

  -- an exchange as two writes
  pub exchanged_set : (i : ℕ) (xs : List E) (d : E) → suc i < length xs → exchanged f i xs ≡ set (set xs i (f (get_or xs (suc i) d) (get_or xs i d)).1) (suc i) (f (get_or xs (suc i) d) (get_or xs i d)).0
  exchanged_set i [] d h = absurd (omega arith)
  exchanged_set zero (x ∷ []) d h = absurd (omega arith)
  exchanged_set zero (x ∷ y ∷ zs) d h = refl
  exchanged_set (suc i) (x ∷ xs) d h = ap (λ (t : List E). x ∷ t) (exchanged_set i xs d (omega arith))

pub at_a_place : {E : Type 0} (m : Meaning E) → AtAPlace m
at_a_place m = record {
  same_length = λ w. length_exchanged (by m w);
  crossed = λ w. crossed_there (by m w);
  elsewhere = λ w. kept_elsewhere (by m w);
  no_place = λ w. kept_without (by m w);
}

-- a list that is not empty, parted before its newest value
pub unpush : {E : Type 0} (m : Meaning E) (xs : List E) → ¬ (length xs ≡ 0) → xs ≡ take (length xs - 1) xs ++ (newest m xs ∷ [])
unpush m xs h =
    let n = length xs - 1 in
    let e : n + 1 ≡ length xs = omega arith in
    sym (take_all (n + 1) xs (omega arith)) ∙ take_more xs n m.elements.rest (omega arith)

-- a climb passes by what stands before it
climb_past : {E : Type 0} (m : Meaning E) (i n : ℕ) (y : E) (xs ys : List E) → Turns m (climb (suc i) n) (y ∷ xs) ys → (zs : List E) × (◌≡◌ {A = List E} (y ∷ zs) ys) × Turns m (climb i n) xs zs
climb_past m i zero y xs ys t = (xs, t, refl)
climb_past m i (suc n) y xs ys t =
    let r = climb_past m (suc i) n y (exchanged m.cross i xs) ys t.1 in
    (r.0, r.1, (omega arith, r.2))

abbrev pub kind : {E : Type 0} → Meaning E → E → ℕ
kind m = m.elements.kind

module _ {E : Type 0} {m : Meaning E} (l : Lawful m) where
  climb_kinds_here : (x : E) (later ys : List E) → Belong m (x ∷ later) → Turns m (climb 0 (length later)) (x ∷ later) ys → map (kind m) ys ≡ map (kind m) later ++ (kind m x ∷ [])
  climb_kinds_here x [] ys h t = ap (map (kind m)) (sym t)
  climb_kinds_here x (y ∷ zs) ys h t =
      let p = m.cross y x in
      let hp = l.crosses.belong y x (h.1.0, h.0) in
      let r = climb_past m 0 (length zs) p.1 (p.0 ∷ zs) ys t.1 in
      let rest = climb_kinds_here p.0 zs r.0 (hp.0, h.1.1) r.2 in
      let ky = l.crosses.right_kind y x (h.1.0, h.0) in
      let kx = l.crosses.left_kind y x (h.1.0, h.0) in
      ap (map (kind m)) (sym r.1) ∙ ap₂ (λ (k : ℕ) (ks : List ℕ). k ∷ ks) ky (rest ∙ ap (λ (k : ℕ). map (kind m) zs ++ (k ∷ [])) kx)

  climb_kinds : (front : List E) (x : E) (later ys : List E) → Belong m (front ++ (x ∷ later)) → Turns m (climb (length front) (length later)) (front ++ (x ∷ later)) ys →
      map (kind m) ys ≡ map (kind m) front ++ (map (kind m) later ++ (kind m x ∷ []))
  climb_kinds [] x later ys h t = climb_kinds_here x later ys h t
  climb_kinds (y ∷ front) x later ys h t =
      let r = climb_past m (length front) (length later) y (front ++ (x ∷ later)) ys t in
      ap (map (kind m)) (sym r.1) ∙ ap (λ (ks : List ℕ). kind m y ∷ ks) (climb_kinds front x later r.0 h.1 r.2)

  kinds_after : (k : ℕ) (xs ys : List E) (moves : List Move) → Belong m xs → (r : Raises m k xs moves) → Turns m moves xs ys →
      map (kind m) ys ≡ map (kind m) r.front ++ (map (kind m) r.later ++ (k ∷ []))
  kinds_after k xs ys moves h r t =
      climb_kinds r.front r.raised r.later ys (subst (Belong m) r.parts h) (subst₂ (λ (p : List Move) (zs : List E). Turns m p zs ys) r.climbs r.parts t)
      ∙ ap (λ (j : ℕ). map (kind m) r.front ++ (map (kind m) r.later ++ (j ∷ []))) r.of_kind

  raised_already : (k : ℕ) (xs ys : List E) (moves : List Move) → Belong m xs → Raises m k xs moves → Turns m moves xs ys → Raises m k ys []
  raised_already k xs ys moves h r t =
      let before = map (kind m) r.front ++ map (kind m) r.later in
      let e = kinds_after k xs ys moves h r t ∙ sym (append_assoc (map (kind m) r.front) (map (kind m) r.later) (k ∷ [])) in
      let long = sym (length-map ys (kind m)) ∙ (ap length e ∙ length_push before k) in
      let last = unpush m ys (omega arith) in
      let front = take (length ys - 1) ys in
      record {
        front = front;
        raised = newest m ys;
        later = [];
        parts = last;
        of_kind = (same_from_push (map (kind m) front) before (kind m (newest m ys)) k (sym (map_push (kind m) front (newest m ys)) ∙ (ap (map (kind m)) (sym last) ∙ e))).1;
        none_later = tt;
        climbs = refl;
      }

  pub raising : Raising m
  raising = record { kinds_after = kinds_after; raised_already = raised_already }
