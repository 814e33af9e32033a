-- Reordered carriers leave the same row, and what goes out is reordered alike. Assumes nothing.
use Rattle.std.proofs.Common.{◌≡◌, ℕ, zero, suc, ◌<◌, T, List, [], ◌∷◌, length, sym, refl, ap, ◌∙◌, subst}
use Rattle.exchange.specs.Meaning.{Exchange, Meaning}
use Rattle.exchange.specs.Laws.{Exchanges, Lawful}
use Rattle.runs.specs.Sweeps.{Belong, made, swept}
use Rattle.runs.specs.Exchanges.{Move, Turns, Way, back, by, exchanged, forth}
use Rattle.runs.specs.Theorems.{Belongs, Reordering}
use Rattle.runs.proofs.Sweeps.{sweep_belongs}

pub length_made : {E : Type 0} (m : Meaning E) (row xs : List E) → length (made m row xs).1 ≡ length xs
length_made m row [] = refl
length_made m row (x ∷ xs) = ap suc (length_made m (swept m x row).0 xs)

-- an older carrier x and a newer one y over a row: the row left, then the newer and the older one as they go out
abbrev both : {E : Type 0} → Meaning E → E → E → List E → List E × E × E
both m y x row =
    let older = swept m x row in
    let newer = swept m y older.0 in
    (newer.0, newer.1, older.1)

-- it is all one whether two carriers are exchanged before a row or after it
abbrev Passes : {E : Type 0} → Meaning E → Exchange E → Type 0
Passes {E = E} m f = (y x : E) (row : List E) → T (m.elements.belongs y) → Belongs m x row →
    both m (f y x).0 (f y x).1 row ≡ ((both m y x row).0, (f (both m y x row).1 (both m y x row).2).0, (f (both m y x row).1 (both m y x row).2).1)

module _ {E : Type 0} {m : Meaning E} (l : Lawful m) where
  pub by_exchanges : (w : Way) → Exchanges m.elements (by m w)
  by_exchanges forth = l.crosses
  by_exchanges back = l.uncrosses

  pub exchanged_belong : (w : Way) (i : ℕ) (xs : List E) → Belong m xs → Belong m (exchanged (by m w) i xs)
  exchanged_belong w i [] h = h
  exchanged_belong w zero (x ∷ []) h = h
  exchanged_belong w zero (x ∷ y ∷ zs) h = let p = (by_exchanges w).belong y x (h.1.0, h.0) in (p.1, (p.0, h.1.1))
  exchanged_belong w (suc i) (x ∷ xs) h = (h.0, exchanged_belong w i xs h.1)

  pub turned_belong : (xs ys : List E) (moves : List Move) → Belong m xs → Turns m moves xs ys → Belong m ys
  turned_belong xs ys [] h e = subst (Belong m) e h
  turned_belong xs ys (move ∷ moves) h t = turned_belong (exchanged (by m move.0) move.1 xs) ys moves (exchanged_belong move.0 move.1 xs h) t.1

  cross_passes : Passes m m.cross
  cross_passes y x [] hy h = refl
  cross_passes y x (b ∷ bs) hy h =
      let c = m.cross in
      let after : E × E × E → List E × E × E = λ t. let r = both m t.1 t.2 bs in (t.0 ∷ r.0, r.1, r.2) in
      let p = l.crosses.belong x b (h.0, h.1.0) in
      let q = l.crosses.belong y (c x b).0 (hy, p.0) in
      ap after (l.braids (y, x, b) (hy, h.0, h.1.0))
      ∙ ap (λ (r : List E × E × E). ((c y (c x b).0).0 ∷ r.0, r.1, r.2)) (cross_passes (c y (c x b).0).1 (c x b).1 bs q.1 (p.1, h.1.1))

  both_belong : (y x : E) (row : List E) → T (m.elements.belongs y) → Belongs m x row → T (m.elements.belongs (both m y x row).1) × T (m.elements.belongs (both m y x row).2)
  both_belong y x row hy h =
      let older = sweep_belongs l x row h in
      let newer = sweep_belongs l y (swept m x row).0 (hy, older.1) in
      (newer.0, older.0)

  uncross_passes : Passes m m.uncross
  uncross_passes y x row hy h =
      let u = m.uncross y x in
      let k = l.uncrosses.belong y x (hy, h.0) in
      let r = both m u.0 u.1 row in
      let k' = both_belong u.0 u.1 row k.0 (k.1, h.1) in
      let forward = ap (λ (p : E × E). both m p.0 p.1 row) (sym (l.cross_undoes y x (hy, h.0))) ∙ cross_passes u.0 u.1 row k.0 (k.1, h.1) in
      ap (λ (p : E × E). (r.0, p.0, p.1)) (sym (l.uncross_undoes r.1 r.2 k'))
      ∙ ap (λ (t : List E × E × E). (t.0, (m.uncross t.1 t.2).0, (m.uncross t.1 t.2).1)) (sym forward)

  passes : (w : Way) → Passes m (by m w)
  passes forth = cross_passes
  passes back = uncross_passes

  pub made_exchanged : (w : Way) (i : ℕ) (row xs : List E) → Belong m row → Belong m xs → made m row (exchanged (by m w) i xs) ≡ ((made m row xs).0, exchanged (by m w) i (made m row xs).1)
  made_exchanged w i row [] hr h = refl
  made_exchanged w zero row (x ∷ []) hr h = refl
  made_exchanged w zero row (x ∷ y ∷ zs) hr h =
      ap (λ (t : List E × E × E). ((made m t.0 zs).0, t.2 ∷ t.1 ∷ (made m t.0 zs).1)) (passes w y x row h.1.0 (h.0, hr))
  made_exchanged w (suc i) row (x ∷ xs) hr h =
      let s = swept m x row in
      ap (λ (r : List E × List E). (r.0, s.1 ∷ r.1)) (made_exchanged w i s.0 xs (sweep_belongs l x row (h.0, hr)).1 h.1)

  pub reordering : Reordering m
  reordering row xs ys [] hr h e = (ap (λ (zs : List E). (made m row zs).0) e, ap (λ (zs : List E). (made m row zs).1) e)
  reordering row xs ys (move ∷ moves) hr h t =
      let f = by m move.0 in
      let e = made_exchanged move.0 move.1 row xs hr h in
      let r = reordering row (exchanged f move.1 xs) ys moves hr (exchanged_belong move.0 move.1 xs h) t.1 in (
        sym (ap (λ (p : List E × List E). p.0) e) ∙ r.0,
        (
          subst (λ (n : ℕ). suc move.1 < n) (sym (length_made m row xs)) t.0,
          subst (λ (zs : List E). Turns m moves zs (made m row ys).1) (ap (λ (p : List E × List E). p.1) e) r.1,
        ),
      )
