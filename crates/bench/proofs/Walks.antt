-- A sweep that has come to a place, and a take-back that is still to go below one. Assumes nothing.
use Rattle.std.proofs.Common.{◌≡◌, ℕ, zero, suc, ◌+◌, ◌-◌, ◌<◌, ◌≤◌, List, [], ◌∷◌, ◌++◌, length, get_or, take, drop, set, sym, refl, ap, ◌∙◌, not-suc-le-zero, append_assoc, append-nil, add-one, sub-one, arith}
use Rattle.std.proofs.lemmas.List.{drop-set, drop-set-lt, drop_all, drop_more, take-set, take_all, take_more_set}
use Rattle.std.proofs.Math.Seq.{take-suc}
use Rattle.exchange.specs.Meaning.{Meaning}
use Rattle.runs.specs.Sweeps.{swept, taken}

module _ {E : Type 0} (m : Meaning E) where
  -- the boxes before a place stay, and the carrier goes on from there
  pub from : ℕ → E → List E → List E × E
  from i c row = let s = swept m c (drop i row) in (take i row ++ s.0, s.1)

  pub from_start : (c : E) (row : List E) → from 0 c row ≡ swept m c row
  unfolding from
  from_start c row = refl

  pub from_next : (i : ℕ) (c x : E) (p : E × E) (row : List E) → i < length row → x ≡ get_or row i x → p ≡ m.cross c x → from (i + 1) p.1 (set row i p.0) ≡ from i c row
  unfolding from
  from_next i c x p row h e q =
      let here : drop i row ≡ x ∷ drop (i + 1) row = drop_more row i x h ∙ ap (λ y. y ∷ drop (i + 1) row) (sym e) in
      rw (here, q) (simp (take_more_set row i (m.cross c x).0 h, drop-set-lt (i + 1) row i (m.cross c x).0 (omega arith), append_assoc))

  pub from_end : (i : ℕ) (c : E) (row : List E) → length row ≤ i → from i c row ≡ (row, c)
  unfolding from
  from_end i c row h = simp (take_all i row h, drop_all i row h, append-nil)

  -- the boxes from a place on stay, and the carrier goes back over those before it
  pub below : ℕ → List E → E → E × List E
  below i row c = let t = taken m (take i row) c in (t.0, t.1 ++ drop i row)

  pub below_all : (row : List E) (c : E) → below (length row) row c ≡ taken m row c
  unfolding below
  below_all row c = simp (take_all (length row) row (omega arith), drop_all (length row) row (omega arith), append-nil)

  -- the last box first
  taken_last : (row : List E) (x c : E) → taken m (row ++ (x ∷ [])) c ≡ (let p = m.uncross x c in let t = taken m row p.0 in (t.0, t.1 ++ (p.1 ∷ [])))
  taken_last [] x c = refl
  taken_last (b ∷ row) x c = ap (λ (t : E × List E). ((m.uncross b t.0).0, (m.uncross b t.0).1 ∷ t.1)) (taken_last row x c)

  pub below_next : (i : ℕ) (row : List E) (c x : E) (p : E × E) → 0 < i → i ≤ length row → x ≡ get_or row (i - 1) x → p ≡ m.uncross x c → below (i - 1) (set row (i - 1) p.1) p.0 ≡ below i row c
  unfolding below
  below_next zero row c x p z h e q = absurd (not-suc-le-zero z)
  below_next (suc i) row c x p z h e q =
      let up : take (suc i) row ≡ take i row ++ (x ∷ []) = take-suc row i x h ∙ ap (λ y. take i row ++ (y ∷ [])) (sym (rw sub-one at e)) in
      rw (sub-one, up, taken_last, q) (simp (take-set, drop-set row i (m.uncross x c).1 h, add-one, append_assoc))

  pub below_none : (i : ℕ) (row : List E) (c : E) → i ≤ 0 → below i row c ≡ (c, row)
  unfolding below
  below_none zero row c h = refl
  below_none (suc i) row c h = absurd (not-suc-le-zero h)
