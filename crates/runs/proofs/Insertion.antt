-- Over a returning map, a list is told by its kinds and its reorderings: an insertion by kind is the same before and after an exchange, and is undone when the kinds are known. Assumes nothing.
use Rattle.std.proofs.Common.{◌≡◌, ℕ, zero, suc, ◌<◌, ◌≤◌, Bool, true, false, cond, T, leb, ◌⊎◌, List, [], ◌∷◌, map, sym, refl, ap, ◌∙◌, subst, ap₂, inl, inr, arith}
use mathlib.Core.Path.{fun_ext}
use Rattle.std.proofs.lemmas.Bool.{cases_lt, cases_order, le-leb, lt-leb}
use Rattle.exchange.specs.Meaning.{Exchange, Meaning}
use Rattle.exchange.specs.Laws.{Lawful, Returning}
use Rattle.exchange.specs.LayersLemmas.{uncross_is_cross}
use Rattle.runs.specs.Sweeps.{Belong}
use Rattle.runs.specs.Exchanges.{Move, Turns, Way, back, by, exchanged, forth}
use Rattle.runs.specs.Theorems.{KindsTell}
use Rattle.runs.proofs.Places.{kind}
use Rattle.runs.proofs.Reordering.{exchanged_belong, turned_belong}

-- x, older than all of the list, moves past every carrier of smaller kind up to the first that is none
insert : {E : Type 0} → Meaning E → E → List E → List E
insert m x [] = x ∷ []
insert m x (y ∷ zs) = cond (leb (kind m x) (kind m y)) (x ∷ y ∷ zs) ((m.cross y x).1 ∷ insert m (m.cross y x).0 zs)

sorted : {E : Type 0} → Meaning E → List E → List E
sorted m [] = []
sorted m (x ∷ xs) = insert m x (sorted m xs)

-- what these do to the kinds
abbrev place : ℕ → List ℕ → List ℕ
place k [] = k ∷ []
place k (j ∷ js) = cond (leb k j) (k ∷ j ∷ js) (j ∷ place k js)

abbrev placed : List ℕ → List ℕ
placed [] = []
placed (k ∷ ks) = place k (placed ks)

module _ {E : Type 0} (m : Meaning E) where
  insert_alone : (x : E) → insert m x [] ≡ x ∷ []
  unfolding insert
  insert_alone x = refl

  insert_stays : (x y : E) (zs : List E) → kind m x ≤ kind m y → insert m x (y ∷ zs) ≡ x ∷ y ∷ zs
  unfolding insert
  insert_stays x y zs h = ap (λ (b : Bool). cond b (x ∷ y ∷ zs) ((m.cross y x).1 ∷ insert m (m.cross y x).0 zs)) (le-leb _ _ h)

  insert_passes : (x y : E) (zs : List E) → kind m y < kind m x → insert m x (y ∷ zs) ≡ (m.cross y x).1 ∷ insert m (m.cross y x).0 zs
  unfolding insert
  insert_passes x y zs h = ap (λ (b : Bool). cond b (x ∷ y ∷ zs) ((m.cross y x).1 ∷ insert m (m.cross y x).0 zs)) (lt-leb _ _ h)

module _ {E : Type 0} {m : Meaning E} (l : Lawful m) where
  insert_belong : (x : E) (zs : List E) → T (m.elements.belongs x) → Belong m zs → Belong m (insert m x zs)
  insert_belong x [] hx h = subst (Belong m) (sym (insert_alone m x)) (hx, tt)
  insert_belong x (y ∷ zs) hx h = split (cases_lt (kind m y) (kind m x)) (insert_belong (m.cross y x).0 zs p.0 h.1)
    where
      p : T (m.elements.belongs (m.cross y x).0) × T (m.elements.belongs (m.cross y x).1)
      p = l.crosses.belong y x (h.0, hx)

      split : ((kind m y < kind m x) ⊎ (kind m x ≤ kind m y)) → Belong m (insert m (m.cross y x).0 zs) → Belong m (insert m x (y ∷ zs))
      split (inl s) r = subst (Belong m) (sym (insert_passes m x y zs s)) (p.1, r)
      split (inr s) r = subst (Belong m) (sym (insert_stays m x y zs s)) (hx, h)

  -- two carriers out of order may be exchanged before they are inserted
  insert_exchanged : (x y : E) (zs : List E) → T (m.elements.belongs x) → T (m.elements.belongs y) → Belong m zs → kind m y < kind m x →
      insert m (m.cross y x).1 (insert m (m.cross y x).0 zs) ≡ insert m x (insert m y zs)
  insert_exchanged x y [] hx hy h s =
      let a = (m.cross y x).1 in
      let b = (m.cross y x).0 in
      let ka = l.crosses.right_kind y x (hy, hx) in
      let kb = l.crosses.left_kind y x (hy, hx) in
      let e1 = insert_alone m b in
      let e2 = insert_alone m y in
      let e3 = insert_stays m a b [] (omega arith) in
      let e4 = insert_passes m x y [] s in
      cc
  insert_exchanged x y (z ∷ zs) hx hy h s = split (cases_lt kz (kind m y)) (cases_lt kz (kind m x)) (insert_exchanged s'.0 r.0 zs hs.0 hr.0 h.1 (omega (arith, ks, kr)))
    where
      kz : ℕ
      kz = kind m z

      p : E × E
      p = m.cross y x

      q : E × E
      q = m.cross z p.0

      r : E × E
      r = m.cross z y

      s' : E × E
      s' = m.cross r.1 x

      hp : T (m.elements.belongs p.0) × T (m.elements.belongs p.1)
      hp = l.crosses.belong y x (hy, hx)

      hr : T (m.elements.belongs r.0) × T (m.elements.belongs r.1)
      hr = l.crosses.belong z y (h.0, hy)

      hs : T (m.elements.belongs s'.0) × T (m.elements.belongs s'.1)
      hs = l.crosses.belong r.1 x (hr.1, hx)

      ka : kind m p.1 ≡ kind m y
      ka = l.crosses.right_kind y x (hy, hx)

      kb : kind m p.0 ≡ kind m x
      kb = l.crosses.left_kind y x (hy, hx)

      kq : kind m q.1 ≡ kz
      kq = l.crosses.right_kind z p.0 (h.0, hp.0)

      kr : kind m r.0 ≡ kind m y
      kr = l.crosses.left_kind z y (h.0, hy)

      kr' : kind m r.1 ≡ kz
      kr' = l.crosses.right_kind z y (h.0, hy)

      ks : kind m s'.0 ≡ kind m x
      ks = l.crosses.left_kind r.1 x (hr.1, hx)

      split : ((kz < kind m y) ⊎ (kind m y ≤ kz)) → ((kz < kind m x) ⊎ (kind m x ≤ kz)) →
          insert m (m.cross r.0 s'.0).1 (insert m (m.cross r.0 s'.0).0 zs) ≡ insert m s'.0 (insert m r.0 zs) →
          insert m p.1 (insert m p.0 (z ∷ zs)) ≡ insert m x (insert m y (z ∷ zs))
      split (inl a) (inl b) ih =
          let e1 = insert_passes m p.0 z zs (omega (arith, kb)) in
          let e2 = insert_passes m p.1 q.1 (insert m q.0 zs) (omega (arith, ka, kq)) in
          let e3 = insert_passes m y z zs a in
          let e4 = insert_passes m x r.1 (insert m r.0 zs) (omega (arith, kr')) in
          ap (insert m p.1) e1 ∙ (e2 ∙ (sym (ap (λ (t : E × E × E). t.2 ∷ insert m t.1 (insert m t.0 zs)) (l.braids (z, y, x) (h.0, hy, hx)))
          ∙ (ap (λ (t : List E). s'.1 ∷ t) ih ∙ (sym e4 ∙ sym (ap (insert m x) e3)))))
      split (inl a) (inr b) ih = absurd (omega arith)
      split (inr a) (inl b) ih =
          let e1 = insert_passes m p.0 z zs (omega (arith, kb)) in
          let e2 = insert_stays m p.1 q.1 (insert m q.0 zs) (omega (arith, ka, kq)) in
          let e3 = insert_stays m y z zs a in
          let e4 = insert_passes m x y (z ∷ zs) s in
          ap (insert m p.1) e1 ∙ (e2 ∙ (sym (ap (λ (t : List E). p.1 ∷ t) e1) ∙ (sym e4 ∙ sym (ap (insert m x) e3))))
      split (inr a) (inr b) ih =
          let e1 = insert_stays m p.0 z zs (omega (arith, kb)) in
          let e2 = insert_stays m p.1 p.0 (z ∷ zs) (omega (arith, ka, kb)) in
          let e3 = insert_stays m y z zs a in
          let e4 = insert_passes m x y (z ∷ zs) s in
          ap (insert m p.1) e1 ∙ (e2 ∙ (sym (ap (λ (t : List E). p.1 ∷ t) e1) ∙ (sym e4 ∙ sym (ap (insert m x) e3))))

  sorted_belong : (xs : List E) → Belong m xs → Belong m (sorted m xs)
  unfolding sorted
  sorted_belong [] h = h
  sorted_belong (x ∷ xs) h = insert_belong x (sorted m xs) h.0 (sorted_belong xs h.1)

  kinds_insert : (x : E) (zs : List E) → T (m.elements.belongs x) → Belong m zs → map (kind m) (insert m x zs) ≡ place (kind m x) (map (kind m) zs)
  unfolding insert
  kinds_insert x [] hx h = refl
  kinds_insert x (y ∷ zs) hx h = split (leb (kind m x) (kind m y)) (kinds_insert (m.cross y x).0 zs (l.crosses.belong y x (h.0, hx)).0 h.1)
    where
      split : (b : Bool) → map (kind m) (insert m (m.cross y x).0 zs) ≡ place (kind m (m.cross y x).0) (map (kind m) zs) →
          map (kind m) (cond b (x ∷ y ∷ zs) ((m.cross y x).1 ∷ insert m (m.cross y x).0 zs))
          ≡ cond b (kind m x ∷ kind m y ∷ map (kind m) zs) (kind m y ∷ place (kind m x) (map (kind m) zs))
      split true ih = refl
      split false ih =
          let e0 = l.crosses.left_kind y x (h.0, hx) in
          let e1 = l.crosses.right_kind y x (h.0, hx) in
          cc

  kinds_sorted : (xs : List E) → Belong m xs → map (kind m) (sorted m xs) ≡ placed (map (kind m) xs)
  unfolding sorted
  kinds_sorted [] h = refl
  kinds_sorted (x ∷ xs) h = kinds_insert x (sorted m xs) h.0 (sorted_belong xs h.1) ∙ ap (place (kind m x)) (kinds_sorted xs h.1)

module _ {E : Type 0} {m : Meaning E} (l : Lawful m) (r : Returning m) where
  sorted_exchanged : (i : ℕ) (xs : List E) → Belong m xs → sorted m (exchanged m.cross i xs) ≡ sorted m xs
  unfolding sorted
  sorted_exchanged i [] h = refl
  sorted_exchanged zero (x ∷ []) h = refl
  sorted_exchanged zero (x ∷ y ∷ zs) h = split (cases_order (kind m y) (kind m x))
    where
      p : E × E
      p = m.cross y x

      hp : T (m.elements.belongs p.0) × T (m.elements.belongs p.1)
      hp = l.crosses.belong y x (h.1.0, h.0)

      hz : Belong m (sorted m zs)
      hz = sorted_belong l zs h.1.1

      insert2 : E × E → List E
      insert2 t = insert m t.1 (insert m t.0 (sorted m zs))

      split : ((kind m y ≡ kind m x) ⊎ ((kind m y < kind m x) ⊎ (kind m x < kind m y))) → insert2 p ≡ insert2 (y, x)
      split (inl e) = ap insert2 (r.alike y x e)
      split (inr (inl s)) = insert_exchanged l x y (sorted m zs) h.0 h.1.0 hz s
      split (inr (inr s)) =
          let ka = l.crosses.right_kind y x (h.1.0, h.0) in
          let kb = l.crosses.left_kind y x (h.1.0, h.0) in
          sym (insert_exchanged l p.1 p.0 (sorted m zs) hp.1 hp.0 hz (omega (arith, ka, kb))) ∙ ap insert2 (r.twice y x)
  sorted_exchanged (suc i) (x ∷ xs) h = ap (insert m x) (sorted_exchanged i xs h.1)

  by_is_cross : (w : Way) → by m w ≡ m.cross
  by_is_cross forth = refl
  by_is_cross back = fun_ext (λ x. fun_ext (λ y. uncross_is_cross l r x y))

  sorted_turned : (xs ys : List E) (moves : List Move) → Belong m xs → Turns m moves xs ys → sorted m xs ≡ sorted m ys
  sorted_turned xs ys [] h e = ap (sorted m) e
  sorted_turned xs ys (move ∷ moves) h t =
      let next = exchanged (by m move.0) move.1 xs in
      sym (sorted_exchanged move.1 xs h)
      ∙ (sym (ap (λ (f : Exchange E). sorted m (exchanged f move.1 xs)) (by_is_cross move.0))
      ∙ sorted_turned next ys moves (exchanged_belong l move.0 move.1 xs h) t.1)

  -- an insertion is undone when the kinds are known
  insert_told : (x x' : E) (zs zs' : List E) → Belong m (x ∷ zs) → Belong m (x' ∷ zs') → kind m x ≡ kind m x' → map (kind m) zs ≡ map (kind m) zs' →
      insert m x zs ≡ insert m x' zs' → (x ≡ x') × (zs ≡ zs')
  insert_told x x' [] [] h h' k ks e =
      let e1 = insert_alone m x in
      let e2 = insert_alone m x' in
      (cc, refl)
  insert_told x x' [] (y' ∷ zs') h h' k ks e = let z : ◌≡◌ {A = ℕ} 0 1 = cc in absurd (omega arith)
  insert_told x x' (y ∷ zs) [] h h' k ks e = let z : ◌≡◌ {A = ℕ} 0 1 = cc in absurd (omega arith)
  insert_told x x' (y ∷ zs) (y' ∷ zs') h h' k ks e =
      split (cases_lt (kind m y) (kind m x)) (insert_told p.0 p'.0 zs zs' (hp.0, h.1.1) (hp'.0, h'.1.1) (kp ∙ (k ∙ sym kp')) (cc))
    where
      p : E × E
      p = m.cross y x

      p' : E × E
      p' = m.cross y' x'

      hp : T (m.elements.belongs p.0) × T (m.elements.belongs p.1)
      hp = l.crosses.belong y x (h.1.0, h.0)

      hp' : T (m.elements.belongs p'.0) × T (m.elements.belongs p'.1)
      hp' = l.crosses.belong y' x' (h'.1.0, h'.0)

      kp : kind m p.0 ≡ kind m x
      kp = l.crosses.left_kind y x (h.1.0, h.0)

      kp' : kind m p'.0 ≡ kind m x'
      kp' = l.crosses.left_kind y' x' (h'.1.0, h'.0)

      ky : kind m y ≡ kind m y'
      ky = cc

      split : ((kind m y < kind m x) ⊎ (kind m x ≤ kind m y)) → (insert m p.0 zs ≡ insert m p'.0 zs' → (p.0 ≡ p'.0) × (zs ≡ zs')) → (x ≡ x') × (◌≡◌ {A = List E} (y ∷ zs) (y' ∷ zs'))
      split (inl s) ih =
          let e1 = insert_passes m x y zs s in
          let e2 = insert_passes m x' y' zs' (omega (arith, ky)) in
          let rest = ih (cc) in
          let first : p.1 ≡ p'.1 = cc in
          let pair : ◌≡◌ {A = E × E} (y, x) (y', x') = sym (r.twice y x) ∙ (ap₂ (λ (a b : E). m.cross a b) rest.0 first ∙ r.twice y' x') in
          (ap (λ (t : E × E). t.1) pair, ap₂ (λ (t : E × E) (u : List E). t.0 ∷ u) pair rest.1)
      split (inr s) ih =
          let e1 = insert_stays m x y zs s in
          let e2 = insert_stays m x' y' zs' (omega (arith, ky)) in
          (cc, cc)

  sorted_told : (xs ys : List E) → Belong m xs → Belong m ys → map (kind m) xs ≡ map (kind m) ys → sorted m xs ≡ sorted m ys → xs ≡ ys
  unfolding sorted
  sorted_told [] [] h h' k e = refl
  sorted_told [] (y ∷ ys) h h' k e = let z : ◌≡◌ {A = ℕ} 0 1 = cc in absurd (omega arith)
  sorted_told (x ∷ xs) [] h h' k e = let z : ◌≡◌ {A = ℕ} 0 1 = cc in absurd (omega arith)
  sorted_told (x ∷ xs) (y ∷ ys) h h' k e =
      let ks : map (kind m) xs ≡ map (kind m) ys = cc in
      let same = kinds_sorted l xs h.1 ∙ (ap placed ks ∙ sym (kinds_sorted l ys h'.1)) in
      let first = insert_told x y (sorted m xs) (sorted m ys) (h.0, sorted_belong l xs h.1) (h'.0, sorted_belong l ys h'.1) (cc) same e in
      ap₂ (λ (a : E) (as' : List E). a ∷ as') first.0 (sorted_told xs ys h.1 h'.1 ks first.1)

pub kinds_tell : {E : Type 0} {m : Meaning E} → Lawful m → KindsTell m
kinds_tell l r xs ys moves h t k = sorted_told l r xs ys h (turned_belong l xs ys moves h t) k (sorted_turned l r xs ys moves h t)
