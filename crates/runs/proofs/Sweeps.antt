-- Sweep and take-back keep elements and undo each other. Assumes nothing.
use Rattle.std.proofs.Common.{◌≡◌, suc, List, [], ◌∷◌, ◌++◌, length, refl, ap, ◌∙◌}
use Rattle.exchange.specs.Meaning.{Meaning}
use Rattle.exchange.specs.Laws.{Lawful}
use Rattle.runs.specs.Sweeps.{Belong, made, swept, taken}
use Rattle.runs.specs.Theorems.{Belongs, InTurn, Undo}

pub belong_append : {E : Type 0} (m : Meaning E) (xs ys : List E) → Belong m xs → Belong m ys → Belong m (xs ++ ys)
belong_append m [] ys h k = k
belong_append m (x ∷ xs) ys h k = (h.0, belong_append m xs ys h.1 k)

pub append_belong : {E : Type 0} (m : Meaning E) (xs ys : List E) → Belong m (xs ++ ys) → Belong m xs × Belong m ys
append_belong m [] ys h = (tt, h)
append_belong m (x ∷ xs) ys h = let r = append_belong m xs ys h.1 in ((h.0, r.0), r.1)

pub length_swept : {E : Type 0} (m : Meaning E) (c : E) (row : List E) → length (swept m c row).0 ≡ length row
length_swept m c [] = refl
length_swept m c (b ∷ bs) = ap suc (length_swept m (m.cross c b).1 bs)

pub length_taken : {E : Type 0} (m : Meaning E) (c : E) (row : List E) → length (taken m row c).1 ≡ length row
length_taken m c [] = refl
length_taken m c (b ∷ bs) = ap suc (length_taken m c bs)

module _ {E : Type 0} (m : Meaning E) where
  swept_append : (c : E) (near far : List E) → swept m c (near ++ far) ≡ ((swept m c near).0 ++ (swept m (swept m c near).1 far).0, (swept m (swept m c near).1 far).1)
  swept_append c [] far = refl
  swept_append c (b ∷ bs) far = ap (λ (t : List E × E). ((m.cross c b).0 ∷ t.0, t.1)) (swept_append (m.cross c b).1 bs far)

  pub made_append : (row xs ys : List E) → made m row (xs ++ ys) ≡ ((made m (made m row xs).0 ys).0, (made m row xs).1 ++ (made m (made m row xs).0 ys).1)
  made_append row [] ys = refl
  made_append row (x ∷ xs) ys = ap (λ (t : List E × List E). (t.0, (swept m x row).1 ∷ t.1)) (made_append (swept m x row).0 xs ys)

  pub in_turn : InTurn m
  in_turn = record {
    no_box = λ c. refl;
    one_box = λ c b. refl;
    more_boxes = swept_append;
    no_carrier = λ row. refl;
    one_carrier = λ row c. refl;
    more_carriers = made_append;
  }

module _ {E : Type 0} {m : Meaning E} (l : Lawful m) where
  pub sweep_belongs : (c : E) (row : List E) → Belongs m c row → Belongs m (swept m c row).1 (swept m c row).0
  sweep_belongs c [] h = h
  sweep_belongs c (b ∷ bs) h =
      let p = l.crosses.belong c b (h.0, h.1.0) in
      let r = sweep_belongs (m.cross c b).1 bs (p.1, h.1.1) in
      (r.0, (p.0, r.1))

  pub take_back_belongs : (c : E) (row : List E) → Belongs m c row → Belongs m (taken m row c).0 (taken m row c).1
  take_back_belongs c [] h = h
  take_back_belongs c (b ∷ bs) h =
      let r = take_back_belongs c bs (h.0, h.1.1) in
      let p = l.uncrosses.belong b (taken m bs c).0 (h.1.0, r.0) in
      (p.0, (p.1, r.1))

  pub sweep_undone : (c : E) (row : List E) → Belongs m c row → taken m (swept m c row).0 (swept m c row).1 ≡ (c, row)
  sweep_undone c [] h = refl
  sweep_undone c (b ∷ bs) h =
      let p = m.cross c b in
      let k = l.crosses.belong c b (h.0, h.1.0) in
      ap (λ (t : E × List E). ((m.uncross p.0 t.0).0, (m.uncross p.0 t.0).1 ∷ t.1)) (sweep_undone p.1 bs (k.1, h.1.1))
      ∙ ap (λ (q : E × E). (q.0, q.1 ∷ bs)) (l.uncross_undoes c b (h.0, h.1.0))

  pub take_back_undone : (c : E) (row : List E) → Belongs m c row → swept m (taken m row c).0 (taken m row c).1 ≡ (row, c)
  take_back_undone c [] h = refl
  take_back_undone c (b ∷ bs) h =
      let r = taken m bs c in
      let k = take_back_belongs c bs (h.0, h.1.1) in
      ap (λ (q : E × E). (q.0 ∷ (swept m q.1 r.1).0, (swept m q.1 r.1).1)) (l.cross_undoes b r.0 (h.1.0, k.0))
      ∙ ap (λ (t : List E × E). (b ∷ t.0, t.1)) (take_back_undone c bs (h.0, h.1.1))

  pub undo : Undo m
  undo = record {
    sweep_belongs = sweep_belongs;
    take_back_belongs = take_back_belongs;
    sweep_undone = sweep_undone;
    take_back_undone = take_back_undone;
  }
