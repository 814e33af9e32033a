-- What is read from the memory of a log, and what a test of it tells. Assumes nothing.
use Rattle.std.proofs.Common.{◌≡◌, ℕ, suc, ◌+◌, ◌-◌, ◌<◌, ◌≤◌, Bool, true, false, ◌&&◌, T, ◌↔◌, List, [], ◌∷◌, ◌++◌, length, get_or, take, drop, sym, ap, ◌∙◌, subst, add-one, arith, length-take-le, get_or-take, take-append-drop, length-drop, refl, Some, None, Ok}
use Rattle.std.proofs.lemmas.List.{drop_more, get_or-drop, get_or_read}
use Rattle.std.specs.List.{list_all}
use Rattle.std.specs.Prelude.{Option, MatchOption}
use Rattle.exchange.proofs.Tests.{T_both, T_parts}
use Rattle.exchange.specs.Meaning.{Meaning}
use Rattle.runs.specs.Sweeps.{Belong, at, newest}
use Rattle.runs.specs.Exchanges.{Lacks}
use Rattle.runs.proofs.Sweeps.{append_belong, belong_append}
use Rattle.bench.specs.Bench.{Entry, Newest}
use Rattle.bench.specs.Log.{Entries, Removed}
use Rattle.bench.specs.declared.log.Halves.{Halves}

module _ {E : Type 0} (m : Meaning E) where
  -- the value at a place below a count, and the newest there
  pub at_view : (xs : List E) (n i : ℕ) → i < n → at m (take n xs) i ≡ at m xs i
  at_view xs n i h = get_or-take n xs i m.elements.rest h

  pub newest_view : (xs : List E) (n : ℕ) → 0 < n → n ≤ length xs → newest m (take n xs) ≡ at m xs (n - 1)
  newest_view xs n h k = ap (λ (l : ℕ). at m (take n xs) (l - 1)) (length-take-le n xs k) ∙ at_view xs n (n - 1) (omega arith)

  pub newest_read : (xs : List E) (n : ℕ) (x : E) → 0 < n → n ≤ length xs → x ≡ get_or xs (n - 1) x → newest m (take n xs) ≡ x
  newest_read xs n x h k e = newest_view xs n h k ∙ sym (get_or_read xs (n - 1) x (omega arith) e m.elements.rest)

  -- the entry that is removed is the newest, and the memory stays
  pub newest_removed : (l l' : Entries E) (e : E × E) → l.count ≤ length l.incoming → l.count ≤ length l.outgoing → Removed l (Ok e) l' →
      (newest m (take l.count l.incoming) ≡ e.0) × (newest m (take l.count l.outgoing) ≡ e.1) × (l'.incoming ≡ l.incoming) × (l'.outgoing ≡ l.outgoing)
  newest_removed l l' e h k r = (
    newest_read l.incoming l.count e.0 r.0.0 h (ap (λ p. p.0) r.1),
    newest_read l.outgoing l.count e.1 r.0.0 k (ap (λ p. p.1) r.1),
    ap (λ (l : Entries E). l.incoming) r.2,
    ap (λ (l : Entries E). l.outgoing) r.2,
  )

  -- what the reads of a list tell of a kind in it
  lacks_from_reads : (k : ℕ) (xs : List E) → ((j : ℕ) → j < length xs → ¬ (m.elements.kind (at m xs j) ≡ k)) → Lacks m k xs
  lacks_from_reads k [] f = tt
  lacks_from_reads k (x ∷ xs) f = (f 0 (omega arith), lacks_from_reads k xs (λ j h. f (suc j) (omega arith)))

  pub newest_from_reads : (k : ℕ) (xs : List E) (r : Option ℕ) → ((j : ℕ) → r ≡ None → j < length xs → ¬ (m.elements.kind (at m xs j) ≡ k)) → ((i : ℕ) → r ≡ Some i → i < length xs) → ((i : ℕ) → r ≡ Some i → m.elements.kind (at m xs i) ≡ k) → ((i j : ℕ) → r ≡ Some i → i < j → j < length xs → ¬ (m.elements.kind (at m xs j) ≡ k)) → MatchOption r (Lacks m k xs) (Newest m k xs)
  newest_from_reads k xs None none within here later = lacks_from_reads k xs (λ j h. none j refl h)
  newest_from_reads k xs (Some i) none within here later =
      let inside = within i refl in
      record {
        front = take i xs;
        raised = at m xs i;
        later = drop (i + 1) xs;
        parts = sym (take-append-drop i xs) ∙ ap (λ l. take i xs ++ l) (drop_more xs i m.elements.rest inside);
        of_kind = here i refl;
        none_later = lacks_from_reads k (drop (i + 1) xs) (λ j h. rw get_or-drop (later i (i + 1 + j) refl (omega arith) (omega (arith, length-drop (i + 1) xs))));
        place = length-take-le i xs (omega arith);
      }

  -- a list with a carrier of the kind does not lack it
  pub newest_there : (k : ℕ) (xs : List E) (i : ℕ) → Newest m k xs i → ¬ Lacks m k xs
  newest_there k xs i n l = go n.front (subst (Lacks m k) n.parts l)
    where
      go : (front : List E) → Lacks m k (front ++ (n.raised ∷ n.later)) → ⊥
      go [] l = l.0 n.of_kind
      go (x ∷ front) l = go front l.1

-- two tests at once
pub both_tell : {P Q : Type 0} (a b : Bool) → T a ↔ P → T b ↔ Q → T (a && b) ↔ (P × Q)
both_tell a b v w = (λ t. let p = T_parts a b t in (v.0 p.0, w.0 p.1), λ p. T_both a b (v.1 p.0) (w.1 p.1))

-- what a test that failed, or passed, has told
pub told_no : {P : Type 0} (b : Bool) → T b ↔ P → b ≡ false → ¬ P
told_no b w e p = subst T e (w.1 p)

pub told_yes : {P : Type 0} (b : Bool) → T b ↔ P → b ≡ true → P
told_yes b w e = w.0 (subst T (sym e) tt)

-- the test of every value of a list
pub all_belong : {E : Type 0} (m : Meaning E) (xs : List E) → T (list_all m.elements.belongs xs) ↔ Belong m xs
all_belong m [] = (λ t. tt, λ b. tt)
all_belong m (x ∷ xs) = both_tell (m.elements.belongs x) (list_all m.elements.belongs xs) (λ t. t, λ t. t) (all_belong m xs)

-- tests of what the rules read, by the entries below a count
module _ {E : Type 0} (m : Meaning E) (halves : Halves E) (n : ℕ) where
  abbrev incoming : List E
  incoming = halves.incoming.now

  abbrev outgoing : List E
  outgoing = halves.outgoing.now

  pub entries_tell : (i : ℕ) (a b : Bool) → suc i < n → T a ↔ Entry m halves i → T b ↔ Entry m halves (i + 1) → T (a && b) ↔ Belong m (at m (take n incoming) i ∷ at m (take n incoming) (suc i) ∷ at m (take n outgoing) i ∷ at m (take n outgoing) (suc i) ∷ [])
  entries_tell i a b h v w =
      let q = both_tell a b v (rw add-one at w) in
      let k : i < n = omega arith in
      rw (at_view m incoming n i, at_view m incoming n (suc i), at_view m outgoing n i, at_view m outgoing n (suc i))
      (λ t. let p = q.0 t in (p.0.0, (p.1.0, (p.0.1, (p.1.1, tt)))), λ p. q.1 ((p.0, p.1.1.0), (p.1.0, p.1.1.1.0)))

  pub newest_tells : (row : List E) (a b : Bool) → 0 < n → n ≤ length incoming → n ≤ length outgoing → T a ↔ Entry m halves (n - 1) → T b ↔ Belong m row → T (a && b) ↔ Belong m (newest m (take n incoming) ∷ newest m (take n outgoing) ∷ row)
  newest_tells row a b h k l v w =
      let q = both_tell a b v w in
      rw (newest_view m incoming n h k, newest_view m outgoing n h l) (λ t. let p = q.0 t in (p.0.0, (p.0.1, p.1)), λ p. q.1 ((p.0, p.1.0), p.1.1))

  pub logs_tell : (b : Bool) → T b ↔ (Belong m (take n incoming) × Belong m (take n outgoing)) → T b ↔ Belong m (take n incoming ++ take n outgoing)
  logs_tell b v =
      (λ t. let p = v.0 t in belong_append m _ _ p.0 p.1, λ p. v.1 (append_belong m (take n incoming) _ p))
