-- A session after some of its commands. Assumes nothing.
use Rattle.std.proofs.Common.{◌≡◌, ℕ, ◌+◌, ◌<◌, ◌≤◌, Bool, List, [], ◌++◌, length, get_or, take, drop, sym, refl, ap, ◌∙◌, subst, append_assoc, append-nil, arith}
use Rattle.std.proofs.lemmas.List.{drop_all, drop_more, take_all}
use Rattle.exchange.specs.Meaning.{Meaning}
use Rattle.runs.specs.Book.{View}
use Rattle.runs.specs.Calls.{Held, view}
use Rattle.runs.specs.Runs.{Run}
use Rattle.rowfile.specs.Lines.{Bytes}
use Rattle.rowfile.specs.declared.file.Command.{Command}
use Rattle.session.specs.Played.{Plays, printed}
use Rattle.session.specs.Playing.{Playing, RunsOn, Steps}

module _ {E : Type 0} (m : Meaning E) (returning : Bool) (commands : List Command) where
  -- before the command i, from the memory h₀ and the text out₀: what the rest prints comes behind what is printed
  abbrev pub Midway : ℕ → Held E → Bytes → Held E → Bytes → Type 0
  Midway i h₀ out₀ h out =
      (filled : List E) → Playing m filled h₀ [] →
      (xs : List E) × (lines : Bytes) × Playing m filled h xs × (out ≡ out₀ ++ lines)
      × ((rest : Bytes) → Plays m returning filled xs (drop i commands) rest → Plays m returning filled [] commands (lines ++ rest))

  pub midway_more : (i : ℕ) (h₀ : Held E) (out₀ : Bytes) (h h' : Held E) (out out' : Bytes) (d : Command) → i < length commands → Midway i h₀ out₀ h out → Steps m returning (get_or commands i d) h out h' out' → Midway (i + 1) h₀ out₀ h' out'
  midway_more i h₀ out₀ h h' out out' d k before step filled p =
      let b = before filled p in
      let s = step filled b.0 b.2 in (
        s.0,
        b.1 ++ printed s.1,
        s.3,
        s.4 ∙ (ap (λ (l : Bytes). l ++ printed s.1) b.3 ∙ append_assoc out₀ b.1 (printed s.1)),
        λ rest t. subst (Plays m returning filled [] commands) (sym (append_assoc b.1 (printed s.1) rest))
            (b.4 (printed s.1 ++ rest) (subst (λ (cs : List Command). Plays m returning filled b.0 cs (printed s.1 ++ rest)) (sym (drop_more commands i d k)) (s.0, s.1, rest, s.2, t, refl))),
      )

  pub midway_end : (i : ℕ) (h₀ : Held E) (out₀ : Bytes) (h : Held E) (out : Bytes) → length commands ≤ i → Midway i h₀ out₀ h out → RunsOn m returning commands h₀ out₀ out
  midway_end i h₀ out₀ h out k before filled p =
      let b = before filled p in
      (b.1, subst (Plays m returning filled [] commands) (append-nil b.1) (b.4 [] (subst (λ (cs : List Command). Plays m returning filled b.0 cs []) (sym (drop_all i commands k)) refl)), b.3)

-- a bench just started over a filled row, in the memory of a session
pub begins : {E : Type 0} (m : Meaning E) (filled : List E) (h : Held E) → h.boxes ≡ length filled → h.sweeps ≡ 0 → h.row ≡ filled → length h.incoming ≡ 256 → length h.outgoing ≡ 256 → Playing m filled h []
begins {E = E} m filled h b s r i o =
    let whole : filled ≡ take h.boxes h.row = sym (ap (take h.boxes) r ∙ take_all h.boxes filled (omega arith)) in
    let none : (ys : List E) → [] ≡ take h.sweeps ys = λ ys. sym (ap (λ (n : ℕ). take n ys) s) in
    let start : ◌≡◌ {A = View E} (record { row = filled; incoming = []; outgoing = [] }) (view h) = λ k. record { row = whole k; incoming = none h.incoming k; outgoing = none h.outgoing k } in
    record {
      calls = [];
      run = subst (Run m filled []) start Run.start;
      log = none h.incoming;
      boxes_are = b;
      row_long = ap length r;
      incoming_long = i;
      outgoing_long = o;
      sweeps_fit = omega arith;
    }
