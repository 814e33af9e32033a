-- A text prints one thing. Assumes nothing.
use Rattle.std.proofs.Common.{◌≡◌, ℕ, Bool, true, false, List, [], ◌∷◌, ◌++◌, codes as bytes, sym, ◌∙◌, subst, ap₂}
use Rattle.exchange.specs.Meaning.{Meaning}
use Rattle.maps.specs.Affine.{affine_map}
use Rattle.maps.specs.Capacity.{capacity_map}
use Rattle.maps.specs.Permutations.{perm_map}
use Rattle.maps.specs.Phases.{phase_map}
use Rattle.runs.specs.Book.{Answer, Call}
use Rattle.runs.specs.Book
use Rattle.runs.specs.Exchanges.{back, forth}
use Rattle.runs.proofs.Outcomes.{same_outcome}
use Rattle.rowfile.specs.Files.{File}
use Rattle.rowfile.specs.Lines.{Bytes}
use Rattle.rowfile.specs.declared.file.Command.{Command}
use Rattle.rowfile.specs.declared.file.Command.TheVariants.{Sweep, Exchange, ExchangeBack, Raise, TakeBack, Print}
use Rattle.rowfile.specs.declared.file.MapName.{MapName}
use Rattle.rowfile.specs.declared.file.MapName.TheVariants.{Cap, Perm, Aff, Phase}
use Rattle.rowfile.proofs.Exact.{no_fault, one_fault, one_text}
use Rattle.session.specs.Played.{OneSession, Plays, PlaysNamed, Raised, Says, Told, answer_fields, code_fields, fault_fields, faulty, played, printed, seen_from, session_lengths}

module _ {E : Type 0} (m : Meaning E) (filled : List E) where
  -- one list, one line
  Same : List E → List E → List Bytes → List Bytes → Type 0
  Same ys zs fs gs = (ys ≡ zs) × (fs ≡ gs)

  one_told : (letter : Bytes) (call : Call E) (xs ys zs : List E) (fs gs : List Bytes) → Told m filled letter call xs ys fs → Told m filled letter call xs zs gs → Same ys zs fs gs
  unfolding Same
  one_told letter call xs ys zs fs gs (a, o, e) (b, p, f) =
      let s = same_outcome m filled (session_lengths filled) call xs ys zs a b o p in
      (s.0, e ∙ (ap₂ (λ (us : List E) (c : Answer). answer_fields letter (code_fields m us) c) s.0 s.1 ∙ sym f))

  one_raise : (b : Bool) (k : ℕ) (xs ys zs : List E) (fs gs : List Bytes) → Raised m b filled k xs ys fs → Raised m b filled k xs zs gs → Same ys zs fs gs
  unfolding Same
  one_raise true k xs ys zs fs gs s t = one_told (bytes "N") (Book.raise k) xs ys zs fs gs s t
  one_raise false k xs ys zs fs gs s t = (s.0 ∙ sym t.0, s.1 ∙ sym t.1)

  one_line : (b : Bool) (c : Command) (xs ys zs : List E) (fs gs : List Bytes) → Says m b filled c xs ys fs → Says m b filled c xs zs gs → Same ys zs fs gs
  unfolding Same
  one_line b (Sweep n) xs ys zs fs gs s t = one_told (bytes "S") (Book.sweep (m.elements.element n)) xs ys zs fs gs s t
  one_line b TakeBack xs ys zs fs gs s t = one_told (bytes "B") Book.take_back xs ys zs fs gs s t
  one_line b (Exchange i) xs ys zs fs gs s t = one_told (bytes "X") (Book.exchange forth i) xs ys zs fs gs s t
  one_line b (ExchangeBack i) xs ys zs fs gs s t = one_told (bytes "Y") (Book.exchange back i) xs ys zs fs gs s t
  one_line b (Raise k) xs ys zs fs gs s t = one_raise b k xs ys zs fs gs s t
  one_line b Print xs ys zs fs gs s t = (s.0 ∙ sym t.0, s.1 ∙ sym t.1)

  one_play : (b : Bool) (cs : List Command) (xs : List E) (out out' : Bytes) → Plays m b filled xs cs out → Plays m b filled xs cs out' → out ≡ out'
  unfolding Same
  one_play b [] xs out out' e f = e ∙ sym f
  one_play b (c ∷ cs) xs out out' (ys, fs, rest, s, p, e) (zs, gs, rest', t, q, f) =
      let l = one_line b c xs ys zs fs gs s t in
      let r = one_play b cs zs rest rest' (subst (λ (us : List E). Plays m b filled us cs rest) l.0 p) q in
      e ∙ (ap₂ (λ (hs : List Bytes) (o : Bytes). printed hs ++ o) l.1 r ∙ sym f)

one_named : (name : MapName) (f : File) (out out' : Bytes) → PlaysNamed name f out → PlaysNamed name f out' → out ≡ out'
one_named Cap f out out' p q = one_play (seen_from f.heading.side capacity_map) _ true f.commands [] out out' p q
one_named Perm f out out' p q = one_play (seen_from f.heading.side perm_map) _ false f.commands [] out out' p q
one_named (Aff m a b c d) f out out' p q = one_play (seen_from f.heading.side (affine_map m a b c d)) _ false f.commands [] out out' p q
one_named (Phase m) f out out' p q = one_play (seen_from f.heading.side (phase_map m)) _ true f.commands [] out out' p q

pub one_session : OneSession
one_session text out out' (played f k e p) (played g l e' q) =
    let same = one_text f g k l (sym e ∙ e') in
    one_named g.heading.map g out out' (subst (λ (x : File). PlaysNamed x.heading.map x out) same p) q
one_session text out out' (played f k e p) (faulty line r h e') = absurd (no_fault f text line r k e h)
one_session text out out' (faulty line r h e) (played f k e' p) = absurd (no_fault f text line r k e' h)
one_session text out out' (faulty line r h e) (faulty line' r' h' e') =
    let same = one_fault text line line' r r' h h' in
    e ∙ (ap₂ (λ (n : ℕ) (s : _). printed (fault_fields n s)) same.0 same.1 ∙ sym e')
