-- The words of a line tell how many numbers follow. Assumes nothing.
use Rattle.std.proofs.Common.{◌≡◌, ℕ, ◌<◌, cond, eqb, List, [], ◌∷◌, map, length, get_or, replicate, codes as bytes, decimal, sym, refl, ap, ◌∙◌, subst, inl, inr, ⊎_elim, arith}
use lib.ListN.{length-replicate}
use Rattle.std.proofs.lemmas.List.{nil_from_length}
use Rattle.exchange.specs.declared.refusal.Refusal.{Refusal}
use Rattle.exchange.specs.declared.refusal.Refusal.TheVariants.{BadForm, BadNumber}
use Rattle.rowfile.specs.Lines.{Bytes}
use Rattle.rowfile.specs.Files.{Small, side_word, name_word, parameters, letter, argument}
use Rattle.rowfile.specs.Faults.{Any, NoNumber, Ground}
use Rattle.rowfile.specs.Judging.{Misses, Misnamed}
use Rattle.rowfile.specs.Faults.Ground.{no_form, no_number}
use Rattle.rowfile.specs.declared.file.Side.{Side}
use Rattle.rowfile.specs.declared.file.MapName.{MapName}
use Rattle.rowfile.specs.declared.file.MapName.TheVariants.{Cap, Perm, Aff, Phase}
use Rattle.rowfile.specs.declared.file.Heading.{Heading}
use Rattle.rowfile.specs.declared.file.Stage.{Stage}
use Rattle.rowfile.specs.declared.file.Stage.TheVariants.{Map, Row, Commands}
use Rattle.rowfile.specs.declared.file.Command.{Command}
use Rattle.rowfile.specs.declared.file.Command.TheVariants.{Sweep, Exchange, ExchangeBack, Raise, TakeBack, Print}

-- how many parameters stand behind a map's name
parameter_count : Bytes → ℕ
parameter_count w = cond (eqb (get_or w 2 0) 102) 5 (cond (eqb (get_or w 2 0) 97) 1 0)

parameter_count_is : (m : MapName) → length (parameters m) ≡ parameter_count (name_word m)
unfolding parameter_count
parameter_count_is Cap = refl
parameter_count_is Perm = refl
parameter_count_is (Aff m a b c d) = refl
parameter_count_is (Phase m) = refl

pub misnamed : (w : Bytes) (fs : List Bytes) (m : MapName) (e : Refusal) → w ≡ name_word m → Misses (length (parameters m)) fs e → Misnamed w fs e
misnamed w fs m e q h =
    ⊎_elim
    (λ f. inl (f.0, λ k u l. f.1 (l ∙ (parameter_count_is k ∙ (ap parameter_count (sym u ∙ q) ∙ sym (parameter_count_is m))))))
    (λ n. inr (n.0, (m, q, n.1, n.2)))
    h

-- how many numbers stand behind a command's letter
argument_count : Bytes → ℕ
argument_count w = cond (eqb (get_or w 0 0) 66) 0 (cond (eqb (get_or w 0 0) 80) 0 1)

argument_count_is : (c : Command) → length (argument c) ≡ argument_count (letter c)
unfolding argument_count
argument_count_is (Sweep n) = refl
argument_count_is (Exchange n) = refl
argument_count_is (ExchangeBack n) = refl
argument_count_is (Raise n) = refl
argument_count_is TakeBack = refl
argument_count_is Print = refl

pub command_misses : (h : Heading) (c : Command) (w : Bytes) (fs : List Bytes) (e : Refusal) → w ≡ letter c → Misses (length (argument c)) fs e → Ground (Commands h) (w ∷ fs) e
command_misses h c w fs e q m =
    ⊎_elim
    (λ f. subst (Ground (Commands h) (w ∷ fs)) (sym f.0) (no_form (λ d ns p. let u : w ≡ letter d = cc in let v : fs ≡ ns = cc in f.1 (ap length v ∙ (p.1 ∙ (argument_count_is d ∙ (ap argument_count (sym u ∙ q) ∙ sym (argument_count_is c))))))))
    (λ n. subst (Ground (Commands h) (w ∷ fs)) (sym n.0) (no_number c fs (ap (λ k. k ∷ fs) q, n.1) n.2))
    m

-- a letter that is no command's
pub no_letter : (h : Heading) (k : ℕ) (fs : List Bytes) → ((c : Command) → k ∷ [] ≡ letter c → ⊥) → Ground (Commands h) ((k ∷ []) ∷ fs) BadForm
no_letter h k fs f = no_form (λ c ns p. f c (cc))

pub six : (k : ℕ) → (k ≡ 83 → ⊥) → (k ≡ 88 → ⊥) → (k ≡ 89 → ⊥) → (k ≡ 78 → ⊥) → (k ≡ 66 → ⊥) → (k ≡ 80 → ⊥) → (c : Command) → k ∷ [] ≡ letter c → ⊥
six k s x y n b p (Sweep i) e = s (cc)
six k s x y n b p (Exchange i) e = x (cc)
six k s x y n b p (ExchangeBack i) e = y (cc)
six k s x y n b p (Raise i) e = n (cc)
six k s x y n b p TakeBack e = b (cc)
six k s x y n b p Print e = p (cc)

-- a heading's line with less than three fields
pub heading_short : (fs : List Bytes) → length fs < 3 → Ground Map fs BadForm
heading_short fs l = no_form (λ h ns p. omega (arith, ap length p.0))

pub heading_sideless : (w : Bytes) (fs : List Bytes) → ((s : Side) → w ≡ side_word s → ⊥) → Ground Map (bytes "map" ∷ w ∷ fs) BadForm
heading_sideless w fs f = no_form (λ h ns p. f h.side (cc))

pub heading_misnamed : (s : Side) (w n : Bytes) (fs : List Bytes) (e : Refusal) → w ≡ side_word s → Misnamed n fs e → Ground Map (bytes "map" ∷ w ∷ n ∷ fs) e
heading_misnamed s w n fs e q m =
    ⊎_elim
    (λ f. subst (Ground Map (bytes "map" ∷ w ∷ n ∷ fs)) (sym f.0) (no_form (λ h ns p. let v : fs ≡ ns = cc in f.1 h.map (cc) (ap length v ∙ p.1))))
    (λ k. subst (Ground Map (bytes "map" ∷ w ∷ n ∷ fs)) (sym k.0) (no_number (record { side = s; map = k.1.0 }) fs (cc (q, k.1.1), k.1.2) k.1.3))
    m

pub row_misnumbered : (h : Heading) (fs : List Bytes) → Any NoNumber fs → Ground (Row h) (bytes "row" ∷ fs) BadNumber
row_misnumbered h fs some = no_number (replicate (length fs) 0) fs (refl, sym (length-replicate (length fs) 0)) some

letter_length : (c : Command) → length (letter c) ≡ 1
letter_length (Sweep n) = refl
letter_length (Exchange n) = refl
letter_length (ExchangeBack n) = refl
letter_length (Raise n) = refl
letter_length TakeBack = refl
letter_length Print = refl

-- a first field that no line has at this stage
pub unfit : (s : Stage) (f : Bytes) (fs : List Bytes) → (s ≡ Map → f ≡ bytes "map" → ⊥) → ((h : Heading) → s ≡ Row h → f ≡ bytes "row" → ⊥) → ((h : Heading) → s ≡ Commands h → length f ≡ 1 → ⊥) → Ground s (f ∷ fs) BadForm
unfit Map f fs m r c = no_form (λ h ns p. m refl (cc))
unfit (Row h) f fs m r c = no_form (λ xs ns p. r h refl (cc))
unfit (Commands h) f fs m r c = no_form (λ d ns p. let q : f ≡ letter d = cc in c h refl (ap length q ∙ letter_length d))

-- lists of one and of five, by their places
pub one : (ns : List ℕ) → length ns ≡ 1 → ns ≡ get_or ns 0 0 ∷ []
one [] h = absurd (omega arith)
one (a ∷ ns) h = ap (λ l. a ∷ l) (nil_from_length ns (omega arith))

pub five : (ns : List ℕ) → length ns ≡ 5 → ns ≡ get_or ns 0 0 ∷ get_or ns 1 0 ∷ get_or ns 2 0 ∷ get_or ns 3 0 ∷ get_or ns 4 0 ∷ []
five [] h = absurd (omega arith)
five (a ∷ []) h = absurd (omega arith)
five (a ∷ b ∷ []) h = absurd (omega arith)
five (a ∷ b ∷ c ∷ []) h = absurd (omega arith)
five (a ∷ b ∷ c ∷ d ∷ []) h = absurd (omega arith)
five (a ∷ b ∷ c ∷ d ∷ e ∷ ns) h = ap (λ l. a ∷ b ∷ c ∷ d ∷ e ∷ l) (nil_from_length ns (omega arith))

-- a letter with the one number that its fields write
pub with_number : (k l : ℕ) (fs : List Bytes) (ns : List ℕ) → k ≡ l → (fs ≡ map decimal ns) × Small ns × (length ns ≡ 1) → ((k ∷ []) ∷ fs ≡ (l ∷ []) ∷ decimal (get_or ns 0 0) ∷ []) × Small (get_or ns 0 0 ∷ [])
with_number k l fs ns q h = let e = one ns h.2 in let f = h.0 ∙ ap (map decimal) e in (cc, subst Small e h.1)
