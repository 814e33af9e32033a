-- Lines that are written alike say the same. Assumes nothing.
use Rattle.std.proofs.Common.{◌≡◌, ℕ, ◌^◌, ◌<◌, cond, eqb, List, [], ◌∷◌, map, get_or, decimal, sym, refl, ap, ◌∙◌, arith}
use Rattle.std.proofs.lemmas.Fmt.{decimal_injective}
use Rattle.rowfile.specs.Lines.{Bytes}
use Rattle.rowfile.specs.Files.{Small, side_word, name_word, letter, parameters, argument, numbers, written, Next}
use Rattle.rowfile.specs.declared.file.Side.{Side}
use Rattle.rowfile.specs.declared.file.Side.TheVariants.{Left, Right}
use Rattle.rowfile.specs.declared.file.MapName.{MapName}
use Rattle.rowfile.specs.declared.file.MapName.TheVariants.{Cap, Perm, Aff, Phase}
use Rattle.rowfile.specs.declared.file.Heading.{Heading}
use Rattle.rowfile.specs.declared.file.Command.{Command}
use Rattle.rowfile.specs.declared.file.Command.TheVariants.{Sweep, Exchange, ExchangeBack, Raise, TakeBack, Print}
use Rattle.rowfile.specs.declared.file.Stage.{Stage}
use Rattle.rowfile.specs.declared.file.Stage.TheVariants.{Map, Row, Commands}

pub numbers_same : (ns ms : List ℕ) → Small ns → Small ms → map decimal ns ≡ map decimal ms → ns ≡ ms
numbers_same [] [] s t e = refl
numbers_same [] (m ∷ ms) s t e = let z : ◌≡◌ {A = ℕ} 0 1 = cc in absurd (omega arith)
numbers_same (n ∷ ns) [] s t e = let z : ◌≡◌ {A = ℕ} 0 1 = cc in absurd (omega arith)
numbers_same (n ∷ ns) (m ∷ ms) s t e =
    let d : decimal n ≡ decimal m = cc in
    let f : map decimal ns ≡ map decimal ms = cc in
    let n_small : n < 2 ^ 64 = omega (arith, s.0) in
    let m_small : m < 2 ^ 64 = omega (arith, t.0) in
    cc (decimal_injective n m n_small m_small d, numbers_same ns ms s.1 t.1 f)

-- a side, a map and a command from their words and numbers
side_of : Bytes → Side
side_of w = cond (eqb (get_or w 0 0) 76) Left Right

side_back : (s : Side) → side_of (side_word s) ≡ s
unfolding side_of
side_back Left = refl
side_back Right = refl

map_of : Bytes → List ℕ → MapName
map_of w ns =
    cond (eqb (get_or w 2 0) 112) Cap (cond (eqb (get_or w 2 0) 114) Perm
    (cond (eqb (get_or w 2 0) 102) (Aff (get_or ns 0 0) (get_or ns 1 0) (get_or ns 2 0) (get_or ns 3 0) (get_or ns 4 0)) (Phase (get_or ns 0 0))))

map_back : (m : MapName) → map_of (name_word m) (parameters m) ≡ m
unfolding map_of
map_back Cap = refl
map_back Perm = refl
map_back (Aff m a b c d) = refl
map_back (Phase m) = refl

command_of : Bytes → List ℕ → Command
command_of w ns =
    cond (eqb (get_or w 0 0) 83) (Sweep (get_or ns 0 0)) (cond (eqb (get_or w 0 0) 88) (Exchange (get_or ns 0 0))
    (cond (eqb (get_or w 0 0) 89) (ExchangeBack (get_or ns 0 0)) (cond (eqb (get_or w 0 0) 78) (Raise (get_or ns 0 0)) (cond (eqb (get_or w 0 0) 66) TakeBack Print))))

command_back : (c : Command) → command_of (letter c) (argument c) ≡ c
unfolding command_of
command_back (Sweep n) = refl
command_back (Exchange n) = refl
command_back (ExchangeBack n) = refl
command_back (Raise n) = refl
command_back TakeBack = refl
command_back Print = refl

heading_same : (g h : Heading) → side_word g.side ≡ side_word h.side → name_word g.map ≡ name_word h.map → parameters g.map ≡ parameters h.map → g ≡ h
heading_same g h s n p =
    let u : g.side ≡ h.side = sym (side_back g.side) ∙ (ap side_of s ∙ side_back h.side) in
    let v : g.map ≡ h.map = sym (map_back g.map) ∙ (ap (λ w. map_of w (parameters g.map)) n ∙ (ap (map_of (name_word h.map)) p ∙ map_back h.map)) in
    ap (λ k. let r : Heading = record { side = k; map = g.map } in r) u ∙ ap (λ k. let r : Heading = record { side = h.side; map = k } in r) v

pub written_same : (st : Stage) (x y : Next st) → Small (numbers st x) → Small (numbers st y) → written st x ≡ written st y → x ≡ y
written_same Map g h s t e = heading_same g h (cc) (cc) (numbers_same (parameters g.map) (parameters h.map) s t (cc))
written_same (Row h) ns ms s t e = numbers_same ns ms s t (cc)
written_same (Commands h) c d s t e =
    let n = numbers_same (argument c) (argument d) s t (cc) in
    let w : letter c ≡ letter d = cc in
    sym (command_back c) ∙ (ap (λ k. command_of k (argument c)) w ∙ (ap (command_of (letter d)) n ∙ command_back d))
