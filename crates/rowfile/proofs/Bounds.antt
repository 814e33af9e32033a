-- How long numbers and lines are. Assumes nothing.
use Rattle.std.proofs.Common.{◌≡◌, ℕ, ◌+◌, ◌*◌, ◌^◌, ◌<◌, ◌≤◌, List, [], ◌∷◌, ◌++◌, map, length, decimal, sym, refl, ap, ◌∙◌, append_assoc, arith, length-append}
use Rattle.std.specs.List.{AllByRecursion}
use Rattle.std.proofs.lemmas.Fmt.{length-decimal-le}
use Rattle.rowfile.specs.Lines.{led, line_of, ended}
use Rattle.rowfile.specs.Files.{Small, argument, side_word, name_word, parameters, written, text_of, rowed, KeepsLine, KeepsLines}
use Rattle.rowfile.specs.Writing.{filed, command_line, commands_text}
use Rattle.rowfile.specs.declared.file.Side.{Side}
use Rattle.rowfile.specs.declared.file.Side.TheVariants.{Left, Right}
use Rattle.rowfile.specs.declared.file.MapName.{MapName}
use Rattle.rowfile.specs.declared.file.MapName.TheVariants.{Cap, Perm, Aff, Phase}
use Rattle.rowfile.specs.declared.file.Heading.{Heading}
use Rattle.rowfile.specs.declared.file.Stage.TheVariants.{Map, Row, Commands}
use Rattle.rowfile.specs.declared.file.Command.{Command}
use Rattle.rowfile.specs.declared.file.Command.TheVariants.{Sweep, Exchange, ExchangeBack, Raise, TakeBack, Print}

pub number_short : (n : ℕ) → n < 2 ^ 32 → length (decimal n) ≤ 10
number_short n h = length-decimal-le 10 n (omega arith) (omega arith) (omega arith)

pub numbers_short : (ns : List ℕ) → Small ns → length (led 9 (map decimal ns)) ≤ 11 * length ns
numbers_short [] s = omega arith
numbers_short (n ∷ ns) s = omega (arith, number_short n s.0, numbers_short ns s.1, length-append (decimal n) (led 9 (map decimal ns)))

command_short : (c : Command) → Small (argument c) → length (command_line c) ≤ 12
command_short (Sweep n) s = omega (arith, numbers_short (n ∷ []) s)
command_short (Exchange n) s = omega (arith, numbers_short (n ∷ []) s)
command_short (ExchangeBack n) s = omega (arith, numbers_short (n ∷ []) s)
command_short (Raise n) s = omega (arith, numbers_short (n ∷ []) s)
command_short TakeBack s = omega arith
command_short Print s = omega arith

-- the lines of commands as the text has them
pub commands_are : (h : Heading) (cs : List Command) → ended (map line_of (map (written (Commands h)) cs)) ≡ commands_text cs
commands_are h [] = refl
commands_are h (c ∷ cs) = ap (λ k. command_line c ++ (10 ∷ k)) (commands_are h cs)

-- a command's line has at least one byte besides, and at most 12
pub commands_bounds : (h : Heading) (cs : List Command) → AllByRecursion (KeepsLine (Commands h)) cs → (length cs ≤ length (commands_text cs)) × (length (commands_text cs) ≤ 13 * length cs)
commands_bounds h [] k = (omega arith, omega arith)
commands_bounds h (c ∷ cs) k =
    let p = commands_bounds h cs k.1 in
    let q = command_short c k.0.0 in
    let l = length-append (command_line c) (10 ∷ commands_text cs) in
    (omega arith, omega arith)

-- the text in the lines that are laid
pub text_lines : (h : Heading) (ns : List ℕ) (cs : List Command) → ((line_of (written Map h) ++ 10 ∷ []) ++ (line_of (written (Row h) ns) ++ 10 ∷ [])) ++ commands_text cs ≡ text_of (filed h ns cs)
text_lines h ns cs =
    let H = line_of (written Map h) in
    let R = line_of (written (Row h) ns) in
    let r = append_assoc R (10 ∷ []) (commands_text cs) ∙ ap (λ k. R ++ (10 ∷ k)) (sym (commands_are h cs)) in
    append_assoc (H ++ 10 ∷ []) (R ++ 10 ∷ []) (commands_text cs) ∙ (append_assoc H (10 ∷ []) ((R ++ 10 ∷ []) ++ commands_text cs) ∙ ap (λ k. H ++ (10 ∷ k)) r)

pub text_length : (h : Heading) (ns : List ℕ) (cs : List Command) → length (text_of (filed h ns cs)) ≡ length (line_of (written Map h)) + (5 + (length (led 9 (map decimal ns)) + length (commands_text cs)))
text_length h ns cs =
    let H = line_of (written Map h) in
    let R = line_of (written (Row h) ns) in
    omega (arith, ap length (text_lines h ns cs), length-append ((H ++ 10 ∷ []) ++ (R ++ 10 ∷ [])) (commands_text cs), length-append (H ++ 10 ∷ []) (R ++ 10 ∷ []), length-append H (10 ∷ []), length-append R (10 ∷ []))

side_one : (s : Side) → length (side_word s) ≡ 1
side_one Left = refl
side_one Right = refl

map_short : (m : MapName) → (length (name_word m) ≤ 5) × (length (parameters m) ≤ 5)
map_short Cap = (omega arith, omega arith)
map_short Perm = (omega arith, omega arith)
map_short (Aff m a b c d) = (omega arith, omega arith)
map_short (Phase m) = (omega arith, omega arith)

heading_short : (h : Heading) → Small (parameters h.map) → length (line_of (written Map h)) ≤ 70
heading_short h s =
    let w = name_word h.map in
    let P = led 9 (map decimal (parameters h.map)) in
    omega (arith, side_one h.side, map_short h.map, numbers_short (parameters h.map) s, length-append (side_word h.side) (9 ∷ (w ++ P)), length-append w P)

-- a text is longer than its commands are many, and a bounded number of commands makes a bounded text
pub text_bounds : (h : Heading) (ns : List ℕ) (cs : List Command) → KeepsLines (rowed (filed h ns cs)) → (length cs ≤ length (text_of (filed h ns cs))) × (length cs ≤ 32768 → length (text_of (filed h ns cs)) < 2 ^ 63)
text_bounds h ns cs k =
    let c = commands_bounds h cs k.2 in
    let l = text_length h ns cs in
    (omega arith, λ f. omega (arith, heading_short h k.0.0, numbers_short ns k.1.0, k.1.1.0))
