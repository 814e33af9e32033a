-- A text that is read and written again. Assumes nothing.
use Rattle.std.specs.Prelude.{◌≡◌, ℕ, ◌<◌, ◌≤◌, ◌⊎◌, ◌++◌, length, drop, Result, MatchResult}
use Rattle.exchange.specs.declared.refusal.Refusal.TheVariants.{TooLong}
use Rattle.rowfile.specs.Lines.{Bytes}
use Rattle.rowfile.specs.Files.{File, text_of, Keeps}
use Rattle.rowfile.specs.Reading.{Refuses}
use Rattle.rowfile.specs.declared.file.ReadError.{ReadError}
use Rattle.rowfile.specs.declared.file.ReadError.TheVariants.{Fault as Faulted}

-- no two files that keep the rules have one text
abbrev pub OneText : Type 0
OneText = (f g : File) → Keeps f → Keeps g → text_of f ≡ text_of g → f ≡ g

-- the text has come to the start of the memory, or why it has not
abbrev pub Copies : Bytes → Bytes → Result ℕ ReadError → Bytes → Type 0
Copies t out r after =
    MatchResult r
    (λ n. (n ≡ length t) × (n ≤ length out) × (after ≡ t ++ drop n out))
    (λ e. (after ≡ out) × (Refuses t e ⊎ ((e ≡ Faulted (record { line = 0; refusal = TooLong })) × (length out < length t))))

-- t is the text of a file that keeps the rules
abbrev pub IsText : Bytes → Type 0
IsText t = (f : File) × Keeps f × (t ≡ text_of f)

-- what is written is the text of a file, and so is what the memory is too short for; any other text is refused as the reader refuses it
abbrev pub OnlyTexts : Bytes → Result ℕ ReadError → Type 0
OnlyTexts t r = MatchResult r (λ _. IsText t) (λ e. Refuses t e ⊎ IsText t)
