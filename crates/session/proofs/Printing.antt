-- The bytes of printed lines. Assumes nothing.
use Rattle.std.proofs.Common.{◌≡◌, ℕ, ◌+◌, ◌<◌, List, [], ◌∷◌, ◌++◌, map, length, get_or, take, sym, ap, ◌∙◌, append_assoc, append-nil}
use Rattle.std.proofs.lemmas.List.{map_more}
use Rattle.rowfile.specs.Lines.{Bytes, led}

pub led_push : (fs : List Bytes) (f : Bytes) → led 9 (fs ++ (f ∷ [])) ≡ led 9 fs ++ (9 ∷ f)
led_push [] f = ap (λ (l : Bytes). 9 ∷ l) (append-nil f)
led_push (g ∷ fs) f = ap (λ (l : Bytes). 9 ∷ (g ++ l)) (led_push fs f) ∙ ap (λ (l : Bytes). 9 ∷ l) (sym (append_assoc g (led 9 fs) (9 ∷ f)))

-- one field more, of the element at a place
pub led_more : {E : Type 0} (f : E → Bytes) (xs : List E) (i : ℕ) (x : E) → i < length xs → led 9 (map f (take i xs)) ++ (9 ∷ f (get_or xs i x)) ≡ led 9 (map f (take (i + 1) xs))
led_more f xs i x h = sym (ap (led 9) (map_more f xs i x h) ∙ led_push (map f (take i xs)) (f (get_or xs i x)))
