-- The rule of permutations on its elements: eight images, crossed by conjugation. Assumes nothing.
use Rattle.std.specs.Prelude.{◌≡◌, ℕ, zero, suc, ◌*◌, ◌/◌, ◌%◌, ◌^◌, ◌<◌, Bool, true, cond, ◌&&◌, List, [], ◌∷◌, map, length, sum, count_by, ◌==◌, nat_eq, nat_lt, slice_index}
use Rattle.std.specs.List.{range_with_len}
use Rattle.exchange.specs.Meaning.{Elements, Exchange, Meaning}
use Rattle.exchange.specs.Rules.{completed}

abbrev pub image : List ℕ → ℕ → ℕ
image x i = slice_index x i

-- the permutation, or other list, with the image f i of each i from 0 to 7
unfoldable pub eight : (ℕ → ℕ) → List ℕ
eight f = map f (range_with_len 0 8)

-- how often v is an image
abbrev pub times : ℕ → List ℕ → ℕ
times v x = count_by (λ w. nat_eq w v) x

-- whether each number below n is an image once
unfoldable pub each_once : List ℕ → ℕ → Bool
each_once x zero = true
each_once x (suc n) = times n x == 1 && each_once x n

-- eight images, each of 0 to 7 once
abbrev pub perm_belongs : List ℕ → Bool
perm_belongs x = length x == 8 && each_once x 8

-- the place whose image is v
abbrev pub place : List ℕ → ℕ → ℕ
place [] v = 0
place (w ∷ ws) v = cond (w == v) 0 (suc (place ws v))

abbrev pub identity : List ℕ
identity = 0 ∷ 1 ∷ 2 ∷ 3 ∷ 4 ∷ 5 ∷ 6 ∷ 7 ∷ []

-- x first, then y
abbrev pub product : List ℕ → List ℕ → List ℕ
product x y = eight (λ i. image y (image x i))

abbrev pub inverse : List ℕ → List ℕ
inverse x = eight (place x)

-- x conjugated by y: y, x and y again, the first time backwards
abbrev pub conjugate : List ℕ → List ℕ → List ℕ
conjugate x y = product (product (inverse y) x) y

-- the permutation whose conjugate by y is z
abbrev pub unconjugate : List ℕ → List ℕ → List ℕ
unconjugate y z = product (product y z) (inverse y)

abbrev pub perm_cross : Exchange (List ℕ)
perm_cross x y = (y, conjugate x y)

abbrev pub perm_uncross : Exchange (List ℕ)
perm_uncross u v = (unconjugate u v, u)

abbrev pub perm_code : List ℕ → ℕ
perm_code x = sum (eight (λ i. image x i * 8 ^ i))

-- the eight lowest digits of n to the base 8, the lowest first
abbrev pub images : ℕ → List ℕ
images n = eight (λ i. n / 8 ^ i % 8)

abbrev pub perm_elements : Elements (List ℕ)
perm_elements = record {
  belongs = perm_belongs;
  kind = λ x. 0;
  code = perm_code;
  codes = λ n. nat_lt n (8 ^ 8) && perm_belongs (images n);
  element = images;
  rest = identity;
}

abbrev pub perm_rule : Meaning (List ℕ)
perm_rule = record { elements = perm_elements; cross = perm_cross; uncross = perm_uncross }

abbrev pub perm_map : Meaning (List ℕ)
perm_map = completed perm_rule

-- z does to the images under y what x does to the places
abbrev pub Conjugates : List ℕ → List ℕ → List ℕ → Type 0
Conjugates x y z = (i : ℕ) → i < 8 → image z (image y i) ≡ image y (image x i)
