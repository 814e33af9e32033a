-- The rule of affine residues on its elements: two commuting affine maps of the numbers below m. Assumes nothing.
use Rattle.std.specs.Prelude.{◌≡◌, ℕ, zero, suc, ◌+◌, ◌*◌, ◌%◌, ◌<◌, Bool, true, cond, not, ◌&&◌, ◌==◌, nat_lt}
use Rattle.exchange.specs.Meaning.{Elements, Meaning}
use Rattle.exchange.specs.Rules.{completed}
use Rattle.maps.specs.Making.{is_modulus}

-- the affine map x ↦ a x + b modulo m
abbrev pub line : ℕ → ℕ → ℕ → ℕ → ℕ
line m a b x = (a * x + b) % m

-- the greatest number below n that f sends to v, and 0 where there is none
unfoldable pub back : (ℕ → ℕ) → ℕ → ℕ → ℕ
back f zero v = 0
back f (suc n) v = cond (f n == v) n (back f n v)

abbrev pub divides : ℕ → ℕ → Bool
divides k n = n % k == 0

-- whether no number from 2 to n + 1 divides both a and m
unfoldable pub none_shared : ℕ → ℕ → ℕ → Bool
none_shared a m zero = true
none_shared a m (suc n) = not (divides (suc (suc n)) a && divides (suc (suc n)) m) && none_shared a m n

-- whether 1 is the greatest common divisor of a and m, which is not 0
abbrev pub coprime : ℕ → ℕ → Bool
coprime a m = none_shared a m m

-- the parameters of a line that can be undone
abbrev pub line_parameters : ℕ → ℕ → ℕ → Bool
line_parameters m a b = is_modulus m && (nat_lt a m && (nat_lt b m && coprime a m))

-- the parameters that a map can have
abbrev pub affine_parameters : ℕ → ℕ → ℕ → ℕ → ℕ → Bool
affine_parameters m a b c d =
    is_modulus m
    && (nat_lt a m && (nat_lt b m && (nat_lt c m && (nat_lt d m && (coprime a m && (coprime c m && (a * d + b) % m == (c * b + d) % m))))))

-- each number below m is an element, and its own code
abbrev pub affine_elements : ℕ → Elements ℕ
affine_elements m = record {
  belongs = λ x. nat_lt x m;
  kind = λ x. 0;
  code = λ x. x;
  codes = λ n. nat_lt n m;
  element = λ n. n;
  rest = 0;
}

abbrev pub affine_rule : ℕ → ℕ → ℕ → ℕ → ℕ → Meaning ℕ
affine_rule m a b c d = record {
  elements = affine_elements m;
  cross = λ x y. (line m a b y, line m c d x);
  uncross = λ u v. (back (line m c d) m v, back (line m a b) m u);
}

abbrev pub affine_map : ℕ → ℕ → ℕ → ℕ → ℕ → Meaning ℕ
affine_map m a b c d = completed (affine_rule m a b c d)

-- the two maps commute on every residue
abbrev pub Commute : ℕ → ℕ → ℕ → ℕ → ℕ → Type 0
Commute m a b c d = (x : ℕ) → x < m → line m a b (line m c d x) ≡ line m c d (line m a b x)

-- i below m undoes multiplication by a modulo m
abbrev pub inverts : ℕ → ℕ → ℕ → Bool
inverts m a i = nat_lt i m && a * i % m == 1 % m

-- u and v are what x and y cross to
pub record Crossed (m a b c d x y u v : ℕ) : Type 0 where
  pub x_low : x < m
  pub y_low : y < m
  pub left : line m a b y ≡ u
  pub right : line m c d x ≡ v
