-- Range, multiples and the cut down of a number, at both signs.
use Rattle.std.specs.Prelude.{Bool, cond, ◌&&◌, ℕ, ◌+◌, ◌-◌, ◌%◌, eqb, ℤ, pos, negsuc, nat_abs, ◌+ℤ◌, ◌-ℤ◌}
use Rattle.std.specs.Int.Signed.{le_z}

-- from least to greatest, both included
unfoldable pub in_range : ℤ → ℤ → ℤ → Bool
in_range least x greatest = le_z least x && le_z x greatest

-- a multiple of the step; a step below 1 has no multiples
unfoldable pub is_multiple : ℤ → ℤ → Bool
is_multiple x step = le_z (pos 1) step && eqb (nat_abs x % nat_abs step) 0

-- document 01: "cut down to the nearest multiple of the step not above it". n - n % s is the nearest multiple not above n;
-- `negsuc n` is -(n + 1), and the nearest multiple not above it is minus the next multiple above n.
unfoldable pub cut_down : ℤ → ℕ → ℤ
cut_down (pos n) s = pos (n - n % s)
cut_down (negsuc n) s = negsuc (n - n % s + (s - 1))

-- four digits and a sign
abbrev pub is_small : ℤ → Bool
is_small x = in_range (negsuc 9998) x (pos 9999)

-- the cut of a number of four digits, by a step of 1 to 9,999; anything else is left as it is
unfoldable pub cut : ℤ → ℤ → ℤ
cut x step = cond (is_small x && in_range (pos 1) step (pos 9999)) (cut_down x (nat_abs step)) x

-- one step up and one down, of numbers of four digits; anything else is left as it is
unfoldable pub raised : ℤ → ℤ → ℤ
raised x step = cond (is_small x && is_small step) (x +ℤ step) x

unfoldable pub lowered : ℤ → ℤ → ℤ
lowered x step = cond (is_small x && is_small step) (x -ℤ step) x
