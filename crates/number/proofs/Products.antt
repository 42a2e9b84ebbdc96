-- The numbers that the code makes on its way from a number of four digits to its characters: two pairs of digits in one number.
use Prim.Native.Nat.{ℕ, ◌+◌, ◌-◌, ◌*◌, ◌/◌, ◌%◌, ◌^◌}
use lib.Bits.{bit_and}

-- two numbers in the halves of one: a in the lower half, b in the upper
abbrev pub halves : ℕ → ℕ → ℕ
halves a b = b * 2 ^ 16 + a

-- ---- the two pairs of digits

abbrev pub upper : ℕ → ℕ
upper m = m * 5243 / 2 ^ 19

abbrev pub lower : ℕ → ℕ
lower m = m / 10 % 10 * 10 + m % 10

-- 6553599 is 100 * 2 ^ 16 - 1
abbrev pub paired : ℕ → ℕ → ℕ
paired m u = m * 65536 - u * 6553599

abbrev pub pairs : ℕ → ℕ
pairs m = paired m (upper m)

-- ---- the tens of both pairs

abbrev pub scaled : ℕ → ℕ
scaled n = n * 103

-- 983055 has the lowest four bits of each half
abbrev pub low_bits : ℕ → ℕ
low_bits n = bit_and n 983055

abbrev pub tens : ℕ → ℕ
tens n = low_bits (scaled n / 2 ^ 10)

-- ---- the four characters

-- 2559 is 10 * 2 ^ 8 - 1, and 808464432 is 48 in each byte
abbrev pub joined : ℕ → ℕ → ℕ
joined p t = p * 256 - t * 2559 + 808464432
