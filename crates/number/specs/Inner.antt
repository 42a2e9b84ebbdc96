-- Four characters in one number, as the digit writer makes them. No public contract cites it.
use Rattle.std.specs.Prelude.{ℕ, ◌+◌, ◌*◌, ◌/◌, ◌%◌}
use Rattle.number.specs.Data.{digit}

-- the last four digits of m as characters: the first in the lowest byte, the last in the highest
unfoldable pub characters : ℕ → ℕ
characters m = digit (m / 10 / 10 / 10 % 10) + digit (m / 10 / 10 % 10) * 256 + digit (m / 10 % 10) * 65536 + digit (m % 10) * 16777216
