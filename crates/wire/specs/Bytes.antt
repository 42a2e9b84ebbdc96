-- Numbers of several bytes, low byte first.
use Rattle.std.specs.Prelude.{ℕ, ◌+◌, ◌*◌}

-- document 01: "two bytes each, low byte first"
unfoldable pub word_of : ℕ → ℕ → ℕ
word_of low high = low + 256 * high

-- four bytes in the same way
unfoldable pub long_of : ℕ → ℕ → ℕ → ℕ → ℕ
long_of a b c d = word_of a b + 65536 * word_of c d
