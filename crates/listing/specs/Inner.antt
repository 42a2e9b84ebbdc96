-- What only private functions say of themselves: no public contract cites it.
use Rattle.std.specs.Prelude.{ℕ}

-- the most characters that a line has: a position of twenty digits, and a message with data
abbrev pub longest_line : ℕ
longest_line = 35
