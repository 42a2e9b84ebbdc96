-- A line of bytes as they travel, one character put on it after the other, which the writer works with. No call of document 01 and no claim
-- cites any of it.
use Rattle.std.specs.Prelude.{cond, List, [], ◌∷◌, ℕ, ◌+◌, ltb, length, take, set, replicate}
use Rattle.refusal.specs.Buffer.{laid}
use Rattle.wire.specs.Word.{with_parity, travelling}
use Rattle.wire.specs.declared.Line.{Line}

-- the most bytes that a message has: ten characters and `*`
abbrev pub longest_message : ℕ
longest_message = 11

unfoldable pub empty : Line
empty = record { bytes = replicate longest_message 0; len = 0 }

-- one character more, in good parity; a full line stays as it is
unfoldable pub put : Line → ℕ → Line
put l c =
    cond (ltb l.len longest_message)
    (record { bytes = set l.bytes l.len (with_parity c); len = l.len + 1 })
    l

-- these characters more, one after the other
unfoldable pub puts : Line → List ℕ → Line
puts l [] = l
puts l (c ∷ cs) = puts (put l c) cs

-- the line that holds these characters and nothing behind them
unfoldable pub line_of : List ℕ → Line
line_of cs = record { bytes = laid (travelling cs) (replicate longest_message 0); len = length cs }

-- the bytes that a line holds
unfoldable pub bytes_of : Line → List ℕ
bytes_of l = take l.len l.bytes
