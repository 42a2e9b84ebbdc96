-- The listing of a recording: the whole output for any bytes, and what one call over a buffer of them gives.
use Rattle.std.specs.Prelude.{ℕ, ◌+◌, ◌-◌, ◌%◌, ◌^◌, cond, List, [], ◌∷◌, ◌++◌, length, nat_le}
use Rattle.refusal.specs.Buffer.{laid}
use Rattle.wire.specs.Text.{chars}
use Rattle.wire.specs.Bytes.{word_of}
use Rattle.hearing.specs.Hearing.{none, hear}
use Rattle.listing.specs.declared.Progress.{Progress}
use Rattle.listing.specs.declared.Stop.{Stop}
use Rattle.listing.specs.declared.Stop.TheVariants.{Done, Bad, Full}
use Rattle.listing.specs.declared.Listed.{Listed}
use Rattle.listing.specs.declared.Ending.{Ending}
use Rattle.listing.specs.declared.Ending.TheVariants as ending
use Rattle.listing.specs.Line.{decimal, line}
use Rattle.std.specs.Prelude.{None, Option, Some}
use Rattle.message.specs.declared.Message.{Message}

-- document 01: "The first line is always the bytes `AT CARD ID KIND DATA`."
abbrev pub heading : List ℕ
heading = chars "AT CARD ID KIND DATA\n"

-- positions and counts have 64 bits: behind 2^64 words they begin again at 0
unfoldable pub next_position : ℕ → ℕ
next_position n = (n + 1) % 2 ^ 64

-- before the first word
unfoldable pub start : Progress
start = record { pending = none; at = 0; count = 0 }

-- document 01: "one line for each heard message"
unfoldable pub line_for : ℕ → Option Message → List ℕ
line_for at (Some m) = line at m
line_for at None = []

-- document 01: "`END` gives the number of messages"
unfoldable pub count_after : ℕ → Option Message → ℕ
count_after n (Some m) = next_position n
count_after n None = n

-- what a word adds to the listing, and how far it is then
unfoldable pub line_at : Progress → ℕ → List ℕ
line_at p w = line_for p.at (hear p.pending w).message

unfoldable pub after : Progress → ℕ → Progress
after p w = record { pending = (hear p.pending w).pending; at = next_position p.at; count = count_after p.count (hear p.pending w).message }

-- document 01: "A word above 256 at position n ends it with `BAD n` in place of END; a lone last byte ends it with `ODD` in that place."
unfoldable pub last_line : Ending → List ℕ
last_line (ending.End n) = chars "END " ++ (decimal n ++ chars "\n")
last_line (ending.Bad n) = chars "BAD " ++ (decimal n ++ chars "\n")
last_line ending.Odd = chars "ODD\n"

-- the lines of these bytes and the last line, from p on
unfoldable pub listing_from : Progress → List ℕ → List ℕ
listing_from p [] = last_line (ending.End p.count)
listing_from p (low ∷ []) = last_line ending.Odd
listing_from p (low ∷ high ∷ bytes) =
    cond (nat_le (word_of low high) 256)
    (line_at p (word_of low high) ++ listing_from (after p (word_of low high)) bytes)
    (last_line (ending.Bad p.at))

-- the whole output
unfoldable pub listing : List ℕ → List ℕ
listing bytes = heading ++ listing_from start bytes

-- ---- one call over a buffer of bytes

-- the lines written, how far the listing is, how many words are taken, and why it stopped
pub record Lines : Type 0 where
  pub text : List ℕ
  pub progress : Progress
  pub taken : ℕ
  pub stop : Stop

unfoldable pub stopped : Progress → Stop → Lines
stopped p s = record { text = []; progress = p; taken = 0; stop = s }

unfoldable pub behind : List ℕ → Lines → Lines
behind xs l = record { text = xs ++ l.text; progress = l.progress; taken = l.taken + 1; stop = l.stop }

-- words are taken until fewer than two bytes are left, or a word is above 256, or the next line no longer fits the room
unfoldable pub listed : Progress → List ℕ → ℕ → Lines
listed p [] room = stopped p Done
listed p (low ∷ []) room = stopped p Done
listed p (low ∷ high ∷ bytes) room =
    cond (nat_le (word_of low high) 256)
    (cond (nat_le (length (line_at p (word_of low high))) room)
    (behind (line_at p (word_of low high)) (listed (after p (word_of low high)) bytes (room - length (line_at p (word_of low high)))))
    (stopped p Full))
    (stopped p Bad)

unfoldable pub answer_of : Lines → Listed
answer_of l = record { progress = l.progress; taken = l.taken; written = length l.text; stop = l.stop }

-- the answer of a call, and the whole buffer afterwards
pub record ListCall : Type 0 where
  pub answer : Listed
  pub buffer : List ℕ

abbrev pub list_call_of : Listed → List ℕ → ListCall
list_call_of r out = record { answer = r; buffer = out }

unfoldable pub list_call : Progress → List ℕ → List ℕ → ListCall
list_call p bytes out = list_call_of (answer_of (listed p bytes (length out))) (laid (listed p bytes (length out)).text out)
