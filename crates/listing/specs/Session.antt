-- A session: the calls by which an input that comes in buffers is listed. This is what the program makes of `listing::list` and
-- `listing::last`; nothing here says how long a buffer or a room is.
use Rattle.std.specs.Prelude.{◌≡◌, ℕ, ◌+◌, ◌≤◌, List, [], ◌∷◌, ◌++◌, length, drop, ◌≢◌}
use Rattle.listing.specs.declared.Progress.{Progress}
use Rattle.listing.specs.declared.Stop.TheVariants.{Bad}
use Rattle.listing.specs.declared.Ending.{Ending}
use Rattle.listing.specs.declared.Ending.TheVariants as ending
use Rattle.listing.specs.Listing.{Lines, listed, last_line}

-- how a listing ends that has these bytes left and gets no more: with a lone byte, or with the number of messages
unfoldable pub ended : Progress → List ℕ → Ending
ended p [] = ending.End p.count
ended p (b ∷ bytes) = ending.Odd

-- the bytes that a call leaves of those it was given
unfoldable pub untaken : List ℕ → Lines → List ℕ
untaken bytes l = drop (l.taken + l.taken) bytes

-- `Session p left input out`: from p on, with these bytes left of the buffers so far and this input still to come, out is written
pub data Session : Progress → List ℕ → List ℕ → List ℕ → Type 0 where
  -- a call over what is left and the next bytes of the input, if any: its lines, and then those of the session that follows
  goes_on : (p : Progress) (left new input out : List ℕ) (room : ℕ) → ((listed p (left ++ new) room).stop ≢ Bad)
      → Session (listed p (left ++ new) room).progress (untaken (left ++ new) (listed p (left ++ new) room)) input out
      → Session p left (new ++ input) ((listed p (left ++ new) room).text ++ out)
  -- a call that stops at a word above 256: its lines, and the last line
  breaks_off : (p : Progress) (left new input : List ℕ) (room : ℕ) → (listed p (left ++ new) room).stop ≡ Bad
      → Session p left (new ++ input) ((listed p (left ++ new) room).text ++ last_line (ending.Bad (listed p (left ++ new) room).progress.at))
  -- the end of the input, where less than a word is left: the last line
  ends : (p : Progress) (left : List ℕ) → length left ≤ 1 → Session p left [] (last_line (ended p left))
