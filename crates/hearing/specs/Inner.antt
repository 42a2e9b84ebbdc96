-- Definitions for this crate's loops, and for `take` and `to_close`, by which runs, the normal form and the listing take words. No call of
-- document 01 and no claim cites any of it.
use Rattle.std.specs.Prelude.{Bool, false, cond, List, [], ◌∷◌, ℕ, ◌+◌, ltb, eqb, drop, length}
use Rattle.wire.specs.Word.{received, travelling}
use Rattle.message.specs.Message.{is_letter}
use Rattle.message.specs.Prefix.{parse}
use Rattle.message.specs.Spell.{spell}
use Rattle.hearing.specs.declared.Pending.{Pending}
use Rattle.hearing.specs.declared.Action.{Action}
use Rattle.hearing.specs.declared.passes.Closing.{Closing}
use Rattle.hearing.specs.Hearing.{none, open_of, action_of, perform, hear, closes}
use Rattle.std.specs.Prelude.{None, Option, Some}
use Rattle.message.specs.declared.Message.{Message}

-- ---- words taken in place

-- the open message after a word; one that the word closes is left open
unfoldable pub left_by : Pending → Action → Pending
left_by p a = cond (closes a) p (perform p a).pending

-- where the words have come: the open message, and the place of the next word
pub record Reached : Type 0 where
  pub pending : Pending
  pub at : ℕ

-- up to a word that closes the open message, or behind the last
unfoldable pub to_close : Pending → List ℕ → ℕ → Reached
to_close p [] at = record { pending = p; at = at }
to_close p (w ∷ ws) at = cond (closes (action_of p w)) (record { pending = p; at = at }) (to_close (hear p w).pending ws (at + 1))

-- ---- the loops

-- a letter in good parity
unfoldable pub is_opening : Option ℕ → Bool
is_opening (Some c) = is_letter c
is_opening None = false

-- the place of the next letter, or behind the last word
unfoldable pub to_letter : List ℕ → ℕ → ℕ
to_letter [] at = at
to_letter (w ∷ ws) at = cond (is_opening (received w)) at (to_letter ws (at + 1))

-- the words of the open message: up to one that closes it, behind one that drops it, or behind the last
unfoldable pub to_end : Pending → List ℕ → ℕ → Reached
to_end p [] at = record { pending = p; at = at }
to_end p (w ∷ ws) at =
    cond (closes (action_of p w)) (record { pending = p; at = at })
    (cond (eqb (hear p w).pending.len 0) (record { pending = (hear p w).pending; at = at + 1 }) (to_end (hear p w).pending ws (at + 1)))

-- what the words from a place on close first, with no message open before them, and where
unfoldable pub next_closed : List ℕ → ℕ → Option Closing
next_closed ws i =
    cond (ltb (to_close none (drop i ws) i).at (length ws))
    (Some (record { message = parse (open_of (to_close none (drop i ws) i).pending); at = (to_close none (drop i ws) i).at })) None

-- the words that a closed message has in the normal form
unfoldable pub worth : Option Message → List ℕ
worth (Some m) = travelling (spell m)
worth None = []
