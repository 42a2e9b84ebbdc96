-- The same call over the cards as a host lends them, row behind row, so that more than 32 can be lent and refused.
use Rattle.card.specs.declared.Took.{Took}
use Rattle.std.specs.Prelude.{Bool, cond, not, ◌&&◌, List, [], ◌∷◌, ◌++◌, map, ℕ, ◌/◌, ◌%◌, eqb, ℤ, length, take, drop}
use Rattle.refusal.specs.Lists.{every}
use Rattle.refusal.specs.Refusal.{Outcome, refused, gave, number_of}
use Rattle.refusal.specs.Check.{Check, refuse_if}
use Rattle.refusal.specs.declared.Refusal.TheVariants.{UnsoundCard}
use Rattle.card.specs.declared.Card.{Card}
use Rattle.row.specs.Row.{is_row, card_of, stored_in}
use Rattle.bus.specs.Bus.{parts}
use Rattle.bus.specs.Refusals.{bus_checks}
use Rattle.bus.specs.Calls.{After, bus_call}

-- the whole rows among the numbers
abbrev pub rows_in : List ℤ → List (List ℤ)
rows_in numbers = parts 23 (length numbers / 23) numbers

-- the cards that they are
abbrev pub cards_of : List ℤ → List Card
cards_of numbers = map card_of (rows_in numbers)

-- rows and nothing more, each some card; what is none is number 1 in its first place
unfoldable pub is_rows : List ℤ → Bool
is_rows numbers = eqb (length numbers % 23) 0 && every is_row (rows_in numbers)

unfoldable pub rows_checks : List ℤ → List ℤ → List ℤ → List ℤ → List ℕ → List Check
rows_checks numbers bench maker values ws = refuse_if (not (is_rows numbers)) UnsoundCard ∷ bus_checks (cards_of numbers) bench maker values ws

-- each card stored back in its row
unfoldable pub stored_back : List Card → List ℤ → List ℤ
stored_back [] numbers = numbers
stored_back (c ∷ cs) numbers = stored_in c (take 23 numbers) ++ stored_back cs (drop 23 numbers)

-- what a run answers and leaves, its cards in their rows
pub record RowsAfter : Type 0 where
  pub numbers : List ℤ
  pub outcome : Outcome Took
  pub values : List ℤ
  pub buffer : List ℕ

-- refused, the rows stay
abbrev pub numbers_after : Outcome Took → List Card → List ℤ → List ℤ
numbers_after (refused n) cs numbers = numbers
numbers_after (gave t) cs numbers = stored_back cs numbers

abbrev pub in_rows : List ℤ → After → RowsAfter
in_rows numbers a = record { numbers = numbers_after a.outcome a.cards numbers; outcome = a.outcome; values = a.values; buffer = a.buffer }

unfoldable pub rows_call : List ℤ → List ℤ → List ℤ → List ℤ → List ℕ → List ℕ → RowsAfter
rows_call numbers bench maker values ws out =
    cond (is_rows numbers) (in_rows numbers (bus_call (cards_of numbers) bench maker values ws out))
    (record { numbers = numbers; outcome = refused (number_of UnsoundCard); values = values; buffer = out })
