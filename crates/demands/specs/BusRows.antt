-- The cards as a host lends them, row behind row: `bus::run` leaves in the rows what the call leaves of the cards, so that they can be lent
-- again.
use Rattle.card.specs.declared.Took.{Took}
use Rattle.std.specs.Prelude.{◌≡◌, true, List, map, ℕ, ℤ, take, drop}
use Rattle.refusal.specs.Refusal.{gave}
use Rattle.wire.specs.Word.{valid_words}
use Rattle.bus.specs.Calls.{After, bus_call}
use Rattle.bus.specs.Rows.{rows_in, cards_of, is_rows, RowsAfter, rows_call}

module _ (numbers bench maker values : List ℤ) (ws out : List ℕ) where
  abbrev over_rows : RowsAfter
  over_rows = rows_call numbers bench maker values ws out

  abbrev over_cards : After
  over_cards = bus_call (cards_of numbers) bench maker values ws out

  pub record SameCall (t : Took) : Type 0 where
    pub takes : over_cards.outcome ≡ gave t
    pub same_values : over_rows.values ≡ over_cards.values
    pub same_buffer : over_rows.buffer ≡ over_cards.buffer
    pub are_rows : is_rows over_rows.numbers ≡ true
    pub same_cards : cards_of over_rows.numbers ≡ over_cards.cards
    -- numbers 2 to 15 of each row and nothing else: not the letter and address before them, and not the scan and revision behind them
    pub same_front : map (take 2) (rows_in over_rows.numbers) ≡ map (take 2) (rows_in numbers)
    pub same_behind : map (drop 16) (rows_in over_rows.numbers) ≡ map (drop 16) (rows_in numbers)

pub record RowsKeep : Type 0 where
  -- what the call leaves in the rows is what it leaves of the cards
  pub same_call : (numbers bench maker values : List ℤ) (ws out : List ℕ) (t : Took) → (rows_call numbers bench maker values ws out).outcome ≡ gave t → SameCall numbers bench maker values ws out t
  -- and a run over the rows that it left is served, with any valid words and any buffer
  pub served_again : (numbers bench maker values : List ℤ) (ws out : List ℕ) (t : Took) → (rows_call numbers bench maker values ws out).outcome ≡ gave t → (ws' out' : List ℕ) → valid_words ws' ≡ true
      → let r = rows_call numbers bench maker values ws out in (u : Took) × ((rows_call r.numbers bench maker r.values ws' out').outcome ≡ gave u)
