-- What a run leaves in the rows is what it leaves of the cards: sound cards are stored back and read again, so the next run is served too.
-- Assumes nothing.
use Rattle.card.specs.declared.Took.{Took}
use mathlib.Core.Path.{◌≡◌, sym, ap, ◌∙◌, subst}
use mathlib.Core.Bool.{true}
use mathlib.Core.List.{List, map}
use Prim.Native.Nat.{ℕ}
use lib.IntN.{ℤ}
use lib.ListN.{length, take, drop}
use Rattle.refusal.specs.Refusal.{gave}
use Rattle.refusal.proofs.Logic.{ands, and_both}
use Rattle.wire.specs.Word.{valid_words}
use Rattle.card.specs.declared.Card.{Card}
use Rattle.bus.specs.Bus.{cards_in, values_in}
use Rattle.bus.specs.Calls.{After, ended, bus_call}
use Rattle.bus.specs.Rows.{rows_in, cards_of, is_rows, stored_back, RowsAfter, rows_call}
use Rattle.bus.proofs.Sharing.{plays, rows_ended, setups_in, bus_served}
use Rattle.bus.proofs.Checks as checks
use Rattle.bus.proofs.Back.{rows_served, rows_passed, AllStorable, sound_storable, Back, rows_back, back_rows, run_ten, run_setups}
use Rattle.demands.specs.Bus.{SoundTogether}
use Rattle.demands.specs.BusRows.{SameCall, RowsKeep}
use Rattle.demands.proofs.Pair.{sound-at, all_pass, one_pair}

-- what every test passed says of the cards
passed_together : (numbers bench maker values : List ℤ) (ws : List ℕ) → checks.Passes numbers bench maker values ws → SoundTogether bench maker (cards_of numbers) values
passed_together numbers bench maker values ws p =
    let rows = p.rows in
    record {
      cards_sound = search ands;
      bus_sound = p.bus;
      sheets_sound = p.sheets;
      sheets_fit = p.fit;
      values_sound = rw (checks.cards_number numbers) p.values_sound;
    }

-- and the other way
together_passed : (numbers bench maker values : List ℤ) (ws : List ℕ) → is_rows numbers ≡ true → SoundTogether bench maker (cards_of numbers) values → valid_words ws ≡ true → checks.checked numbers bench maker values ws ≡ gave tt
together_passed numbers bench maker values ws e s v =
    checks.all_pass numbers bench maker values ws (and_both e s.cards_sound) s.bus_sound s.sheets_sound s.sheets_fit (rw (← checks.cards_number numbers) s.values_sound) v

module _ (numbers bench maker values : List ℤ) (ws out : List ℕ) (t : Took) (g : (rows_call numbers bench maker values ws out).outcome ≡ gave t) where
  passed : checks.checked numbers bench maker values ws ≡ gave tt
  passed = rows_passed numbers bench maker values ws out t g

  tests : checks.Passes numbers bench maker values ws
  tests = checks.passed_sound numbers bench maker values ws passed

  before : SoundTogether bench maker (cards_of numbers) values
  before = passed_together numbers bench maker values ws tests

  were_rows : is_rows numbers ≡ true
  were_rows = let rows = tests.rows in search ands

  -- both calls, by all that is played
  over-rows : rows_call numbers bench maker values ws out ≡ rows_ended numbers bench maker values ws out
  over-rows = rows_served numbers bench maker values ws out passed

  over-cards : bus_call (cards_of numbers) bench maker values ws out ≡ ended (plays (cards_of numbers) bench maker values ws out) out
  over-cards = bus_served (cards_of numbers) bench maker values ws out (all_pass bench maker (cards_of numbers) values before ws tests.words)

  -- the cards afterwards, and their values
  abbrev cs : List Card
  cs = cards_in (plays (cards_of numbers) bench maker values ws out).state

  abbrev vs : List ℤ
  vs = values_in (plays (cards_of numbers) bench maker values ws out).state

  after : SoundTogether bench maker cs vs
  after = subst (λ (a : After). SoundTogether bench maker a.cards a.values) over-cards (one_pair.stays_sound bench maker (cards_of numbers) values ws out before tests.words)

  storable : AllStorable cs
  storable k d l =
      let s = sound-at bench maker cs vs after k d l in
      sound_storable bench maker _ s.card_sound s.offer_sound (run_ten bench maker numbers values (length out) ws k d l)

  setups : setups_in cs ≡ setups_in (cards_of numbers)
  setups = run_setups bench maker numbers values (length out) ws

  back : Back cs (rows_in numbers) (rows_in (stored_back cs numbers))
  back = rows_back cs numbers were_rows setups storable

  rows_again : is_rows (stored_back cs numbers) ≡ true
  rows_again = back_rows cs numbers were_rows setups storable

  same : SameCall numbers bench maker values ws out t
  same = record {
    takes = ap (λ (a : After). a.outcome) over-cards ∙ sym (ap (λ (a : RowsAfter). a.outcome) over-rows) ∙ g;
    same_values = ap (λ (a : RowsAfter). a.values) over-rows ∙ sym (ap (λ (a : After). a.values) over-cards);
    same_buffer = ap (λ (a : RowsAfter). a.buffer) over-rows ∙ sym (ap (λ (a : After). a.buffer) over-cards);
    are_rows = ap (λ (a : RowsAfter). is_rows a.numbers) over-rows ∙ rows_again;
    same_cards = ap (λ (a : RowsAfter). cards_of a.numbers) over-rows ∙ back.cards ∙ sym (ap (λ (a : After). a.cards) over-cards);
    same_front = ap (λ (a : RowsAfter). map (take 2) (rows_in a.numbers)) over-rows ∙ back.front;
    same_behind = ap (λ (a : RowsAfter). map (drop 16) (rows_in a.numbers)) over-rows ∙ back.behind;
  }

  again : (ws' out' : List ℕ) → valid_words ws' ≡ true → let r = rows_call numbers bench maker values ws out in (u : Took) × ((rows_call r.numbers bench maker r.values ws' out').outcome ≡ gave u)
  again ws' out' v =
      let numbers' = stored_back cs numbers in
      let p = plays (cards_of numbers') bench maker vs ws' out' in
      let sound : SoundTogether bench maker (cards_of numbers') vs = rw back.cards after in
      let e = rows_served numbers' bench maker vs ws' out' (together_passed numbers' bench maker vs ws' rows_again sound v) in (
        record { words = p.taken; bytes = length p.bytes },
        ap (λ (r : RowsAfter). (rows_call r.numbers bench maker r.values ws' out').outcome) over-rows ∙ ap (λ (a : RowsAfter). a.outcome) e,
      )

pub rows_keep : RowsKeep
rows_keep = record {
  same_call = λ numbers bench maker values ws out t g. same numbers bench maker values ws out t g;
  served_again = λ numbers bench maker values ws out t g ws' out' v. again numbers bench maker values ws out t g ws' out' v;
}
