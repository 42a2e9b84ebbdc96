-- What `kav_model` gives is served: a row with an instrument's setup, any sound address and revision, no open message and no offer is a card
-- that passes every check, with the instrument's sheet as the maker's, no sheet of the bench's, its values at first, and any valid words.
-- And the room that each instrument needs, in numbers. Assumes nothing.
use mathlib.Core.Path.{◌≡◌, refl, ◌∙◌}
use mathlib.Core.Bool.{true, cond, ◌&&◌, ◌||◌}
use mathlib.Core.List.{List, [], ◌∷◌, ◌++◌}
use Prim.Native.Nat.{ℕ, ◌<◌}
use native.Mathlib.Omega.{arith}
use borrow.Author.Tests.{leb-true, eqb-true}
use lib.Dec.{leb, eqb}
use lib.IntN.{ℤ, pos}
use lib.ListN.{length, take, drop, replicate}
use Rattle.refusal.specs.Refusal.{gave}
use Rattle.refusal.specs.Check.{first}
use Rattle.refusal.specs.Lists.{every}
use Rattle.refusal.specs.Buffer.{laid}
use Rattle.refusal.proofs.Logic.{and_right, or_cases}
use Rattle.number.specs.Number.{in_range}
use Rattle.wire.specs.Word.{valid_words}
use Rattle.message.specs.Message.{is_letter, is_address}
use Rattle.hearing.specs.Hearing.{none}
use Rattle.hearing.proofs.Sound.{none_sound}
use Rattle.sheet.specs.Sheet.{rows, sound_sheet}
use Rattle.sheet.specs.Lookup.{has_row, place_in, place_among}
use Rattle.sheet.proofs.Tables.{sheet-test}
use Rattle.act.specs.Act.{names_from}
use Rattle.card.specs.declared.Card.{Card}
use Rattle.card.specs.Refusals.{is_revision, sound_setup, sound_card, sound_offer, sound_scan, card_checks}
use Rattle.row.specs.Row.{is_byte, byte_or, is_row, bytes_in, setup_of, pending_of, offer_of, card_of}
use Rattle.row.proofs.Back.{is-byte, byte_back}
use Rattle.models.specs.Table.{sheet_of, filled, values_of}
use Rattle.models.specs.Dcp100Controller.{dcp100_controller}
use Rattle.models.specs.Dcp100Programmer.{dcp100_programmer}
use Rattle.models.specs.Udi1500.{udi1500}
use Rattle.models.specs.Scans.{dcp100_controller_scan, udi1500_scan, padded}
use Rattle.models.specs.Model.{Model, controller, programmer, indicator}
use Rattle.models.proofs.Models.{SoundModel, are_readable, dcp100_controller_sound, dcp100_programmer_sound, udi1500_sound, dcp100_controller_scan_readable, udi1500_scan_readable}
use Rattle.abi.specs.Result.{minus_number, count_result}
use Rattle.abi.specs.Models.{setup_numbers, model_setup, model_given, given_into, model_into}
use Rattle.std.specs.Prelude.{None}

-- the row that a host makes of the setup: its letter, an address, no open message and no offer, its scan, a revision
abbrev pub row_with_setup : List ℤ → ℕ → ℕ → List ℤ
row_with_setup setup address revision = take 1 setup ++ (pos address ∷ (replicate 14 (pos 0) ++ (drop 1 setup ++ (pos revision ∷ []))))

-- the card that it is
abbrev pub model_card : Model → ℕ → ℕ → Card
model_card i a v =
    record { setup = record { letter = i.letter; address = a; count = length i.scan; scan = padded i.scan; revision = v }; pending = none; offer = None }

-- what is computed of each instrument; n numbers are its sheet
pub record Complete (i : Model) (n : ℕ) : Type 0 where
  pub sheet_length : length (sheet_of i.table) ≡ n
  pub values_length : length (values_of i.table) ≡ 128
  pub setup_length : length (model_setup i) ≡ 7
  pub count_fits : count_result n ≡ pos n
  pub letter_sound : is_letter i.letter ≡ true
  pub model_sound : SoundModel i.table
  pub counted : (eqb (length i.scan) 0 || eqb (length i.scan) 4 || eqb (length i.scan) 5) ≡ true
  pub readable : are_readable [] (sheet_of i.table) i.scan ≡ true
  pub names : (a v : ℕ) → names_from (model_card i a v).setup 0 (length i.scan) ≡ i.scan
  pub is-row : (a v : ℕ) → a < 256 → is_row (row_with_setup (model_setup i) a v) ≡ true
  pub row_card : (a v : ℕ) → a < 256 → v < 256 → card_of (row_with_setup (model_setup i) a v) ≡ model_card i a v

pub controller_complete : Complete controller 168
unfolding controller sheet_of values_of filled dcp100_controller dcp100_controller_scan padded setup_numbers count_result is_letter names_from is_row every card_of setup_of pending_of offer_of bytes_in byte_or is_byte in_range none
controller_complete = record {
  sheet_length = refl;
  values_length = refl;
  setup_length = refl;
  count_fits = refl;
  letter_sound = refl;
  model_sound = dcp100_controller_sound;
  counted = refl;
  readable = dcp100_controller_scan_readable.readable_under_maker;
  names = λ a v. refl;
  is-row = λ a v p. rw (is-byte a p);
  row_card = λ a v p q. rw (byte_back a p, byte_back v q);
}

pub programmer_complete : Complete programmer 132
unfolding programmer sheet_of values_of filled dcp100_programmer padded setup_numbers count_result is_letter names_from is_row every card_of setup_of pending_of offer_of bytes_in byte_or is_byte in_range none
programmer_complete = record {
  sheet_length = refl;
  values_length = refl;
  setup_length = refl;
  count_fits = refl;
  letter_sound = refl;
  model_sound = dcp100_programmer_sound;
  counted = refl;
  readable = refl;
  names = λ a v. refl;
  is-row = λ a v p. rw (is-byte a p);
  row_card = λ a v p q. rw (byte_back a p, byte_back v q);
}

pub indicator_complete : Complete indicator 114
unfolding indicator sheet_of values_of filled udi1500 udi1500_scan padded setup_numbers count_result is_letter names_from is_row every card_of setup_of pending_of offer_of bytes_in byte_or is_byte in_range none
indicator_complete = record {
  sheet_length = refl;
  values_length = refl;
  setup_length = refl;
  count_fits = refl;
  letter_sound = refl;
  model_sound = udi1500_sound;
  counted = refl;
  readable = udi1500_scan_readable.readable_under_maker;
  names = λ a v. refl;
  is-row = λ a v p. rw (is-byte a p);
  row_card = λ a v p q. rw (byte_back a p, byte_back v q);
}

-- the room that each slice needs, in numbers, and the count that is given
pub gives_by_room : (i : Model) (n : ℕ) → Complete i n → (sheet values setup : List ℤ) → model_into sheet values setup i
    ≡ cond (leb n (length sheet) && leb 128 (length values) && leb 7 (length setup))
    (model_given (pos n) (laid (sheet_of i.table) sheet) (laid (values_of i.table) values) (laid (model_setup i) setup)) (model_given (minus_number 5) sheet values setup)
unfolding model_into given_into
gives_by_room i n k sheet values setup = simp (k.sheet_length, k.values_length, k.setup_length, k.count_fits)

none_there : sound_sheet [] ≡ true
none_there = sheet-test [] ∙ (unfold rows in refl)

module _ (i : Model) (n : ℕ) (k : Complete i n) (a v : ℕ) (ws : List ℕ) (e : is_address a ≡ true) (f : is_revision v ≡ true) (w : valid_words ws ≡ true) where
  scan_sound : sound_scan [] (sheet_of i.table) (model_card i a v).setup ≡ true
  unfolding sound_scan has_row place_in place_among rows
  scan_sound = rw (k.model_sound.no-scan-row, k.counted, k.names a v) k.readable

  pub card_passes : first (card_checks (model_card i a v) [] (sheet_of i.table) (values_of i.table) ws) ≡ gave tt
  unfolding first card_checks sound_card sound_setup sound_offer
  card_passes = rw (k.letter_sound, e, f, none_sound, none_there, k.model_sound.sheet_sound, scan_sound, k.model_sound.values_under_maker, w)

  address_small : a < 256
  unfolding is_address
  address_small = omega (arith, leb-true a 99 (and_right (leb 1 a) (leb a 99) e))

  revision_small : v < 256
  unfolding is_revision
  revision_small = or_cases (eqb v 1) (eqb v 2) f (λ t. omega (arith, eqb-true v 1 t)) (λ t. omega (arith, eqb-true v 2 t))

  pub model_passes : (is_row (row_with_setup (model_setup i) a v) ≡ true) × (first (card_checks (card_of (row_with_setup (model_setup i) a v)) [] (sheet_of i.table) (values_of i.table) ws) ≡ gave tt)
  model_passes = (k.is-row a v address_small, rw (k.row_card a v address_small revision_small) card_passes)
