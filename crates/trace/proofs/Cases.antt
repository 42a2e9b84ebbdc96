-- Traces by the definitions: this file alone of trace opens those of every crate, since it computes them. Assumes nothing.
use Rattle.card.specs.declared.Took.{Took}
use mathlib.Core.Path.{◌≡◌, refl}
use mathlib.Core.List.{List, [], ◌∷◌}
use lib.Count.{ones, ones_in}
use Prim.Native.Nat.{ℕ, ◌*◌}
use Prim.Native.Char.{code}
use lib.IntN.{ℤ, pos}
use lib.ListN.{take, set, replicate}
use Rattle.refusal.specs.Lists.{every}
use Rattle.refusal.specs.Buffer.{laid}
use Rattle.refusal.specs.Refusal.{Outcome, refused, gave}
use Rattle.refusal.specs.Check.{first}
use Rattle.wire.specs.Text.{chars}
use Rattle.wire.specs.Word.{even_parity, with_parity, received, travelling, valid_words}
use Rattle.number.specs.Number.{in_range, is_multiple, cut_down, cut, raised, lowered}
use Rattle.number.specs.Data.{digit, is_digit, digit_of, fits, code_of, five_digits, spell_data, decode, read_next, read_from, read_data}
use Rattle.message.specs.Message.{is_letter, is_address, is_identifier, asks_minus_zero}
use Rattle.message.specs.Prefix.{extend_identifier, extend_address, extend_data, extend_body, extend, extend_all, finish, parse}
use Rattle.message.specs.Position.{is_wrong, matched, position}
use Rattle.message.specs.Spell.{spell_address}
use Rattle.hearing.specs.Hearing.{none, added, open_of, opening, continuing, action_of, perform, hear}
use Rattle.hearing.specs.Sound.{plain_char, plain, zeros, sound_pending}
use Rattle.sheet.specs.Sheet.{rows, sound_identifier, sound_numbers, sound_row, sound_rows, sound_sheet}
use Rattle.sheet.specs.Lookup.{code_is, row_among, place_among, row_in, place_in, has_row, row_of}
use Rattle.sheet.specs.Lookup as lookup
use Rattle.sheet.specs.Values.{numbers_of, entry_of, entry_in, is_readable, is_readable_entry, is_writable, is_read_write, fits_row, fits_place, sound_from, sound_values}
use Rattle.reply.specs.Reply.{longest_reply, spell_content, spell_answer}
use Rattle.act.specs.Cause.{is_for, is_offered, standing, on_bracket, takes_zero, causes}
use Rattle.act.specs.Act.{most_named, names_from, says, accepts, shown_by, offers, granted, turned_down, respond, act, causes_in}
use Rattle.card.specs.declared.Card.{Card}
use Rattle.card.specs.Run.{playing}
use Rattle.card.specs.Turn.{effect_of, turned, turn, stored}
use Rattle.card.specs.Cause.{why_closed, why_after, why_to}
use Rattle.card.specs.Refusals.{is_revision, sound_scan, sound_setup, sound_card, offerable, sound_offer, card_checks}
use Rattle.trace.specs.Notes.{fives_of, note_to, noting}
use Rattle.trace.specs.Calls.{TraceAfter, trace_checks, trace_call}
use Rattle.std.specs.Prelude.{None}

-- a card `L7` with one row, for m: read and write, one decimal, a step of 5, 0 to 1000; m is 20
m_row : List ℤ
m_row = pos (code "m") ∷ pos 2 ∷ pos 1 ∷ pos 5 ∷ pos 0 ∷ pos 1000 ∷ []

plain_card : Card
plain_card =
    record { setup = record { letter = code "L"; address = 7; count = 0; scan = replicate most_named 0; revision = 1 }; pending = none; offer = None }

-- four messages behind a character that opens none: a query, one without a row, one for a neighbour, and one that isn't well formed at its `x`
sent : List ℕ
sent = travelling (chars "xL7m?*L7q?*R07m?*L7mx*")

-- what is answered: the outcome, how many messages are noted, and their numbers
record Told : Type 0 where
  outcome : Outcome Took
  messages : ℕ
  numbers : List ℕ

-- a trace with room for so many bytes and so many numbers
told : ℕ → ℕ → Told
unfolding sent m_row plain_card ones ones_in every laid first even_parity with_parity received travelling valid_words in_range is_multiple cut_down cut raised lowered digit is_digit digit_of fits code_of five_digits spell_data decode read_next read_from read_data is_letter is_address is_identifier asks_minus_zero extend_identifier extend_address extend_data extend_body extend extend_all finish parse is_wrong matched position spell_address none added open_of opening continuing action_of perform hear plain_char plain zeros sound_pending rows sound_identifier sound_numbers sound_row sound_rows sound_sheet code_is lookup.is_for row_among place_among row_in place_in has_row row_of numbers_of entry_of entry_in is_readable is_readable_entry is_writable is_read_write fits_row fits_place sound_from sound_values spell_content spell_answer is_for is_offered standing on_bracket takes_zero causes names_from says accepts shown_by offers granted turned_down respond act causes_in playing effect_of turned turn stored why_closed why_after why_to is_revision sound_scan sound_setup sound_card offerable sound_offer card_checks fives_of note_to noting trace_checks trace_call
told room many =
    let a : TraceAfter = trace_call plain_card [] m_row (set (replicate 128 (pos 0)) (code "m") (pos 20)) sent (replicate room 0) (replicate many 0) in
    record { outcome = a.run.outcome; messages = a.messages; numbers = take (a.messages * 5) a.notes }

-- with room for all: accepted; no such identifier; not for this card; and the position of the `x`
all_told : told longest_reply (22 * 5) ≡ record {
  outcome = gave (record { words = 22; bytes = 20 });
  messages = 4;
  numbers = 5 ∷ 4 ∷ 10 ∷ 0 ∷ 0 ∷ 10 ∷ 4 ∷ 10 ∷ 1 ∷ 0 ∷ 16 ∷ 5 ∷ 0 ∷ 7 ∷ 0 ∷ 21 ∷ 4 ∷ 0 ∷ 10 ∷ 3 ∷ [];
}
unfolding told
all_told = refl

-- the second reply no longer fits: its word is not taken, and not noted
no_room : told 19 (22 * 5) ≡ record { outcome = gave (record { words = 10; bytes = 10 }); messages = 1; numbers = 5 ∷ 4 ∷ 10 ∷ 0 ∷ 0 ∷ [] }
unfolding told
no_room = refl

-- one number too few for the words lent
too_few : told longest_reply 109 ≡ record { outcome = refused 5; messages = 0; numbers = [] }
unfolding told
too_few = refl
