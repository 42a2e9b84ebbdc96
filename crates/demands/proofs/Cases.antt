-- The bench cases, by computing: this file and `BusCases` alone of demands open the definitions of every crate, since they compute them.
-- Assumes nothing.
use mathlib.Core.Path.{◌≡◌, refl}
use mathlib.Core.Bool.{Bool, true, ◌&&◌, ◌||◌}
use mathlib.Core.List.{List, []}
use lib.Count.{ones, ones_in}
use Prim.Native.Nat.{ℕ}
use lib.Dec.{eqb}
use lib.IntN.{ℤ, pos}
use lib.ListN.{length}
use Rattle.refusal.specs.Lists.{every, same}
use Rattle.refusal.specs.Buffer.{laid}
use Rattle.refusal.specs.Call.{writes}
use Rattle.refusal.specs.Check.{Check, first}
use Rattle.refusal.proofs.Logic.{all_below}
use Rattle.wire.specs.Text.{chars}
use Rattle.wire.specs.Word.{even_parity, with_parity, received, travelling, valid_words}
use Rattle.number.specs.Number.{in_range, is_multiple, cut_down, cut, raised, lowered}
use Rattle.number.specs.Data.{digit, is_digit, digit_of, fits, spell_numeral, code_of, five_digits, spell_data, spell_all, decode, read_next, read_from, read_data}
use Rattle.message.specs.Message.{is_letter, is_address, is_identifier, asks_minus_zero}
use Rattle.message.specs.Prefix.{extend_identifier, extend_address, extend_data, extend_body, extend, extend_all, finish, parse}
use Rattle.message.specs.Position.{is_wrong, matched, position}
use Rattle.message.specs.Spell.{spell_address, kind_of, spell_kind, spell_open, spell}
use Rattle.hearing.specs.Hearing.{none, added, open_of, opening, continuing, action_of, perform, hear, before, heard_from, heard}
use Rattle.hearing.specs.Normal.{words_of, normal, normal_call}
use Rattle.hearing.specs.Sound.{plain_char, plain, zeros, sound_pending}
use Rattle.sheet.specs.Sheet.{rows, sound_identifier, sound_numbers, sound_row, sound_rows, sound_sheet}
use Rattle.sheet.specs.Lookup.{code_is, row_among, place_among, row_in, place_in, has_row, row_of}
use Rattle.sheet.specs.Lookup as lookup
use Rattle.sheet.specs.Values.{numbers_of, entry_of, entry_in, is_readable, is_readable_entry, is_writable, is_read_write, fits_row, fits_place, sound_from, sound_values}
use Rattle.reply.specs.Reply.{spell_scan, spell_content, spell_answer, is_no_number, fits_content, is_answer}
use Rattle.reply.specs.Read.{characters_of, guess_mark, read_or_zero, decimal_at, guess_content, guess_behind, guess, is_reply, read_call}
use Rattle.message.specs.declared.Message.{Message}
use Rattle.act.specs.declared.Setup.{Setup}
use Rattle.act.specs.declared.causes.Cause.TheVariants.{NoMessageClosed, NotWellFormed}
use Rattle.act.specs.Cause.{why, why_of, is_for, is_offered, standing, on_bracket, takes_zero, causes}
use Rattle.act.specs.Act.{names_from, value_of, scan_of, says, accepts, shown_by, offers, granted, turned_down, respond, act, causes_in}
use Rattle.card.specs.declared.Card.{Card}
use Rattle.card.specs.Run.{playing}
use Rattle.card.specs.Turn.{effect_of, turned, turn, stored}
use Rattle.card.specs.Cause.{why_closed, why_after, why_to}
use Rattle.card.specs.Refusals.{is_revision, sound_scan, sound_setup, sound_card, offerable, sound_offer, card_checks, step_checks}
use Rattle.card.specs.Calls.{step_call, run_call}
use Rattle.demands.specs.Terms.{Sound, wrote_these}
use Rattle.demands.specs.Causes.{same_why, is_among, gave_cause, draws_it, cause_cases, every_cause, has_case}
use Rattle.demands.specs.Shortest.{FormCase, form_cases, words_in, passes_form}
use Rattle.demands.specs.Zeros.{zero_forms, is_own_form}
use Rattle.demands.specs.Bench.{bench_rows, bench_values, card_with, Case, bench_cases, twenty_neighbours, more_cases, first_cases, second_cases, scan_cases, no_replies, time_row, scan_values, equal_z, took, answers_all, passes_on, passes, passes_scan, is_no_reply}
use Rattle.std.specs.Prelude.{None, Option, Some}
use Rattle.act.specs.declared.Offer.{Offer}

-- what a table computes through
unfoldable pub computed : List Case → Bool
unfolding ones ones_in every same laid first even_parity with_parity received travelling valid_words in_range is_multiple cut_down cut raised lowered digit is_digit digit_of fits code_of five_digits spell_data decode read_next read_from read_data is_letter is_address is_identifier extend_identifier extend_address extend_data extend_body extend extend_all finish parse spell_address none added open_of opening continuing action_of perform hear plain_char plain zeros sound_pending rows sound_identifier sound_numbers sound_row sound_rows sound_sheet code_is lookup.is_for row_among place_among row_in place_in has_row row_of numbers_of entry_of entry_in is_readable is_writable is_read_write fits_row fits_place sound_from sound_values spell_content spell_answer says accepts shown_by offers granted is_offered standing on_bracket is_for takes_zero asks_minus_zero causes turned_down respond act effect_of turned turn stored playing is_revision sound_setup sound_card offerable sound_offer is_readable_entry names_from sound_scan card_checks run_call bench_rows bench_values card_with equal_z took answers_all passes_on
computed xs = every passes xs

-- cases a to l
pub bench : every passes bench_cases ≡ true
unfolding computed bench_cases
bench = refl

-- both zeros, on the first revision and on the second
pub zeros_first : every passes first_cases ≡ true
unfolding computed first_cases
zeros_first = refl

pub zeros_second : every (passes_on 2) second_cases ≡ true
unfolding computed second_cases
zeros_second = refl

-- what a table of normal forms computes through
unfoldable pub computed_forms : List FormCase → Bool
unfolding computed heard_from before heard kind_of spell_kind spell_open spell spell_numeral words_of normal normal_call writes wrote_these words_in passes_form
computed_forms xs = every passes_form xs

pub normal_forms : every passes_form form_cases ≡ true
unfolding computed_forms form_cases
normal_forms = refl

pub own_forms : every is_own_form zero_forms ≡ true
unfolding computed_forms is_own_form zero_forms
own_forms = refl

-- the second table
pub more : every passes more_cases ≡ true
unfolding computed more_cases twenty_neighbours
more = refl

pub twenty_heard : length (heard (travelling (chars twenty_neighbours))) ≡ 20
unfolding computed heard heard_from before twenty_neighbours
twenty_heard = refl

-- the scan
pub scan : every passes_scan scan_cases ≡ true
unfolding computed spell_scan spell_all value_of scan_of passes_scan scan_values time_row scan_cases
scan = refl

pub no-replies : every is_no_reply no_replies ≡ true
unfolding computed characters_of guess_mark read_or_zero decimal_at guess_content guess_behind guess is_reply read_call is_no_number fits_content is_answer spell_scan spell_all is_no_reply no_replies
no-replies = refl

-- the causes, each with its position
pub each_drawn : every draws_it cause_cases ≡ true
unfolding computed causes_in why_closed why_after why_to is_wrong matched position step_checks step_call same_why gave_cause draws_it cause_cases
each_drawn = refl

pub all_cases : every has_case every_cause ≡ true
unfolding computed same_why is_among cause_cases every_cause has_case
all_cases = refl

-- every code that is given is among them: those of the tests, none, no message closed, and each position
pub tests_known : (bench maker : List ℤ) (c : Setup) (o : Option Offer) (values : List ℤ) (m : Message) → every (λ (x : Check). is_among (why x.number 0) every_cause) (causes_in bench maker c o values m) ≡ true
unfolding computed causes_in same_why is_among every_cause
tests_known bench maker c o values m = refl

pub none_known : is_among (why_of None) every_cause ≡ true
unfolding computed same_why is_among every_cause
none_known = refl

pub open_known : is_among (why_of (Some NoMessageClosed)) every_cause ≡ true
unfolding computed same_why is_among every_cause
open_known = refl

pub places_known : all_below 10 (λ (p : ℕ). eqb p 0 || is_among (why_of (Some (NotWellFormed p))) every_cause) ≡ true
unfolding computed same_why is_among every_cause
places_known = refl

-- the claims on sound cards, sheets and values are not empty: those of the bench are sound
abbrev bench_card : Card
bench_card = card_with 1 ""

sounds : Bool
unfolding computed
sounds = sound_card bench_card && (sound_sheet [] && sound_sheet bench_rows) && sound_offer [] bench_rows None && sound_scan [] bench_rows bench_card.setup && sound_values [] bench_rows (bench_values (pos 20))

pub bench_sound : Sound [] bench_rows bench_card (bench_values (pos 20))
unfolding sounds computed
bench_sound = record { card_sound = refl; sheets_sound = refl; offer_sound = refl; scan_sound = refl; values_sound = refl }

-- both revisions are some card's
pub both_revisions : is_revision 2 ≡ is_revision 1
unfolding computed
both_revisions = refl
