-- The tables of many cards on one pair, and a bench on which no claim is empty, by computing. Assumes nothing.
use mathlib.Core.Path.{◌≡◌, refl}
use mathlib.Core.Bool.{Bool, true}
use mathlib.Core.List.{List, []}
use Prim.Native.Nat.{zero, suc}
use native.Mathlib.Omega.{arith}
use lib.ListN.{length, replicate}
use Rattle.refusal.specs.Lists.{every}
use Rattle.refusal.specs.Call.{writes}
use Rattle.number.specs.Data.{spell_numeral}
use Rattle.message.specs.Spell.{kind_of, spell_kind, spell_open, spell}
use Rattle.hearing.specs.Hearing.{before, heard_from, heard}
use Rattle.hearing.specs.Normal.{words_of, normal, normal_call}
use Rattle.reply.specs.Reply.{is_no_number, fits_content, is_answer}
use Rattle.reply.specs.Read.{characters_of, guess_mark, read_or_zero, decimal_at, guess_content, guess_behind, guess, is_reply, read_call}
use Rattle.bus.specs.Bus.{parts, joined, instruments, hears_all}
use Rattle.bus.specs.Refusals.{alike, apart, same_open, together, sound_bus, fits_sheets, sound_parts, bus_checks}
use Rattle.bus.specs.Calls.{bus_call}
use Rattle.demands.specs.Bench.{bench_rows}
use Rattle.demands.specs.Demand3.{Wrote}
use Rattle.demands.specs.Bus.{SoundTogether, replies_in, spoken_by, only_by, ButFor}
use Rattle.demands.specs.BusCases.{stands_at, three_cards, values_with, takes, all_answer, BusCase, passes_bus, bus_cases, PickCase, picks, two_cards, one_letter, pick_cases, cards_up_to, half_open, offering, values_for, number_given, gives_both, two_alike, wrong_scan, wrong_offer, bus_refusals, BusTables, both20, first25, recorded, its_form, draws, NotEmpty}
use Rattle.demands.proofs.Cases.{computed}

-- what the tables compute through
computed_bus : List BusCase → Bool
unfolding computed parts joined instruments hears_all alike apart same_open together sound_bus fits_sheets sound_parts bus_checks bus_call stands_at three_cards values_with takes all_answer passes_bus two_cards
computed_bus xs = every passes_bus xs

bus_answered : every passes_bus bus_cases ≡ true
unfolding computed_bus bus_cases
bus_answered = refl

computed_picks : List PickCase → Bool
unfolding computed_bus characters_of guess_mark read_or_zero decimal_at guess_content guess_behind guess is_reply read_call is_no_number fits_content is_answer replies_in spoken_by only_by picks
computed_picks xs = every picks xs

own_replies : every picks pick_cases ≡ true
unfolding computed_picks one_letter pick_cases
own_replies = refl

bus_refused : every gives_both bus_refusals ≡ true
unfolding computed_bus cards_up_to half_open offering values_for number_given gives_both two_alike wrong_scan wrong_offer bus_refusals
bus_refused = refl

pub bus_tables : BusTables
bus_tables = record { answered = bus_answered; own_replies = own_replies; refused = bus_refused }

-- ---- two cards that both reply

both_sound : SoundTogether [] bench_rows two_cards both20
unfolding computed_bus both20
both_sound = record { cards_sound = refl; bus_sound = refl; sheets_sound = refl; sheets_fit = refl; values_sound = refl }

altered_sound : SoundTogether [] bench_rows two_cards first25
unfolding computed_bus first25
altered_sound = record { cards_sound = refl; bus_sound = refl; sheets_sound = refl; sheets_fit = refl; values_sound = refl }

altered : ButFor 0 (length two_cards) both20 first25
unfolding computed_bus both20 first25
altered zero l d = absurd (d refl)
altered (suc zero) l d = refl
altered (suc (suc j)) l d = absurd (omega arith)

wrote : Wrote recorded (replicate 10 0) its_form
unfolding computed heard_from before heard kind_of spell_kind spell_open spell spell_numeral words_of normal normal_call writes recorded its_form
wrote = record { gives = refl; front = refl }

pub not_empty : NotEmpty
unfolding computed_picks both20 recorded its_form draws
not_empty = record {
  sound = both_sound;
  words_valid = refl;
  own_replies = refl;
  altered_sound = altered_sound;
  altered = altered;
  altered_replies = refl;
  none_open = refl;
  wrote = wrote;
  shorter = refl;
  drawn = refl;
  drawn_alike = refl;
}
