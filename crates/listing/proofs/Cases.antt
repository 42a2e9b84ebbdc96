-- Listings by the definitions: the paper's example byte for byte, a line for each kind of body, and the endings. Assumes nothing.
use Rattle.std.proofs.Common.{◌≡◌, ℕ, List, [], ◌∷◌, ◌++◌, pos, negsuc, refl, ap, ◌∙◌, lit<, lit≤}
use Prim.Native.Char.{code}
use Rattle.wire.specs.Text.{chars}
use Rattle.wire.specs.Bytes.{word_of}
use Rattle.wire.specs.Word.{travelling}
use Rattle.number.specs.Data.{digit, code_of, five_digits, spell_data, spell_numeral, with_decimals, numeral, minus_zero_with}
use Rattle.message.specs.declared.Body.TheVariants.{Status, Query, Up, Down, Set, Store}
use Rattle.message.specs.Prefix.{message}
use Rattle.message.specs.Spell.{spell_address, kind_of}
use Rattle.message.proofs.Messages.{letter_is}
use Rattle.message.proofs.Examples.{plain_test, plain_by, x_no_letter, query_parsed, set_parsed}
use Rattle.hearing.specs.Hearing.{none}
use Rattle.hearing.proofs.Unopened.{none_unheard, hear_dropped}
use Rattle.listing.specs.declared.Ending.TheVariants as ending
use Rattle.listing.specs.Line.{decimal_in, decimal, kind_and_data, line}
use Rattle.listing.specs.Listing.{heading, next_position, start, line_for, count_after, line_at, after, last_line, listing_from, listing}
use Rattle.listing.proofs.Whole.{word_bad, word_good}
use Rattle.listing.proofs.Messages.{word_bytes}
use Rattle.listing.proofs.Spoken.{progress_at, character_unheard, spoken}

-- document 01: "For `xL07M?*L7m#00231*` the whole output is"
pub paper_example : listing (word_bytes (travelling (chars "xL07M?*L7m#00231*")))
    ≡ chars "AT CARD ID KIND DATA\n6 L7 M ? -\n16 L7 m # 00231\nEND 2\n"
unfolding travelling plain_test word_bytes digit code_of five_digits spell_data spell_numeral spell_address kind_of decimal_in decimal kind_and_data line next_position start line_for count_after last_line listing_from listing
paper_example =
    ap (λ (t : List ℕ). heading ++ t)
    (character_unheard none 0 0 (lit< tt) (code "x") (travelling (chars "L07M?*L7m#00231*")) none (hear_dropped (code "x") (lit< tt) x_no_letter)
    ∙ spoken (code "L") (chars "07M?") 1 0 (travelling (chars "L7m#00231*")) _ letter_is (plain_by (chars "07M?") refl) (lit≤ tt) (lit< tt) query_parsed
    ∙ ap (λ (t : List ℕ). chars "6 L7 M ? -\n" ++ t)
    (spoken (code "L") (chars "7m#00231") 7 1 [] _ letter_is (plain_by (chars "7m#00231") refl) (lit≤ tt) (lit< tt) set_parsed))

-- a line for each kind of body, with an address of one digit and of two; both zeros
pub lines : line 4 (message (code "L") 7 (code "?") Status)
    ∷ line 6 (message (code "L") 7 (code "M") Query)
    ∷ line 10 (message (code "R") 10 (code "L") Up)
    ∷ line 16 (message (code "R") 99 (code "M") Down)
    ∷ line 0 (message (code "L") 7 (code "m") Store)
    ∷ line 31 (message (code "L") 1 (code "J") (Set (numeral (with_decimals (negsuc 12) 1))))
    ∷ line 42 (message (code "L") 1 (code "J") (Set (numeral (with_decimals (pos 0) 1))))
    ∷ line 53 (message (code "L") 1 (code "J") (Set (minus_zero_with 1)))
    ∷ []
    ≡ chars "4 L7 ? ? -\n" ∷ chars "6 L7 M ? -\n" ∷ chars "10 R10 L + -\n" ∷ chars "16 R99 M - -\n" ∷ chars "0 L7 m I -\n" ∷ chars "31 L1 J # 00136\n" ∷ chars "42 L1 J # 00001\n" ∷ chars "53 L1 J # 00006\n" ∷ []
unfolding digit code_of five_digits spell_data spell_numeral spell_address kind_of decimal_in decimal kind_and_data line
lines = refl

-- with no message open no word has a line
none_lineless : (at n w : ℕ) → line_at (progress_at none at n) w ≡ []
unfolding line_at line_for
none_lineless at n w = ap (line_for at) (none_unheard w)

-- no input; a lone byte; a word above 256 at position 1, and one before a lone byte; a silence, which is 256, is no bad word
pub ends_at_once : listing [] ≡ chars "AT CARD ID KIND DATA\nEND 0\n"
unfolding digit decimal_in decimal start last_line listing_from listing
ends_at_once = refl

pub ends_odd : listing (76 ∷ []) ≡ chars "AT CARD ID KIND DATA\nODD\n"
unfolding last_line listing_from listing
ends_odd = refl

pub ends_bad : listing (204 ∷ 0 ∷ 1 ∷ 1 ∷ 170 ∷ 0 ∷ []) ≡ chars "AT CARD ID KIND DATA\nBAD 1\n"
unfolding digit word_of decimal_in decimal next_position start after last_line listing
ends_bad =
    ap (λ (t : List ℕ). heading ++ t)
    (word_good start 204 0 (1 ∷ 1 ∷ 170 ∷ 0 ∷ []) refl
    ∙ ap (λ (t : List ℕ). t ++ listing_from (after start 204) (1 ∷ 1 ∷ 170 ∷ 0 ∷ [])) (none_lineless 0 0 204)
    ∙ word_bad (after start 204) 1 1 (170 ∷ 0 ∷ []) refl)

pub ends_bad_odd : listing (1 ∷ 1 ∷ 170 ∷ []) ≡ chars "AT CARD ID KIND DATA\nBAD 0\n"
unfolding digit word_of decimal_in decimal start last_line listing
ends_bad_odd = ap (λ (t : List ℕ). heading ++ t) (word_bad start 1 1 (170 ∷ []) refl)

pub silence_odd : listing (0 ∷ 1 ∷ 170 ∷ []) ≡ chars "AT CARD ID KIND DATA\nODD\n"
unfolding word_of start last_line listing_from listing
silence_odd = ap (λ (t : List ℕ). heading ++ (t ++ last_line ending.Odd)) (none_lineless 0 0 256)
