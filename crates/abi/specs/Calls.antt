-- The calls that take a card, or many, as rows of twenty-three numbers: what each gives back, and all that it leaves, for every input.
use Rattle.card.specs.declared.Took.{Took}
use Rattle.std.specs.Prelude.{cond, List, [], ◌∷◌, ℕ, ltb, ℤ, pos, length, set}
use Rattle.refusal.specs.Refusal.{Outcome, refused, gave, number_of}
use Rattle.refusal.specs.Check.{first}
use Rattle.refusal.specs.declared.Refusal.TheVariants.{UnsoundCard, RoomTooShort}
use Rattle.card.specs.declared.Card.{Card}
use Rattle.card.specs.Refusals.{card_checks}
use Rattle.act.specs.Cause.{Why}
use Rattle.card.specs.Calls.{After, WordAnswer, bytes_of, step_call, run_call}
use Rattle.row.specs.Row.{is_row, card_of, stored_in}
use Rattle.bus.specs.Rows.{rows_checks, RowsAfter, rows_call}
use Rattle.abi.specs.Result.{minus_number, result_of}

-- the row afterwards: the card is stored back only when the call is served
abbrev pub row_after : {A : Type 0} → Outcome A → Card → List ℤ → List ℤ
row_after (refused n) c row = row
row_after (gave x) c row = stored_in c row

-- a slice that is too short for what a host is given beside the result is number 5, behind all other numbers of the call
abbrev pub too_short : Outcome (Unit {0}) → ℤ
too_short (refused n) = minus_number n
too_short (gave x) = minus_number (number_of RoomTooShort)

-- ---- one word

-- the result, and the row, the values, the buffer and the cause afterwards
pub record OneWord : Type 0 where
  pub result : ℤ
  pub row : List ℤ
  pub values : List ℤ
  pub buffer : List ℕ
  pub cause : List ℤ

abbrev pub one_word : ℤ → List ℤ → List ℤ → List ℕ → List ℤ → OneWord
one_word z row values out cause = record { result = z; row = row; values = values; buffer = out; cause = cause }

-- a cause's code and position, in the first two places
abbrev pub cause_in : Why → List ℤ → List ℤ
cause_in y cause = set (set cause 0 (pos y.code)) 1 (pos y.position)

abbrev pub cause_after : Outcome WordAnswer → List ℤ → List ℤ
cause_after (refused n) cause = cause
cause_after (gave s) cause = cause_in s.cause cause

-- what the card's call leaves, on the row
abbrev pub step_on : List ℤ → List ℤ → After WordAnswer → OneWord
step_on row cause a =
    one_word (result_of (bytes_of a.outcome)) (row_after a.outcome a.card row) a.values a.buffer (cause_after a.outcome cause)

unfoldable pub kav_step : List ℤ → List ℤ → List ℤ → List ℤ → ℕ → List ℕ → List ℤ → OneWord
kav_step row bench maker values w out cause =
    cond (is_row row)
    (cond (ltb (length cause) 2) (one_word (too_short (first (card_checks (card_of row) bench maker values (w ∷ [])))) row values out cause)
    (step_on row cause (step_call (card_of row) bench maker values w out)))
    (one_word (minus_number (number_of UnsoundCard)) row values out cause)

-- ---- a run

-- the same, and the counts afterwards
pub record ManyWords : Type 0 where
  pub result : ℤ
  pub row : List ℤ
  pub values : List ℤ
  pub buffer : List ℕ
  pub counts : List ℕ

abbrev pub many_words : ℤ → List ℤ → List ℤ → List ℕ → List ℕ → ManyWords
many_words z row values out counts = record { result = z; row = row; values = values; buffer = out; counts = counts }

-- 0 for a run that is served
abbrev pub run_result : Outcome Took → ℤ
run_result (refused n) = minus_number n
run_result (gave t) = pos 0

-- words taken and bytes written, in the first two counts
abbrev pub counts_in : ℕ → ℕ → List ℕ → List ℕ
counts_in words bytes counts = set (set counts 0 words) 1 bytes

abbrev pub counts_after : Outcome Took → List ℕ → List ℕ
counts_after (refused n) counts = counts
counts_after (gave t) counts = counts_in t.words t.bytes counts

abbrev pub run_on : List ℤ → List ℕ → After Took → ManyWords
run_on row counts a =
    many_words (run_result a.outcome) (row_after a.outcome a.card row) a.values a.buffer (counts_after a.outcome counts)

unfoldable pub kav_run : List ℤ → List ℤ → List ℤ → List ℤ → List ℕ → List ℕ → List ℕ → ManyWords
kav_run row bench maker values ws out counts =
    cond (is_row row)
    (cond (ltb (length counts) 2) (many_words (too_short (first (card_checks (card_of row) bench maker values ws))) row values out counts)
    (run_on row counts (run_call (card_of row) bench maker values ws out)))
    (many_words (minus_number (number_of UnsoundCard)) row values out counts)

-- ---- a run over many cards

-- what the call over their rows leaves
abbrev pub bus_on : List ℕ → RowsAfter → ManyWords
bus_on counts a = many_words (run_result a.outcome) a.numbers a.values a.buffer (counts_after a.outcome counts)

unfoldable pub kav_bus_run : List ℤ → List ℤ → List ℤ → List ℤ → List ℕ → List ℕ → List ℕ → ManyWords
kav_bus_run numbers bench maker values ws out counts =
    cond (ltb (length counts) 2) (many_words (too_short (first (rows_checks numbers bench maker values ws))) numbers values out counts)
    (bus_on counts (rows_call numbers bench maker values ws out))
