-- The call that gives a real instrument: its sheet, its values at first, and what a card of it is set to.
use Rattle.std.specs.Prelude.{cond, ◌&&◌, List, ◌∷◌, map, ℕ, leb, ℤ, pos, length}
use Rattle.refusal.specs.Refusal.{number_of}
use Rattle.refusal.specs.Buffer.{laid}
use Rattle.refusal.specs.declared.Refusal.TheVariants.{RoomTooShort}
use Rattle.models.specs.Table.{sheet_of, values_of}
use Rattle.models.specs.Scans.{padded}
use Rattle.models.specs.Model.{Model, of_model}
use Rattle.abi.specs.Result.{minus_number, count_result}

-- letter, count of the scan's identifiers, and five of them
unfoldable pub setup_numbers : ℕ → ℕ → List ℕ → List ℤ
setup_numbers letter count scan = pos letter ∷ pos count ∷ map pos scan

-- those of an instrument, with 0 behind the count: number 0 and numbers 16 to 21 of a card's row
abbrev pub model_setup : Model → List ℤ
model_setup m = setup_numbers m.letter (length m.scan) (padded m.scan)

-- the result, and the three slices afterwards
pub record ModelGiven : Type 0 where
  pub result : ℤ
  pub sheet : List ℤ
  pub values : List ℤ
  pub setup : List ℤ

abbrev pub model_given : ℤ → List ℤ → List ℤ → List ℤ → ModelGiven
model_given z sheet values setup = record { result = z; sheet = sheet; values = values; setup = setup }

-- each list at the front of its slice, and the count of the first; number 5, and nothing written, where one is longer than its slice
unfoldable pub given_into : List ℤ → List ℤ → List ℤ → List ℤ → List ℤ → List ℤ → ModelGiven
given_into xs ys zs sheet values setup =
    cond (leb (length xs) (length sheet) && leb (length ys) (length values) && leb (length zs) (length setup))
    (model_given (count_result (length xs)) (laid xs sheet) (laid ys values) (laid zs setup))
    (model_given (minus_number (number_of RoomTooShort)) sheet values setup)

-- the rows of the table, the 128 values, and seven numbers of a card
unfoldable pub model_into : List ℤ → List ℤ → List ℤ → Model → ModelGiven
model_into sheet values setup m = given_into (sheet_of m.table) (values_of m.table) (model_setup m) sheet values setup

-- 0, and nothing written, for a number that no instrument has
unfoldable pub kav_model : ℕ → List ℤ → List ℤ → List ℤ → ModelGiven
kav_model n sheet values setup = of_model n (model_into sheet values setup) (model_given (pos 0) sheet values setup)
