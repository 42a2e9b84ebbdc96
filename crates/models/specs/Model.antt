-- The instruments: the letter that a card of each has, its table and its scan.
-- `003:644` is line 644 of source document 003, where the manual names the letter.
use Rattle.std.specs.Prelude.{cond, List, [], ℕ, eqb, ℤ}
use Prim.Native.Char.{code}
use Rattle.models.specs.Dcp100Controller.{dcp100_controller}
use Rattle.models.specs.Dcp100Programmer.{dcp100_programmer}
use Rattle.models.specs.Udi1500.{udi1500}
use Rattle.models.specs.Scans.{dcp100_controller_scan, dcp100_one_output_scan, udi1500_scan}

-- the letter, the table, and the identifiers of the scan
pub record Model : Type 0 where
  pub letter : ℕ
  pub table : List (List ℤ)
  pub scan : List ℕ

-- DCP 100 controller, 003:644: "L is used for Controller parameters"
unfoldable pub controller : Model
controller = record { letter = code "L"; table = dcp100_controller; scan = dcp100_controller_scan }

-- the same with one control output
unfoldable pub one_output : Model
one_output = record { letter = code "L"; table = dcp100_controller; scan = dcp100_one_output_scan }

-- DCP 100 programmer, 003:644: "R is used for Programmer parameters"; it names no scan, 003:904-913
unfoldable pub programmer : Model
programmer = record { letter = code "R"; table = dcp100_programmer; scan = [] }

-- UDI 1500, 004:631: "L is the Start of Message character"
unfoldable pub indicator : Model
indicator = record { letter = code "L"; table = udi1500; scan = udi1500_scan }

-- what f gives of the instrument with this number, 1 to 3 in the order above; `none` for any other number
unfoldable pub of_model : {A : Type 0} → ℕ → (Model → A) → A → A
of_model n f none = cond (eqb n 1) (f controller) (cond (eqb n 2) (f programmer) (cond (eqb n 3) (f indicator) none))
