-- UDI 1500, letter `L`: one line for each row of its sheet, with its initial value.
-- `004:656` is line 656 of source document 004, in the manual's table.
use Rattle.std.specs.Prelude.{List, [], ◌∷◌, ℤ, pos}
use Prim.Native.Char.{code}
use Rattle.models.specs.Table.{line, minus}

-- identifier, access, decimals, step, least, greatest, initial value
unfoldable pub udi1500 : List (List ℤ)
udi1500 =
    line (code "A") 1 1 1 (minus 1009) (pos 5373) (pos 0) ∷  -- Maximum Process Variable value, 004:656
    line (code "B") 1 1 1 (minus 1009) (pos 5373) (pos 0) ∷  -- Minimum Process Variable value, 004:657
    line (code "C") 2 1 1 (minus 1009) (pos 5373) (pos 5373) ∷  -- Alarm 1 value, 004:658
    line (code "D") 2 1 1 (pos 1) (pos 638) (pos 1) ∷  -- Alarm 1 Hysteresis value, 004:659
    line (code "E") 2 1 1 (minus 1009) (pos 5373) (minus 1009) ∷  -- Alarm 2 value, 004:660
    line (code "F") 2 1 1 (pos 1) (pos 638) (pos 1) ∷  -- Alarm 2 Hysteresis value, 004:661
    line (code "G") 1 1 1 (minus 1999) (pos 9999) (pos 5373) ∷  -- Scale Range Maximum, 004:662
    line (code "H") 1 1 1 (minus 1999) (pos 9999) (minus 1009) ∷  -- Scale Range Minimum, 004:663
    line (code "J") 2 1 1 (minus 6382) (pos 6382) (pos 0) ∷  -- Process Variable Offset value, 004:664
    line (code "L") 1 0 1 (pos 0) (pos 127) (pos 0) ∷  -- Instrument Status, 004:665
    line (code "M") 1 1 1 (minus 1009) (pos 5373) (pos 0) ∷  -- Process Variable value, 004:666
    line (code "N") 2 1 1 (minus 1009) (pos 5373) (pos 5373) ∷  -- Alarm 3 value, 004:667
    line (code "O") 2 1 1 (pos 1) (pos 638) (pos 1) ∷  -- Alarm 3 Hysteresis, 004:668
    line (code "Q") 1 0 1 (pos 0) (pos 3) (pos 1) ∷  -- Scale Range Decimal Point Position, 004:669
    line (code "T") 1 2 1 (pos 0) (pos 9959) (pos 0) ∷  -- Time Elapsed, 004:670
    line (code "Z") 3 0 1 (pos 15) (pos 18) (pos 15) ∷  -- Instrument Commands, 004:671
    line (code "[") 2 1 1 (minus 1999) (pos 9999) (pos 5373) ∷  -- Recorder Output Scale Maximum, 004:672
    line (code "\\") 2 1 1 (minus 1999) (pos 9999) (minus 1009) ∷  -- Recorder Output Scale Minimum, 004:673
    line (code "m") 2 1 5 (pos 0) (pos 1000) (pos 20) ∷  -- Input Filter Time Constant value, 004:675
    []
