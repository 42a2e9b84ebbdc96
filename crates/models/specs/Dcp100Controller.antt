-- DCP 100 controller, letter `L`: one line for each row of its sheet, with its initial value.
-- `003:954` is line 954 of source document 003, in the manual's table.
use Rattle.std.specs.Prelude.{List, [], ◌∷◌, ℤ, pos}
use Prim.Native.Char.{code}
use Rattle.models.specs.Table.{line, minus}

-- identifier, access, decimals, step, least, greatest, initial value
unfoldable pub dcp100_controller : List (List ℤ)
dcp100_controller =
    line (code "A") 2 1 1 (pos 0) (pos 1000) (pos 1000) ∷  -- Setpoint High Limit, 003:954
    line (code "B") 2 0 1 (pos 0) (pos 100) (pos 100) ∷  -- Output 1 Power Limit, 003:955
    line (code "C") 2 1 1 (pos 0) (pos 1000) (pos 1000) ∷  -- Alarm 1 Value, 003:956
    line (code "D") 2 2 1 (pos 0) (pos 9959) (pos 115) ∷  -- Rate, 003:957
    line (code "E") 2 1 1 (pos 0) (pos 1000) (pos 0) ∷  -- Alarm 2 Value, 003:958
    line (code "F") 2 1 1 (pos 1) (pos 100) (pos 5) ∷  -- ON/OFF Differential Value, 003:959
    line (code "G") 2 1 1 (minus 1999) (pos 9999) (pos 1000) ∷  -- Scale Range Maximum, 003:960
    line (code "H") 2 1 1 (minus 1999) (pos 9999) (pos 0) ∷  -- Scale Range Minimum, 003:961
    line (code "I") 2 2 1 (pos 1) (pos 9959) (pos 500) ∷  -- Reset Value or Loop Alarm Time, 003:962
    line (code "J") 2 0 1 (minus 100) (pos 100) (pos 25) ∷  -- Manual Reset, 003:963
    line (code "K") 2 0 1 (minus 20) (pos 20) (pos 0) ∷  -- Overlap/Deadband Value, 003:964
    line (code "L") 1 0 1 (pos 0) (pos 511) (pos 0) ∷  -- Controller Status, 003:965; nine bits, 002:1434-1442
    line (code "M") 1 1 1 (pos 0) (pos 1000) (pos 0) ∷  -- Process Variable Value, 003:966
    line (code "N") 2 1 5 (pos 5) (pos 5120) (pos 320) ∷  -- Output 1 Cycle Time, 003:967
    line (code "O") 2 1 5 (pos 5) (pos 5120) (pos 320) ∷  -- Output 2 Cycle Time, 003:968
    line (code "P") 2 1 1 (pos 0) (pos 9999) (pos 100) ∷  -- Proportional Band 1 Value, 003:969
    line (code "Q") 2 0 1 (pos 0) (pos 3) (pos 1) ∷  -- Scale Range Decimal Point Position, 003:970
    line (code "S") 2 1 1 (pos 0) (pos 1000) (pos 0) ∷  -- Setpoint Value, 003:971
    line (code "T") 2 1 1 (pos 0) (pos 1000) (pos 0) ∷  -- Setpoint Low Limit, 003:972
    line (code "U") 2 1 1 (pos 0) (pos 9999) (pos 100) ∷  -- Proportional Band 2 Value, 003:973
    line (code "V") 1 1 1 (minus 1000) (pos 1000) (pos 0) ∷  -- Deviation Value, 003:974
    line (code "W") 1 0 1 (minus 100) (pos 100) (pos 0) ∷  -- Output Power, 003:975
    line (code "Z") 3 0 1 (pos 1) (pos 14) (pos 1) ∷  -- Setpoint Programmer Commands, 003:976
    line (code "[") 2 1 1 (minus 1999) (pos 9999) (pos 1000) ∷  -- Recorder Output Scale Maximum, 003:977
    line (code "\\") 2 1 1 (minus 1999) (pos 9999) (pos 0) ∷  -- Recorder Output Scale Minimum, 003:978
    line (code "^") 2 1 1 (pos 1) (pos 9999) (pos 1) ∷  -- Setpoint Ramp Rate, 003:980
    line (code "m") 2 1 5 (pos 0) (pos 1000) (pos 20) ∷  -- Input Filter Time Constant Value, 003:981
    line (code "v") 2 1 1 (minus 1000) (pos 1000) (pos 0) ∷  -- Process Variable Offset Value, 003:982
    []
