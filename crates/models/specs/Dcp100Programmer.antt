-- DCP 100 programmer, letter `R`: one line for each row of its sheet, with its initial value.
-- `003:763` is line 763 of source document 003, in the manual's table.
use Rattle.std.specs.Prelude.{List, [], ◌∷◌, ℤ, pos}
use Prim.Native.Char.{code}
use Rattle.models.specs.Table.{line}

-- identifier, access, decimals, step, least, greatest, initial value
unfoldable pub dcp100_programmer : List (List ℤ)
dcp100_programmer =
    line (code "A") 2 0 1 (pos 1) (pos 16) (pos 1) ∷  -- Segment Number, 003:763
    line (code "B") 2 1 1 (pos 0) (pos 1000) (pos 0) ∷  -- Final Setpoint Value, 003:764
    line (code "C") 2 2 1 (pos 0) (pos 9959) (pos 0) ∷  -- Segment Time/Ramp Rate, 003:765
    line (code "G") 2 0 1 (pos 0) (pos 9999) (pos 0) ∷  -- Number of Cycles Programmed, 003:766
    line (code "H") 1 0 1 (pos 0) (pos 9999) (pos 0) ∷  -- Number of Cycles Completed, 003:767
    line (code "I") 1 0 1 (pos 1) (pos 16) (pos 1) ∷  -- Current Segment Number, 003:768
    line (code "J") 1 2 1 (pos 0) (pos 9959) (pos 0) ∷  -- Segment Time Remaining, 003:769
    line (code "K") 3 0 1 (pos 1) (pos 28) (pos 1) ∷  -- Programmer Commands, 003:770
    line (code "L") 1 0 1 (pos 0) (pos 9999) (pos 0) ∷  -- Programmer Status 1, 003:771
    line (code "M") 1 1 1 (pos 0) (pos 1000) (pos 0) ∷  -- Current Setpoint Value, 003:772
    line (code "P") 1 0 1 (pos 1) (pos 8) (pos 1) ∷  -- Current Program Number, 003:774
    line (code "Q") 2 2 1 (pos 0) (pos 9959) (pos 0) ∷  -- Delay, 003:775
    line (code "R") 2 0 1 (pos 0) (pos 2) (pos 0) ∷  -- Preset x60 Mode, 003:776
    line (code "S") 2 0 1 (pos 0) (pos 1) (pos 0) ∷  -- Power Failure Recovery, 003:777
    line (code "T") 2 0 1 (pos 1) (pos 8) (pos 1) ∷  -- Program Number, 003:778
    line (code "V") 2 1 1 (pos 0) (pos 1000) (pos 0) ∷  -- Hold Band Value, 003:780
    line (code "W") 1 2 1 (pos 0) (pos 9959) (pos 0) ∷  -- Hold Time Value, 003:781
    line (code "X") 2 0 1 (pos 0) (pos 3) (pos 0) ∷  -- Auto-Hold Type, 003:782
    line (code "Y") 2 0 1 (pos 0) (pos 2) (pos 0) ∷  -- Hold On, 003:783
    line (code "[") 2 0 1 (pos 0) (pos 3) (pos 0) ∷  -- External Selection Control, 003:784
    line (code "_") 2 0 1 (pos 0) (pos 1) (pos 0) ∷  -- Segment Mode, 003:787
    line (code "`") 1 0 1 (pos 0) (pos 255) (pos 0) ∷  -- Programmer Status 2, 003:788
    []
