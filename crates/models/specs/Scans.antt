-- The scans of the instruments: the identifiers whose values a query of `]` is answered with, in order.
-- `003:1077` is line 1077 of source document 003, in the manual's list. The DCP 100 programmer names none (003:904-913).
use Rattle.std.specs.Prelude.{List, [], ◌∷◌, ◌++◌, ℕ, ◌-◌, length, replicate}
use Prim.Native.Char.{code}

-- DCP 100 controller with two control outputs, the configuration of its sheet
unfoldable pub dcp100_controller_scan : List ℕ
dcp100_controller_scan =
    code "S" ∷  -- setpoint, 003:1077
    code "M" ∷  -- process variable, 003:1078
    code "W" ∷  -- Output 1 Power, 003:1079
    code "W" ∷  -- Output 2 Power, 003:1080; `W` is the identifier of both
    code "L" ∷  -- Controller Status, 003:1081
    []

-- DCP 100 controller with one control output
unfoldable pub dcp100_one_output_scan : List ℕ
dcp100_one_output_scan =
    code "S" ∷  -- setpoint, 003:1077
    code "M" ∷  -- process variable, 003:1078
    code "W" ∷  -- Output 1 Power, 003:1079
    code "L" ∷  -- Controller Status, 003:1081
    []

-- UDI 1500
unfoldable pub udi1500_scan : List ℕ
udi1500_scan =
    code "M" ∷  -- process variable, 004:855
    code "A" ∷  -- maximum process variable, 004:856
    code "B" ∷  -- minimum process variable, 004:857
    code "T" ∷  -- Time Elapsed, 004:858
    code "L" ∷  -- Instrument Status, 004:859
    []

-- zeros behind a scan, up to five numbers
unfoldable pub padded : List ℕ → List ℕ
padded s = s ++ replicate (5 - length s) 0
