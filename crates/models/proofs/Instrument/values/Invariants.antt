-- `models::Instrument::values` meets its contract: the values of the lines passed are stored, so what is left fills the rest in.
-- Assumes nothing.
use mathlib.Core.Path.{◌≡◌}
use mathlib.Core.Bool.{true}
use lib.ListN.{length, drop}
use Rattle.models.specs.Table.{are_codes, filled}
use Rattle.models.proofs.Instrument.values.Given as goal

abbrev pub invariant-loop-identifier : goal.invariant-loop-identifier
invariant-loop-identifier g l =
    (length l.values ≡ 128)
    × (are_codes (drop l.identifier-index l.identifier-items) ≡ true)
    × (filled l.initial.values l.identifier-items ≡ filled l.values (drop l.identifier-index l.identifier-items))
