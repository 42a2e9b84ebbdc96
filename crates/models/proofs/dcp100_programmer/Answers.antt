-- `models::dcp100_programmer` meets its contract: the letter, the lines and the scan are those of the definition. Assumes nothing.
use mathlib.Core.Path.{refl}
use native.Mathlib.Omega.{arith}
use Rattle.number.specs.Number.{in_range}
use Rattle.models.specs.Table.{are_codes}
use Rattle.models.specs.Dcp100Programmer.{dcp100_programmer}
use Rattle.models.specs.Scans.{padded}
use Rattle.models.specs.Model.{programmer}
use Rattle.models.proofs.dcp100_programmer.Goals as goal

pub invariant_of-result : goal.invariant_of-result
unfolding are_codes in_range padded
invariant_of-result c = (omega arith, refl, refl, refl)

pub returns : goal.returns
unfolding programmer dcp100_programmer
returns c = refl
