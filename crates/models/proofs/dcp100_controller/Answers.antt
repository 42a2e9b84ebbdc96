-- `models::dcp100_controller` meets its contract: the letter, the lines and the scan are those of the definition. Assumes nothing.
use mathlib.Core.Path.{refl}
use native.Mathlib.Omega.{arith}
use Rattle.number.specs.Number.{in_range}
use Rattle.models.specs.Table.{are_codes}
use Rattle.models.specs.Dcp100Controller.{dcp100_controller}
use Rattle.models.specs.Scans.{dcp100_controller_scan, padded}
use Rattle.models.specs.Model.{controller}
use Rattle.models.proofs.dcp100_controller.Goals as goal

pub invariant_of-result : goal.invariant_of-result
unfolding are_codes in_range padded
invariant_of-result c = (omega arith, refl, refl, refl)

pub returns : goal.returns
unfolding controller dcp100_controller dcp100_controller_scan
returns c = refl
