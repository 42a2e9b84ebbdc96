-- `models::udi1500` meets its contract: the letter, the lines and the scan are those of the definition. Assumes nothing.
use mathlib.Core.Path.{refl}
use native.Mathlib.Omega.{arith}
use Rattle.number.specs.Number.{in_range}
use Rattle.models.specs.Table.{are_codes}
use Rattle.models.specs.Udi1500.{udi1500}
use Rattle.models.specs.Scans.{udi1500_scan, padded}
use Rattle.models.specs.Model.{indicator}
use Rattle.models.proofs.udi1500.Goals as goal

pub invariant_of-result : goal.invariant_of-result
unfolding are_codes in_range padded
invariant_of-result c = (omega arith, refl, refl, refl)

pub returns : goal.returns
unfolding indicator udi1500 udi1500_scan
returns c = refl
