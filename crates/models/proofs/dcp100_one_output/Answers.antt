-- `models::dcp100_one_output` meets its contract: the controller's letter and lines, and four identifiers. Assumes nothing.
use mathlib.Core.Path.{refl, ap, ◌∙◌}
use native.Mathlib.Omega.{arith}
use Rattle.models.specs.Scans.{dcp100_one_output_scan, padded}
use Rattle.models.specs.Model.{Model, controller, one_output}
use Rattle.models.proofs.dcp100_one_output.Goals as goal

pub invariant_of-result : goal.invariant_of-result
unfolding padded
invariant_of-result c = (omega arith, c.result.invariant.1, refl, refl)

pub returns : goal.returns
unfolding controller one_output dcp100_one_output_scan
returns c = ap (λ (m : Model). record { letter = m.letter; table = m.table; scan = dcp100_one_output_scan }) (c.result.view_is ∙ c.dcp100_controller.ensures)
