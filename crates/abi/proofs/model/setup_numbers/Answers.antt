-- `abi::model::setup_numbers` meets its contract: each byte is widened as it is. Assumes nothing.
use mathlib.Core.Path.{refl}
use borrow.Author.Rules.{rules}
use lib.IntN.{pos}
use Rattle.models.proofs.Maps.{map_same}
use Rattle.abi.proofs.Given.{setup_is}
use Rattle.abi.proofs.model.setup_numbers.Goals as goal

pub returns : goal.returns
returns g c =
    let numbers = map_same pos 0 (pos 0) _ _ _ _ _ c.map.ensures.items refl (λ p x y q k. search rules) in
    setup_is c.args.instrument.now _ _ c.scan.result c.map.result numbers (search rules) (search rules) (search rules) (search rules)
