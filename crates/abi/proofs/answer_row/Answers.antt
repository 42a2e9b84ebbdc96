-- `abi::answer_row` meets its contract: five bytes, widened, then each number with its decimals. Assumes nothing.
use mathlib.Core.Path.{refl, ◌∙◌}
use borrow.Author.Rules.{rules}
use mathlib.Core.List.{[]}
use lib.IntN.{pos}
use Rattle.models.proofs.Maps.{map_same}
use Rattle.abi.proofs.Answers.{pair_of, row_is}
use Rattle.abi.proofs.answer_row.Goals as goal

pub returns : goal.returns
returns c =
    let five = map_same pos 0 (pos 0) _ _ _ _ _ c.map.ensures.items refl (λ p x y q k. search rules) in
    let each = map_same pair_of (record { number = pos 0; decimals = 0 }) [] _ _ _ _ _ c.map-2.ensures.items (search rules) (λ p x y q k. search rules) in
    row_is c.args.answer c.from.result c.five_of-count.result _ _ _ c.from.ensures c.five_of-count.ensures (c.copy_from_slice.ensures.after ∙ five) each (c.copy_from_slice-2.ensures.after ∙ c.as_flattened.ensures.value)
