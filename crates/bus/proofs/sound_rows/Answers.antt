-- `bus::sound_rows` meets its contract: whole rows, each tested. Assumes nothing.
use Rattle.std.proofs.Common.{rules, tests, ◌≡◌, sym, ◌∙◌, ◌/◌, ◌%◌, length, arith}
use Rattle.std.proofs.lemmas.Iterator.{YieldsList-from_slice}
use Rattle.std.proofs.lemmas.Iterator.Search.{all_from_yields_List}
use borrow.Author.Tests.{eq-eqb}
use Rattle.std.specs.Simd.{first_chunks}
use Rattle.bus.specs.Inner.{sound_card_row}
use Rattle.bus.proofs.Parts.{every_chunk}
use Rattle.bus.proofs.sound_rows.Goals as goal

pub returns : goal.returns
returns c =
    let numbers = c.args.numbers.now in
    let n = length numbers / 23 in
    let none : length numbers % 23 ≡ 0 = search (rules, arith, tests) in
    all_from_yields_List sound_card_row _ _ c.all.result c.all.ensures.ran (YieldsList-from_slice (first_chunks 23 n numbers) cc) (λ x b q k. search (rules, tests))
    ∙ every_chunk sound_card_row 23 n numbers ∙ sym (rw (eq-eqb _ 0 none))
