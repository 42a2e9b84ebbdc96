-- `bus::all_fit` meets its contract: each row is judged. Assumes nothing.
use Rattle.std.proofs.Common.{rules, tests, sym, ◌∙◌}
use Rattle.std.proofs.lemmas.Iterator.{YieldsList-from_slice}
use Rattle.std.proofs.lemmas.Iterator.Search.{all_from_yields_List}
use Rattle.refusal.proofs.Lists.{every_all}
use Rattle.bus.specs.Rows.{rows_in}
use Rattle.bus.specs.Inner.{card_row_fits}
use Rattle.bus.proofs.all_fit.Goals as goal

pub returns : goal.returns
returns c =
    let s = c.args.sheets.now in
    let rows = rows_in c.args.numbers.now in
    all_from_yields_List (card_row_fits s.bench.now s.maker.now) _ _ c.all.result c.all.ensures.ran (YieldsList-from_slice rows cc) (λ x b q k. search (rules, tests)) ∙ sym (every_all (card_row_fits s.bench.now s.maker.now) rows)
