-- `bus::all_hold` meets its contract: each is compared with the one. Assumes nothing.
use Rattle.std.proofs.Common.{rules, tests, sym, ◌∙◌, List, ℤ}
use Rattle.std.proofs.lemmas.Iterator.{YieldsList-from_slice}
use Rattle.std.proofs.lemmas.Iterator.Search.{all_from_yields_List}
use Rattle.refusal.proofs.Lists.{every_all}
use Rattle.bus.specs.Refusals.{same_open}
use Rattle.bus.specs.Inner.{pending_in}
use Rattle.bus.proofs.pair.all_hold.Goals as goal

pub returns : goal.returns
returns c =
    let p = c.args.pending in
    let rows = c.args.rows.now in
    all_from_yields_List (λ (row : List ℤ). same_open p (pending_in row)) _ _ c.all.result c.all.ensures.ran (YieldsList-from_slice rows cc) (λ x b q k. search (rules, tests)) ∙ sym (every_all (λ (row : List ℤ). same_open p (pending_in row)) rows)
