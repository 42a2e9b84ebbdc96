-- `bus::differs` meets its contract: each is compared. Assumes nothing.
use Rattle.std.proofs.Common.{rules, tests, sym, ◌∙◌, not}
use Rattle.std.proofs.lemmas.Iterator.{YieldsList-from_slice}
use Rattle.std.proofs.lemmas.Iterator.Search.{all_from_yields_List}
use Rattle.refusal.proofs.Lists.{every_all}
use Rattle.act.specs.declared.Setup.{Setup}
use Rattle.bus.specs.Refusals.{alike}
use Rattle.bus.proofs.pair.differs.Goals as goal

pub returns : goal.returns
returns c =
    let s = c.args.setup.now in
    let others = c.args.others.now in
    all_from_yields_List (λ (t : Setup). not (alike s t)) _ _ c.all.result c.all.ensures.ran (YieldsList-from_slice others cc) (λ x b q k. search (rules, tests)) ∙ sym (every_all (λ (t : Setup). not (alike s t)) others)
