-- `hearing::plain` meets its contract: `all` tests each character. Assumes nothing.
use mathlib.Core.Path.{sym, ◌∙◌}
use Rattle.std.proofs.Common.{rules, tests}
use Rattle.std.proofs.lemmas.Iterator.{YieldsList-from_slice}
use Rattle.std.proofs.lemmas.Iterator.Search.{all_from_yields_List}
use Rattle.refusal.proofs.Lists.{every_all}
use Rattle.hearing.specs.Sound.{plain_char, plain}
use Rattle.hearing.proofs.plain.Goals as goal

pub returns : goal.returns
unfolding plain plain_char
returns c =
    all_from_yields_List plain_char _ _ c.all.result c.all.ensures.ran (YieldsList-from_slice c.args.chars.now cc) (λ x b q k. search (rules, tests))
    ∙ sym (every_all plain_char c.args.chars.now)
