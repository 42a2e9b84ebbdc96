-- `hearing::zeros` meets its contract: `all` tests each character. Assumes nothing.
use mathlib.Core.Path.{sym, ◌∙◌}
use Prim.Native.Nat.{ℕ}
use lib.Dec.{eqb}
use Rattle.std.proofs.Common.{rules, tests}
use Rattle.std.proofs.lemmas.Iterator.{YieldsList-from_slice}
use Rattle.std.proofs.lemmas.Iterator.Search.{all_from_yields_List}
use Rattle.refusal.proofs.Lists.{every_all}
use Rattle.hearing.specs.Sound.{zeros}
use Rattle.hearing.proofs.zeros.Goals as goal

pub returns : goal.returns
unfolding zeros
returns c =
    all_from_yields_List (λ (x : ℕ). eqb x 0) _ _ c.all.result c.all.ensures.ran (YieldsList-from_slice c.args.chars.now cc) (λ x b q k. search (rules, tests))
    ∙ sym (every_all (λ (x : ℕ). eqb x 0) c.args.chars.now)
