-- `wire::valid_words` meets its contract: each word's test is joined to those before it. Assumes nothing.
use Rattle.std.proofs.Common.{◌&&◌, true, Bool, ℕ, leb, rules, tests}
use Rattle.std.proofs.lemmas.Iterator.{YieldsList-from_slice}
use Rattle.std.proofs.lemmas.Iterator.Consumers.{fold_from_yields_List}
use Rattle.wire.proofs.Words.{valid_fold}
use Rattle.wire.proofs.valid_words.Goals as goal

pub returns : goal.returns
returns c =
    valid_fold _ _
    (fold_from_yields_List _ (λ (b : Bool) (w : ℕ). b && leb w 256) true _ c.fold.ensures.ran (YieldsList-from_slice c.args.words.now cc) (λ b w r q k. search (rules, tests)))
