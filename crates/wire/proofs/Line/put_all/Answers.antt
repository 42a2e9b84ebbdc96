-- `wire::Line::put_all` meets its contract: the characters are put one after the other. Assumes nothing.
use Rattle.std.proofs.Common.{rules}
use Rattle.std.proofs.lemmas.Iterator.{YieldsList-from_slice}
use Rattle.std.proofs.lemmas.Iterator.Consumers.{fold_from_yields_List}
use Rattle.wire.specs.Inner.{put}
use Rattle.wire.proofs.Lines.{puts_fold}
use Rattle.wire.proofs.Line.put_all.Goals as goal

pub returns : goal.returns
returns c =
    puts_fold _ _ _
    (fold_from_yields_List _ put c.args.self _ c.fold.ensures.ran (YieldsList-from_slice c.args.characters.now cc) (λ l d r q k. search rules))
