-- `hearing::next_closed` meets its contract: the characters open where the words reach are read. Assumes nothing.
use Rattle.hearing.proofs.Loops.{gives_none, gives_one}
use Rattle.hearing.proofs.passes.next_closed.Goals as goal

pub returns-then-words-at : goal.returns-then-words-at
returns-then-words-at c = gives_none c.args.words.now c.args.from _ _ _ c.new-pending.ensures c.to_close-at.ensures c.if-words-at.true

pub returns : goal.returns
returns c = gives_one c.args.words.now c.args.from _ _ _ c.new-pending.ensures c.to_close-at.ensures _ c.if-words-at.false c.close.ensures
