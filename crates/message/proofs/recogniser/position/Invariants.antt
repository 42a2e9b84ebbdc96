-- `message::recogniser::position` meets its contract. The loop's invariant: what is matched from here on, behind what was, is the position.
-- Assumes nothing.
use Rattle.message.proofs.Matched.{At}
use Rattle.message.proofs.recogniser.position.Given as goal

abbrev pub invariant-loop-at : goal.invariant-loop-at
invariant-loop-at l = At l.characters l.prefix l.at
