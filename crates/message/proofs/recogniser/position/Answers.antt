-- `message::recogniser::position` meets its contract: the first state that is wrong is behind the character at the position. Assumes nothing.
use mathlib.Core.Path.{sym, ◌∙◌}
use native.Mathlib.Omega.{arith}
use Rattle.message.proofs.Matched.{position_starts, position_here}
use Rattle.message.proofs.recogniser.position.Goals as goal

pub loop-at-init : goal.loop-at-init
loop-at-init c = position_starts c.args.characters.now

pub returns-then-is_wrong : goal.returns-then-is_wrong
returns-then-is_wrong c =
    position_here _ _ _ _ c.loop-at.invariant (omega arith) c.extend-prefix.ensures (sym c.is_wrong.ensures ∙ c.if-is_wrong.true)
