-- `message::body_behind` meets its contract: each arm by what stands there. Assumes nothing.
use native.Mathlib.Omega.{arith}
use mathlib.Core.Path.{subst, sym}
use Rattle.message.specs.Inner.{IsBodyBehind}
use Rattle.message.proofs.Behind.{one_sign, hash_behind, nothing_behind_identifier, more_behind, status_hash}
use Rattle.message.proofs.body_behind.Goals as goal

pub returns-in-len1 : goal.returns-in-len1
returns-in-len1 c = subst (IsBodyBehind c.args.identifier c.args.rest.now) (sym c.signed.ensures) (one_sign c.args.identifier c.args.rest.now (omega arith))

pub returns-in-35 : goal.returns-in-35
returns-in-35 c =
    subst (IsBodyBehind c.args.identifier c.args.rest.now) (sym c.set_to.ensures)
    (hash_behind c.args.identifier c.args.rest.now (omega arith) (omega arith) c.if-identifier-ne63.true)

pub returns-in_default : goal.returns-in_default
returns-in_default c = nothing_behind_identifier c.args.identifier c.args.rest.now (omega arith)

pub returns-in_default-2 : goal.returns-in_default-2
returns-in_default-2 c = status_hash c.args.identifier c.args.rest.now (omega arith) (omega arith) c.if-identifier-ne63.false

pub returns-in_default-3 : goal.returns-in_default-3
returns-in_default-3 c = more_behind c.args.identifier c.args.rest.now (omega arith) (λ e. omega (arith, e))
