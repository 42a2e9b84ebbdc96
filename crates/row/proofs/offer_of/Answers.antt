-- `row::offer_of` meets its contract: each return by the tests that led there. Assumes nothing.
use mathlib.Core.Path.{ap₂, ◌∙◌}
use Rattle.std.proofs.Common.{rules}
use Rattle.number.proofs.Signed.{rd-is}
use Rattle.act.specs.Act.{held}
use Rattle.row.proofs.Bytes.{byte_in, byte_out}
use Rattle.row.proofs.Offers.{offer_none, offer_marked, offer_unmarked, offer_no_byte}
use Rattle.row.proofs.offer_of.Goals as goal

pub returns-then-value-eq0 : goal.returns-then-value-eq0
returns-then-value-eq0 c = offer_none c.args.mark c.args.identifier c.args.value c.ranges.mark c.ranges.identifier c.ranges.value (search rules) (search rules) (search rules)

pub returns-in-Ok : goal.returns-in-Ok
returns-in-Ok c =
    let e = rw (rd-is c.ranges.identifier) at c.in-Ok.ensures in
    ap₂ held e.1 (rd-is c.ranges.value)
    ∙ offer_marked c.args.mark c.args.identifier c.args.value c.ranges.mark (search rules) (search rules) (byte_in c.args.identifier e.0)

pub returns-in_default : goal.returns-in_default
returns-in_default c = offer_unmarked c.args.mark c.args.identifier c.args.value (search rules) (search rules)

pub returns-in_default-2 : goal.returns-in_default-2
returns-in_default-2 c =
    offer_no_byte c.args.mark c.args.identifier c.args.value (search rules) (byte_out c.args.identifier (rw (rd-is c.ranges.identifier) at c.in_default.ensures))
