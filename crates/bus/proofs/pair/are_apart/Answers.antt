-- `bus::are_apart` meets its contract: each is held against those behind it. Assumes nothing.
use mathlib.Core.Path.{sym, ap, ◌∙◌}
use Rattle.bus.specs.Refusals.{apart}
use Rattle.bus.proofs.Apart.{apart_fails, apart_more, apart_none}
use Rattle.bus.proofs.pair.are_apart.Goals as goal

pub returns-then-not-differs : goal.returns-then-not-differs
returns-then-not-differs c =
    sym (c.loop-setup.invariant ∙ ap apart c.in-Some.ensures.cases.0 ∙ apart_fails c.in-Some.setup.now c.in-Some.others.now (sym c.differs.ensures ∙ c.if-not-differs.true))

pub loop-setup-preserved : goal.loop-setup-preserved
loop-setup-preserved c =
    c.loop-setup.invariant ∙ ap apart c.in-Some.ensures.cases.0 ∙ apart_more c.in-Some.setup.now c.in-Some.others.now (sym c.differs.ensures ∙ c.if-not-differs.false)

pub returns : goal.returns
returns c =
    sym (c.loop-setup.invariant ∙ apart_none c.loop-setup.left.now c.in_default.ensures.cases)
