-- `message::behind_address` meets its contract: each arm by what stands there. Assumes nothing.
use mathlib.Core.Path.{sym, ap, ◌∙◌}
use Rattle.message.specs.Inner.{with_body}
use Rattle.message.proofs.Places.{no_address}
use Rattle.message.proofs.Behind.{no_more_behind, no_identifier_behind, identifier_behind}
use Rattle.message.proofs.behind_address.Goals.{then-not-is_address-via-then-not-is_address, then-not-is_address-via-else-not-is_address+then-not-is_identifier}
use Rattle.message.proofs.behind_address.Goals as goal

pub returns-in_default : goal.returns-in_default
returns-in_default c = sym (no_more_behind _ _ _ c.in_default.len_below)

pub returns-then-not-is_address : goal.returns-then-not-is_address
returns-then-not-is_address c =
    elim c.then-not-is_address.branch [
      | then-not-is_address-via-then-not-is_address w ↦ sym (no_address _ _ c.args.rest.now (sym w.if-not-is_address.ensures))
      | then-not-is_address-via-else-not-is_address+then-not-is_identifier w ↦ sym (no_identifier_behind _ _ _ c.in-len1-up.len_at_least (sym w.if-not-is_identifier.ensures))
    ]

pub returns-in_err-body : goal.returns-in_err-body
returns-in_err-body c =
    let a = c.args in
    c.from_residual.ensures
    ∙ sym (c.body_behind.ensures a.letter a.address ∙ ap (with_body a.letter a.address _) c.in_err-body.was)
    ∙ identifier_behind _ _ _ c.in-len1-up.len_at_least c.if-not-is_address.ensures c.if-not-is_identifier.ensures

pub returns : goal.returns
returns c =
    let a = c.args in
    sym (c.body_behind.ensures a.letter a.address ∙ ap (with_body a.letter a.address _) c.in_ok-body.was)
    ∙ identifier_behind _ _ _ c.in-len1-up.len_at_least c.if-not-is_address.ensures c.if-not-is_identifier.ensures
