-- `message::parse` meets its contract: a letter, one or two digits of address, and what stands behind it. Assumes nothing.
use mathlib.Core.Path.{sym, ap, ◌∙◌}
use Rattle.std.proofs.Common.{ℕ, List, Bor}
use lib.ListN.{get_or}
use Rattle.message.specs.declared.Prefix.TheVariants.{Address}
use Rattle.message.proofs.Places.{leads}
use Rattle.message.proofs.Behind.{too_few, no_letter_before, no_digit_before, with_two, with_one}
use Rattle.message.proofs.parse.Goals.{then-not-is_letter-via-then-not-is_letter, then-not-is_letter-via-else-not-is_letter+then-not-is_digit, then-is_digit, else-is_digit}
use Rattle.message.proofs.parse.Goals as goal

pub returns-in_default : goal.returns-in_default
returns-in_default c = sym (too_few _ c.in_default.len_below)

pub returns-then-not-is_letter : goal.returns-then-not-is_letter
returns-then-not-is_letter c =
    let h = c.in-len3-up.len_at_least in
    elim c.then-not-is_letter.branch [
      | then-not-is_letter-via-then-not-is_letter w ↦ sym (no_letter_before _ h (sym w.if-not-is_letter.ensures))
      | then-not-is_letter-via-else-not-is_letter+then-not-is_digit w ↦ sym (no_digit_before _ h w.if-not-is_letter.ensures (sym w.if-not-is_digit.ensures))
    ]

pub returns : goal.returns
returns c =
    let h = c.in-len3-up.len_at_least in
    let l = get_or c.args.characters.now 0 0 in
    c.behind_address.ensures
    ∙ elim c.if-is_digit.branch [
      | then-is_digit w ↦ ap (λ (p : ℕ × Bor (List ℕ)). leads (Address l p.0) p.1.now) w.address-is
          ∙ with_two _ h c.if-not-is_letter.ensures c.if-not-is_digit.ensures w.if-is_digit.ensures
      | else-is_digit w ↦ ap (λ (p : ℕ × Bor (List ℕ)). leads (Address l p.0) p.1.now) w.address-is
          ∙ with_one _ h c.if-not-is_letter.ensures c.if-not-is_digit.ensures w.if-is_digit.ensures
    ]
