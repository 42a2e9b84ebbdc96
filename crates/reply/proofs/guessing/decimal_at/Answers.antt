-- `reply::decimal_at` meets its contract: fewer than five characters are no number. Assumes nothing.
use borrow.Author.Rules.{rules}
use mathlib.Core.Path.{sym, ap, ◌∙◌}
use native.Mathlib.Omega.{arith}
use Rattle.std.proofs.lemmas.List.{take_rest}
use Rattle.reply.specs.Read.{characters_of, read_or_zero}
use Rattle.reply.proofs.Reader.{characters_long, number_short, number_here}
use Rattle.reply.proofs.guessing.decimal_at.Goals.{in_default-via-in-Some+then-get-lt5, in_default-via-in_default}
use Rattle.reply.proofs.guessing.decimal_at.Goals as goal

pub returns-in_default : goal.returns-in_default
returns-in_default c =
    let a = c.args in
    (λ j. record { number = c.default.ensures.0 j; decimals = c.default.ensures.1 j })
    ∙ sym (number_short (characters_of a.bytes.now) a.k (elim c.in_default.branch [
      | in_default-via-in-Some+then-get-lt5 w ↦ grind (arith, rules, characters_long a.bytes.now)
      | in_default-via-in_default w ↦ grind (arith, rules, characters_long a.bytes.now)
    ]))

pub returns : goal.returns
returns c =
    let a = c.args in
    let r = c.in-Some-len5-up in
    c.read_or_zero.ensures ∙ ap read_or_zero c.read_data.ensures ∙ number_here a.bytes.now r.field-0.now a.k (r.ensures.lookup.0.2 ∙ take_rest a.bytes.now a.k) r.len_at_least
