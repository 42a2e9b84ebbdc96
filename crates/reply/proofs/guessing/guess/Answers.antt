-- `reply::guess` meets its contract: the test is the definition's. Assumes nothing.
use mathlib.Core.Path.{sym, ap, ap₂, ◌∙◌}
use Prim.Native.Nat.{ℕ, ◌+◌, ◌*◌, ◌%◌}
use lib.ListN.{get_or, drop}
use Rattle.number.specs.Data.{is_digit, digit_of}
use Rattle.reply.specs.Read.{characters_of, guess_behind}
use Rattle.reply.proofs.Reader.{guess_one, guess_two}
use Rattle.reply.proofs.guessing.guess.Goals as goal

pub returns-then-is_digit : goal.returns-then-is_digit
returns-then-is_digit c =
    let t = c.before.before in
    let s = t.before in
    let f = s.before.before.before in
    let cs = characters_of f.before.before.args.bytes.now in
    let second = s.before.character_at-second.ensures in
    let tens = s.before.before.digit_of-tens.ensures ∙ ap digit_of f.character_at.ensures in
    let ones = c.before.digit_of.ensures ∙ ap digit_of second in
    c.guess_behind.ensures
    ∙ ap₂ (λ (x y : ℕ). guess_behind (get_or cs 0 0) ((x * 10 + y) % 100) (drop 3 cs)) tens ones
    ∙ sym (guess_two cs (ap is_digit (sym second) ∙ sym s.is_digit.ensures ∙ t.if-is_digit.true))

pub returns-else-is_digit : goal.returns-else-is_digit
returns-else-is_digit c =
    let t = c.before in
    let s = t.before in
    let f = s.before.before.before in
    let cs = characters_of f.before.before.args.bytes.now in
    let second = s.before.character_at-second.ensures in
    let tens = s.before.before.digit_of-tens.ensures ∙ ap digit_of f.character_at.ensures in
    c.guess_behind-else-is_digit.ensures
    ∙ ap (λ (x : ℕ). guess_behind (get_or cs 0 0) x (drop 2 cs)) tens
    ∙ sym (guess_one cs (ap is_digit (sym second) ∙ sym s.is_digit.ensures ∙ t.if-is_digit.false))
