-- `hearing::normal_form` meets its contract: number 4 by the words, number 5 by the room, and otherwise what was filled in.
-- Assumes nothing.
use mathlib.Core.Path.{sym, ap₂, ◌∙◌}
use mathlib.Core.List.{List}
use Prim.Native.Nat.{ℕ}
use lib.ListN.{length}
use borrow.Author.Tests.{leb-true, leb-false}
use Rattle.refusal.specs.Refusal.{gave}
use Rattle.hearing.specs.Normal.{normal}
use Rattle.hearing.proofs.Normal.{normal_refused, normal_unfit, normal_served}
use Rattle.hearing.proofs.normal_form.Goals as goal

pub returns-then-not-valid_words : goal.returns-then-not-valid_words
returns-then-not-valid_words c = sym (normal_refused c.args.words.now c.args.out.now (sym c.valid_words.ensures ∙ c.if-not-valid_words.true))

pub returns-then-not-fits : goal.returns-then-not-fits
returns-then-not-fits c =
    let a = c.args in
    let long = leb-false (length (normal a.words.now)) (length a.out.now) (sym c.fits.ensures ∙ c.if-not-fits.true) in
    sym (normal_unfit a.words.now a.out.now (sym c.valid_words.ensures ∙ c.if-not-valid_words.false) long)

pub fill-requires : goal.fill-requires
fill-requires c = leb-true (length (normal c.args.words.now)) (length c.args.out.now) (sym c.fits.ensures ∙ c.if-not-fits.false)

pub returns : goal.returns
returns c =
    let a = c.args in
    let room = leb-true (length (normal a.words.now)) (length a.out.now) (sym c.fits.ensures ∙ c.if-not-fits.false) in
    ap₂ (λ (n : ℕ) (out : List ℕ). record { outcome = gave n; buffer = out }) c.fill.ensures.0 c.fill.ensures.1
    ∙ sym (normal_served a.words.now a.out.now (sym c.valid_words.ensures ∙ c.if-not-valid_words.false) room)
