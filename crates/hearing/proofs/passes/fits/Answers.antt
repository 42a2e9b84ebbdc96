-- `hearing::fits` meets its contract: a normal form is never longer than its recording. Assumes nothing.
use mathlib.Core.Path.{sym, ◌∙◌}
use native.Mathlib.Omega.{arith}
use borrow.Author.Tests.{le-leb}
use lib.ListN.{length}
use Rattle.hearing.specs.Normal.{normal}
use Rattle.hearing.proofs.Shortest.{normal_short}
use Rattle.hearing.proofs.passes.fits.Goals as goal

pub returns-then-words-room : goal.returns-then-words-room
returns-then-words-room c =
    let a = c.args in
    le-leb (length a.words.now) a.room c.if-words-room.true ∙ sym (le-leb (length (normal a.words.now)) a.room (omega (arith, normal_short a.words.now, c.if-words-room.true)))
