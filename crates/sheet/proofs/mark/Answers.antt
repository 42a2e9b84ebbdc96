-- `sheet::mark` meets its contract. Assumes nothing.
use mathlib.Core.Path.{refl}
use native.Mathlib.Omega.{arith}
use borrow.Author.Rules.{rules}
use Rattle.number.proofs.Signed.{rd-is}
use Rattle.sheet.proofs.Marks.{marks, marks_more, marked_all}
use Rattle.sheet.proofs.mark.Goals as goal

pub loop-k-init : goal.loop-k-init
loop-k-init c = marks _ _ _ _ c.as_chunks.ensures.front refl

pub loop-k-preserved : goal.loop-k-preserved
loop-k-preserved c =
    marks_more _ _ _ _ _ _ _ _ c.as_chunks.ensures.front (omega arith) (rd-is (record { sfits = search rules })) c.mark_row.ensures (omega arith) c.loop-k.invariant

pub returns : goal.returns
returns c = marked_all _ _ _ _ _ (omega arith) c.loop-k.invariant
