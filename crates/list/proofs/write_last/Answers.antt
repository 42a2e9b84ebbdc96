-- `list::write_last` is safe: what `listing::last` gives lies in the part that it was lent. Assumes nothing.
use mathlib.Core.Path.{sym}
use native.Mathlib.Omega.{arith}
use lib.Seq.{length-take-le}
use Rattle.refusal.proofs.Placing.{wrote_within}
use Rattle.list.proofs.Rooms.{in_part, in_changed}
use Rattle.list.proofs.write_last.Goals as goal

pub overflow_add-used : goal.overflow_add-used
overflow_add-used g c =
    let f = wrote_within _ _ c.last.result c.in-Ok.n c.last.ensures c.in-Ok.is in
    omega (arith, in_part c.args.used c.in-Ok.n c.args.out.now c.requires f)

pub slice_bounds-flush-end : goal.slice_bounds-flush-end
slice_bounds-flush-end g c =
    let f = wrote_within _ _ c.last.result c.in-Ok.n c.last.ensures c.in-Ok.is in
    in_changed c.args.used c.in-Ok.n c.args.out.now c.requires f c.last.new.out c.last.auto.out

pub slice_bounds-flush-end-in-Ok : goal.slice_bounds-flush-end-in-Ok
slice_bounds-flush-end-in-Ok g c =
    let f = wrote_within _ _ c.last.result c.in-Ok.n c.last.ensures c.in-Ok.is in
    sym (length-take-le _ _ (in_changed c.args.used c.in-Ok.n c.args.out.now c.requires f c.last.new.out c.last.auto.out))
