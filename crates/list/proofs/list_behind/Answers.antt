-- `list::list_behind` meets its contract by the bounds of a call of `listing::list`. Assumes nothing.
use Rattle.listing.proofs.Bounds.{words_within, lines_within}
use Rattle.list.proofs.Rooms.{in_changed}
use Rattle.list.proofs.list_behind.Goals as goal

pub returns : goal.returns
returns c =
    let a = c.args in
    let r = c.list.result in (
      words_within _ _ _ r _ c.list.ensures,
      in_changed a.used r.written a.out.now c.requires (lines_within _ _ _ r _ c.list.ensures) c.list.new.out c.list.auto.out,
    )
