-- `listing::Text::numbered` meets its contract: there is room for the word. Assumes nothing.
use Rattle.std.proofs.Common.{ap, length, arith}
use Rattle.listing.proofs.Decimals.{wide_length}
use Rattle.listing.proofs.Texts.{put_few}
use Rattle.listing.proofs.Text.numbered.Goals as goal

pub put_all-requires : goal.put_all-requires
put_all-requires c = omega (arith, put_few 20 _ _ _ c.put_decimal.ensures (wide_length c.args.n (omega arith)), ap length c.put.ensures, ap length c.new-text.ensures)
