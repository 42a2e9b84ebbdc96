-- `listing::Text::put_line` meets its contract: there is room for each part. Assumes nothing.
use Rattle.std.proofs.Common.{ap, length, arith}
use Rattle.listing.proofs.Texts.{kind_few, address_few, put_few}
use Rattle.listing.proofs.Text.put_line.Goals as goal

pub put_all-requires : goal.put_all-requires
put_all-requires c = omega (arith, put_few 7 _ _ _ c.put_body.ensures (kind_few _), ap length c.put.ensures, ap length c.requires)

pub put_address-requires : goal.put_address-requires
put_address-requires c =
    omega (arith, ap length c.put_all.ensures, put_few 7 _ _ _ c.put_body.ensures (kind_few _), ap length c.put.ensures, ap length c.requires)

pub put_all-requires-2 : goal.put_all-requires-2
put_all-requires-2 c =
    omega (arith, put_few 2 _ _ _ c.put_address.ensures (address_few _), ap length c.put_all.ensures, put_few 7 _ _ _ c.put_body.ensures (kind_few _), ap length c.put.ensures, ap length c.requires)

pub put_decimal-requires : goal.put_decimal-requires
put_decimal-requires c =
    omega (arith, ap length c.put_all-2.ensures, put_few 2 _ _ _ c.put_address.ensures (address_few _), ap length c.put_all.ensures, put_few 7 _ _ _ c.put_body.ensures (kind_few _), ap length c.put.ensures, ap length c.requires)
