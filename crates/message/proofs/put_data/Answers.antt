-- `message::put_data` meets its contract: with room for five, five characters put are five bytes set at once; without, they are put one
-- after the other. Assumes nothing.
use Rattle.std.proofs.Common.{rules, ◌≡◌, length, ap, ◌∙◌}
use Rattle.wire.specs.Inner.{puts}
use Rattle.number.proofs.Digits.{numeral_length}
use Rattle.message.proofs.Places.{five_are}
use Rattle.message.proofs.Spelling.{five_sent, put_at_once}
use Rattle.message.proofs.put_data.Goals as goal

pub returns : goal.returns
returns c =
    let ds = c.write_numeral.result in
    let e = c.write_numeral.ensures in
    let five : length ds ≡ 5 = ap length e ∙ numeral_length c.args.x in
    let sent = five_sent ds five c.with_parity.ensures c.with_parity-2.ensures c.with_parity-3.ensures c.with_parity-4.ensures c.with_parity-5.ensures in
    put_at_once c.args.line ds _ five (c.copy_from_slice.ensures.after ∙ sent) c.if-len-gt6.false (search rules) ∙ ap (puts c.args.line) e
