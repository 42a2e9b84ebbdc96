-- `bus::store_all` meets its contract: one card after the other. Assumes nothing.
use Rattle.std.proofs.Common.{◌≡◌, sym, ap, ◌∙◌, [], List, length, arith}
use Rattle.std.specs.Prelude.{None}
use Rattle.act.specs.declared.Setup.{Setup}
use Rattle.card.specs.declared.Card.{Card}
use Rattle.row.specs.Row.{stored_in}
use Rattle.bus.specs.Inner.{cards_with}
use Rattle.bus.proofs.Parts.{lent_part}
use Rattle.bus.proofs.Standing.{cards_count, cards_at, stored_starts, stored_more, stored_ends}
use Rattle.bus.proofs.pair.store_all.Goals as goal

pub loop-i-init : goal.loop-i-init
loop-i-init c = stored_starts (cards_with c.args.pending c.args.setups.now c.args.offers.now) c.args.numbers.now

pub loop-i-preserved : goal.loop-i-preserved
loop-i-preserved c =
    let a = c.args in
    let i = c.loop-i.i in
    let cards : List Card = cards_with a.pending a.setups.now a.offers.now in
    let count : length cards ≡ length a.setups.now = cards_count a.pending a.setups.now a.offers.now c.requires.0 in
    let s : Setup = record { letter = 0; address = 0; count = 0; scan = []; revision = 0 } in
    let d : Card = record { setup = s; pending = a.pending; offer = None } in
    let held = cards_at a.pending a.setups.now a.offers.now i s None d c.loop-i-test.true c.requires.0 in
    let e = c.store.ensures in
    stored_more cards a.numbers.now c.loop-i.numbers i d c.store.new.row c.loop-i.invariant (omega (arith, c.loop-i-test.true, count)) (omega (arith, count, c.requires.1))
    (e ∙ ap (λ (x : Card). stored_in x (lent_part 23 i c.loop-i.numbers)) (sym held))

pub returns : goal.returns
returns c =
    let a = c.args in
    let cards : List Card = cards_with a.pending a.setups.now a.offers.now in
    let count : length cards ≡ length a.setups.now = cards_count a.pending a.setups.now a.offers.now c.requires.0 in
    stored_ends cards a.numbers.now c.loop-i.numbers c.loop-i.i c.loop-i.invariant (omega (arith, count, c.loop-i-test.false))
