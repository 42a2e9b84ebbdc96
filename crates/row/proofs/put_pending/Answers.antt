-- `row::put_pending` meets its contract: the count, and the characters behind it. Assumes nothing.
use Rattle.std.proofs.Common.{rules, tests, ◌≡◌, ℤ, pos, map, ap, sym, ◌∙◌}
use lib.ListN.{length, set, length-map}
use Rattle.refusal.specs.Buffer.{placed}
use Rattle.refusal.proofs.Buffers.{copied_placed}
use Rattle.number.proofs.Signed.{rd_ok}
use Rattle.row.proofs.Arrays.{mapped}
use Rattle.row.proofs.Laws.{pending_placed}
use Rattle.row.proofs.put_pending.Goals as goal

pub returns : goal.returns
returns c =
    let p = c.args.pending in
    let row = c.args.row.now in
    let chars = map pos p.chars in
    let long : length p.chars ≡ 10 = search rules in
    let ten : length chars ≡ 10 = length-map p.chars pos ∙ long in
    let e : c.map.result ≡ chars = mapped _ pos p.chars _ _ 10 c.map.ensures.items (λ x b q k. search (rules, tests)) 0 long in
    let count = rd_ok c.open_count.result c.open_count.type_inv ∙ c.open_count.ensures in
    copied_placed chars 3 10 _ _ (c.copy_from_slice.ensures.after ∙ e) (sym ten)
    ∙ ap (λ (z : ℤ). placed chars 3 (set row 2 z)) count
    ∙ pending_placed p row c.requires
