-- `bus::take_all` meets its contract: before the loop, in it and behind it, by what the loop carries (Invariants). Assumes nothing.
use mathlib.Core.Path.{◌≡◌, refl, sym, ap, ◌∙◌, subst}
use mathlib.Core.Bool.{true}
use mathlib.Core.List.{[]}
use Prim.Native.Nat.{◌+◌, ◌/◌}
use native.Mathlib.Omega.{arith}
use borrow.Author.Rules.{rules}
use lib.ListN.{length, get_or}
use Rattle.std.specs.Prelude.{None}
use Rattle.refusal.specs.Refusal.{gave, number_of, outcome_of}
use Rattle.refusal.proofs.Logic.{ands}
use Rattle.hearing.specs.declared.Pending.{Pending}
use Rattle.hearing.specs.Hearing.{none}
use Rattle.sheet.specs.Sheet.{sound_sheet}
use Rattle.card.specs.Turn.{effect_of}
use Rattle.card.proofs.Turns.{scan_leads, row_leads}
use Rattle.card.proofs.Taking.{Came, came_in}
use Rattle.bus.specs.Inner.{pending_in, cards_with}
use Rattle.bus.specs.Rows.{stored_back}
use Rattle.bus.proofs.Parts.{lent_part}
use Rattle.bus.proofs.Checks.{passed_sound, few, rows_count, values_count, first_row}
use Rattle.bus.proofs.Standing.{ended-nobody}
use Rattle.bus.proofs.Taking as taking
use Rattle.bus.proofs.Taking.{reads, no_setup}
use Rattle.bus.proofs.pair.take_all.Goals as goal
use Rattle.bus.proofs.pair.take_all.Goals.{then-is_scan, else-is_scan}

pub returns-then-count-eq0 : goal.returns-then-count-eq0
returns-then-count-eq0 c =
    let a = c.args in
    let numbers = a.numbers.now in
    let n : length numbers / 23 ≡ 0 = omega (arith, ap length c.rows_in-rows.ensures, rows_count numbers, c.if-count-eq0.true) in
    let ok = passed_sound numbers a.sheets.now.bench.now a.sheets.now.maker.now a.values.now a.words.now c.requires in
    let v = values_count a.sheets.now.bench.now a.sheets.now.maker.now a.values.now (length numbers / 23) ok.values_sound in
    ended-nobody numbers a.sheets.now.bench.now a.sheets.now.maker.now a.values.now a.words.now a.out.now n (omega (arith, n, v))

pub held_in-requires : goal.held_in-requires
held_in-requires c =
    let a = c.args in
    let ok = passed_sound a.numbers.now a.sheets.now.bench.now a.sheets.now.maker.now a.values.now a.words.now c.requires in
    omega (arith, ap length c.rows_in-rows.ensures, rows_count a.numbers.now, few a.numbers.now ok.bus)

pub table_of-table-requires : goal.table_of-table-requires
table_of-table-requires c = let a = c.args in taking.setups-pass (reads a.numbers.now a.sheets.now.bench.now a.sheets.now.maker.now a.values.now a.words.now c.rows_in-rows.result.now c.held_in.result.0 c.held_in.result.1 c.requires c.rows_in-rows.ensures c.if-count-eq0.false c.held_in.ensures.setups c.held_in.ensures.offers)

pub loop-taken-init : goal.loop-taken-init
loop-taken-init c =
    let a = c.args in
    let n = a.numbers.now in
    let p = c.open_in-pending in
    let rows = c.rows_in-rows in
    let t = c.to_close-taken in (
      taking.begins-so (reads a.numbers.now a.sheets.now.bench.now a.sheets.now.maker.now a.values.now a.words.now c.rows_in-rows.result.now c.held_in.result.0 c.held_in.result.1 c.requires c.rows_in-rows.ensures c.if-count-eq0.false c.held_in.ensures.setups c.held_in.ensures.offers)
          c.table_of-table.ensures (search rules) p.result (p.ensures ∙ ap pending_in (first_row n rows.result.now rows.ensures (omega (arith, c.if-count-eq0.false)) [])) t.new.self t.result t.ensures,
      refl,
    )

pub overflow_mul-start : goal.overflow_mul-start
overflow_mul-start c = omega (arith, taking.j-small c.loop-taken.invariant.0 c.loop-taken-test.true c.close-message.ensures c.meant_by-k.ensures)

pub overflow_add-own : goal.overflow_add-own
overflow_add-own c = omega (arith, taking.j-small c.loop-taken.invariant.0 c.loop-taken-test.true c.close-message.ensures c.meant_by-k.ensures)

pub offset_bounds-values-start : goal.offset_bounds-values-start
offset_bounds-values-start c = omega (arith, taking.j-small c.loop-taken.invariant.0 c.loop-taken-test.true c.close-message.ensures c.meant_by-k.ensures)

pub slice_bounds-own-end : goal.slice_bounds-own-end
slice_bounds-own-end c = taking.part-in c.loop-taken.invariant.0 c.loop-taken-test.true c.close-message.ensures c.meant_by-k.ensures

pub bounds-setups-k : goal.bounds-setups-k
bounds-setups-k c = taking.j-small c.loop-taken.invariant.0 c.loop-taken-test.true c.close-message.ensures c.meant_by-k.ensures

pub bounds-offers-k : goal.bounds-offers-k
bounds-offers-k c = taking.j-small c.loop-taken.invariant.0 c.loop-taken-test.true c.close-message.ensures c.meant_by-k.ensures

pub bounds-setups-k-else-is_scan : goal.bounds-setups-k-else-is_scan
bounds-setups-k-else-is_scan c = taking.j-small c.loop-taken.invariant.0 c.loop-taken-test.true c.close-message.ensures c.meant_by-k.ensures

pub bounds-offers-k-else-is_scan : goal.bounds-offers-k-else-is_scan
bounds-offers-k-else-is_scan c = taking.j-small c.loop-taken.invariant.0 c.loop-taken-test.true c.close-message.ensures c.meant_by-k.ensures

pub bounds-offers-k-in-loop-taken : goal.bounds-offers-k-in-loop-taken
bounds-offers-k-in-loop-taken c = taking.j-small c.loop-taken.invariant.0 c.loop-taken-test.true c.close-message.ensures c.meant_by-k.ensures

pub overflow_add-at : goal.overflow_add-at
overflow_add-at c =
    let a = c.args in
    let b = a.sheets.now.bench.now in
    let k = a.sheets.now.maker.now in
    let l = c.loop-taken in
    let sheets = l.invariant.0.read.ok.sheets in
    let bs : sound_sheet b ≡ true = search ands in
    let ks : sound_sheet k ≡ true = search ands in
    let effect : c.if-is_scan.effect ≡ effect_of b k (get_or c.held_in.result.0 c.meant_by-k.result no_setup) (get_or l.offers c.meant_by-k.result None) (lent_part 128 c.meant_by-k.result l.values) c.close-message.result
    = elim c.if-is_scan.branch [
      | then-is_scan w ↦ w.effect-is ∙ w.scan_effect-effect.ensures ∙ scan_leads b k _ _ _ _ bs ks c.places-places.ensures _ (sym c.is_scan.ensures ∙ w.if-is_scan.true)
      | else-is_scan w ↦ w.effect-is ∙ w.effect_of-effect.ensures ∙ row_leads b k _ _ _ _ bs ks c.places-places.ensures _ (sym c.is_scan.ensures ∙ w.if-is_scan.false)
    ] in
    omega (arith, taking.fits c.loop-taken.invariant.0 c.loop-taken-test.true c.close-message.ensures c.meant_by-k.ensures effect c.settle.ensures (ap outcome_of c.in-Ok.is), l.invariant.0.carried.filling.long)

pub loop-taken-smaller : goal.loop-taken-smaller
loop-taken-smaller c =
    let a = c.args in
    let l = c.loop-taken in
    let u = c.to_close-taken-in-loop-taken in
    let came = subst (λ (q : Pending). Came q a.words.now (l.taken + 1) u.new.self u.result) c.new-pending.ensures u.ensures in
    let behind = came_in none a.words.now (l.taken + 1) u.new.self u.result came (omega (arith, c.loop-taken-test.true)) in
    omega (arith, c.loop-taken-test.true, behind.0)

pub loop-taken-preserved : goal.loop-taken-preserved
loop-taken-preserved c =
    let a = c.args in
    let b = a.sheets.now.bench.now in
    let k = a.sheets.now.maker.now in
    let l = c.loop-taken in
    let sheets = l.invariant.0.read.ok.sheets in
    let bs : sound_sheet b ≡ true = search ands in
    let ks : sound_sheet k ≡ true = search ands in
    let effect : c.if-is_scan.effect ≡ effect_of b k (get_or c.held_in.result.0 c.meant_by-k.result no_setup) (get_or l.offers c.meant_by-k.result None) (lent_part 128 c.meant_by-k.result l.values) c.close-message.result
    = elim c.if-is_scan.branch [
      | then-is_scan w ↦ w.effect-is ∙ w.scan_effect-effect.ensures ∙ scan_leads b k _ _ _ _ bs ks c.places-places.ensures _ (sym c.is_scan.ensures ∙ w.if-is_scan.true)
      | else-is_scan w ↦ w.effect-is ∙ w.effect_of-effect.ensures ∙ row_leads b k _ _ _ _ bs ks c.places-places.ensures _ (sym c.is_scan.ensures ∙ w.if-is_scan.false)
    ] in
    let u = c.to_close-taken-in-loop-taken in
    let came = subst (λ (q : Pending). Came q a.words.now (l.taken + 1) u.new.self u.result) c.new-pending.ensures u.ensures in
    (taking.goes_on c.loop-taken.invariant.0 c.loop-taken-test.true c.close-message.ensures c.meant_by-k.ensures effect c.settle.ensures (ap outcome_of c.in-Ok.is) u.new.self u.result came, c.loop-taken.invariant.1)

pub store_all-requires : goal.store_all-requires
store_all-requires c = let s = taking.storable c.loop-taken.invariant.0 in (s.0, omega (arith, s.1, ap length c.loop-taken.invariant.1))

pub store_all-requires-2 : goal.store_all-requires-2
store_all-requires-2 c = let s = taking.storable c.loop-taken.invariant.0 in (s.0, omega (arith, s.1, ap length c.loop-taken.invariant.1))

-- the reply doesn't fit
pub returns-in_default : goal.returns-in_default
returns-in_default c =
    let a = c.args in
    let b = a.sheets.now.bench.now in
    let k = a.sheets.now.maker.now in
    let l = c.loop-taken in
    let sheets = l.invariant.0.read.ok.sheets in
    let bs : sound_sheet b ≡ true = search ands in
    let ks : sound_sheet k ≡ true = search ands in
    let effect : c.if-is_scan.effect ≡ effect_of b k (get_or c.held_in.result.0 c.meant_by-k.result no_setup) (get_or l.offers c.meant_by-k.result None) (lent_part 128 c.meant_by-k.result l.values) c.close-message.result
    = elim c.if-is_scan.branch [
      | then-is_scan w ↦ w.effect-is ∙ w.scan_effect-effect.ensures ∙ scan_leads b k _ _ _ _ bs ks c.places-places.ensures _ (sym c.is_scan.ensures ∙ w.if-is_scan.true)
      | else-is_scan w ↦ w.effect-is ∙ w.effect_of-effect.ensures ∙ row_leads b k _ _ _ _ bs ks c.places-places.ensures _ (sym c.is_scan.ensures ∙ w.if-is_scan.false)
    ] in
    let n = number_of c.in_default.field-0 in
    let o = ap outcome_of c.in_default.is in
    let u = taking.undone l.invariant.0 c.loop-taken-test.true c.close-message.ensures c.meant_by-k.ensures effect c.settle.ensures n o in
    let v = taking.unchanged l.invariant.0 c.loop-taken-test.true c.close-message.ensures c.meant_by-k.ensures effect c.settle.ensures n o in
    (λ i. record { numbers = c.store_all.new.numbers; outcome = gave (record { words = l.taken; bytes = l.at }); values = v i; buffer = u.unsaid.leaves i })
    ∙ taking.stops l.invariant.0 (taking.short l.invariant.0 c.loop-taken-test.true c.close-message.ensures c.meant_by-k.ensures effect c.settle.ensures n o) c.store_all.new.numbers (c.store_all.ensures ∙ ap (stored_back (cards_with l.pending _ _)) l.invariant.1)

-- all words are taken
pub returns : goal.returns
returns c =
    let l = c.loop-taken in
    (λ i. record { numbers = c.store_all-2.new.numbers; outcome = gave (record { words = l.taken; bytes = l.at }); values = l.values; buffer = l.out })
    ∙ taking.stops l.invariant.0 (taking.no_word l.invariant.0 c.loop-taken-test.false) c.store_all-2.new.numbers (c.store_all-2.ensures ∙ ap (stored_back (cards_with l.pending _ _)) l.invariant.1)
