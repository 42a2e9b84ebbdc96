-- `card::answer` meets its contract: there is room for any reply, so what is said is said, and what is stored is stored. Assumes nothing.
use mathlib.Core.Path.{◌≡◌, sym, ap₂, ◌∙◌}
use borrow.Author.Rules.{rules}
use mathlib.Core.Bool.{true}
use Rattle.sheet.specs.Sheet.{sound_sheet}
use Rattle.act.specs.declared.Effect.{Effect}
use Rattle.act.specs.Cause.{Why}
use Rattle.card.specs.Turn.{turned}
use Rattle.card.specs.Calls.{answered}
use Rattle.card.proofs.Turns.{effects, scan_leads, row_leads}
use Rattle.card.proofs.Causes.{by_index}
use Rattle.card.proofs.Settled.{word_answered}
use Rattle.card.proofs.answering.answer.Goals as goal
use Rattle.card.proofs.answering.answer.Goals.{then-is_scan, else-is_scan}

pub returns : goal.returns
returns c =
    let a = c.args in
    let t = a.tested.now in
    let bench = t.sheets.bench.now in
    let maker = t.sheets.maker.now in
    let b : sound_sheet bench ≡ true = search rules in
    let k : sound_sheet maker ≡ true = search rules in
    let x = c.places-places.ensures in
    let effect : c.if-is_scan.effect ≡ effects bench maker a.card a.values.now a.message
    = elim c.if-is_scan.branch [
      | then-is_scan w ↦ w.effect-is ∙ w.scan_effect-effect.ensures ∙ scan_leads bench maker a.card.setup a.card.offer a.values.now _ b k x a.message (sym c.is_scan.ensures ∙ w.if-is_scan.true)
      | else-is_scan w ↦ w.effect-is ∙ w.effect_of-effect.ensures ∙ row_leads bench maker a.card.setup a.card.offer a.values.now _ b k x a.message (sym c.is_scan.ensures ∙ w.if-is_scan.false)
    ] in
    word_answered a.card c.if-is_scan.effect a.values.now a.out.now c.requires _ c.settle-settled.ensures c.hold.result c.settle-settled.result c.map.result c.cause_by-cause.result c.hold.ensures (search rules) (λ n h. search rules)
    ∙ ap₂ (λ (e : Effect) (y : Why). answered (turned a.card a.card.pending e) y a.values.now a.out.now) effect
    (c.cause_by-cause.ensures ∙ by_index bench maker a.card.setup a.card.offer a.values.now _ a.message _ b k x)
