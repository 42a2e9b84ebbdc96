-- `card::take` meets its contract: the arm says what the word does. Assumes nothing.
use mathlib.Core.Path.{◌≡◌, sym, ap, ap₂, ◌∙◌}
use mathlib.Core.List.{List, [], ◌∷◌}
use Prim.Native.Nat.{ℕ, ◌≤◌}
use native.Mathlib.Omega.{arith}
use lib.IntN.{ℤ}
use lib.ListN.{length}
use Rattle.refusal.specs.Refusal.{Outcome}
use Rattle.refusal.specs.Check.{first, decided}
use Rattle.hearing.specs.Hearing.{open_of}
use Rattle.reply.specs.Reply.{longest_reply}
use Rattle.act.specs.declared.causes.Cause.TheVariants.{NoMessageClosed}
use Rattle.act.specs.Cause.{Why, why_of}
use Rattle.card.specs.declared.Card.{Card}
use Rattle.card.specs.declared.Stepped.{Stepped}
use Rattle.card.specs.Turn.{Turn, effect_of, turned, turn}
use Rattle.card.specs.Refusals.{room_check}
use Rattle.card.specs.Cause.{why_closed, why_to}
use Rattle.card.specs.Calls.{After, kept, WordAnswer, step_after, answered}
use Rattle.card.proofs.Turns.{stays, turn_ignore, turn_open, turn_add, turn_close, turn_drop}
use Rattle.card.proofs.Causes.{why_ignore, why_open, why_add, why_close, why_drop}
use Rattle.card.proofs.Steps.{room_enough, quiet_answered}
use Rattle.card.proofs.take.Goals as goal
use Rattle.std.specs.Prelude.{Ok, Option, Some}
use Rattle.message.specs.declared.Message.{Message}

-- what the call comes to, short of room and with it
module _ (bench maker : List ℤ) (card : Card) (v : List ℤ) (word : ℕ) (out : List ℕ) where
  abbrev its : Turn
  its = turn bench maker card v word

  abbrev why : Why
  why = why_to bench maker card v word

  abbrev comes : Outcome (Unit {0}) → After WordAnswer
  comes o = decided o (kept card v out) (answered its why v out)

  served : longest_reply ≤ length out → (t : Turn) (y : Why) → its ≡ t → why ≡ y → answered t y v out ≡ comes (first (room_check out ∷ []))
  served h t y e q = ap₂ (λ (x : Turn) (z : Why). answered x z v out) (sym e) (sym q) ∙ ap comes (sym (room_enough out h))

  -- a word that closes no message
  silent : longest_reply ≤ length out → (c : Card) (r : Stepped) → r ≡ record { card = c; answer = Ok (record { bytes = 0; cause = Some NoMessageClosed }) } → its ≡ stays c → why ≡ why_of (Some NoMessageClosed) → step_after r v out ≡ comes (first (room_check out ∷ []))
  silent h c r e t q =
      ap (λ (x : Stepped). step_after x v out) e ∙ quiet_answered c (why_of (Some NoMessageClosed)) v out ∙ served h (stays c) (why_of (Some NoMessageClosed)) t q

pub returns-in-Ignore : goal.returns-in-Ignore
returns-in-Ignore c =
    let a = c.args in
    let did = sym c.action.ensures ∙ c.in-Ignore.is in
    silent a.tested.now.sheets.bench.now a.tested.now.sheets.maker.now a.card a.values.now a.word a.out.now (omega arith) a.card _ c.quiet.ensures
    (turn_ignore a.tested.now.sheets.bench.now a.tested.now.sheets.maker.now a.card a.values.now a.word did)
    (why_ignore a.tested.now.sheets.bench.now a.tested.now.sheets.maker.now a.card a.values.now a.word did)

pub returns-in-Open : goal.returns-in-Open
returns-in-Open c =
    let a = c.args in
    let did = sym c.action.ensures ∙ c.in-Open.is in
    silent a.tested.now.sheets.bench.now a.tested.now.sheets.maker.now a.card a.values.now a.word a.out.now (omega arith) _ _ c.quiet-in-Open.ensures
    (turn_open a.tested.now.sheets.bench.now a.tested.now.sheets.maker.now a.card a.values.now a.word _ did ∙ ap stays (sym c.«open».ensures))
    (why_open a.tested.now.sheets.bench.now a.tested.now.sheets.maker.now a.card a.values.now a.word _ did)

pub returns-in-Add : goal.returns-in-Add
returns-in-Add c =
    let a = c.args in
    let did = sym c.action.ensures ∙ c.in-Add.is in
    silent a.tested.now.sheets.bench.now a.tested.now.sheets.maker.now a.card a.values.now a.word a.out.now (omega arith) _ _ c.quiet-in-Add.ensures
    (turn_add a.tested.now.sheets.bench.now a.tested.now.sheets.maker.now a.card a.values.now a.word _ did ∙ ap stays (sym c.add.ensures))
    (why_add a.tested.now.sheets.bench.now a.tested.now.sheets.maker.now a.card a.values.now a.word _ did)

pub returns-in-Close : goal.returns-in-Close
unfolding turned
returns-in-Close c =
    let a = c.args in
    let x = effect_of a.tested.now.sheets.bench.now a.tested.now.sheets.maker.now in
    let y = why_closed a.tested.now.sheets.bench.now a.tested.now.sheets.maker.now in
    let did = sym c.action.ensures ∙ c.in-Close.is in
    c.answer.ensures
    ∙ ap₂ (λ (h : Card) (q : Option Message). answered (turned h h.pending (x h.setup h.offer a.values.now q)) (y h.setup h.offer a.values.now (open_of a.card.pending) q) a.values.now a.out.now) c.close.ensures c.close-message.ensures
    ∙ served a.tested.now.sheets.bench.now a.tested.now.sheets.maker.now a.card a.values.now a.word a.out.now (omega arith) _ _
    (turn_close a.tested.now.sheets.bench.now a.tested.now.sheets.maker.now a.card a.values.now a.word did) (why_close a.tested.now.sheets.bench.now a.tested.now.sheets.maker.now a.card a.values.now a.word did)

pub returns-in-Drop : goal.returns-in-Drop
returns-in-Drop c =
    let a = c.args in
    let did = sym c.action.ensures ∙ c.in-Drop.is in
    silent a.tested.now.sheets.bench.now a.tested.now.sheets.maker.now a.card a.values.now a.word a.out.now (omega arith) _ _ c.quiet-in-Drop.ensures
    (turn_drop a.tested.now.sheets.bench.now a.tested.now.sheets.maker.now a.card a.values.now a.word did ∙ ap stays (sym c.close-in-Drop.ensures))
    (why_drop a.tested.now.sheets.bench.now a.tested.now.sheets.maker.now a.card a.values.now a.word did)
