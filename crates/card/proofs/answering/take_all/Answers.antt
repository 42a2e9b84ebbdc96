-- `card::take_all` meets its contract: before the loop, in it and behind it, by what the loop carries (Invariants). Assumes nothing.
use mathlib.Core.Path.{◌≡◌, sym, ap, ap₂, ◌∙◌, subst}
use mathlib.Core.Bool.{true}
use mathlib.Core.List.{List}
use borrow.Author.Rules.{rules}
use Rattle.sheet.specs.Sheet.{sound_sheet}
use Prim.Native.Nat.{ℕ, ◌+◌, ◌-◌, ◌≤◌, ◌<◌}
use native.Mathlib.Omega.{arith}
use lib.IntN.{ℤ}
use lib.ListN.{length, get_or, drop}
use Rattle.refusal.specs.Refusal.{refused, gave, number_of, outcome_of}
use Rattle.message.specs.Prefix.{parse}
use Rattle.hearing.specs.declared.Pending.{Pending}
use Rattle.hearing.specs.Hearing.{none, open_of}
use Rattle.hearing.specs.Inner.{Reached, to_close}
use Rattle.hearing.proofs.Close.{reached_hears}
use Rattle.act.specs.declared.Effect.{Effect}
use Rattle.card.specs.declared.Card.{Card}
use Rattle.card.specs.declared.Ran.{Ran}
use Rattle.card.specs.Calls.{run_after, ended}
use Rattle.card.specs.Run.{Reaction, Played, stopped, playing}
use Rattle.card.specs.Turn.{Instrument, hears, play}
use Rattle.card.specs.Inner.{Settled, settles}
use Rattle.card.proofs.Turns.{effects, scan_leads, row_leads}
use Rattle.card.proofs.Runs.{Carried, played_from, ends}
use Rattle.card.proofs.Plays.{carried_out}
use Rattle.card.proofs.Settled.{gave_done, refused_undone}
use Rattle.card.proofs.Taking.{reached_of, stands_at, Closes, Came, came_to, came_in, first_taken, first-begins, closed-turns, ended_here, undone_stops, done-goes-on}
use Rattle.card.proofs.answering.take_all.Goals as goal
use Rattle.card.proofs.answering.take_all.Goals.{then-is_scan, else-is_scan}
use Rattle.std.specs.Prelude.{Option, Ok}
use Rattle.act.specs.declared.Offer.{Offer}
use Rattle.message.specs.declared.Message.{Message}

-- the first words are taken, up to the place `first`: what is played from there is what is played from the start
module _ (bench maker : List ℤ) (card : Card) (values₀ : List ℤ) (words out₀ : List ℕ) (pending₀ : Pending) (taken₀ : ℕ) (came₀ : Came card.pending words 0 pending₀ taken₀) where
  abbrev first : Reached
  first = reached_of pending₀ taken₀

  is-first : first ≡ to_close card.pending words 0
  is-first = came_to card.pending words 0 pending₀ taken₀ came₀

  abbrev takes : Instrument → ℕ → Reaction Instrument
  takes = hears bench maker

  abbrev stand : Instrument
  stand = stands_at card.setup card.offer values₀ first

  abbrev all : Played Instrument
  all = played_from takes out₀ words stand first.at

  begun : Carried takes all out₀ words stand out₀ 0 first.at
  begun = first-begins bench maker card values₀ words out₀ first is-first

  first_closes : Closes words first
  first_closes = subst (Closes words) (sym is-first) (reached_hears words card.pending 0)

  -- nothing more is taken
  stops : (here : Instrument) (out : List ℕ) (at i : ℕ) → Carried takes all out₀ words here out at i → playing takes here (length out₀ - at) (drop i words) ≡ stopped here
      → (r : Ran) → r ≡ record { card = here.card; answer = Ok (record { words = i; bytes = at }) } → run_after r here.values out ≡ ended (play bench maker card values₀ (length out₀) words) out₀
  stops here out at i k e r q =
      ap (λ (x : Ran). run_after x here.values out) q
      ∙ ended_here bench maker all out₀ words here out at i k e
      ∙ ap (λ (x : Played Instrument). ended x out₀) (sym (first_taken bench maker card values₀ words out₀ first is-first))

  -- no word is left
  over : (here : Instrument) (out : List ℕ) (at i : ℕ) → Carried takes all out₀ words here out at i → length words ≤ i
      → (r : Ran) → r ≡ record { card = here.card; answer = Ok (record { words = i; bytes = at }) } → run_after r here.values out ≡ ended (play bench maker card values₀ (length out₀) words) out₀
  over here out at i k h = stops here out at i k (ends takes all out₀ words here out at i k h)

  -- a message is closed, with the effect e
  module _ (offer : Option Offer) (values : List ℤ) (pending : Pending) (taken : ℕ) (out : List ℕ) (at : ℕ)
      (k : Carried takes all out₀ words (stands_at card.setup offer values (reached_of pending taken)) out at taken) (h : Closes words (reached_of pending taken)) (in_words : taken < length words)
      (e : Effect) (p : Option Message) (is-effect : e ≡ effects bench maker (record { setup = card.setup; pending = (reached_of pending taken).pending; offer = offer }) values p)
      (is-parsed : p ≡ parse (open_of (reached_of pending taken).pending)) (s : Settled) (is-settled : s ≡ settles e values at out) where
    abbrev here : Instrument
    here = stands_at card.setup offer values (reached_of pending taken)

    is-turn : carried_out here none e ≡ takes here (get_or words taken 0)
    is-turn = closed-turns bench maker here _ e p is-effect is-parsed (h in_words)

    -- there is no room for the reply
    short : (n : ℕ) → s.outcome ≡ refused n → (r : Ran) → r ≡ record { card = here.card; answer = Ok (record { words = taken; bytes = at }) }
        → run_after r s.values s.buffer ≡ ended (play bench maker card values₀ (length out₀) words) out₀
    short n o r q =
        let u = refused_undone e values at out s is-settled n o in
        ap₂ (run_after r) u.kept u.unsaid.leaves
        ∙ stops here out at taken k (undone_stops bench maker all out₀ words here out at taken k e is-turn in_words s u) r q

    -- the message is answered, and the words behind it are taken up to the next that closes a message
    goes_on : (n : ℕ) → s.outcome ≡ gave n → (pending' : Pending) (taken' : ℕ) → Came none words (taken + 1) pending' taken'
        → Carried takes all out₀ words (stands_at card.setup e.offer s.values (reached_of pending' taken')) s.buffer (at + n) taken' × Closes words (reached_of pending' taken')
    goes_on n o pending' taken' came =
        let next = came_to none words (taken + 1) pending' taken' came in (
          done-goes-on bench maker all out₀ words here out at taken k e is-turn in_words s n (gave_done e values at out s is-settled n o) _ next,
          subst (Closes words) (sym next) (reached_hears words none (taken + 1)),
        )

pub returns-then-words-taken : goal.returns-then-words-taken
returns-then-words-taken c =
    let a = c.args in
    let s = a.tested.now.sheets in
    let t = c.to_close-taken in
    over s.bench.now s.maker.now a.card a.values.now a.words.now a.out.now _ _ t.ensures _ _ _ _
    (begun s.bench.now s.maker.now a.card a.values.now a.words.now a.out.now _ _ t.ensures) c.if-words-taken.true _ c.so_far.ensures

pub loop-taken-init : goal.loop-taken-init
loop-taken-init c =
    let a = c.args in
    let s = a.tested.now.sheets in
    let t = c.to_close-taken in (
      begun s.bench.now s.maker.now a.card a.values.now a.words.now a.out.now _ _ t.ensures,
      first_closes s.bench.now s.maker.now a.card a.values.now a.words.now a.out.now _ _ t.ensures,
    )

pub returns-in_default : goal.returns-in_default
returns-in_default c =
    let a = c.args in
    let s = a.tested.now.sheets in
    let l = c.loop-taken in
    let i = stands_at a.card.setup l.offer l.values (reached_of l.pending l.taken) in
    let x = c.places-places.ensures in
    let b : sound_sheet s.bench.now ≡ true = search rules in
    let k : sound_sheet s.maker.now ≡ true = search rules in
    let effect : c.if-is_scan.effect ≡ effects s.bench.now s.maker.now i.card l.values c.close-message.result
    = elim c.if-is_scan.branch [
      | then-is_scan w ↦ w.effect-is ∙ w.scan_effect-effect.ensures ∙ scan_leads s.bench.now s.maker.now a.card.setup l.offer l.values _ b k x _ (sym c.is_scan.ensures ∙ w.if-is_scan.true)
      | else-is_scan w ↦ w.effect-is ∙ w.effect_of-effect.ensures ∙ row_leads s.bench.now s.maker.now a.card.setup l.offer l.values _ b k x _ (sym c.is_scan.ensures ∙ w.if-is_scan.false)
    ] in
    short s.bench.now s.maker.now a.card a.values.now a.words.now a.out.now _ _ c.to_close-taken.ensures l.offer l.values l.pending l.taken l.out l.at l.invariant.0 l.invariant.1 c.loop-taken-test.true
    c.if-is_scan.effect c.close-message.result effect c.close-message.ensures _ c.settle.ensures (number_of c.in_default.field-0) (ap outcome_of c.in_default.is) _ c.so_far-in_default.ensures

pub overflow_add-at : goal.overflow_add-at
overflow_add-at c =
    let l = c.loop-taken in
    let d = gave_done c.if-is_scan.effect l.values l.at l.out _ c.settle.ensures c.in-Ok.n (ap outcome_of c.in-Ok.is) in
    omega (arith, d.said.count, d.said.room, l.invariant.0.filling.long)

pub loop-taken-smaller : goal.loop-taken-smaller
loop-taken-smaller c =
    let t = c.to_close-taken-in-loop-taken in
    let came = subst (λ (q : Pending). Came q c.args.words.now (c.loop-taken.taken + 1) t.new.self t.result) c.new-pending.ensures t.ensures in
    let behind = came_in none c.args.words.now (c.loop-taken.taken + 1) t.new.self t.result came (omega (arith, c.loop-taken-test.true)) in
    omega (arith, c.loop-taken-test.true, behind.0)

pub loop-taken-preserved : goal.loop-taken-preserved
loop-taken-preserved c =
    let a = c.args in
    let t = c.to_close-taken-in-loop-taken in
    let came = subst (λ (q : Pending). Came q a.words.now (c.loop-taken.taken + 1) t.new.self t.result) c.new-pending.ensures t.ensures in
    let s = a.tested.now.sheets in
    let l = c.loop-taken in
    let i = stands_at a.card.setup l.offer l.values (reached_of l.pending l.taken) in
    let x = c.places-places.ensures in
    let b : sound_sheet s.bench.now ≡ true = search rules in
    let k : sound_sheet s.maker.now ≡ true = search rules in
    let effect : c.if-is_scan.effect ≡ effects s.bench.now s.maker.now i.card l.values c.close-message.result
    = elim c.if-is_scan.branch [
      | then-is_scan w ↦ w.effect-is ∙ w.scan_effect-effect.ensures ∙ scan_leads s.bench.now s.maker.now a.card.setup l.offer l.values _ b k x _ (sym c.is_scan.ensures ∙ w.if-is_scan.true)
      | else-is_scan w ↦ w.effect-is ∙ w.effect_of-effect.ensures ∙ row_leads s.bench.now s.maker.now a.card.setup l.offer l.values _ b k x _ (sym c.is_scan.ensures ∙ w.if-is_scan.false)
    ] in
    goes_on s.bench.now s.maker.now a.card a.values.now a.words.now a.out.now _ _ c.to_close-taken.ensures l.offer l.values l.pending l.taken l.out l.at l.invariant.0 l.invariant.1 c.loop-taken-test.true
    c.if-is_scan.effect c.close-message.result effect c.close-message.ensures _ c.settle.ensures c.in-Ok.n (ap outcome_of c.in-Ok.is) t.new.self t.result came

pub returns : goal.returns
returns c =
    let a = c.args in
    let s = a.tested.now.sheets in
    let l = c.loop-taken in
    over s.bench.now s.maker.now a.card a.values.now a.words.now a.out.now _ _ c.to_close-taken.ensures
    (stands_at a.card.setup l.offer l.values (reached_of l.pending l.taken)) l.out l.at l.taken l.invariant.0 c.loop-taken-test.false _ c.so_far-2.ensures
