-- `trace::take_all` meets its contract: before the loop, in it and behind it, by what the loop carries (Invariants). Assumes nothing.
use mathlib.Core.Path.{◌≡◌, sym, ap, ap₂, ◌∙◌, subst}
use mathlib.Core.Bool.{true}
use mathlib.Core.List.{List, [], ◌∷◌}
use Prim.Native.Nat.{ℕ, ◌+◌, ◌-◌, ◌*◌, ◌≤◌, ◌<◌}
use native.Mathlib.Omega.{arith}
use borrow.Author.Rules.{rules}
use lib.IntN.{ℤ}
use lib.ListN.{length, get_or, drop}
use Rattle.refusal.specs.Buffer.{placed}
use Rattle.refusal.specs.Refusal.{refused, gave, number_of, outcome_of}
use Rattle.message.specs.Prefix.{parse}
use Rattle.message.specs.declared.Message.{Message}
use Rattle.hearing.specs.declared.Pending.{Pending}
use Rattle.hearing.specs.Hearing.{none, open_of}
use Rattle.hearing.specs.Inner.{Reached, to_close}
use Rattle.hearing.proofs.Close.{closing_hears}
use Rattle.sheet.specs.Sheet.{sound_sheet}
use Rattle.act.specs.declared.Effect.{Effect}
use Rattle.act.specs.declared.Offer.{Offer}
use Rattle.act.specs.Cause.{Why}
use Rattle.card.specs.declared.Card.{Card}
use Rattle.card.specs.declared.Ran.{Ran}
use Rattle.card.specs.Calls.{run_after, ended}
use Rattle.card.specs.Cause.{why_closed}
use Rattle.card.specs.Run.{Reaction, Played, stopped, playing}
use Rattle.card.specs.Turn.{Instrument, hears, play}
use Rattle.card.specs.Inner.{Settled, settles}
use Rattle.card.proofs.Turns.{effects, scan_leads, row_leads}
use Rattle.card.proofs.Causes.{by_index}
use Rattle.card.proofs.Runs.{Carried, played_from, ends}
use Rattle.card.proofs.Plays.{holding, carried_out}
use Rattle.card.proofs.Settled.{gave_done, refused_undone}
use Rattle.card.proofs.Taking.{reached_of, stands_at, Came, came_to, came_in, hears_quiet, first_taken, first-begins, closed-turns, ended_here, undone_stops, done-goes-on}
use Rattle.trace.specs.Notes.{Note, five_of, note_to}
use Rattle.trace.specs.Calls.{trace_after, noted, notes_in}
use Rattle.trace.proofs.Notes.{Closes, reached_closes, noted_from, noted_reached, Noted, note-begins, note_over, open_silent, closing-noted, noted-goes-on}
use Rattle.trace.proofs.take_all.Goals as goal
use Rattle.trace.proofs.take_all.Goals.{then-is_scan, else-is_scan}
use Rattle.std.specs.Prelude.{Option, Ok}

-- the first words are taken: what is played and noted from there is what is from the start
module _ (bench maker : List ℤ) (card : Card) (values₀ : List ℤ) (words out₀ notes₀ : List ℕ) (pending₀ : Pending) (taken₀ : ℕ) (came₀ : Came card.pending words 0 pending₀ taken₀) where
  abbrev first : Reached
  first = reached_of pending₀ taken₀

  is-first : first ≡ to_close card.pending words 0
  is-first = came_to card.pending words 0 pending₀ taken₀ came₀

  abbrev takes : Instrument → ℕ → Reaction Instrument
  takes = hears bench maker

  abbrev writes : Instrument → ℕ → ℕ → List Note
  writes = note_to bench maker

  abbrev begin₀ : Instrument
  begin₀ = record { card = card; values = values₀ }

  abbrev stand : Instrument
  stand = stands_at card.setup card.offer values₀ first

  abbrev all : Played Instrument
  all = played_from takes out₀ words stand first.at

  abbrev all-notes : List Note
  all-notes = noted_from takes writes words stand (length out₀) first.at

  is-all-notes : notes_in bench maker card values₀ (length out₀) words ≡ all-notes
  is-all-notes =
      noted_reached takes writes words (holding begin₀) (hears_quiet bench maker begin₀) (open_silent bench maker begin₀) (length out₀) card.pending 0 first is-first

  abbrev Holds : Instrument → List ℕ → ℕ → ℕ → List ℕ → ℕ → Reached → Type 0
  Holds here out at i notes m r =
      Carried takes all out₀ words here out at i × Noted takes writes words all-notes notes₀ here (length out₀ - at) i notes m × Closes words r

  begun : Holds stand out₀ 0 first.at notes₀ 0 first
  begun = (
    first-begins bench maker card values₀ words out₀ first is-first,
    note-begins takes writes words notes₀ stand (length out₀) first.at (length out₀ - 0) (omega arith),
    subst (Closes words) (sym is-first) (reached_closes words card.pending 0),
  )

  -- nothing more is taken
  stops : (here : Instrument) (out : List ℕ) (at i : ℕ) (notes : List ℕ) (m : ℕ) → Carried takes all out₀ words here out at i → Noted takes writes words all-notes notes₀ here (length out₀ - at) i notes m
      → playing takes here (length out₀ - at) (drop i words) ≡ stopped here → (r : Ran) → r ≡ record { card = here.card; answer = Ok (record { words = i; bytes = at }) }
      → trace_after (record { ran = r; messages = m }) here.values out notes ≡ noted (ended (play bench maker card values₀ (length out₀) words) out₀) (notes_in bench maker card values₀ (length out₀) words) notes₀
  stops here out at i notes m k l e r q =
      let n = note_over takes writes words all-notes notes₀ here (length out₀ - at) i notes m l e in
      let o = ap (λ (x : Ran). run_after x here.values out) q ∙ ended_here bench maker all out₀ words here out at i k e in
      (λ j. record { run = o j; messages = sym n.0 j; notes = sym n.1 j })
      ∙ ap₂ (λ (x : Played Instrument) (y : List Note). noted (ended x out₀) y notes₀) (sym (first_taken bench maker card values₀ words out₀ first is-first)) (sym is-all-notes)

  -- a message is closed, with the effect e
  module _ (offer : Option Offer) (values : List ℤ) (pending : Pending) (taken : ℕ) (out : List ℕ) (at : ℕ) (notes : List ℕ) (m : ℕ)
      (k : Holds (stands_at card.setup offer values (reached_of pending taken)) out at taken notes m (reached_of pending taken)) (in_words : taken < length words)
      (e : Effect) (p : Option Message) (is-effect : e ≡ effects bench maker (record { setup = card.setup; pending = pending; offer = offer }) values p)
      (is-parsed : p ≡ parse (open_of pending)) (s : Settled) (is-settled : s ≡ settles e values at out) where
    abbrev here : Instrument
    here = stands_at card.setup offer values (reached_of pending taken)

    abbrev word : ℕ
    word = get_or words taken 0

    is-turn : carried_out here none e ≡ takes here word
    is-turn = closed-turns bench maker here word e p is-effect is-parsed (closing_hears pending word (k.2 in_words))

    -- there is no room for the reply
    short : (n : ℕ) → s.outcome ≡ refused n → (r : Ran) → r ≡ record { card = here.card; answer = Ok (record { words = taken; bytes = at }) }
        → trace_after (record { ran = r; messages = m }) s.values s.buffer notes ≡ noted (ended (play bench maker card values₀ (length out₀) words) out₀) (notes_in bench maker card values₀ (length out₀) words) notes₀
    short n o r q =
        let u = refused_undone e values at out s is-settled n o in
        ap₂ (λ (v : List ℤ) (b : List ℕ). trace_after (record { ran = r; messages = m }) v b notes) u.kept u.unsaid.leaves
        ∙ stops here out at taken notes m k.0 k.1 (undone_stops bench maker all out₀ words here out at taken k.0 e is-turn in_words s u) r q

    -- the message is answered and noted, and the words behind it are taken up to the next that closes a message
    module _ (n : ℕ) (o : s.outcome ≡ gave n) (few : length words * 5 ≤ length notes₀) where
      -- there is room for its note
      fits : m * 5 + 5 ≤ length notes
      fits = omega (arith, k.1.few, k.1.filling.long)

      goes_on : (y : Why) → y ≡ why_closed bench maker card.setup offer values (open_of pending) p
          → (notes' : List ℕ) → notes' ≡ placed (five_of (record { at = taken; characters = pending.len; bytes = n; cause = y })) (m * 5) notes
          → (pending' : Pending) (taken' : ℕ) → Came none words (taken + 1) pending' taken'
          → Holds (stands_at card.setup e.offer s.values (reached_of pending' taken')) s.buffer (at + n) taken' notes' (m + 1) (reached_of pending' taken')
      goes_on y is-cause notes' is-noted pending' taken' came =
          let d = gave_done e values at out s is-settled n o in
          let next = came_to none words (taken + 1) pending' taken' came in
          let long = k.0.filling.long in
          let note : writes here taken word ≡ record { at = taken; characters = pending.len; bytes = n; cause = y } ∷ [] =
          closing-noted bench maker here.card values word taken n y (k.2 in_words) (d.said.count ∙ ap (λ (r : Reaction Instrument). length r.reply) is-turn)
          (is-cause ∙ ap (why_closed bench maker card.setup offer values (open_of pending)) is-parsed) in (
            done-goes-on bench maker all out₀ words here out at taken k.0 e is-turn in_words s n d _ next,
            noted-goes-on bench maker all-notes notes₀ words here (length out₀ - at) taken notes m k.1 e is-turn in_words (omega (arith, d.said.count, d.said.room, long)) (length out₀ - (at + n))
                (omega (arith, d.said.count)) _ note (omega (arith, fits, k.1.filling.long)) notes' is-noted s.values d.kept _ next,
            subst (Closes words) (sym next) (reached_closes words none (taken + 1)),
          )

pub loop-taken-init : goal.loop-taken-init
loop-taken-init c =
    let a = c.args in
    let h = a.tested.now.sheets in
    begun h.bench.now h.maker.now a.card a.values.now a.words.now a.out.now a.notes.now _ _ c.to_close-taken.ensures

pub returns-in_default : goal.returns-in_default
returns-in_default c =
    let a = c.args in
    let h = a.tested.now.sheets in
    let l = c.loop-taken in
    let x = c.places-places.ensures in
    let b : sound_sheet h.bench.now ≡ true = search rules in
    let k : sound_sheet h.maker.now ≡ true = search rules in
    let effect : c.if-is_scan.effect ≡ effects h.bench.now h.maker.now (record { setup = a.card.setup; pending = l.pending; offer = l.offer }) l.values c.close-message.result
    = elim c.if-is_scan.branch [
      | then-is_scan w ↦ w.effect-is ∙ w.scan_effect-effect.ensures ∙ scan_leads h.bench.now h.maker.now a.card.setup l.offer l.values _ b k x _ (sym c.is_scan.ensures ∙ w.if-is_scan.true)
      | else-is_scan w ↦ w.effect-is ∙ w.effect_of-effect.ensures ∙ row_leads h.bench.now h.maker.now a.card.setup l.offer l.values _ b k x _ (sym c.is_scan.ensures ∙ w.if-is_scan.false)
    ] in
    short h.bench.now h.maker.now a.card a.values.now a.words.now a.out.now a.notes.now _ _ c.to_close-taken.ensures l.offer l.values l.pending l.taken l.out l.at l.notes l.messages l.invariant c.loop-taken-test.true
    c.if-is_scan.effect c.close-message.result effect c.close-message.ensures _ c.settle.ensures (number_of c.in_default.field-0) (ap outcome_of c.in_default.is) _ c.so_far-ran.ensures

pub overflow_add-at : goal.overflow_add-at
overflow_add-at c =
    let l = c.loop-taken in
    let d = gave_done c.if-is_scan.effect l.values l.at l.out _ c.settle.ensures c.in-Ok.n (ap outcome_of c.in-Ok.is) in
    omega (arith, d.said.count, d.said.room, l.invariant.0.filling.long)

pub loop-taken-smaller : goal.loop-taken-smaller
loop-taken-smaller c =
    let t = c.to_close-taken-in-loop-taken in
    let came = subst (λ (q : Pending). Came q c.args.words.now (c.loop-taken.taken + 1) t.new.self t.result) c.new-pending.ensures t.ensures in
    let behind = came_in none c.args.words.now (c.loop-taken.taken + 1) t.new.self t.result came (omega (arith, c.loop-taken-test.true)) in
    omega (arith, c.loop-taken-test.true, behind.0)

pub loop-taken-preserved : goal.loop-taken-preserved
loop-taken-preserved c =
    let a = c.args in
    let h = a.tested.now.sheets in
    let l = c.loop-taken in
    let t = c.to_close-taken-in-loop-taken in
    let came = subst (λ (q : Pending). Came q a.words.now (l.taken + 1) t.new.self t.result) c.new-pending.ensures t.ensures in
    let x = c.places-places.ensures in
    let b : sound_sheet h.bench.now ≡ true = search rules in
    let k : sound_sheet h.maker.now ≡ true = search rules in
    let effect : c.if-is_scan.effect ≡ effects h.bench.now h.maker.now (record { setup = a.card.setup; pending = l.pending; offer = l.offer }) l.values c.close-message.result
    = elim c.if-is_scan.branch [
      | then-is_scan w ↦ w.effect-is ∙ w.scan_effect-effect.ensures ∙ scan_leads h.bench.now h.maker.now a.card.setup l.offer l.values _ b k x _ (sym c.is_scan.ensures ∙ w.if-is_scan.true)
      | else-is_scan w ↦ w.effect-is ∙ w.effect_of-effect.ensures ∙ row_leads h.bench.now h.maker.now a.card.setup l.offer l.values _ b k x _ (sym c.is_scan.ensures ∙ w.if-is_scan.false)
    ] in
    let cause = c.cause_by-cause.ensures ∙ by_index h.bench.now h.maker.now a.card.setup l.offer l.values (open_of l.pending) c.close-message.result _ b k x in
    goes_on h.bench.now h.maker.now a.card a.values.now a.words.now a.out.now a.notes.now _ _ c.to_close-taken.ensures l.offer l.values l.pending l.taken l.out l.at l.notes l.messages l.invariant c.loop-taken-test.true
    c.if-is_scan.effect c.close-message.result effect c.close-message.ensures _ c.settle.ensures c.in-Ok.n (ap outcome_of c.in-Ok.is) c.requires _ cause c.put.new.notes c.put.ensures t.new.self t.result came

pub returns : goal.returns
returns c =
    let a = c.args in
    let h = a.tested.now.sheets in
    let l = c.loop-taken in
    let here = stands_at a.card.setup l.offer l.values (reached_of l.pending l.taken) in
    stops h.bench.now h.maker.now a.card a.values.now a.words.now a.out.now a.notes.now _ _ c.to_close-taken.ensures here l.out l.at l.taken l.notes l.messages l.invariant.0 l.invariant.1
    (ends (hears h.bench.now h.maker.now) _ a.out.now a.words.now here l.out l.at l.taken l.invariant.0 c.loop-taken-test.false) _ c.so_far-ran-2.ensures
