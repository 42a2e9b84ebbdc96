-- The loop of a run over one card, by what its code has in hand: `card::take_all` cites these laws, and so does `trace::take_all`.
-- Assumes nothing.
use mathlib.Core.Path.{◌≡◌, sym, ap, subst, ◌∙◌}
use mathlib.Core.List.{List}
use Prim.Native.Nat.{ℕ, ◌+◌, ◌-◌, ◌≤◌, ◌<◌}
use native.Mathlib.Omega.{arith}
use lib.IntN.{ℤ}
use lib.ListN.{length, get_or, drop}
use Rattle.refusal.specs.Refusal.{gave}
use Rattle.message.specs.Prefix.{parse}
use Rattle.hearing.specs.declared.Pending.{Pending}
use Rattle.hearing.specs.Hearing.{none, open_of, hear}
use Rattle.hearing.specs.Inner.{Reached, to_close}
use Rattle.hearing.proofs.Close.{reached_in}
use Rattle.act.specs.declared.Setup.{Setup}
use Rattle.act.specs.declared.Effect.{Effect}
use Rattle.card.specs.declared.Card.{Card}
use Rattle.card.specs.Calls.{ended}
use Rattle.card.specs.Run.{Reaction, Played, stopped, playing}
use Rattle.card.specs.Turn.{Turn, turned, stored, Instrument, hears, play}
use Rattle.card.specs.Inner.{Settled}
use Rattle.card.proofs.Turns.{effects, turn_closes}
use Rattle.card.proofs.Runs.{Quiet, Carried, played_from, starts, begins, turned as Turned-on, carried-reached, no_room, over}
use Rattle.card.proofs.Plays.{holding, carried_out, does, obeys_quiet, hears_obeys}
use Rattle.card.proofs.Settled.{Done, Undone}
use Rattle.std.specs.Prelude.{Option}
use Rattle.act.specs.declared.Offer.{Offer}
use Rattle.message.specs.declared.Message.{Message}

-- where the code stands, and the card there
abbrev pub reached_of : Pending → ℕ → Reached
reached_of pending taken = record { pending = pending; at = taken }

abbrev pub stands_at : Setup → Option Offer → List ℤ → Reached → Instrument
stands_at setup offer values r = record { card = record { setup = setup; pending = r.pending; offer = offer }; values = values }

-- a word that is left closes the message
abbrev pub Closes : List ℕ → Reached → Type 0
Closes ws r = r.at < length ws → hear r.pending (get_or ws r.at 0) ≡ record { pending = none; message = parse (open_of r.pending) }

-- ---- words taken up to one that closes a message, from the place i on with q open before: what `Pending::to_close` answers and leaves

abbrev pub Came : Pending → List ℕ → ℕ → Pending → ℕ → Type 0
Came q ws i pending taken = (taken ≡ (to_close q (drop i ws) i).at) × (pending ≡ (to_close q (drop i ws) i).pending)

module _ (q : Pending) (ws : List ℕ) (i : ℕ) (pending : Pending) (taken : ℕ) (e : Came q ws i pending taken) where
  pub came_to : reached_of pending taken ≡ to_close q (drop i ws) i
  came_to = λ j. reached_of (e.1 j) (e.0 j)

  pub came_in : i ≤ length ws → (i ≤ taken) × (taken ≤ length ws)
  came_in h = subst (λ (r : Reached). (i ≤ r.at) × (r.at ≤ length ws)) (sym came_to) (reached_in ws q i h)

-- ---- at an instrument

module _ (bench maker : List ℤ) where
  abbrev takes : Instrument → ℕ → Reaction Instrument
  takes = hears bench maker

  pub hears_quiet : (i : Instrument) → Quiet takes (holding i)
  hears_quiet = obeys_quiet (does bench maker) takes holding (hears_obeys bench maker)

  -- the first words are taken: what is played from there is what is played from the start
  module _ (c : Card) (values : List ℤ) (ws out : List ℕ) (r : Reached) (e : r ≡ to_close c.pending ws 0) where
    pub first_taken : play bench maker c values (length out) ws ≡ played_from takes out ws (stands_at c.setup c.offer values r) r.at
    first_taken = let i : Instrument = record { card = c; values = values } in starts takes out ws (holding i) (hears_quiet i) c.pending r e

    pub first-begins : Carried takes (played_from takes out ws (stands_at c.setup c.offer values r) r.at) out ws (stands_at c.setup c.offer values r) out 0 r.at
    first-begins =
        begins takes out ws (stands_at c.setup c.offer values r) r.at (subst (λ (x : Reached). x.at ≤ length ws) (sym e) (reached_in ws c.pending 0 (omega arith)).1)

  -- the effect e of a message that the word w has closed is its turn
  pub closed-turns : (i : Instrument) (w : ℕ) (e : Effect) (p : Option Message) → e ≡ effects bench maker i.card i.values p → p ≡ parse (open_of i.card.pending)
      → hear i.card.pending w ≡ record { pending = none; message = parse (open_of i.card.pending) } → carried_out i none e ≡ takes i w
  unfolding turned
  closed-turns i w e p is-effect is-parsed closes =
      let react : Turn → Reaction Instrument = λ u. record { state = record { card = u.card; values = stored i.values u.store }; reply = u.reply } in
      ap (carried_out i none) (is-effect ∙ ap (effects bench maker i.card i.values) is-parsed)
      ∙ ap react (sym (turn_closes bench maker i.card i.values w _ closes))

  -- what the loop carries
  module _ (total : Played Instrument) (out₀ ws : List ℕ) (i : Instrument) (out : List ℕ) (at k : ℕ) (c : Carried takes total out₀ ws i out at k) where
    -- to the end of the run
    pub ended_here : playing takes i (length out₀ - at) (drop k ws) ≡ stopped i
        → record { card = i.card; outcome = gave (record { words = k; bytes = at }); values = i.values; buffer = out } ≡ ended total out₀
    ended_here e =
        let o = over takes total out₀ ws i out at k c e in
        sym (λ j. record { card = (o.0 j).card; outcome = gave (record { words = o.1 j; bytes = o.2 j }); values = (o.0 j).values; buffer = o.3 j })

    module _ (e : Effect) (turns : carried_out i none e ≡ takes i (get_or ws k 0)) (h : k < length ws) (s : Settled) where
      -- past a word whose reply doesn't fit
      pub undone_stops : Undone e i.values at out s → playing takes i (length out₀ - at) (drop k ws) ≡ stopped i
      undone_stops u =
          no_room takes total out₀ ws i out at k c (carried_out i none e) turns h (omega (arith, u.unsaid.short, c.filling.long))

      -- from a message that is answered to the next
      pub done-goes-on : (n : ℕ) → Done e i.values at out s n → (r : Reached) → r ≡ to_close none (drop (k + 1) ws) (k + 1)
          → Carried takes total out₀ ws (stands_at i.card.setup e.offer s.values r) s.buffer (at + n) r.at
      done-goes-on n d r q =
          let next = (carried_out i none e).state in
          let here = Turned-on takes total out₀ ws i out at k c (carried_out i none e) turns h s.buffer n d.said.count (omega (arith, d.said.count, d.said.room, c.filling.long)) d.said.leaves in
          subst (λ (v : List ℤ). Carried takes total out₀ ws (stands_at i.card.setup e.offer v r) s.buffer (at + n) r.at) (sym d.kept)
          (carried-reached takes total out₀ ws (holding next) (hears_quiet next) none s.buffer (at + n) (k + 1) here r q)
