-- An effect that is carried out: its reply fits and all is done, or it does not and nothing is. Assumes nothing.
use mathlib.Core.Path.{◌≡◌, refl, sym, ap, ◌∙◌}
use mathlib.Core.Bool.{true, false}
use mathlib.Core.List.{List, []}
use Prim.Native.Nat.{ℕ, ◌+◌, ◌<◌, ◌≤◌}
use native.Mathlib.Omega.{arith}
use borrow.Author.Tests.{leb-true, leb-false}
use lib.IntN.{ℤ}
use lib.ListN.{length}
use Rattle.std.specs.Prelude.{Option, Err, Ok, Result}
use Rattle.refusal.specs.declared.Refusal.{Refusal}
use Rattle.refusal.specs.Refusal.{refused, gave, number_of, outcome_of}
use Rattle.refusal.specs.Buffer.{fits_at, placed}
use Rattle.refusal.proofs.Logic.{by-test}
use Rattle.refusal.specs.Call.{place_call}
use Rattle.refusal.proofs.Buffers.{placed_nothing, placed-front}
use Rattle.refusal.proofs.Calls.{Placed, Unplaced, placed_call, unplaced_call, fits-at, fits_not}
use Rattle.refusal.proofs.Checks.{refused_gave}
use Rattle.reply.specs.Reply.{longest_reply}
use Rattle.act.specs.declared.Effect.{Effect}
use Rattle.card.specs.declared.Card.{Card}
use Rattle.card.specs.Turn.{reply_of, with_both, turned, stored}
use Rattle.act.specs.declared.causes.Cause.{Cause}
use Rattle.act.specs.Cause.{Why, why_of}
use Rattle.card.specs.declared.Replied.{Replied}
use Rattle.card.specs.Calls.{step_after, answered}
use Rattle.card.specs.Inner.{Settled, settles}
use Rattle.card.proofs.Turns.{reply_length}

-- ---- silence has no bytes, and fits wherever the place is in the buffer

module _ (at : ℕ) (out : List ℕ) where
  pub silence_short : length out < at → place_call [] at out ≡ record { outcome = refused 5; buffer = out }
  silence_short h = unplaced_call [] at out (fits_not [] at out (omega arith))

  pub silence_placed : at ≤ length out → place_call [] at out ≡ record { outcome = gave 0; buffer = out }
  silence_placed h = placed_call [] at out (fits-at [] at out (omega arith)) ∙ (λ j. record { outcome = gave 0; buffer = placed_nothing at out j })

-- ---- an effect

module _ (e : Effect) (values : List ℤ) (at : ℕ) (out : List ℕ) where
  abbrev reply : List ℕ
  reply = reply_of e.said

  is_all : fits_at reply at out ≡ true → settles e values at out ≡ record { outcome = gave (length reply); values = stored values e.store; buffer = placed reply at out }
  unfolding settles
  is_all t = rw t

  is_none : fits_at reply at out ≡ false → settles e values at out ≡ record { outcome = refused 5; values = values; buffer = out }
  unfolding settles
  is_none t = rw t

  -- what the answer tells
  pub record Done (s : Settled) (n : ℕ) : Type 0 where
    pub said : Placed reply at out s.buffer n
    pub kept : s.values ≡ stored values e.store

  pub record Undone (s : Settled) : Type 0 where
    pub unsaid : Unplaced reply at out s.buffer
    pub kept : s.values ≡ values

  module _ (s : Settled) (p : s ≡ settles e values at out) where
    pub gave_done : (n : ℕ) → s.outcome ≡ gave n → Done s n
    unfolding fits_at
    gave_done n g =
        by-test (fits_at reply at out)
        (λ t.
        let q = p ∙ is_all t in
        let o : gave n ≡ gave (length reply) = sym g ∙ ap (λ (x : Settled). x.outcome) q in
        let k : n ≡ length reply = cc in
        record {
          said = record { room = leb-true (at + length reply) (length out) t; count = k; leaves = ap (λ (x : Settled). x.buffer) q };
          kept = ap (λ (x : Settled). x.values) q;
        })
        (λ t. absurd (refused_gave (sym (ap (λ (x : Settled). x.outcome) (p ∙ is_none t)) ∙ g)))

    pub refused_undone : (k : ℕ) → s.outcome ≡ refused k → Undone s
    unfolding fits_at
    refused_undone k r =
        by-test (fits_at reply at out)
        (λ t. absurd (refused_gave (sym r ∙ ap (λ (x : Settled). x.outcome) (p ∙ is_all t))))
        (λ t.
        let q = p ∙ is_none t in
        record { unsaid = record { short = leb-false (at + length reply) (length out) t; leaves = ap (λ (x : Settled). x.buffer) q }; kept = ap (λ (x : Settled). x.values) q })

-- ---- with room for any reply, from the front on: what a word that is served leaves

module _ (c : Card) (e : Effect) (values : List ℤ) (out : List ℕ) (h : longest_reply ≤ length out) (s : Settled) (p : s ≡ settles e values 0 out) where
  pub settled_always : (k : ℕ) → s.outcome ≡ refused k → ⊥
  settled_always k r =
      let u = refused_undone e values 0 out s p k r in
      omega (arith, u.unsaid.short, reply_length e.said)

  pub answered_is : (c' : Card) (n : ℕ) (y : Why) → c' ≡ with_both c c.pending e.offer → s.outcome ≡ gave n
      → record { card = c'; outcome = gave (record { bytes = n; cause = y }); values = s.values; buffer = s.buffer } ≡ answered (turned c c.pending e) y values out
  unfolding turned
  answered_is c' n y q g =
      let d = gave_done e values 0 out s p n g in
      let b = d.said.leaves ∙ placed-front (reply_of e.said) out in
      λ j. record { card = q j; outcome = gave (record { bytes = d.said.count j; cause = y }); values = d.kept j; buffer = b j }

  -- the same, as the code has it: what was settled, and the answer made of it
  pub word_answered : (c' : Card) (a : Result ℕ Refusal) (r : Result Replied Refusal) (y : Option Cause) → c' ≡ with_both c c.pending e.offer → s.outcome ≡ outcome_of a
      → ((n : ℕ) → a ≡ Ok n → r ≡ Ok (record { bytes = n; cause = y })) → step_after (record { card = c'; answer = r }) s.values s.buffer ≡ answered (turned c c.pending e) (why_of y) values out
  word_answered c' (Err k) r y q g f = absurd (settled_always (number_of k) g)
  word_answered c' (Ok n) r y q g f =
      ap (λ (x : Result Replied Refusal). step_after (record { card = c'; answer = x }) s.values s.buffer) (f n refl) ∙ answered_is c' n (why_of y) q g
