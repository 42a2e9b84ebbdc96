-- Document 02, ticket 5: "The digit reader must now tell minus zero from zero, and everything that reads numbers must say which it had". The
-- claims are about the digits, about the two revisions of a card (`step` and `run`), and about demand 3, whose meaning is finer now.
use Rattle.std.specs.Prelude.{◌≡◌, Bool, true, List, [], ◌∷◌, ◌++◌, map, ℕ, ◌≤◌, ℤ, pos, length, take, replicate}
use Prim.Native.String.{String}
use Rattle.refusal.specs.Lists.{every}
use Rattle.refusal.specs.Refusal.{refused, gave}
use Rattle.wire.specs.Text.{chars}
use Rattle.wire.specs.Word.{travelling, valid_words}
use Rattle.number.specs.declared.Decimal.{Decimal}
use Rattle.number.specs.declared.Numeral.{Numeral}
use Rattle.number.specs.declared.Data.TheVariants.{Number}
use Rattle.number.specs.Data.{with_decimals, fits, is_minus_zero, numeral, minus_zero_with, fits_numeral, spell_data, spell_numeral, read_data}
use Rattle.message.specs.declared.Body.TheVariants.{Set}
use Rattle.message.specs.declared.Message.{Message}
use Rattle.message.specs.Message.{star, is_letter, is_address, is_identifier, asks_minus_zero, unsigned_zero, no_minus_zero, is_message}
use Rattle.message.specs.Prefix.{message}
use Rattle.message.specs.Spell.{spell_address}
use Rattle.hearing.specs.declared.Pending.{Pending}
use Rattle.hearing.specs.Hearing.{hear, heard_from, heard}
use Rattle.hearing.specs.Normal.{normal_call}
use Rattle.reply.specs.declared.Answer.{Answer}
use Rattle.reply.specs.declared.Mark.{Mark}
use Rattle.reply.specs.declared.Mark.TheVariants.{Declined}
use Rattle.reply.specs.Reply.{mark_of}
use Rattle.reply.specs.Read.{read_call}
use Rattle.act.specs.declared.causes.Cause.TheVariants.{MinusZero}
use Rattle.act.specs.Cause.{why_of, is_for, up_to_minus_zero, is_one_of}
use Rattle.card.specs.declared.Card.{Card}
use Rattle.card.specs.Turn.{with_both}
use Rattle.card.specs.Calls.{After, revised, revised_after, kept, WordAnswer, step_call, run_call}
use Rattle.listing.specs.Line.{line}
use Rattle.demands.specs.Terms.{Sound, replies, wrote_these}
use Rattle.demands.specs.Demand3.{Wrote, PlayedAlike}
use Rattle.std.specs.Prelude.{None, Some}

-- ---- five digits, for every count of decimals at once

pub record DataExact : Type 0 where
  -- what is written is read as it was, and what is read is written with the same characters
  pub read_written : (x : Numeral) → fits_numeral x ≡ true → read_data (spell_numeral x) ≡ Number x
  pub written_read : (cs : List ℕ) (x : Numeral) → read_data cs ≡ Number x → (spell_numeral x ≡ cs) × (fits_numeral x ≡ true)
  -- only zero is minus zero: with any other number it is no message, which the writer and the listing line refuse with number 7
  pub only_zero : (x : Numeral) → fits_numeral x ≡ true → is_minus_zero x ≡ true → x.number ≡ pos 0
  -- a number as a reply has it is never minus zero
  pub never_replied : (x : Decimal) → fits x ≡ true → read_data (spell_data x) ≡ Number (numeral x)
  -- "a reply with minus zero stays number 6": what would be a reply but for that
  pub never_read : (l a i : ℕ) (x : Numeral) (k : Mark) → is_letter l ≡ true → is_address a ≡ true → is_identifier i ≡ true → fits_numeral x ≡ true → is_minus_zero x ≡ true
      → read_call (travelling (l ∷ (spell_address a ++ (i ∷ (spell_numeral x ++ (mark_of k ∷ star ∷ [])))))) ≡ refused 6

-- ---- the revisions

-- how the second answers a Type 3 of minus zero: `N`, with minus zero or a test before it as the cause; values kept, and nothing on offer
module _ (bench maker : List ℤ) (c : Card) (values : List ℤ) (w : ℕ) (out : List ℕ) (s : WordAnswer) where
  abbrev its : After WordAnswer
  its = step_call c bench maker values w out

  pub record DeclinesZero : Type 0 where
    pub cause : is_one_of s.cause.code up_to_minus_zero ≡ true
    pub says_n : (a : Answer) × (read_call (take s.bytes its.buffer) ≡ gave a) × (a.mark ≡ Declined)
    pub keeps : its.values ≡ values
    pub gone : its.card.offer ≡ None

pub record Revisions : Type 0 where
  -- "an unknown revision is number 1", in its first place: whatever the sheets, values, words and room
  pub unknown : (bench maker : List ℤ) (c : Card) (values : List ℤ) (w : ℕ) (ws out : List ℕ) → (c.setup.revision ≡ 1 → ⊥) → (c.setup.revision ≡ 2 → ⊥)
      → (step_call c bench maker values w out ≡ kept c values out 1) × (run_call c bench maker values ws out ≡ kept c values out 1)
  -- "the first treats both alike": recordings that are heard alike but for the sign of zero draw the same replies, and leave the same
  pub first_alike : (bench maker : List ℤ) (c : Card) (values : List ℤ) (ws xs out out' : List ℕ) → Sound bench maker c values → c.setup.revision ≡ 1 → valid_words ws ≡ true → valid_words xs ≡ true
      → map unsigned_zero (heard_from c.pending ws) ≡ map unsigned_zero (heard_from c.pending xs)
      → length (replies bench maker c values ws) ≤ length out → length (replies bench maker c values xs) ≤ length out' → PlayedAlike bench maker c values ws xs out out'
  -- and two words that close messages alike but for it give the same bytes and the same cause
  pub first_word_alike : (bench maker : List ℤ) (c : Card) (p : Pending) (values : List ℤ) (w : ℕ) (out : List ℕ) (s s' : WordAnswer) (m m' : Message) → c.setup.revision ≡ 1
      → (step_call c bench maker values w out).outcome ≡ gave s → (step_call (with_both c p c.offer) bench maker values w out).outcome ≡ gave s'
      → (hear c.pending w).message ≡ Some m → (hear p w).message ≡ Some m' → unsigned_zero m ≡ unsigned_zero m' → s ≡ s'
  -- "the second answers a Type 3 of minus zero with `N`"
  pub second_declines : (bench maker : List ℤ) (c : Card) (values : List ℤ) (w : ℕ) (out : List ℕ) (s : WordAnswer) (m : Message) → (step_call c bench maker values w out).outcome ≡ gave s → c.setup.revision ≡ 2
      → (hear c.pending w).message ≡ Some m → is_for c.setup m ≡ true → asks_minus_zero m.body ≡ true → DeclinesZero bench maker c values w out s
  -- and only the second, only then, has that cause
  pub minus_zero_only : (bench maker : List ℤ) (c : Card) (values : List ℤ) (w : ℕ) (out : List ℕ) (s : WordAnswer) → (step_call c bench maker values w out).outcome ≡ gave s → s.cause ≡ why_of (Some MinusZero)
      → (c.setup.revision ≡ 2) × ((m : Message) × ((hear c.pending w).message ≡ Some m) × (is_for c.setup m ≡ true) × (asks_minus_zero m.body ≡ true))
  -- both agree on every recording without minus zero, refused or not, and on every such word, its cause too
  pub run_agrees : (bench maker : List ℤ) (c : Card) (values : List ℤ) (ws out : List ℕ) → no_minus_zero (heard_from c.pending ws) ≡ true
      → run_call (revised 2 c) bench maker values ws out ≡ revised_after 2 (run_call (revised 1 c) bench maker values ws out)
  pub word_agrees : (bench maker : List ℤ) (c : Card) (values : List ℤ) (w : ℕ) (out : List ℕ) → no_minus_zero (heard_from c.pending (w ∷ [])) ≡ true
      → step_call (revised 2 c) bench maker values w out ≡ revised_after 2 (step_call (revised 1 c) bench maker values w out)

-- ---- demand 3

-- both zeros with each count of decimals, and two recordings that differ in the signs of zero alone
unfoldable pub zero_forms : List String
zero_forms =
    "L7J#00000*" ∷ "L7J#00001*" ∷ "L7J#00002*" ∷ "L7J#00003*" ∷ "L7J#00005*" ∷ "L7J#00006*" ∷ "L7J#00007*" ∷ "L7J#00008*"
    ∷ "L7J#00006*L7JI*R12m#00000*" ∷ "L7J#00001*L7JI*R12m#00005*" ∷ []

-- a recording that is its own normal form
unfoldable pub is_own_form : String → Bool
is_own_form x = let ws : List ℕ = travelling (chars x) in wrote_these ws (normal_call ws (replicate 99 0))

-- "Heard messages now keep the sign of zero, and the normal form keeps it, so demand 3 has a finer meaning."
pub record ZerosApart : Type 0 where
  -- a Type 3 of minus zero is a message exactly where the same of zero is, and they are two messages
  pub both_messages : (l a i d : ℕ) → is_message (message l a i (Set (minus_zero_with d))) ≡ is_message (message l a i (Set (numeral (with_decimals (pos 0) d))))
  pub zero_too : (m : Message) → is_message m ≡ true → is_message (unsigned_zero m) ≡ true
  pub two_messages : (m : Message) → asks_minus_zero m.body ≡ true → m ≡ unsigned_zero m → ⊥
  -- a recording with the one and a recording with the other in its place have different normal forms
  pub two_forms : (a b out out' xs ys : List ℕ) (before behind : List Message) (m : Message) → Wrote a out xs → Wrote b out' ys → asks_minus_zero m.body ≡ true
      → heard a ≡ before ++ (m ∷ behind) → heard b ≡ before ++ (unsigned_zero m ∷ behind) → xs ≡ ys → ⊥
  -- and two lines in the listing
  pub two_lines : (at : ℕ) (m : Message) → is_message m ≡ true → asks_minus_zero m.body ≡ true → line at m ≡ line at (unsigned_zero m) → ⊥
  -- each of these is its own normal form
  pub own_forms : every is_own_form zero_forms ≡ true

-- ---- all of them

pub record Zeros : Type 0 where
  pub data_exact : DataExact
  pub revisions : Revisions
  pub zeros_apart : ZerosApart
