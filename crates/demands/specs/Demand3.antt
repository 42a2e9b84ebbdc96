-- Demand 3: "Each recording of words up to 256 has the normal form that document 01 spells, whether or not messages in it are dropped,
-- unheard or left open. Wherever the normal forms fit the room lent for them, the following holds." The claim is about the calls
-- `normal_form` and `run`, rooms included, over whole recordings: a call that always refused would not meet it.
use Rattle.std.specs.Prelude.{◌≡◌, ◌↔◌, true, List, ℕ, ◌≤◌, ℤ, length, take, drop}
use Rattle.refusal.specs.Refusal.{gave}
use Rattle.wire.specs.Word.{valid_words}
use Rattle.hearing.specs.Hearing.{heard}
use Rattle.hearing.specs.Normal.{normal, normal_call}
use Rattle.card.specs.declared.Card.{Card}
use Rattle.card.specs.Calls.{run_call}
use Rattle.demands.specs.Terms.{Sound, HasWritten, replies}

-- the call is served on the recording ws with the buffer out, and the words that it wrote there are xs
abbrev pub Wrote : List ℕ → List ℕ → List ℕ → Type 0
Wrote ws out xs = HasWritten (normal_call ws out) xs

-- two runs, of the words ws and of the words xs, each with "a buffer at least as long as all the replies together"
pub record PlayedAlike (bench maker : List ℤ) (c : Card) (values : List ℤ) (ws xs out out' : List ℕ) : Type 0 where
  -- each takes every word, and writes all its replies
  pub takes_all : (run_call c bench maker values ws out).outcome ≡ gave (record { words = length ws; bytes = length (replies bench maker c values ws) })
  pub other_takes_all : (run_call c bench maker values xs out').outcome ≡ gave (record { words = length xs; bytes = length (replies bench maker c values ws) })
  -- "Both draw the same reply bytes, in the same order, and the values and offer after the one equal those after the other."
  pub same_replies : take (length (replies bench maker c values ws)) (run_call c bench maker values ws out).buffer ≡ take (length (replies bench maker c values ws)) (run_call c bench maker values xs out').buffer
  pub same_values : (run_call c bench maker values ws out).values ≡ (run_call c bench maker values xs out').values
  pub same_offer : (run_call c bench maker values ws out).card.offer ≡ (run_call c bench maker values xs out').card.offer

pub record Demand3 : Type 0 where
  -- the call is served exactly when every word is valid and the normal form fits; what it writes is the normal form
  pub served : (ws out xs : List ℕ) → Wrote ws out xs ↔ ((valid_words ws ≡ true) × (xs ≡ normal ws) × (length xs ≤ length out))
  pub behind : (ws out xs : List ℕ) → Wrote ws out xs → drop (length xs) (normal_call ws out).buffer ≡ drop (length xs) out
  -- "Two recordings have the same normal form exactly when document 01 hears the same messages in them, in the same order."
  pub same : (a b out out' xs ys : List ℕ) → Wrote a out xs → Wrote b out' ys → (xs ≡ ys) ↔ (heard a ≡ heard b)
  -- "Every normal form is itself heard as its recording's messages, and is its own normal form."
  pub heard_alike : (ws out xs : List ℕ) → Wrote ws out xs → heard xs ≡ heard ws
  pub own_normal_form : (ws out out' xs : List ℕ) → Wrote ws out xs → length xs ≤ length out' → Wrote xs out' xs
  -- "Take any such recording, any sound card with no message open, and any sound sheets and values. Play the recording and, from the same
  -- start, its normal form, each with room for every reply."
  pub played_alike : (ws out xs : List ℕ) → Wrote ws out xs → (bench maker : List ℤ) (c : Card) (values : List ℤ) (a b : List ℕ) → Sound bench maker c values → c.pending.len ≡ 0
      → length (replies bench maker c values ws) ≤ length a → length (replies bench maker c values xs) ≤ length b → PlayedAlike bench maker c values ws xs a b
