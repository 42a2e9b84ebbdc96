-- The normal form: it is heard as its recording, it is its own normal form, it is a recording, and it tells recordings apart exactly by
-- what is heard in them. Each for whole lists of words, whatever the words. Assumes nothing.
use mathlib.Core.Path.{◌≡◌, refl, sym, ap, ap₂, ◌∙◌}
use mathlib.Core.Logic.{◌↔◌}
use mathlib.Core.Bool.{Bool, true, false, not}
use mathlib.Core.List.{List, [], ◌∷◌, ◌++◌, append-nil}
use Prim.Native.Nat.{ℕ, ◌<◌, ◌≤◌}
use borrow.Author.Tests.{not-false}
use lib.ListN.{length, take}
use Rattle.refusal.specs.Refusal.{gave}
use Rattle.refusal.specs.Buffer.{laid}
use Rattle.refusal.specs.Check.{Check, refuse_if, first, Passed, next}
use Rattle.refusal.specs.Call.{Call, refuses, writes}
use Rattle.refusal.specs.declared.Refusal.{Refusal}
use Rattle.refusal.specs.declared.Refusal.TheVariants.{WordAbove256}
use Rattle.refusal.proofs.Logic.{is_not, by-test}
use Rattle.refusal.proofs.Checks.{first_holds, first_passes, first_none, first_passed, refused_gave}
use Rattle.refusal.proofs.Calls.{writes_refused, writes_all, writes_none, gave_served}
use Rattle.wire.specs.Word.{travelling, valid_words}
use Rattle.wire.proofs.Words.{no_words_valid, append_valid, travelling_valid}
use Rattle.message.specs.declared.Message.{Message}
use Rattle.message.specs.Message.{is_message}
use Rattle.message.specs.Spell.{spell, write_call}
use Rattle.message.proofs.Spelling.{write_refused, write_served}
use Rattle.hearing.specs.Hearing.{none, heard_from, open_after, heard}
use Rattle.hearing.specs.Normal.{words_of, normal, normal_call}
use Rattle.hearing.proofs.Heard.{Messages, heard_messages, spelled}

-- ---- messages one after the other

pub heard_words : (ms : List Message) → Messages ms → heard (words_of ms) ≡ ms
unfolding heard words_of heard_from
heard_words [] h = refl
heard_words (m ∷ ms) h = (spelled m (words_of ms) h.0).hears ∙ ap (λ (l : List Message). m ∷ l) (heard_words ms h.1)

open_words : (ms : List Message) → Messages ms → open_after none (words_of ms) ≡ none
unfolding words_of open_after
open_words [] h = refl
open_words (m ∷ ms) h = (spelled m (words_of ms) h.0).opens ∙ open_words ms h.1

-- of one message, as the writer spells it
pub one_message : (m : Message) → words_of (m ∷ []) ≡ travelling (spell m)
unfolding words_of
one_message m = append-nil (travelling (spell m))

-- ---- the normal form

pub normal_words : (ws : List ℕ) → normal ws ≡ words_of (heard ws)
unfolding normal
normal_words ws = refl

pub heard_normal : (ws : List ℕ) → heard (normal ws) ≡ heard ws
unfolding normal heard
heard_normal ws = heard_words (heard_from none ws) (heard_messages none ws)

-- it leaves no message open
pub open_normal : (ws : List ℕ) → open_after none (normal ws) ≡ none
unfolding normal heard
open_normal ws = open_words (heard_from none ws) (heard_messages none ws)

pub normal_normal : (ws : List ℕ) → normal (normal ws) ≡ normal ws
unfolding normal
normal_normal ws = ap words_of (heard_normal ws)

pub normal_same : (a b : List ℕ) → (normal a ≡ normal b) ↔ (heard a ≡ heard b)
unfolding normal
normal_same a b = (λ e. sym (heard_normal a) ∙ ap heard e ∙ heard_normal b, λ e. ap words_of e)

-- it is a recording
pub words_valid : (ms : List Message) → valid_words (words_of ms) ≡ true
unfolding words_of
words_valid [] = no_words_valid
words_valid (m ∷ ms) = append_valid (travelling (spell m)) (words_of ms) (travelling_valid (spell m)) (words_valid ms)

pub normal_valid : (ws : List ℕ) → valid_words (normal ws) ≡ true
unfolding normal
normal_valid ws = words_valid (heard ws)

-- ---- a call that writes xs where one test holds and there is room

holds_passes : (b : Bool) (r : Refusal) → b ≡ true → first (refuse_if (not b) r ∷ []) ≡ gave tt
holds_passes b r e = first_passes (refuse_if (not b) r) [] (rw e) ∙ first_none

passed_holds : (b : Bool) (r : Refusal) → first (refuse_if (not b) r ∷ []) ≡ gave tt → b ≡ true
passed_holds b r e = go (first_passed (refuse_if (not b) r ∷ []) e)
  where
    go : Passed (refuse_if (not b) r ∷ []) → b ≡ true
    go (next t p) = not-false b t

-- it gave n: the test holds, and the n at the front of the buffer are xs
pub record Wrote (test : Bool) (xs out : List ℕ) (call : Call) (n : ℕ) : Type 0 where
  pub valid : test ≡ true
  pub room : length xs ≤ length out
  pub count : n ≡ length xs
  pub front : take n call.buffer ≡ xs

-- ---- the call that writes a normal form

module _ (ws out : List ℕ) where
  abbrev test_words : Check
  test_words = refuse_if (not (valid_words ws)) WordAbove256

  pub normal_is : normal_call ws out ≡ writes (test_words ∷ []) (normal ws) out
  unfolding normal_call
  normal_is = refl

  pub normal_refused : valid_words ws ≡ false → normal_call ws out ≡ refuses out 4
  unfolding normal_call
  normal_refused e = writes_refused (normal ws) out (test_words ∷ []) 4 (first_holds test_words [] (is_not e))

  module _ (e : valid_words ws ≡ true) where
    pub normal_unfit : length out < length (normal ws) → normal_call ws out ≡ refuses out 5
    unfolding normal_call
    normal_unfit h = writes_none (normal ws) out (test_words ∷ []) (holds_passes (valid_words ws) WordAbove256 e) h

    pub normal_served : length (normal ws) ≤ length out → normal_call ws out ≡ record { outcome = gave (length (normal ws)); buffer = laid (normal ws) out }
    unfolding normal_call
    normal_served h = writes_all (normal ws) out (test_words ∷ []) (holds_passes (valid_words ws) WordAbove256 e) h

  pub wrote_normal : (n : ℕ) → (normal_call ws out).outcome ≡ gave n → Wrote (valid_words ws) (normal ws) out (normal_call ws out) n
  unfolding normal_call
  wrote_normal n e =
      let s = gave_served (normal ws) out (test_words ∷ []) n e in
      record { valid = passed_holds (valid_words ws) WordAbove256 s.passed; room = s.room; count = s.count; front = s.front }

  pub normal_written : (n : ℕ) → (normal_call ws out).outcome ≡ gave n → take n (normal_call ws out).buffer ≡ normal ws
  normal_written n e = (wrote_normal n e).front

-- two recordings that are valid alike and heard alike
pub normal_alike : (a b out : List ℕ) → valid_words a ≡ valid_words b → heard a ≡ heard b → normal_call a out ≡ normal_call b out
normal_alike a b out v h =
    normal_is a out ∙ ap₂ (λ (x : Bool) (xs : List ℕ). writes (refuse_if (not x) WordAbove256 ∷ []) xs out) v ((normal_same a b).1 h) ∙ sym (normal_is b out)

-- ---- the writer

pub wrote_message : (m : Message) (out : List ℕ) (n : ℕ) → (write_call m out).outcome ≡ gave n → Wrote (is_message m) (travelling (spell m)) out (write_call m out) n
wrote_message m out n e =
    by-test (is_message m)
    (λ t.
    let w = write_served m out t in
    let s = gave_served (travelling (spell m)) out [] n (sym (ap (λ (c : Call). c.outcome) w) ∙ e) in
    record { valid = t; room = s.room; count = s.count; front = ap (λ (c : Call). take n c.buffer) w ∙ s.front })
    (λ t. absurd (refused_gave (sym (ap (λ (c : Call). c.outcome) (write_refused m out t)) ∙ e)))

-- every message that the writer accepts is heard as itself, from no open message, and leaves none open
pub writer_heard : (m : Message) (out : List ℕ) (n : ℕ) → (write_call m out).outcome ≡ gave n
    → (heard (take n (write_call m out).buffer) ≡ m ∷ []) × (open_after none (take n (write_call m out).buffer) ≡ none)
unfolding heard heard_from open_after
writer_heard m out n e =
    let g = wrote_message m out n e in
    let s = spelled m [] g.valid in
    let w : take n (write_call m out).buffer ≡ travelling (spell m) ++ [] = g.front ∙ sym (append-nil (travelling (spell m))) in
    (ap (heard_from none) w ∙ s.hears, ap (open_after none) w ∙ s.opens)

-- and what is heard is always a message that the writer accepts, given room
pub heard_written : (ws : List ℕ) → Messages (heard ws)
unfolding heard
heard_written ws = heard_messages none ws
