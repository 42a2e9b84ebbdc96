-- Demand 2, the claims on single words and on the writer: what the writer makes is heard, and a run is its words one after the other.
-- Assumes nothing.
use Rattle.card.specs.declared.Took.{Took}
use mathlib.Core.Path.{◌≡◌, refl, sym, ap, ◌∙◌, subst}
use mathlib.Core.Bool.{true}
use mathlib.Core.List.{List, [], ◌∷◌, ◌++◌}
use Prim.Native.Nat.{ℕ, suc, ◌-◌, ◌<◌, ◌≤◌}
use native.Mathlib.Omega.{arith}
use borrow.Author.Tests.{le-leb, lt-leb}
use lib.IntN.{ℤ}
use lib.ListN.{length, take, drop, length-append, length-drop}
use Rattle.refusal.specs.Refusal.{gave}
use Rattle.refusal.specs.Buffer.{laid}
use Rattle.refusal.specs.Check.{first}
use Rattle.refusal.specs.Call.{Call}
use Rattle.refusal.proofs.Buffers.{laid_front, laid_nothing, laid_both}
use Rattle.refusal.proofs.Checks.{gave_is, first_none}
use Rattle.refusal.proofs.Calls.{writes_all}
use Rattle.wire.specs.Word.{travelling, valid_words}
use Rattle.wire.proofs.Words.{travelling_length, no_words_valid, word_valid, valid_first}
use Rattle.message.specs.declared.Message.{Message}
use Rattle.message.specs.Message.{is_message}
use Rattle.message.specs.Spell.{spell, write_call}
use Rattle.message.proofs.Spelling.{write_served}
use Rattle.hearing.proofs.Normal.{wrote_message, writer_heard}
use Rattle.reply.specs.Reply.{longest_reply}
use Rattle.card.specs.declared.Card.{Card}
use Rattle.card.specs.Run.{Played, stopped, after}
use Rattle.card.specs.Turn.{Turn, turn, stored, Instrument, hears, play}
use Rattle.card.specs.Refusals.{card_checks}
use Rattle.card.specs.Cause.{why_to}
use Rattle.card.specs.Calls.{After, WordAnswer, bytes_of, answered, step_call, ended, run_call}
use Rattle.card.proofs.Turns.{turn_card}
use Rattle.card.proofs.Steps.{all_sound, step_served, served_step, run_served}
use Rattle.card.proofs.Sounds.{card_stays, offer_stays, values_stay}
use Rattle.card.proofs.Runs.{play_end, play_word}
use Rattle.demands.specs.Terms.{Sound}
use Rattle.demands.specs.Demand2.{WriterHeard, one_more, takes_none, RunSteps}

-- ---- the writer

-- a message that fits is written
pub message_leaves : (m : Message) (out : List ℕ) → is_message m ≡ true → length (travelling (spell m)) ≤ length out
    → write_call m out ≡ record { outcome = gave (length (travelling (spell m))); buffer = laid (travelling (spell m)) out }
message_leaves m out e h = write_served m out e ∙ writes_all (travelling (spell m)) out [] first_none h

writes_message : (m : Message) (out : List ℕ) (n : ℕ) → is_message m ≡ true → n ≡ length (spell m) → n ≤ length out → (write_call m out).outcome ≡ gave n
writes_message m out n e k h =
    let l = travelling_length (spell m) in
    ap (λ (c : Call). c.outcome) (message_leaves m out e (omega arith)) ∙ ap gave (l ∙ sym k)

pub writers_heard : WriterHeard
writers_heard = record {
  served = λ m out n. (
    λ e. let w = wrote_message m out n e in let k = w.count ∙ travelling_length (spell m) in (w.valid, k, rw w.count w.room),
    λ p. writes_message m out n p.0 p.1 p.2,
  );
  heard_as_asked = λ m out n e. (writer_heard m out n e).0;
  none_open = λ m out n e. (writer_heard m out n e).1;
}

-- ---- words

module _ (bench maker : List ℤ) (c : Card) (values : List ℤ) (s : Sound bench maker c values) where
  pub passed : (ws : List ℕ) → valid_words ws ≡ true → first (card_checks c bench maker values ws) ≡ gave tt
  passed ws v = all_sound c bench maker values ws s.card_sound s.sheets_sound s.offer_sound s.scan_sound s.values_sound v

  -- a single word that is served
  pub taken : (w : ℕ) (out : List ℕ) → w ≤ 256 → longest_reply ≤ length out → step_call c bench maker values w out ≡ answered (turn bench maker c values w) (why_to bench maker c values w) values out
  taken w out v h = step_served c bench maker values w out (passed (w ∷ []) (word_valid w v)) h

  -- what it leaves is sound
  pub left : (w : ℕ) → Sound bench maker (turn bench maker c values w).card (stored values (turn bench maker c values w).store)
  left w = record {
    card_sound = card_stays bench maker c values w s.card_sound;
    sheets_sound = s.sheets_sound;
    offer_sound = offer_stays bench maker c values s.offer_sound w;
    scan_sound = rw (turn_card bench maker c values w) s.scan_sound;
    values_sound = values_stay bench maker c values s.offer_sound s.scan_sound s.values_sound w;
  }

  ran : (ws out : List ℕ) → valid_words ws ≡ true → run_call c bench maker values ws out ≡ ended (play bench maker c values (length out) ws) out
  ran ws out v = run_served c bench maker values ws out (passed ws v)

  abbrev start : Instrument
  start = record { card = c; values = values }

  none_taken : (out : List ℕ) → ended (stopped start) out ≡ takes_none c values out
  none_taken out = λ j. record { card = c; outcome = gave (record { words = 0; bytes = 0 }); values = values; buffer = laid_nothing out j }

  run_ends : (out : List ℕ) → run_call c bench maker values [] out ≡ takes_none c values out
  run_ends out = ran [] out no_words_valid ∙ ap (λ (p : Played Instrument). ended p out) (play_end (hears bench maker) start (length out)) ∙ none_taken out

-- a play behind one word's reply
module _ (bs : List ℕ) (p : Played Instrument) (out : List ℕ) where
  abbrev behind : After Took → After Took
  behind r = record { card = r.card; outcome = one_more (length bs) r.outcome; values = r.values; buffer = bs ++ r.buffer }

  one-more : ended (after bs p) out ≡ behind (ended p (drop (length bs) out))
  one-more = λ j. record {
    card = p.state.card;
    outcome = gave (record { words = suc p.taken; bytes = length-append bs p.bytes j });
    values = p.state.values;
    buffer = laid_both bs p.bytes out j;
  }

module _ (bench maker : List ℤ) (c : Card) (values : List ℤ) (w : ℕ) (ws out : List ℕ) (s : Sound bench maker c values) (v : valid_words (w ∷ ws) ≡ true) where
  abbrev t : Turn
  t = turn bench maker c values w

  abbrev rest : After Took
  rest = run_call t.card bench maker (stored values t.store) ws (drop (length t.reply) out)

  run_takes : length t.reply ≤ length out → run_call c bench maker values (w ∷ ws) out ≡ behind t.reply (stopped (start bench maker c values s)) out rest
  run_takes h =
      let n = length t.reply in
      let p : ℕ → Played Instrument = λ room. play bench maker t.card (stored values t.store) room ws in
      ran bench maker c values s (w ∷ ws) out v
      ∙ ap (λ (q : Played Instrument). ended q out) (play_word (hears bench maker) (start bench maker c values s) (length out) w ws ∙ rw (le-leb n (length out) h) refl)
      ∙ one-more t.reply (p (length out - n)) out
      ∙ ap (λ (k : ℕ). behind t.reply (stopped (start bench maker c values s)) out (ended (p k) (drop n out))) (sym (length-drop n out))
      ∙ ap (behind t.reply (stopped (start bench maker c values s)) out) (sym (ran bench maker t.card (stored values t.store) (left bench maker c values s w) ws (drop n out) (valid_first w ws v).1))

  run_stops : length out < length t.reply → run_call c bench maker values (w ∷ ws) out ≡ takes_none c values out
  run_stops h =
      ran bench maker c values s (w ∷ ws) out v
      ∙ ap (λ (q : Played Instrument). ended q out) (play_word (hears bench maker) (start bench maker c values s) (length out) w ws ∙ rw (lt-leb (length t.reply) (length out) h) refl)
      ∙ none_taken bench maker c values s out

  -- what the single word's call has left, in place of the turn
  module _ (room : List ℕ) (n : ℕ) (e : bytes_of (step_call c bench maker values w room).outcome ≡ gave n) where
    abbrev Takes : After WordAnswer → Type 0
    Takes a =
        bytes_of a.outcome ≡ gave n → n ≤ length out
        → let r : After Took = run_call a.card bench maker a.values ws (drop n out) in
        run_call c bench maker values (w ∷ ws) out ≡ record { card = r.card; outcome = one_more n r.outcome; values = r.values; buffer = take n a.buffer ++ r.buffer }

    by_turn : Takes (answered t (why_to bench maker c values w) values room)
    by_turn g =
        subst (λ (k : ℕ). k ≤ length out → run_call c bench maker values (w ∷ ws) out
        ≡ let r : After Took = run_call t.card bench maker (stored values t.store) ws (drop k out) in
        record { card = r.card; outcome = one_more k r.outcome; values = r.values; buffer = take k (laid t.reply room) ++ r.buffer })
        (gave_is g)
        (λ h. run_takes h ∙ (λ j. record { card = rest.card; outcome = one_more (length t.reply) rest.outcome; values = rest.values; buffer = sym (laid_front t.reply room) j ++ rest.buffer }))

    pub word_takes : Takes (step_call c bench maker values w room)
    word_takes = subst Takes (sym (served_step c bench maker values w room n e).leaves) by_turn

    pub word_stops : length out < n → run_call c bench maker values (w ∷ ws) out ≡ takes_none c values out
    word_stops h =
        let k = gave_is (sym (ap (λ (a : After WordAnswer). bytes_of a.outcome) (served_step c bench maker values w room n e).leaves) ∙ e) in
        run_stops (omega arith)

pub run_steps : RunSteps
run_steps = record {
  ends = λ bench maker c values out s. run_ends bench maker c values s out;
  takes = λ bench maker c values w ws out room n s v e h. word_takes bench maker c values w ws out s v room n e e h;
  stops = λ bench maker c values w ws out room n s v e h. word_stops bench maker c values w ws out s v room n e h;
}
