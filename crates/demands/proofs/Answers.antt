-- What a sound card says to a word is an answer, and the call writes its spelling, so the reader reads every reply as the answer that
-- the card gave. Assumes nothing.
use mathlib.Core.Path.{◌≡◌, sym, ap, ◌∙◌}
use mathlib.Core.Bool.{true}
use mathlib.Core.List.{List, []}
use Prim.Native.Nat.{ℕ, ◌≤◌}
use lib.IntN.{ℤ}
use lib.ListN.{length, take}
use Rattle.refusal.specs.Refusal.{gave}
use Rattle.refusal.specs.Buffer.{laid}
use Rattle.refusal.proofs.Buffers.{laid_front, laid_nothing}
use Rattle.wire.specs.Word.{travelling}
use Rattle.wire.proofs.Words.{travelling_length}
use Rattle.reply.specs.declared.Answer.{Answer}
use Rattle.reply.specs.Reply.{longest_reply, spell_answer, is_answer}
use Rattle.reply.specs.Read.{read_call}
use Rattle.reply.proofs.Reader.{read_spelled}
use Rattle.card.specs.declared.Card.{Card}
use Rattle.card.specs.Turn.{turn}
use Rattle.card.specs.Calls.{After, WordAnswer, bytes_of, step_call}
use Rattle.card.proofs.Turns.{turn_spells, turn_silent}
use Rattle.card.proofs.Sounds.{said_answer}
use Rattle.demands.specs.Terms.{Sound, said_to}
use Rattle.demands.specs.Demand2.{ReplyRead}
use Rattle.demands.proofs.Words.{taken}
use Rattle.std.specs.Prelude.{None, Some}

module _ (bench maker : List ℤ) (c : Card) (values : List ℤ) (w : ℕ) where
  -- the bytes are the answer's spelling, whatever the card
  pub said_bytes : (a : Answer) → said_to bench maker c values w ≡ Some a → (turn bench maker c values w).reply ≡ travelling (spell_answer a)
  unfolding said_to
  said_bytes = turn_spells bench maker c values w

  said_nothing : said_to bench maker c values w ≡ None → (turn bench maker c values w).reply ≡ []
  unfolding said_to
  said_nothing = turn_silent bench maker c values w

  pub said_is : Sound bench maker c values → (a : Answer) → said_to bench maker c values w ≡ Some a → is_answer a ≡ true
  unfolding said_to
  said_is s = said_answer bench maker c values s.offer_sound s.scan_sound s.values_sound w

  module _ (out : List ℕ) (s : Sound bench maker c values) (v : w ≤ 256) (h : longest_reply ≤ length out) where
    abbrev call : After WordAnswer
    call = step_call c bench maker values w out

    -- the call by its reply
    by_reply : (bs : List ℕ) → (turn bench maker c values w).reply ≡ bs → (bytes_of call.outcome ≡ gave (length bs)) × (call.buffer ≡ laid bs out)
    by_reply bs e =
        let l = taken bench maker c values s w out v h in
        (ap (λ (a : After WordAnswer). bytes_of a.outcome) l ∙ ap (λ (x : List ℕ). gave (length x)) e, ap (λ (a : After WordAnswer). a.buffer) l ∙ ap (λ (x : List ℕ). laid x out) e)

    -- it writes the spelling of what is said
    pub writes_spelling : (a : Answer) → said_to bench maker c values w ≡ Some a
        → (bytes_of call.outcome ≡ gave (length (travelling (spell_answer a)))) × (take (length (travelling (spell_answer a))) call.buffer ≡ travelling (spell_answer a))
    writes_spelling a e =
        let bs = travelling (spell_answer a) in
        let p = by_reply bs (said_bytes a e) in
        (p.0, ap (take (length bs)) p.1 ∙ laid_front bs out)

    pub reply_reads : (a : Answer) → said_to bench maker c values w ≡ Some a → (bytes_of call.outcome ≡ gave (length (spell_answer a))) × (read_call (take (length (spell_answer a)) call.buffer) ≡ gave a)
    reply_reads a e =
        let p = writes_spelling a e in
        let l = travelling_length (spell_answer a) in
        (p.0 ∙ ap gave l, ap (λ (n : ℕ). read_call (take n call.buffer)) (sym l) ∙ ap read_call p.1 ∙ read_spelled a (said_is s a e))

    pub reply_silent : said_to bench maker c values w ≡ None → (bytes_of call.outcome ≡ gave 0) × (call.buffer ≡ out)
    reply_silent e = let p = by_reply [] (said_nothing e) in (p.0, p.1 ∙ laid_nothing out)

pub reply_read : ReplyRead
reply_read = record {
  reads = λ bench maker c values w out a s v h e. reply_reads bench maker c values w out s v h a e;
  silent = λ bench maker c values w out s v h e. reply_silent bench maker c values w out s v h e;
}
