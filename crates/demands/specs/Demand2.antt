-- Demand 2: "For every word received, the reply or silence, the stored values and the card afterwards are those of document 01, taken
-- from the makers' manuals and our bench notes. Every message our writer makes is heard, where none is open, as the one asked for, and
-- our reader reads every reply of the card as the answer it gave." The first sentence is what the contracts of `card::step`, `receive`
-- and `run` say, by equality with `step_call` and `run_call`. The claims here are about those calls, and about the writer's and the reader's.
use Rattle.card.specs.declared.Took.{Took}
use Rattle.std.specs.Prelude.{◌≡◌, ◌↔◌, true, false, ◌&&◌, List, [], ◌∷◌, ◌++◌, ℕ, suc, ◌+◌, ◌≤◌, ◌<◌, ℤ, pos, length, get_or, take, drop}
use Rattle.std.specs.Int.Signed.{le_z}
use Rattle.refusal.specs.Refusal.{Outcome, refused, gave}
use Rattle.wire.specs.Word.{valid_words}
use Rattle.number.specs.declared.Decimal.{Decimal}
use Rattle.number.specs.declared.Numeral.{Numeral}
use Rattle.number.specs.Number.{is_multiple}
use Rattle.message.specs.declared.Body.TheVariants.{Set}
use Rattle.message.specs.declared.Message.{Message}
use Rattle.message.specs.Message.{is_message}
use Rattle.message.specs.Spell.{spell, write_call}
use Rattle.hearing.specs.Hearing.{most, none, hear, open_after, heard}
use Rattle.sheet.specs.declared.Row.{Row}
use Rattle.sheet.specs.Sheet.{sound_sheet}
use Rattle.sheet.specs.Values.{entry_in}
use Rattle.reply.specs.declared.Answer.{Answer}
use Rattle.reply.specs.declared.Mark.TheVariants.{Declined}
use Rattle.reply.specs.declared.Content.TheVariants.{Number}
use Rattle.reply.specs.Reply.{longest_reply, scan_identifier, spell_answer}
use Rattle.reply.specs.Read.{read_call}
use Rattle.act.specs.Cause.{is_for}
use Rattle.act.specs.Act.{no_number, most_named}
use Rattle.card.specs.declared.Card.{Card}
use Rattle.card.specs.Refusals.{sound_offer, no_scan_row}
use Rattle.card.specs.Calls.{After, WordAnswer, bytes_of, step_call, run_call}
use Rattle.demands.specs.Terms.{Sound, said_to}
use Rattle.std.specs.Prelude.{None, Option, Some}
use Rattle.act.specs.Act.{held}
use Rattle.act.specs.declared.Offer.{Offer}

-- ---- the writer and the reader

-- "Every message our writer makes is heard, where none is open, as the one asked for": it is served exactly when it is a message and it
-- fits, and what it wrote is heard as that message and leaves none open
pub record WriterHeard : Type 0 where
  pub served : (m : Message) (out : List ℕ) (n : ℕ) → ((write_call m out).outcome ≡ gave n) ↔ ((is_message m ≡ true) × (n ≡ length (spell m)) × (n ≤ length out))
  pub heard_as_asked : (m : Message) (out : List ℕ) (n : ℕ) → (write_call m out).outcome ≡ gave n → heard (take n (write_call m out).buffer) ≡ m ∷ []
  pub none_open : (m : Message) (out : List ℕ) (n : ℕ) → (write_call m out).outcome ≡ gave n → open_after none (take n (write_call m out).buffer) ≡ none

-- a single word's call, with all that it leaves
module _ (bench maker : List ℤ) (c : Card) (values : List ℤ) (w : ℕ) (out : List ℕ) where
  abbrev pub its : After WordAnswer
  its = step_call c bench maker values w out

-- "our reader reads every reply of the card as the answer it gave"; silence writes nothing
pub record ReplyRead : Type 0 where
  pub reads : (bench maker : List ℤ) (c : Card) (values : List ℤ) (w : ℕ) (out : List ℕ) (a : Answer) → Sound bench maker c values → w ≤ 256 → longest_reply ≤ length out → said_to bench maker c values w ≡ Some a
      → (bytes_of (its bench maker c values w out).outcome ≡ gave (length (spell_answer a))) × (read_call (take (length (spell_answer a)) (its bench maker c values w out).buffer) ≡ gave a)
  pub silent : (bench maker : List ℤ) (c : Card) (values : List ℤ) (w : ℕ) (out : List ℕ) → Sound bench maker c values → w ≤ 256 → longest_reply ≤ length out → said_to bench maker c values w ≡ None
      → (bytes_of (its bench maker c values w out).outcome ≡ gave 0) × ((its bench maker c values w out).buffer ≡ out)

-- a sound card, sheets and values, and a word to which the call replies with these bytes, as this answer
pub record Drawn (bs : List ℕ) (a : Answer) : Type 0 where
  pub bench : List ℤ
  pub maker : List ℤ
  pub card : Card
  pub values : List ℤ
  pub word : ℕ
  pub out : List ℕ
  pub sound : Sound bench maker card values
  -- the open message and the names of the scan have their room, as in every card of the code
  pub room : length card.pending.chars ≡ most
  pub names_room : length card.setup.scan ≡ most_named
  pub valid : word ≤ 256
  pub says : said_to bench maker card values word ≡ Some a
  pub gives : bytes_of (its bench maker card values word out).outcome ≡ gave (length bs)
  pub bytes : take (length bs) (its bench maker card values word out).buffer ≡ bs

-- number 6: the reader takes exactly the bytes that some sound card replies with, and as the answer that it gave
pub record ReaderExact : Type 0 where
  pub exact : (bs : List ℕ) (a : Answer) → (read_call bs ≡ gave a) ↔ Drawn bs a
  -- so a reply on `]` with one number is `00000` with `N`
  pub one_on_scan : (bs : List ℕ) (a : Answer) (x : Decimal) → read_call bs ≡ gave a → a.identifier ≡ scan_identifier → a.content ≡ Number x → (a.mark ≡ Declined) × (Number x ≡ no_number)

-- ---- offers

-- a sound card with nothing on offer, sound values, and a word that closes a Type 3 message for this card and leaves this offer
pub record LeftBy (bench maker : List ℤ) (o : Option Offer) : Type 0 where
  pub card : Card
  pub values : List ℤ
  pub word : ℕ
  pub out : List ℕ
  pub message : Message
  pub number : Numeral
  pub bytes : ℕ
  pub sound : Sound bench maker card values
  -- as in Drawn
  pub room : length card.pending.chars ≡ most
  pub names_room : length card.setup.scan ≡ most_named
  pub nothing_before : card.offer ≡ None
  pub closes : (hear card.pending word).message ≡ Some message
  pub is_ours : is_for card.setup message ≡ true
  pub is_type_3 : message.body ≡ Set number
  pub gives : bytes_of (its bench maker card values word out).outcome ≡ gave bytes
  pub leaves : (its bench maker card values word out).card.offer ≡ o

-- number 1: under sound sheets without a row for `]` an offer is sound exactly when a Type 3 can leave it; with such a row no card is sound
pub record OfferReachable : Type 0 where
  pub reachable : (bench maker : List ℤ) → (sound_sheet bench && sound_sheet maker) ≡ true → no_scan_row bench maker ≡ true → (i : ℕ) (z : ℤ) → (sound_offer bench maker (held i z) ≡ true) ↔ LeftBy bench maker (held i z)
  pub no_card : (bench maker : List ℤ) → no_scan_row bench maker ≡ false → (c : Card) (values : List ℤ) → Sound bench maker c values → ⊥

-- what is offered for a number n is a multiple of the row's step, not above n, and no multiple lies between
pub record NotAbove (n z : ℤ) (r : Row) : Type 0 where
  pub multiple : is_multiple z r.step ≡ true
  pub not_above : le_z z n ≡ true
  pub none_between : (y : ℤ) → is_multiple y r.step ≡ true → le_z y n ≡ true → le_z y z ≡ true

-- for a message for this card; one for another leaves the offer that was there, whatever its number
pub record NeverUp : Type 0 where
  pub never_up : (bench maker : List ℤ) (c : Card) (values : List ℤ) (w : ℕ) (out : List ℕ) (k : ℕ) (m : Message) (x : Numeral) (z : ℤ) (r : Row) → bytes_of (its bench maker c values w out).outcome ≡ gave k
      → (hear c.pending w).message ≡ Some m → is_for c.setup m ≡ true → m.body ≡ Set x → entry_in bench maker m.identifier ≡ Some r → (its bench maker c values w out).card.offer ≡ held m.identifier z → NotAbove x.number z r

-- ---- words

-- a word leaves a sound card with sound values sound, and every place without a row as it was
pub record StaysSound : Type 0 where
  pub stays : (bench maker : List ℤ) (c : Card) (values : List ℤ) (w : ℕ) (out : List ℕ) → Sound bench maker c values → Sound bench maker (its bench maker c values w out).card (its bench maker c values w out).values
  pub untouched : (bench maker : List ℤ) (c : Card) (values : List ℤ) (w : ℕ) (out : List ℕ) (i : ℕ) → Sound bench maker c values → entry_in bench maker i ≡ None → get_or (its bench maker c values w out).values i (pos 0) ≡ get_or values i (pos 0)

-- one word and so many bytes more than a run took
abbrev pub one_more : ℕ → Outcome Took → Outcome Took
one_more n (refused k) = refused k
one_more n (gave t) = gave (record { words = suc t.words; bytes = n + t.bytes })

-- a run that takes no word
abbrev pub takes_none : Card → List ℤ → List ℕ → After Took
takes_none c values out = record { card = c; outcome = gave (record { words = 0; bytes = 0 }); values = values; buffer = out }

-- document 01: "A run takes words until all are taken or the next word's reply no longer fits": a run is the single word's call, with room
-- for any reply, and then the run of the other words from what that call left, in what is left of the buffer
pub record RunSteps : Type 0 where
  pub ends : (bench maker : List ℤ) (c : Card) (values : List ℤ) (out : List ℕ) → Sound bench maker c values → run_call c bench maker values [] out ≡ takes_none c values out
  pub takes : (bench maker : List ℤ) (c : Card) (values : List ℤ) (w : ℕ) (ws out room : List ℕ) (n : ℕ) → Sound bench maker c values → valid_words (w ∷ ws) ≡ true → bytes_of (its bench maker c values w room).outcome ≡ gave n → n ≤ length out
      → let s : After WordAnswer = its bench maker c values w room in
      let r : After Took = run_call s.card bench maker s.values ws (drop n out) in
      run_call c bench maker values (w ∷ ws) out ≡ record { card = r.card; outcome = one_more n r.outcome; values = r.values; buffer = take n s.buffer ++ r.buffer }
  pub stops : (bench maker : List ℤ) (c : Card) (values : List ℤ) (w : ℕ) (ws out room : List ℕ) (n : ℕ) → Sound bench maker c values → valid_words (w ∷ ws) ≡ true → bytes_of (its bench maker c values w room).outcome ≡ gave n → length out < n
      → run_call c bench maker values (w ∷ ws) out ≡ takes_none c values out

-- all of them
pub record Demand2 : Type 0 where
  pub writer_heard : WriterHeard
  pub reply_read : ReplyRead
  pub reader_exact : ReaderExact
  pub offer_reachable : OfferReachable
  pub never_up : NeverUp
  pub stays_sound : StaysSound
  pub run_steps : RunSteps
