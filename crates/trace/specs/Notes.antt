-- What is noted of a word that closes a message, and of words taken in order.
use Rattle.std.specs.Prelude.{cond, List, [], ◌∷◌, ◌++◌, ℕ, suc, ℤ, length}
use Rattle.hearing.specs.Hearing.{action_of, closes}
use Rattle.act.specs.Cause.{Why}
use Rattle.card.specs.Run.{Reaction}
use Rattle.card.specs.Cause.{why_to}
use Rattle.card.specs.Turn.{turn, Instrument, hears}

-- what is noted of a closed message: the place of the word that has closed it, from 0; its characters before the `*`; how many bytes were
-- replied, 0 for silence; and why it was `N` or silence
pub record Note : Type 0 where
  pub at : ℕ
  pub characters : ℕ
  pub bytes : ℕ
  pub cause : Why

-- the five numbers of a note
abbrev pub five_of : Note → List ℕ
five_of n = n.at ∷ n.characters ∷ n.bytes ∷ n.cause.code ∷ n.cause.position ∷ []

-- of all of them, in order
unfoldable pub fives_of : List Note → List ℕ
fives_of [] = []
fives_of (n ∷ ns) = five_of n ++ fives_of ns

-- of the word w at the place k: a note where it closes a message, with the cause that its single call would give. Document 02, ticket 4:
-- "the answer for a single word gives the first beside the reply"
unfoldable pub note_to : List ℤ → List ℤ → Instrument → ℕ → ℕ → List Note
note_to bench maker i k w =
    cond (closes (action_of i.card.pending w))
    (record {
      at = k;
      characters = i.card.pending.len;
      bytes = length (turn bench maker i.card i.values w).reply;
      cause = why_to bench maker i.card i.values w;
    } ∷ [])
    []

-- of words taken in order by whatever takes them, the first of them at the place k: S is where that stands, and g is what is noted of a word
unfoldable pub noting : {S : Type 0} → (S → ℕ → Reaction S) → (S → ℕ → ℕ → List Note) → S → ℕ → List ℕ → List Note
noting f g s k [] = []
noting f g s k (w ∷ ws) = g s k w ++ noting f g (f s w).state (suc k) ws

-- by an instrument
abbrev pub notes_of : List ℤ → List ℤ → Instrument → ℕ → List ℕ → List Note
notes_of bench maker i k ws = noting (hears bench maker) (note_to bench maker) i k ws
