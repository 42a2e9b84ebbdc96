-- The normal form of a recording, and the call that writes it.
use Rattle.std.specs.Prelude.{not, List, [], ◌∷◌, ◌++◌, ℕ}
use Rattle.refusal.specs.Check.{refuse_if}
use Rattle.refusal.specs.Call.{Call, writes}
use Rattle.refusal.specs.declared.Refusal.TheVariants.{WordAbove256}
use Rattle.wire.specs.Word.{travelling, valid_words}
use Rattle.message.specs.declared.Message.{Message}
use Rattle.message.specs.Spell.{spell}
use Rattle.hearing.specs.Hearing.{heard}

-- document 01: "The heard messages, in order, each with one-digit addresses under 10, canonical data as replies use it, nothing
-- between."; document 02, ticket 5: "Heard messages now keep the sign of zero, and the normal form keeps it". Words below 256 are the bytes.
unfoldable pub words_of : List Message → List ℕ
words_of [] = []
words_of (m ∷ ms) = travelling (spell m) ++ words_of ms

unfoldable pub normal : List ℕ → List ℕ
normal ws = words_of (heard ws)

-- number 4 before number 5
unfoldable pub normal_call : List ℕ → List ℕ → Call
normal_call ws out = writes (refuse_if (not (valid_words ws)) WordAbove256 ∷ []) (normal ws) out
