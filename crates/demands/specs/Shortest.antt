-- Document 02, ticket 7: "Show that no recording with fewer words is heard as the same messages, in the same order." The claims are about the
-- calls `normal_form` and `write`, and what `read` takes as a reply. They are over all lists of numbers, recordings among them: a number above
-- 256 carries no character.
use Rattle.std.specs.Prelude.{◌≡◌, ◌⊎◌, ◌↔◌, Bool, true, cond, ◌&&◌, List, [], ◌∷◌, ◌++◌, map, ℕ, ◌+◌, ◌≤◌, ◌<◌, eqb, length, replicate}
use Prim.Native.Char.{code}
use Prim.Native.String.{String}
use Rattle.refusal.specs.Refusal.{gave}
use Rattle.wire.specs.Text.{chars}
use Rattle.wire.specs.Word.{with_parity, travelling, valid_words}
use Rattle.message.specs.declared.Message.{Message}
use Rattle.message.specs.Spell.{write_call}
use Rattle.hearing.specs.Hearing.{none, open_after, heard}
use Rattle.hearing.specs.Normal.{normal, normal_call}
use Rattle.reply.specs.declared.Answer.{Answer}
use Rattle.reply.specs.Read.{read_call}
use Rattle.demands.specs.Terms.{HasWritten, wrote_these}
use Rattle.demands.specs.Demand3.{Wrote}

-- of all recordings that are heard as these messages xs has the fewest words, and no other has as few
pub record FewestWords (ms : List Message) (xs : List ℕ) : Type 0 where
  pub is_heard : heard xs ≡ ms
  pub same_or_longer : (ys : List ℕ) → heard ys ≡ ms → (ys ≡ xs) ⊎ (length xs < length ys)

pub record Shortest : Type 0 where
  -- no recording with fewer words than the call writes is heard as the same messages, in the same order
  pub none_shorter : (ws out xs ys : List ℕ) → Wrote ws out xs → length ys < length xs → heard ys ≡ heard ws → ⊥
  -- the call writes xs exactly when every word is valid, xs has the fewest words of all that is heard alike, and it fits
  pub exact : (ws out xs : List ℕ) → Wrote ws out xs ↔ ((valid_words ws ≡ true) × FewestWords (heard ws) xs × (length xs ≤ length out))
  -- so room for any recording that is heard alike, ws itself among them, is room for the normal form
  pub room_of_any_alike : (ws ys out : List ℕ) → valid_words ws ≡ true → heard ys ≡ heard ws → length ys ≤ length out → Wrote ws out (normal ws)
  -- no recording with fewer words than the writer writes bytes is heard as its message
  pub none_shorter_for_one : (m : Message) (out xs ys : List ℕ) → HasWritten (write_call m out) xs → length ys < length xs → heard ys ≡ m ∷ [] → ⊥
  -- the writer writes xs exactly when xs has the fewest words of all that is heard as the message, and it fits
  pub exact_for_one : (m : Message) (out xs : List ℕ) → HasWritten (write_call m out) xs ↔ (FewestWords (m ∷ []) xs × (length xs ≤ length out))

-- ---- what is dropped

-- a reply that some card gives, on the line where no message is open, leaves nothing in the normal form, whatever stands around it
pub record RepliesDropped : Type 0 where
  pub dropped : (before bs behind out : List ℕ) (a : Answer) → read_call bs ≡ gave a → open_after none before ≡ none → normal_call (before ++ (bs ++ behind)) out ≡ normal_call (before ++ behind) out

-- a recording, in which `~` is a silence and `_` a byte in bad parity; its normal form; and how many words fewer that has
pub record FormCase : Type 0 where
  pub recording : String
  pub expected : String
  pub fewer : ℕ

unfoldable pub form : String → String → ℕ → FormCase
form r s n = record { recording = r; expected = s; fewer = n }

-- nothing recorded; nothing to drop, one message and two alike; a leading zero, and an address that has none; noise; silences; a silence, a byte
-- in bad parity and an eleventh character that drop a message; messages that are not well formed; replies, that of a scan too; a message left
-- open; messages for other cards and both zeros are kept
unfoldable pub form_cases : List FormCase
unfolding form
form_cases =
    form "" "" 0
    ∷ form "L7M?*" "L7M?*" 0
    ∷ form "L7M?*L7M?*" "L7M?*L7M?*" 0
    ∷ form "L07m#00231*" "L7m#00231*" 1
    ∷ form "L70m#00231*" "L70m#00231*" 0
    ∷ form "x*L7M?*??" "L7M?*" 4
    ∷ form "~L7M?*~~R7M?*~" "L7M?*R7M?*" 4
    ∷ form "L7m#00~L7M?*" "L7M?*" 7
    ∷ form "L7M_*L7M?*" "L7M?*" 5
    ∷ form "L07m#003011*L7M?*" "L7M?*" 12
    ∷ form "L7M!*L0??*L7m#00304*L7M?*" "L7M?*" 20
    ∷ form "L7M?*L7M02311A*L7??*L7?A*" "L7M?*L7??*" 15
    ∷ form "L7]?*L7]250231100156002011234202311A*" "L7]?*" 32
    ∷ form "L7M?*L07m#00" "L7M?*" 7
    ∷ form "L7M?*L8M?*R7M?*" "L7M?*L8M?*R7M?*" 0
    ∷ form "L7m#00001*L7m#00006*" "L7m#00001*L7m#00006*" 0
    ∷ []

-- the words of a recording; 191 has the seven bits of `?`, and an odd number of ones
unfoldable pub words_in : String → List ℕ
words_in s = map (λ (c : ℕ). cond (eqb c (code "~")) 256 (cond (eqb c (code "_")) 191 (with_parity c))) (chars s)

-- the call has room for the normal form and for no more: it is served, and writes that
unfoldable pub passes_form : FormCase → Bool
passes_form x =
    let ws : List ℕ = words_in x.recording in
    let xs : List ℕ = travelling (chars x.expected) in
    eqb (length ws) (length xs + x.fewer) && wrote_these xs (normal_call ws (replicate (length xs) 0))
