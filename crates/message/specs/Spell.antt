-- Spelling a message: one-digit addresses under 10, canonical data with the sign of zero, and `*` behind it; and the call that writes it.
use Rattle.std.specs.Prelude.{cond, not, List, [], ◌∷◌, ◌++◌, ℕ, ◌/◌, ◌%◌, leb}
use Prim.Native.Char.{code}
use Rattle.refusal.specs.Check.{refuse_if}
use Rattle.refusal.specs.Call.{Call, writes}
use Rattle.refusal.specs.declared.Refusal.TheVariants.{NotMessage}
use Rattle.wire.specs.Word.{travelling}
use Rattle.number.specs.Data.{digit, spell_numeral}
use Rattle.message.specs.declared.Body.{Body}
use Rattle.message.specs.declared.Body.TheVariants.{Status, Query, Up, Down, Set, Store}
use Rattle.message.specs.declared.Kind.{Kind}
use Rattle.message.specs.declared.Kind.TheVariants.{Sign, Data}
use Rattle.message.specs.declared.Message.{Message}
use Rattle.message.specs.Message.{star, question, is_message}

-- document 01: "one-digit addresses under 10"
unfoldable pub spell_address : ℕ → List ℕ
spell_address a = cond (leb a 9) (digit a ∷ []) (digit (a / 10) ∷ digit (a % 10) ∷ [])

-- the table of types: a body's one character, or the number behind its `#`
unfoldable pub kind_of : Body → Kind
kind_of Status = Sign question
kind_of Query = Sign question
kind_of Up = Sign (code "+")
kind_of Down = Sign (code "-")
kind_of (Set x) = Data x
kind_of Store = Sign (code "I")

unfoldable pub spell_kind : Kind → List ℕ
spell_kind (Sign c) = c ∷ []
spell_kind (Data x) = code "#" ∷ spell_numeral x

abbrev pub spell_body : Body → List ℕ
spell_body b = spell_kind (kind_of b)

-- the characters before the `*`
unfoldable pub spell_open : Message → List ℕ
spell_open m = m.letter ∷ (spell_address m.address ++ (m.identifier ∷ spell_body m.body))

-- and with it
unfoldable pub spell : Message → List ℕ
spell m = spell_open m ++ (star ∷ [])

-- document 01: "For the writer .. 7 comes before 5"
unfoldable pub write_call : Message → List ℕ → Call
write_call m out = writes (refuse_if (not (is_message m)) NotMessage ∷ []) (travelling (spell m)) out
