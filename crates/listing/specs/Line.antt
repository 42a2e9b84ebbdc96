-- The line of a message, and the call that writes it. Plain ASCII, no parity.
use Rattle.std.specs.Prelude.{ℕ, zero, suc, ◌/◌, ◌%◌, cond, not, List, [], ◌∷◌, ◌++◌, nat_lt}
use Prim.Native.Char.{code}
use Rattle.refusal.specs.Check.{refuse_if}
use Rattle.refusal.specs.Call.{Call, writes}
use Rattle.refusal.specs.declared.Refusal.TheVariants.{NotMessage}
use Rattle.wire.specs.Text.{chars}
use Rattle.number.specs.Data.{digit, spell_numeral}
use Rattle.message.specs.declared.Kind.{Kind}
use Rattle.message.specs.declared.Kind.TheVariants.{Sign, Data}
use Rattle.message.specs.declared.Message.{Message}
use Rattle.message.specs.Message.{is_message}
use Rattle.message.specs.Spell.{spell_address, kind_of}

-- the decimal digits of n without leading zeros, by at most k divisions
unfoldable pub decimal_in : ℕ → ℕ → List ℕ
decimal_in zero n = digit n ∷ []
decimal_in (suc k) n = cond (nat_lt n 10) (digit n ∷ []) (decimal_in k (n / 10) ++ (digit (n % 10) ∷ []))

-- the decimal digits of n without leading zeros; 0 is `0`. No number needs as many divisions as itself.
unfoldable pub decimal : ℕ → List ℕ
decimal n = decimal_in n n

-- document 01: "body sign, data or `-`, spelled as in the normal form"
unfoldable pub kind_and_data : Kind → List ℕ
kind_and_data (Sign c) = c ∷ chars " -"
kind_and_data (Data x) = chars "# " ++ spell_numeral x

-- document 01: "position of its `*` counted from 0, letter and address, identifier, body sign, data or `-`"; "Every line ends with
-- one line feed."
unfoldable pub line : ℕ → Message → List ℕ
line at m =
    decimal at
    ++ (code " " ∷ m.letter ∷ (spell_address m.address ++ (code " " ∷ m.identifier ∷ code " " ∷ (kind_and_data (kind_of m.body) ++ chars "\n"))))

-- document 01: "For the writer and the listing line 7 comes before 5"
unfoldable pub line_call : ℕ → Message → List ℕ → Call
line_call at m out = writes (refuse_if (not (is_message m)) NotMessage ∷ []) (line at m) out
