-- What a call gives back to a host: minus the number of its refusal, or a count; and what a host asks the writer for.
-- All of it is built on the calls' own definitions.
use Rattle.std.specs.Prelude.{cond, ◌&&◌, ℕ, List, leb, eqb, ℤ, pos, neg_ℤ}
use Prim.Native.Char.{code}
use Rattle.refusal.specs.Refusal.{Outcome, refused, gave, number_of}
use Rattle.refusal.specs.Call.{Call, refuses}
use Rattle.refusal.specs.declared.Refusal.TheVariants.{NotMessage}
use Rattle.number.specs.Data.{with_decimals, with_sign}
use Rattle.message.specs.Message.{question}
use Rattle.message.specs.Prefix.{message}
use Rattle.message.specs.Spell.{write_call}
use Rattle.listing.specs.Line.{line_call}
use Rattle.message.specs.declared.Body.TheVariants.{Status, Query, Up, Down, Set, Store}
use Rattle.std.specs.Prelude.{None, Option, Some}
use Rattle.message.specs.declared.Message.{Message}

-- the greatest i64
abbrev pub greatest : ℕ
greatest = 9223372036854775807

-- a count as it is; one above the greatest i64, which no buffer has, is given as that
unfoldable pub count_result : ℕ → ℤ
count_result n = cond (leb n greatest) (pos n) (pos greatest)

-- the result of a refused call
unfoldable pub minus_number : ℕ → ℤ
minus_number n = neg_ℤ (pos n)

-- minus the number, or the count
unfoldable pub result_of : Outcome ℕ → ℤ
result_of (refused n) = minus_number n
result_of (gave n) = count_result n

-- ---- a call that writes into one buffer

-- the result, and the whole buffer afterwards
pub record Filled (A : Type 0) : Type 0 where
  pub result : ℤ
  pub buffer : List A

abbrev pub filled : {A : Type 0} → ℤ → List A → Filled A
filled z out = record { result = z; buffer = out }

-- a call's outcome as its result
abbrev pub given : Call → Filled ℕ
given c = filled (result_of c.outcome) c.buffer

-- ---- the message that a host asks for, by the first character of its body; what fits no byte is no message

-- z is 1 for minus zero and 0 for any other number
unfoldable pub set_of : ℕ → ℕ → ℕ → ℤ → ℕ → ℕ → Option Message
set_of l a i n d z = cond (leb d 255 && leb z 1) (Some (message l a i (Set (with_sign (with_decimals n d) (eqb z 1))))) None

unfoldable pub body_of : ℕ → ℕ → ℕ → ℕ → ℤ → ℕ → ℕ → Option Message
body_of l a i k n d z =
    cond (eqb k question) (cond (eqb i question) (Some (message l a i Status)) (Some (message l a i Query)))
    (cond (eqb k (code "+")) (Some (message l a i Up))
    (cond (eqb k (code "-")) (Some (message l a i Down))
    (cond (eqb k (code "I")) (Some (message l a i Store))
    (cond (eqb k (code "#")) (set_of l a i n d z) None))))

unfoldable pub asked : ℕ → ℕ → ℕ → ℕ → ℤ → ℕ → ℕ → Option Message
asked l a i k n d z = cond (leb a 255) (body_of l a i k n d z) None

-- document 01, number 7: "asked for something that isn't a heard message"
unfoldable pub write_asked : Option Message → List ℕ → Call
write_asked (Some m) out = write_call m out
write_asked None out = refuses out (number_of NotMessage)

-- the line of the listing, in the same way
unfoldable pub line_asked : ℕ → Option Message → List ℕ → Call
line_asked at (Some m) out = line_call at m out
line_asked at None out = refuses out (number_of NotMessage)
