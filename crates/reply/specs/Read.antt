-- The reader: the answer whose spelling the bytes are, where there is one. It is guessed by position, and stands only where it is an
-- answer and is spelled with these very bytes.
use Rattle.std.specs.Prelude.{Bool, cond, not, ◌&&◌, List, [], ◌∷◌, map, ℕ, ◌+◌, ◌-◌, ◌*◌, ◌%◌, eqb, pos, length, get_or, take, drop}
use Prim.Native.Char.{code}
use Rattle.refusal.specs.Lists.{same}
use Rattle.refusal.specs.Refusal.{Outcome, refused, gave}
use Rattle.refusal.specs.Check.{refuse_if, first, decided}
use Rattle.refusal.specs.declared.Refusal.TheVariants.{NotReply}
use Rattle.wire.specs.Word.{travelling}
use Rattle.number.specs.declared.Decimal.{Decimal}
use Rattle.number.specs.declared.Data.{Data}
use Rattle.number.specs.declared.Data.TheVariants as read
use Rattle.number.specs.Data.{is_digit, digit_of, with_decimals, as_decimal, read_data}
use Rattle.message.specs.Message.{question}
use Rattle.reply.specs.declared.Mark.{Mark}
use Rattle.reply.specs.declared.Mark.TheVariants as mark
use Rattle.reply.specs.declared.Content.{Content}
use Rattle.reply.specs.declared.Content.TheVariants.{Empty, Number, Four, Five}
use Rattle.reply.specs.declared.Answer.{Answer}
use Rattle.reply.specs.Reply.{spell_answer, is_answer}

-- the seven bits of each byte
unfoldable pub characters_of : List ℕ → List ℕ
characters_of bs = map (λ (b : ℕ). b % 128) bs

-- a mark by its character
unfoldable pub guess_mark : ℕ → Mark
guess_mark c = cond (eqb c (code "A")) mark.Accepted (cond (eqb c (code "I")) mark.Offered mark.Declined)

-- a number as it was read; 0 where it was none, and zero where it was minus zero, which are then spelled otherwise
unfoldable pub read_or_zero : Data → Decimal
read_or_zero (read.Partial k n) = with_decimals (pos 0) 0
read_or_zero (read.Number x) = as_decimal x
read_or_zero read.Invalid = with_decimals (pos 0) 0

-- the number that stands from a place on
unfoldable pub decimal_at : List ℕ → ℕ → Decimal
decimal_at cs k = read_or_zero (read_data (take 5 (drop k cs)))

-- by how many characters there are from the identifier on: four numbers, five, or one
unfoldable pub guess_content : List ℕ → Content
guess_content cs =
    cond (eqb (length cs) 25) (Four (decimal_at cs 3) (decimal_at cs 8) (decimal_at cs 13) (decimal_at cs 18))
    (cond (eqb (length cs) 30) (Five (decimal_at cs 3) (decimal_at cs 8) (decimal_at cs 13) (decimal_at cs 18) (decimal_at cs 23)) (Number (decimal_at cs 1)))

-- the letter, the address, and the characters from the identifier on; the mark stands before the last
unfoldable pub guess_behind : ℕ → ℕ → List ℕ → Answer
guess_behind l a cs =
    record {
      letter = l;
      address = a;
      identifier = get_or cs 0 0;
      mark = guess_mark (get_or cs (length cs - 2) 0);
      content = cond (eqb (get_or cs 0 0) question) Empty (guess_content cs);
    }

-- behind the letter stand two digits, or one
unfoldable pub guess : List ℕ → Answer
guess cs =
    cond (is_digit (get_or cs 2 0))
    (guess_behind (get_or cs 0 0) ((digit_of (get_or cs 1 0) * 10 + digit_of (get_or cs 2 0)) % 100) (drop 3 cs))
    (guess_behind (get_or cs 0 0) (digit_of (get_or cs 1 0)) (drop 2 cs))

-- one whole reply, spelled with these very bytes
unfoldable pub is_reply : List ℕ → Bool
is_reply bs = is_answer (guess (characters_of bs)) && same eqb (travelling (spell_answer (guess (characters_of bs)))) bs

-- document 01, number 6: bytes that "are not one whole reply spelled exactly as some sound card .. would spell it, parity included"
unfoldable pub read_call : List ℕ → Outcome Answer
read_call bs = decided (first (refuse_if (not (is_reply bs)) NotReply ∷ [])) refused (gave (guess (characters_of bs)))
