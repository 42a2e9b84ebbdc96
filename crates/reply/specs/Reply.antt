-- The answer that a reply carries, and how it is spelled.
use Rattle.std.specs.Prelude.{Bool, not, ◌&&◌, ◌||◌, List, [], ◌∷◌, ◌++◌, ℕ, ◌*◌, ◌/◌, ◌%◌, eqb, nat_abs, length}
use Prim.Native.Char.{code}
use Rattle.refusal.specs.Lists.{every}
use Rattle.number.specs.declared.Decimal.{Decimal}
use Rattle.number.specs.Data.{digit, fits, spell_data, spell_all}
use Rattle.message.specs.Message.{star, question, is_letter, is_address, is_identifier}
use Rattle.message.specs.Spell.{spell_address}
use Rattle.reply.specs.declared.Mark.{Mark}
use Rattle.reply.specs.declared.Mark.TheVariants.{Accepted, Offered, Declined}
use Rattle.reply.specs.declared.Content.{Content}
use Rattle.reply.specs.declared.Content.TheVariants.{Empty, Number, Four, Five}
use Rattle.reply.specs.declared.Answer.{Answer}

-- the most bytes that a reply has; document 02, ticket 1: "Longest reply becomes 33 bytes"
abbrev pub longest_reply : ℕ
longest_reply = 33

-- the identifier of the scan
abbrev pub scan_identifier : ℕ
scan_identifier = code "]"

-- document 01: "`A`, `I` or `N`"
abbrev pub mark_of : Mark → ℕ
mark_of Accepted = code "A"
mark_of Offered = code "I"
mark_of Declined = code "N"

-- the numbers that a reply carries, in order
abbrev pub numbers_in : Content → List Decimal
numbers_in Empty = []
numbers_in (Number x) = x ∷ []
numbers_in (Four a b c d) = a ∷ b ∷ c ∷ d ∷ []
numbers_in (Five a b c d e) = a ∷ b ∷ c ∷ d ∷ e ∷ []

-- document 02, ticket 1: "`L7]25`, five five-digit values": how many digits there are, and the digits
unfoldable pub spell_scan : List Decimal → List ℕ
spell_scan xs = digit (5 * length xs / 10) ∷ digit (5 * length xs % 10) ∷ spell_all xs

-- the data, if any
unfoldable pub spell_content : Content → List ℕ
spell_content Empty = []
spell_content (Number x) = spell_data x
spell_content (Four a b c d) = spell_scan (numbers_in (Four a b c d))
spell_content (Five a b c d e) = spell_scan (numbers_in (Five a b c d e))

-- document 01: "Replies spell the address without a leading zero"
unfoldable pub spell_answer : Answer → List ℕ
spell_answer a =
    a.letter ∷ (spell_address a.address ++ (a.identifier ∷ (spell_content a.content ++ (mark_of a.mark ∷ star ∷ []))))

-- `00000`
unfoldable pub is_no_number : Decimal → Bool
is_no_number x = eqb (nat_abs x.number) 0 && eqb x.decimals 0

-- document 01, number 6: "`?` has `A` and no data, any other identifier has data". Document 02, ticket 1: `]` has the values of the scan and
-- `A`; "Otherwise a Type 2 or 3 on `]` is `N` with `00000`".
unfoldable pub fits_content : ℕ → Mark → Content → Bool
fits_content i k Empty = eqb (mark_of k) (code "A") && eqb i question
fits_content i k (Number x) = not (eqb i question) && fits x && (not (eqb i scan_identifier) || (eqb (mark_of k) (code "N") && is_no_number x))
fits_content i k (Four a b c d) = eqb (mark_of k) (code "A") && eqb i scan_identifier && every fits (numbers_in (Four a b c d))
fits_content i k (Five a b c d e) = eqb (mark_of k) (code "A") && eqb i scan_identifier && every fits (numbers_in (Five a b c d e))

-- an answer that some card gives
unfoldable pub is_answer : Answer → Bool
is_answer a =
    is_letter a.letter && is_address a.address && is_identifier a.identifier && fits_content a.identifier a.mark a.content
