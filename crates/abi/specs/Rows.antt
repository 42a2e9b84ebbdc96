-- Rows of numbers that a host lends: an answer that was read, a sheet's row, and what stands in the row afterwards.
use Rattle.std.specs.Prelude.{cond, List, [], ◌∷◌, ◌++◌, ℕ, ◌-◌, ◌*◌, ltb, eqb, ℤ, pos, length, replicate}
use Rattle.refusal.specs.Refusal.{Outcome, refused, gave, number_of}
use Rattle.refusal.specs.Buffer.{laid}
use Rattle.refusal.specs.declared.Refusal.TheVariants.{RoomTooShort}
use Rattle.number.specs.declared.Decimal.{Decimal}
use Rattle.reply.specs.Reply.{mark_of, numbers_in}
use Rattle.reply.specs.declared.Answer.{Answer}
use Rattle.reply.specs.declared.Content.{Content}
use Rattle.abi.specs.Result.{minus_number, Filled, filled}

-- how many numbers an answer has
abbrev pub answer_length : ℕ
answer_length = 15

-- each number and its decimals
unfoldable pub pairs : List Decimal → List ℤ
pairs [] = []
pairs (x ∷ xs) = x.number ∷ pos x.decimals ∷ pairs xs

-- so many numbers, and none where there is none
unfoldable pub five_of : Content → ℕ × List Decimal
five_of k = (length (numbers_in k), numbers_in k ++ replicate (5 - length (numbers_in k)) (record { number = pos 0; decimals = 0 }))

-- letter, address, identifier, `A` `I` or `N`, how many numbers there are, and each with its decimals; 0 behind the last of five
unfoldable pub answer_row : Answer → List ℤ
answer_row a =
    let xs : List Decimal = numbers_in a.content in
    pos a.letter ∷ pos a.address ∷ pos a.identifier ∷ pos (mark_of a.mark) ∷ pos (length xs) ∷ (pairs xs ++ replicate (10 - 2 * length xs) (pos 0))

-- number 6 before number 5; 15 with the answer's fifteen numbers
unfoldable pub read_into : Outcome Answer → List ℤ → Filled ℤ
read_into (refused n) out = filled (minus_number n) out
read_into (gave a) out =
    cond (ltb (length out) answer_length) (filled (minus_number (number_of RoomTooShort)) out) (filled (pos answer_length) (laid (answer_row a) out))

-- number 5 before the lookup; 6 with the row that it shows, 0 where that is empty
unfoldable pub lookup_into : List ℤ → List ℤ → Filled ℤ
lookup_into part out =
    cond (ltb (length out) 6) (filled (minus_number (number_of RoomTooShort)) out)
    (cond (eqb (length part) 6) (filled (pos 6) (laid part out)) (filled (pos 0) out))
