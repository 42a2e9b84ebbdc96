-- The fifteen numbers of an answer, by the five bytes that are widened and the five numbers that are paired with their decimals.
-- Assumes nothing.
use mathlib.Core.Path.{◌≡◌, refl}
use mathlib.Core.List.{List, [], ◌∷◌, ◌++◌, map}
use Prim.Native.Nat.{ℕ, ◌*◌, ◌-◌}
use borrow.Rule.Slice.PartMut.{put_mid}
use lib.IntN.{ℤ, pos}
use lib.ListN.{length, replicate}
use Rattle.std.specs.List.{flat_map}
use Rattle.number.specs.declared.Decimal.{Decimal}
use Rattle.reply.specs.Reply.{mark_of, numbers_in}
use Rattle.reply.specs.declared.Answer.{Answer}
use Rattle.reply.specs.declared.Content.{Content}
use Rattle.reply.specs.declared.Content.TheVariants.{Empty, Number, Four, Five}
use Rattle.abi.specs.Rows.{pairs, five_of, answer_row}

abbrev pub pair_of : Decimal → List ℤ
pair_of x = pairs (x ∷ [])

module _ (l a i m : ℕ) where
  filled_up : (k : Content) → put_mid 5 10 (map pos (l ∷ a ∷ i ∷ m ∷ (five_of k).0 ∷ []) ++ replicate 10 (pos 0)) (flat_map (λ x. x) (map pair_of (five_of k).1))
      ≡ pos l ∷ pos a ∷ pos i ∷ pos m ∷ pos (length (numbers_in k)) ∷ (pairs (numbers_in k) ++ replicate (10 - 2 * length (numbers_in k)) (pos 0))
  unfolding five_of pairs
  filled_up Empty = refl
  filled_up (Number x) = refl
  filled_up (Four x y z w) = refl
  filled_up (Five x y z w v) = refl

pub row_is : (a : Answer) (mark : ℕ) (five : ℕ × List Decimal) (front behind : List ℤ) (each : List (List ℤ))
    → mark ≡ mark_of a.mark → five ≡ five_of a.content → front ≡ map pos (a.letter ∷ a.address ∷ a.identifier ∷ mark ∷ five.0 ∷ [])
    → each ≡ map pair_of five.1 → behind ≡ flat_map (λ x. x) each → put_mid 5 10 (front ++ replicate 10 (pos 0)) behind ≡ answer_row a
unfolding answer_row
row_is a mark five front behind each p q f e b = rw (b, e, f, q, p) (filled_up a.letter a.address a.identifier (mark_of a.mark) a.content)
