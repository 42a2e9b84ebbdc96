-- What one store before a text leaves, and how many characters the parts of a line have at most. Assumes nothing.
use Rattle.std.proofs.Common.{◌≡◌, ℕ, suc, ◌+◌, ◌<◌, ◌≤◌, leb, List, ◌∷◌, ◌++◌, length, drop, set, sym, ap, ◌∙◌, add-one, arith, length-append, length-set, drop-cons, get_or-set_same, drop-set-lt}
use Rattle.refusal.proofs.Logic.{choice}
use Rattle.number.proofs.Digits.{numeral_length}
use Rattle.message.specs.declared.Kind.{Kind}
use Rattle.message.specs.declared.Kind.TheVariants.{Sign, Data}
use Rattle.message.specs.Spell.{spell_address}
use Rattle.listing.specs.Line.{kind_and_data}

-- one store
pub set_front : (was : List ℕ) (r c : ℕ) → r < length was → drop r (set was r c) ≡ c ∷ drop (r + 1) was
set_front was r c h =
    drop-cons (set was r c) r 0 (omega (arith, length-set was r c))
    ∙ ap (λ (x : ℕ). x ∷ drop (suc r) (set was r c)) (get_or-set_same was r c 0 h)
    ∙ ap (λ (l : List ℕ). c ∷ l) (drop-set-lt (suc r) was r c (omega arith))
    ∙ ap (λ (n : ℕ). c ∷ drop n was) (sym (add-one r))

pub kind_few : (k : Kind) → length (kind_and_data k) ≤ 7
unfolding kind_and_data
kind_few (Sign c) = omega arith
kind_few (Data x) = omega (arith, numeral_length x)

pub address_few : (a : ℕ) → length (spell_address a) ≤ 2
unfolding spell_address
address_few a = choice (λ (l : List ℕ). length l ≤ 2) (leb a 9) (λ t. omega arith) (λ t. omega arith)

-- and of a text that these were put before
pub put_few : (most : ℕ) (xs was is : List ℕ) → is ≡ xs ++ was → length xs ≤ most → length is ≤ most + length was
put_few most xs was is e h = omega (arith, ap length e, length-append xs was)
