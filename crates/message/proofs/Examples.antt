-- Messages by computing the definitions, for the computed cases of other crates; addresses of one and of two digits; and where a
-- message fails. Assumes nothing.
use mathlib.Core.Path.{◌≡◌, refl}
use mathlib.Core.Bool.{Bool, true, false, not, ◌&&◌}
use mathlib.Core.List.{List, [], ◌∷◌}
use Prim.Native.Nat.{ℕ, ◌+◌, ◌/◌, ◌%◌, ◌<◌, ◌≤◌}
use Prim.Native.Char.{code}
use Prim.Native.String.{String}
use borrow.Author.Tests.{ltb-true, le-leb, lt-leb}
use lib.Dec.{ltb, eqb}
use lib.IntN.{pos}
use Rattle.refusal.specs.Lists.{every}
use Rattle.refusal.proofs.Logic.{and_left, and_right, not_is}
use Rattle.wire.specs.Text.{chars}
use Rattle.number.specs.Data.{digit, is_digit, digit_of, decode, read_next, with_decimals, numeral, minus_zero_with}
use Rattle.message.specs.declared.Body.TheVariants.{Query, Set}
use Rattle.message.specs.Message.{star, is_letter, is_address, is_identifier}
use Rattle.message.specs.Prefix.{message, extend_identifier, extend_address, extend_data, extend_body, extend, extend_all, finish, parse}
use Rattle.message.specs.Position.{is_wrong, matched, position}
use Rattle.message.specs.Spell.{spell_address}
use Rattle.message.proofs.Messages.{Plain}
use Rattle.std.specs.Prelude.{Some}

-- ---- an address

pub address_one : (a : ℕ) → a ≤ 9 → spell_address a ≡ (48 + a) ∷ []
unfolding spell_address digit
address_one a h = rw (le-leb a 9 h)

pub address_two : (a : ℕ) → 9 < a → spell_address a ≡ (48 + a / 10) ∷ (48 + a % 10) ∷ []
unfolding spell_address digit
address_two a h = rw (lt-leb a 9 h)

-- ---- characters by their tests

unfoldable pub plain_test : List ℕ → Bool
plain_test [] = true
plain_test (c ∷ cs) = (ltb c 128 && not (eqb c star)) && plain_test cs

pub plain_by : (cs : List ℕ) → plain_test cs ≡ true → Plain cs
unfolding plain_test
plain_by [] e = tt
plain_by (c ∷ cs) e =
    let t = and_left (ltb c 128 && not (eqb c star)) (plain_test cs) e in (
      record { small = ltb-true c 128 (and_left (ltb c 128) (not (eqb c star)) t); no_star = not_is {a = eqb c star} (and_right (ltb c 128) (not (eqb c star)) t) },
      plain_by cs (and_right (ltb c 128 && not (eqb c star)) (plain_test cs) e),
    )

-- ---- the paper's example, `xL07M?*L7m#00231*`

pub x_no_letter : is_letter (code "x") ≡ false
unfolding is_letter
x_no_letter = refl

pub query_parsed : parse (chars "L07M?") ≡ Some (message (code "L") 7 (code "M") Query)
unfolding is_digit digit_of is_letter is_address is_identifier extend_identifier extend_address extend_body extend extend_all finish parse
query_parsed = refl

pub set_parsed : parse (chars "L7m#00231") ≡ Some (message (code "L") 7 (code "m") (Set (numeral (with_decimals (pos 23) 1))))
unfolding is_digit digit_of decode read_next is_letter is_address is_identifier extend_identifier extend_address extend_data extend_body extend extend_all finish parse
set_parsed = refl

-- minus zero is not heard as zero
pub minus_zero_parsed : parse (chars "L7J#00006") ≡ Some (message (code "L") 7 (code "J") (Set (minus_zero_with 1)))
unfolding is_digit digit_of decode read_next is_letter is_address is_identifier extend_identifier extend_address extend_data extend_body extend extend_all finish parse
minus_zero_parsed = refl

-- ---- where a message fails

abbrev fails_at : String × ℕ → Bool
fails_at x = eqb (position (chars x.0)) x.1

-- the `*` stands behind these
pub positions : every fails_at (
    ("L0??", 2) ∷ ("L00M?", 2) ∷ ("L100M?", 3) ∷ ("L", 1) ∷ ("L7", 2) ∷ ("L7M", 3) ∷ ("L7?+", 3) ∷ ("L7??x", 4) ∷ ("L8M!", 3)
    ∷ ("L7m#1234", 8) ∷ ("L7m#00304", 8) ∷ ("L7m#000001", 9) ∷ []) ≡ true
unfolding every is_digit digit_of decode read_next is_letter is_address is_identifier extend_identifier extend_address extend_data extend_body extend is_wrong matched position
positions = refl
