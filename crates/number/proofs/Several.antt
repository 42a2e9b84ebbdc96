-- Several numbers written one behind the other, however many: five digits for each and nothing else, read back number by number, and two lists of numbers
-- that are written alike are the same. Assumes nothing.
use mathlib.Core.Path.{◌≡◌, refl, sym, ap, ap₂, ◌∙◌}
use mathlib.Core.Bool.{true}
use mathlib.Core.List.{List, [], ◌∷◌, ◌++◌, append_assoc}
use Prim.Native.Nat.{ℕ, zero, suc, ◌+◌, ◌*◌, ◌<◌}
use native.Mathlib.Omega.{arith}
use lib.IntN.{pos}
use lib.ListN.{length, get_or, take, drop, length-append}
use lib.Seq.{take-append_seam, drop-append_seam, drop-append-add}
use Rattle.refusal.specs.Lists.{every}
use Rattle.refusal.proofs.Logic.{and_left, and_right}
use Rattle.refusal.proofs.Lists.{each_append}
use Rattle.number.specs.declared.Decimal.{Decimal}
use Rattle.number.specs.Data.{with_decimals, fits, numeral, spell_data, read_data, spell_all}
use Rattle.number.specs.declared.Data.TheVariants.{Number}
use Rattle.number.proofs.Digits.{AllDigits, data_digits, data_length}
use Rattle.number.proofs.Reading.{read_number, spell_injective}

pub all_length : (xs : List Decimal) → length (spell_all xs) ≡ 5 * length xs
unfolding spell_all
all_length [] = refl
all_length (x ∷ xs) =
    let n = all_length xs in
    let d = data_length x in
    let l = length-append (spell_data x) (spell_all xs) in
    omega arith

pub all_digits : (xs : List Decimal) → AllDigits (spell_all xs)
unfolding spell_all
all_digits [] = tt
all_digits (x ∷ xs) = each_append _ (spell_data x) (spell_all xs) (data_digits x) (all_digits xs)

-- the first five characters, and what stands behind them
pub first_data : (x : Decimal) (cs : List ℕ) → (take 5 (spell_data x ++ cs) ≡ spell_data x) × (drop 5 (spell_data x ++ cs) ≡ cs)
first_data x cs =
    let n = sym (data_length x) in (
      ap (λ (k : ℕ). take k (spell_data x ++ cs)) n ∙ take-append_seam (spell_data x) cs,
      ap (λ (k : ℕ). drop k (spell_data x ++ cs)) n ∙ drop-append_seam (spell_data x) cs,
    )

-- the number at a place of a list
abbrev pub nth : List Decimal → ℕ → Decimal
nth xs j = get_or xs j (with_decimals (pos 0) 0)

below_none : (j : ℕ) → j < 0 → ⊥
below_none j h = omega arith

-- the characters of each, whatever stands behind all of them
each_data : (xs : List Decimal) (j : ℕ) (cs : List ℕ) → j < length xs → take 5 (drop (5 * j) (spell_all xs ++ cs)) ≡ spell_data (nth xs j)
unfolding spell_all
each_data [] j cs h = absurd (below_none j h)
each_data (x ∷ xs) zero cs h = rw append_assoc (first_data x (spell_all xs ++ cs)).0
each_data (x ∷ xs) (suc j) cs h =
    let n : 5 * suc j ≡ length (spell_data x) + 5 * j = omega (arith, data_length x) in
    rw (append_assoc, n, drop-append-add) (each_data xs j cs (omega arith))

every_nth : (xs : List Decimal) (j : ℕ) → every fits xs ≡ true → j < length xs → fits (nth xs j) ≡ true
unfolding every
every_nth [] j e h = absurd (below_none j h)
every_nth (x ∷ xs) zero e h = and_left (fits x) (every fits xs) e
every_nth (x ∷ xs) (suc j) e h = every_nth xs j (and_right (fits x) (every fits xs) e) (omega arith)

-- each is read back from its place
pub each_read : (xs : List Decimal) (j : ℕ) (cs : List ℕ) → every fits xs ≡ true → j < length xs → read_data (take 5 (drop (5 * j) (spell_all xs ++ cs))) ≡ Number (numeral (nth xs j))
each_read xs j cs e h = ap read_data (each_data xs j cs h) ∙ read_number (nth xs j) (every_nth xs j e h)

none_some : (x : Decimal) (xs : List Decimal) → spell_all [] ≡ spell_all (x ∷ xs) → ⊥
unfolding spell_all
none_some x xs e = omega (arith, ap length e, length-append (spell_data x) (spell_all xs), data_length x)

pub all_injective : (xs ys : List Decimal) → every fits xs ≡ true → every fits ys ≡ true → spell_all xs ≡ spell_all ys → xs ≡ ys
unfolding spell_all every
all_injective [] [] p q e = refl
all_injective [] (y ∷ ys) p q e = absurd (none_some y ys e)
all_injective (x ∷ xs) [] p q e = absurd (none_some x xs (sym e))
all_injective (x ∷ xs) (y ∷ ys) p q e =
    let f = first_data x (spell_all xs) in
    let g = first_data y (spell_all ys) in
    ap₂ (λ (z : Decimal) (zs : List Decimal). z ∷ zs)
    (spell_injective x y (and_left (fits x) (every fits xs) p) (and_left (fits y) (every fits ys) q) (sym f.0 ∙ ap (take 5) e ∙ g.0))
    (all_injective xs ys (and_right (fits x) (every fits xs) p) (and_right (fits y) (every fits ys) q) (sym f.1 ∙ ap (drop 5) e ∙ g.1))
