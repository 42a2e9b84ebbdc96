-- The four characters of a number of four digits, made from its two pairs of digits at once: what each of the numbers is that the code makes
-- on its way (`Products`). Division by 100 and by 10 is a product and a shift, right for as many digits as there are. Assumes nothing.
use mathlib.Core.Path.{◌≡◌, sym, ap, ap₂, ◌∙◌}
use mathlib.Core.List.{List, [], ◌∷◌}
use Prim.Native.Nat.{ℕ, ◌+◌, ◌*◌, ◌/◌, ◌%◌, ◌≤◌, ◌<◌, ◌^◌}
use native.Mathlib.Omega.{arith}
use lib.Bits.{bit_and, and_block, and_mask}
use lib.ListN.{take}
use mir.Syntax.{w32}
use Rattle.std.specs.Int.{to_le_bytes}
use Rattle.number.specs.Data.{digit, five_digits}
use Rattle.number.specs.Inner.{characters}
use Rattle.number.proofs.Products.{halves, lower, paired, pairs, scaled, low_bits, tens, joined, upper}

-- ---- the two pairs of digits

pub upper_is : (m : ℕ) → m ≤ 9999 → upper m ≡ m / 10 / 10
upper_is m h = omega arith

paired_is : (u l : ℕ) → paired (u * 100 + l) u ≡ halves u l
paired_is u l = omega arith

pub pairs_are : (m : ℕ) → m ≤ 9999 → pairs m ≡ halves (m / 10 / 10) (lower m)
pairs_are m h =
    let e : m ≡ m / 10 / 10 * 100 + lower m = omega arith in
    ap₂ paired e (upper_is m h) ∙ paired_is (m / 10 / 10) (lower m)

-- ---- the tens of both pairs

tenth_is : (n : ℕ) → n ≤ 99 → scaled n / 2 ^ 10 ≡ n / 10
tenth_is n h = omega arith

-- what the shift leaves between the tens is a multiple of 64
shifted : (u l : ℕ) → scaled (halves u l) / 2 ^ 10 ≡ halves (scaled l % 2 ^ 10 * 64 + scaled u / 2 ^ 10) (scaled l / 2 ^ 10)
shifted u l = by_products (scaled l) (scaled u) (omega arith)
  where
    by_products : (x y : ℕ) {n : ℕ} → n ≡ x * 2 ^ 16 + y → n / 2 ^ 10 ≡ halves (x % 2 ^ 10 * 64 + y / 2 ^ 10) (x / 2 ^ 10)
    by_products x y e = omega arith

low_bits_of : (a b : ℕ) → a < 2 ^ 16 → low_bits (halves a b) ≡ halves (a % 2 ^ 4) (b % 2 ^ 4)
low_bits_of a b h = and_block 16 b 15 a 15 h (omega arith) ∙ ap₂ halves (and_mask a 4) (and_mask b 4)

-- and the mask takes it away
tens_of : (u l : ℕ) → u ≤ 99 → l ≤ 99 → tens (halves u l) ≡ halves (u / 10) (l / 10)
tens_of u l hu hl =
    let between = scaled l % 2 ^ 10 in
    ap low_bits (shifted u l)
    ∙ ap₂ (λ (a c : ℕ). low_bits (halves (between * 64 + a) c)) (tenth_is u hu) (tenth_is l hl)
    ∙ low_bits_of (between * 64 + u / 10) (l / 10) (omega arith)
    ∙ ap₂ halves (lowest between (u / 10) (omega arith)) (omega arith)
  where
    lowest : (n a : ℕ) → a ≤ 9 → (n * 64 + a) % 2 ^ 4 ≡ a
    lowest n a h = omega arith

pub tens_are : (m : ℕ) → m ≤ 9999 → tens (pairs m) ≡ halves (m / 10 / 10 / 10) (m / 10 % 10)
tens_are m h =
    ap tens (pairs_are m h) ∙ tens_of (m / 10 / 10) (lower m) (omega arith) (omega arith)
    ∙ ap (halves (m / 10 / 10 / 10)) (omega arith)

-- ---- the four characters

joined_is : (a b c d : ℕ)
    → joined (halves (a * 10 + b) (c * 10 + d)) (halves a c) ≡ digit a + digit b * 256 + digit c * 65536 + digit d * 16777216
unfolding digit
joined_is a b c d = omega arith

-- the first digit is all that stands above the other three
pub characters_are : (m : ℕ) → m ≤ 9999 → joined (pairs m) (tens (pairs m)) ≡ characters m
unfolding characters
characters_are m h =
    let a : m / 10 / 10 / 10 ≡ m / 10 / 10 / 10 % 10 = omega arith in
    let u : m / 10 / 10 ≡ m / 10 / 10 / 10 % 10 * 10 + m / 10 / 10 % 10 = omega arith in
    ap₂ joined
    (pairs_are m h ∙ ap (λ (n : ℕ). halves n (lower m)) u) (tens_are m h ∙ ap (λ (n : ℕ). halves n (m / 10 % 10)) a)
    ∙ joined_is (m / 10 / 10 / 10 % 10) (m / 10 / 10 % 10) (m / 10 % 10) (m % 10)

pub ruleset pairing = (tens_are, characters_are)

-- ---- their bytes

four_bytes : (a b c d : ℕ) → a ≤ 255 → b ≤ 255 → c ≤ 255
    → let n = a + b * 256 + c * 65536 + d * 16777216 in
    (n % 2 ^ 8 ≡ a) × (n / 2 ^ 8 % 2 ^ 8 ≡ b) × (n / 2 ^ 16 % 2 ^ 8 ≡ c) × (n / 2 ^ 24 ≡ d)
four_bytes a b c d ha hb hc = (omega arith, omega arith, omega arith, omega arith)

digit_byte : (n : ℕ) → digit (n % 10) ≤ 255
unfolding digit
digit_byte n = omega arith

-- the bytes of n, and the character of k
abbrev pub bytes : ℕ → ℕ → List ℕ
bytes n k = bit_and n 255 ∷ bit_and (n / 2 ^ 8) 255 ∷ bit_and (n / 2 ^ 16) 255 ∷ (n / 2 ^ 24) ∷ (48 + k) ∷ []

pub bytes_are : (m k : ℕ) → k ≤ 9 → bytes (characters m) k ≡ five_digits m k
unfolding characters five_digits digit
bytes_are m k h =
    let n = characters m in
    let f = four_bytes _ _ _ (digit (m % 10)) (digit_byte (m / 10 / 10 / 10)) (digit_byte (m / 10 / 10)) (digit_byte (m / 10)) in
    let e : k ≡ k % 10 = omega arith in
    cc (and_mask n 8, and_mask (n / 2 ^ 8) 8, and_mask (n / 2 ^ 16) 8, f.0, f.1, f.2, f.3, e)

-- the library's bytes of a number of 32 bits are those
le_bytes : (n : ℕ) → n < 2 ^ 32 → to_le_bytes w32 n ≡ bit_and n 255 ∷ bit_and (n / 2 ^ 8) 255 ∷ bit_and (n / 2 ^ 16) 255 ∷ (n / 2 ^ 24) ∷ []
le_bytes n h =
    let e : n % 256 ≡ bit_and n 255 = sym (and_mask n 8) in
    let f : n / 256 ^ 1 % 256 ≡ bit_and (n / 2 ^ 8) 255 = sym (and_mask (n / 2 ^ 8) 8) in
    let g : n / 256 ^ 2 % 256 ≡ bit_and (n / 2 ^ 16) 255 = sym (and_mask (n / 2 ^ 16) 8) in
    let k : n / 256 ^ 3 % 256 ≡ n / 2 ^ 24 = omega arith in
    cc (e, f, g, k)

-- as the code takes them: the four of `bytes_are` before the code
pub le_bytes_are : (m : ℕ) → to_le_bytes w32 (characters m) ≡ digit (m / 10 / 10 / 10 % 10) ∷ digit (m / 10 / 10 % 10) ∷ digit (m / 10 % 10) ∷ digit (m % 10) ∷ []
unfolding characters five_digits
le_bytes_are m =
    le_bytes (characters m) (omega (arith, digit_byte (m / 10 / 10 / 10), digit_byte (m / 10 / 10), digit_byte (m / 10), digit_byte m))
    ∙ ap (take 4) (bytes_are m 0 (omega arith))
