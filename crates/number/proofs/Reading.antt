-- Data written and read, for every count of decimals at once. What is written is read as it was, since four last digits make
-- the number again; what is read so far is always the last digits of its value (`Read`, kept by each character), so what
-- is read to the end fits, and is written as the same characters. Assumes nothing.
use mathlib.Core.Path.{◌≡◌, refl, sym, ap, ap₂, ◌∙◌, subst}
use mathlib.Core.Bool.{Bool, true, false, not, ◌&&◌, ◌||◌, false≢true}
use mathlib.Core.List.{List, [], ◌∷◌, ◌++◌, append_assoc, append-nil}
use Prim.Native.Nat.{ℕ, zero, suc, ◌+◌, ◌-◌, ◌*◌, ◌/◌, ◌%◌, ◌^◌, ◌≤◌, ◌<◌}
use native.Mathlib.Nat.{pow-suc, pow-le-pow_right}
use native.Mathlib.Numerals.{add-one}
use native.Mathlib.Omega.{arith}
use borrow.Author.Tests.{leb-true, le-leb, lt-leb, ltb-true, ltb-false, lt-ltb, eqb-true, ne_eqb}
use lib.Dec.{ltb, leb, eqb, lit≤}
use lib.IntN.{ℤ, pos, negsuc, neg_ℤ, nat_abs}
use lib.ListN.{length}
use Rattle.std.specs.List.{fold}
use Rattle.refusal.proofs.Logic.{ands, and_left, and_right, and_both, choice, by-test}
use Rattle.number.specs.declared.Data.{Data}
use Rattle.number.specs.declared.Decimal.{Decimal}
use Rattle.number.specs.declared.Numeral.{Numeral}
use Rattle.number.specs.declared.Data.TheVariants.{Partial, Number, Invalid}
use Rattle.number.specs.Data.{digit, is_digit, digit_of, with_decimals, fits, with_sign, is_minus_zero, as_decimal, numeral, fits_numeral, code_of, five_digits, spell_data, spell_numeral, negative, decode, start, read_next, read_from, read_data}
use Rattle.number.proofs.Signed.{nat_abs_minus}
use Rattle.number.proofs.Digits.{digit_is, digit_back, digit_below, digit_again, AllDigits}

-- ---- what fits

pub fits_within : (x : Decimal) → fits x ≡ true → (nat_abs x.number ≤ 9999) × (x.decimals ≤ 3)
unfolding fits
fits_within x e =
    let m = leb (nat_abs x.number) 9999 in
    let d = leb x.decimals 3 in
    (leb-true (nat_abs x.number) 9999 (and_left m d e), leb-true x.decimals 3 (and_right m d e))

pub within_fits : (x : Decimal) → nat_abs x.number ≤ 9999 → x.decimals ≤ 3 → fits x ≡ true
unfolding fits
within_fits x h k = and_both (le-leb (nat_abs x.number) 9999 h) (le-leb x.decimals 3 k)

-- a number as a message has it
pub fits_value : (x : Numeral) → fits_numeral x ≡ true → fits (as_decimal x) ≡ true
unfolding fits_numeral
fits_value x e = search ands

pub numeral_fits : (x : Decimal) → fits x ≡ true → fits_numeral (numeral x) ≡ true
unfolding fits_numeral
numeral_fits x e = and_both e refl

-- ---- one character more

-- a digit behind fewer than four digits, and the code behind four
pub next_digit : (k n c : ℕ) → is_digit c ≡ true → n ≤ 9999 → k < 4 → read_next (Partial k n) c ≡ Partial (k + 1) (n * 10 + digit_of c)
unfolding read_next
next_digit k n c e h l = simp (e, le-leb n 9999 h, lt-ltb k 4 l)

pub next_code : (n c : ℕ) → is_digit c ≡ true → n ≤ 9999 → read_next (Partial 4 n) c ≡ decode n (digit_of c)
unfolding read_next
next_code n c e h = simp (e, le-leb n 9999 h)

pub decode_pos : (m d : ℕ) → d ≤ 3 → decode m d ≡ Number (numeral (with_decimals (pos m) d))
unfolding decode
decode_pos m d h = simp (le-leb d 3 h)

pub decode_neg : (m d : ℕ) → d ≤ 3 → decode m (d + 5) ≡ Number (negative m d)
unfolding decode
decode_neg m d h =
    simp (lt-leb (d + 5) 3 (omega arith), le-leb 5 (d + 5) (omega arith), le-leb (d + 5) 8 (omega arith))
    (ap (λ (e : ℕ). Number (negative m e)) (back d))
  where
    back : (d : ℕ) → d + 5 - 5 ≡ d
    back d = omega arith

suc_not_zero : (n : ℕ) → eqb (suc n) 0 ≡ false
suc_not_zero n = ne_eqb (suc n) 0 (λ (h : suc n ≡ 0). omega arith)

-- ---- read what is written

step : (k n a : ℕ) {m : ℕ} → a ≤ 9 → n ≤ 9999 → k < 4 → n * 10 + a ≡ m → read_next (Partial k n) (digit a) ≡ Partial (k + 1) m
step k n a ha h l e =
    next_digit k n (digit a) (digit_is a ha) h l ∙ ap (Partial (k + 1)) (ap (λ (j : ℕ). n * 10 + j) (digit_back a) ∙ e)

-- five digits are read as the code of the number that the first four make
read_five : (a b c d e : ℕ) → a ≤ 9 → b ≤ 9 → c ≤ 9 → d ≤ 9 → e ≤ 9
    → read_data (digit a ∷ digit b ∷ digit c ∷ digit d ∷ digit e ∷ []) ≡ decode (((a * 10 + b) * 10 + c) * 10 + d) e
unfolding read_data read_from
read_five a b c d e ha hb hc hd he =
    simp (
      step 0 0 a {m = a} ha (lit≤ tt) (omega arith) (omega arith),
      step 1 a b hb (omega arith) (omega arith) refl,
      step 2 (a * 10 + b) c hc (omega arith) (omega arith) refl,
      step 3 ((a * 10 + b) * 10 + c) d hd (omega arith) (omega arith) refl,
      next_code (((a * 10 + b) * 10 + c) * 10 + d) (digit e) (digit_is e he) (omega arith),
      digit_back,
    )

read_code : (m k : ℕ) → m ≤ 9999 → k ≤ 9 → read_data (five_digits m k) ≡ decode m k
unfolding five_digits
read_code m k h l =
    read_five (m / 10 / 10 / 10 % 10) (m / 10 / 10 % 10) (m / 10 % 10) (m % 10) (k % 10)
    (omega arith) (omega arith) (omega arith) (omega arith) (omega arith)
    ∙ ap₂ decode (again m h) (same k l)
  where
    again : (m : ℕ) → m ≤ 9999 → ((m / 10 / 10 / 10 % 10 * 10 + m / 10 / 10 % 10) * 10 + m / 10 % 10) * 10 + m % 10 ≡ m
    again m h = omega arith

    same : (k : ℕ) → k ≤ 9 → k % 10 ≡ k
    same k l = omega arith

-- reading what is written gives the number and its decimals
written : (n : ℤ) (d : ℕ) → fits (with_decimals n d) ≡ true → read_data (spell_data (with_decimals n d)) ≡ Number (numeral (with_decimals n d))
unfolding spell_data code_of
written (pos n) d e =
    let w = fits_within (with_decimals (pos n) d) e in read_code n d w.0 (omega (arith, w.1)) ∙ decode_pos n d w.1
written (negsuc n) d e =
    let w = fits_within (with_decimals (negsuc n) d) e in
    read_code (suc n) (d + 5) w.0 (omega (arith, w.1)) ∙ decode_neg (suc n) d w.1
    ∙ ap (λ (z : Bool). Number (with_sign (with_decimals (negsuc n) d) z)) (suc_not_zero n)

-- a number is never written as minus zero
pub read_number : (x : Decimal) → fits x ≡ true → read_data (spell_data x) ≡ Number (numeral x)
read_number x e = written x.number x.decimals e

is_zero : (n : ℤ) → eqb (nat_abs n) 0 ≡ true → n ≡ pos 0
is_zero (pos n) e = ap pos (eqb-true n 0 e)
is_zero (negsuc n) e = absurd (false≢true (sym (suc_not_zero n) ∙ e))

-- only zero is minus zero
pub only_zero : (x : Numeral) → fits_numeral x ≡ true → is_minus_zero x ≡ true → x.number ≡ pos 0
unfolding fits_numeral
only_zero x e z = is_zero x.number (sym (rw z) ∙ and_right (fits (as_decimal x)) (not (is_minus_zero x) || eqb (nat_abs x.number) 0) e)

signed : (v : Decimal) (z : Bool) → fits_numeral (with_sign v z) ≡ true
    → read_data (spell_numeral (with_sign v z)) ≡ Number (with_sign v z)
unfolding spell_numeral spell_data fits_numeral
signed v false e = read_number v (search ands)
signed v true e =
    let zero_is : v.number ≡ pos 0 = is_zero v.number (search ands) in
    let w = fits_within v (search ands) in
    ap (λ (n : ℤ). read_data (five_digits (nat_abs n) (v.decimals + 5))) zero_is
    ∙ read_code 0 (v.decimals + 5) (lit≤ tt) (omega (arith, w.1))
    ∙ decode_neg 0 v.decimals w.1
    ∙ ap (λ (n : ℤ). Number (with_sign (with_decimals n v.decimals) true)) (sym zero_is)

-- reading what is written gives what was written, minus zero too
pub read_written : (x : Numeral) → fits_numeral x ≡ true → read_data (spell_numeral x) ≡ Number x
read_written x e = signed (as_decimal x) (is_minus_zero x) e

-- two that are written alike are the same, decimals and sign of zero too
pub numeral_injective : (x y : Numeral) → fits_numeral x ≡ true → fits_numeral y ≡ true → spell_numeral x ≡ spell_numeral y → x ≡ y
numeral_injective x y p q h =
    let same : Number x ≡ Number y = sym (read_written x p) ∙ ap read_data h ∙ read_written y q in
    cc

-- two numbers that are written alike are the same, decimals too
pub spell_injective : (x y : Decimal) → fits x ≡ true → fits y ≡ true → spell_data x ≡ spell_data y → x ≡ y
spell_injective x y p q h =
    let same : Number (numeral x) ≡ Number (numeral y) = sym (read_number x p) ∙ ap read_data h ∙ read_number y q in
    let both : numeral x ≡ numeral y = cc in
    ap as_decimal both

-- ---- what has been read

-- the last k digits of n
abbrev pub last_digits : ℕ → ℕ → List ℕ
last_digits zero n = []
last_digits (suc k) n = last_digits k (n / 10) ++ digit (n % 10) ∷ []

-- x is what the characters cs read as: their value so far, or a number that is written as cs again, and then they are five
abbrev pub Read : List ℕ → Data → Type 0
Read cs (Partial k n) = (k ≤ 4) × (n < 10 ^ k) × (cs ≡ last_digits k n)
Read cs (Number x) = (fits_numeral x ≡ true) × (spell_numeral x ≡ cs) × (length cs ≡ 5)
Read cs Invalid = Unit {0}

small : (k n : ℕ) → k ≤ 4 → n < 10 ^ k → n ≤ 9999
small k n h l = let p : 10 ^ k ≤ 10 ^ 4 = pow-le-pow_right (lit≤ tt) h in omega arith

ten_more : (k : ℕ) → 10 ^ (k + 1) ≡ 10 ^ k * 10
ten_more k = ap (λ (j : ℕ). 10 ^ j) (add-one k) ∙ pow-suc 10 k

-- a digit more
longer : (cs : List ℕ) (k n c : ℕ) → is_digit c ≡ true → n < 10 ^ k → cs ≡ last_digits k n → k < 4 → Read (cs ++ c ∷ []) (Partial (k + 1) (n * 10 + digit_of c))
longer cs k n c e l q h =
    let b : digit_of c ≤ 9 = digit_below c e in
    let p : 10 ^ (k + 1) ≡ 10 ^ k * 10 = ten_more k in
    let front : n ≡ (n * 10 + digit_of c) / 10 = omega arith in
    let last : digit_of c ≡ (n * 10 + digit_of c) % 10 = omega arith in (
      omega arith,
      omega arith,
      ap₂ (λ (xs : List ℕ) (y : ℕ). xs ++ y ∷ []) (q ∙ ap (last_digits k) front) (sym (digit_again c e) ∙ ap digit last)
          ∙ ap (λ (j : ℕ). last_digits j (n * 10 + digit_of c)) (sym (add-one k)),
    )

-- the code
five_are : (n c : ℕ) → is_digit c ≡ true → five_digits n (digit_of c) ≡ last_digits 4 n ++ c ∷ []
unfolding five_digits
five_are n c e =
    let b : digit_of c ≤ 9 = digit_below c e in
    let same : digit_of c % 10 ≡ digit_of c = omega arith in
    ap (λ (y : ℕ). last_digits 4 n ++ y ∷ []) (ap digit same ∙ digit_again c e)

below : (n k : ℕ) → 5 ≤ k → spell_numeral (negative n (k - 5)) ≡ five_digits n k
unfolding spell_numeral spell_data code_of
below zero k h = ap (five_digits 0) (omega arith)
below (suc n) k h = rw (suc_not_zero n) (ap (five_digits (suc n)) (omega arith))

negative_fits : (n d : ℕ) → n ≤ 9999 → d ≤ 3 → fits_numeral (negative n d) ≡ true
unfolding fits_numeral
negative_fits n d h l =
    let m : nat_abs (neg_ℤ (pos n)) ≡ n = nat_abs_minus (pos n) in
    and_both (within_fits (with_decimals (neg_ℤ (pos n)) d) (omega arith) l) (rw m (by-test (eqb n 0) (λ t. rw t) (λ t. rw t)))

coded : (n c : ℕ) → is_digit c ≡ true → n ≤ 9999 → Read (last_digits 4 n ++ c ∷ []) (decode n (digit_of c))
unfolding decode spell_numeral spell_data code_of
coded n c e h =
    choice (Read (last_digits 4 n ++ c ∷ [])) (leb (digit_of c) 3)
    (λ t. (numeral_fits _ (within_fits (with_decimals (pos n) (digit_of c)) h (leb-true (digit_of c) 3 t)), five_are n c e, refl))
    (λ t.
    choice (Read (last_digits 4 n ++ c ∷ [])) (leb 5 (digit_of c) && leb (digit_of c) 8)
    (λ u.
    let low : 5 ≤ digit_of c = leb-true 5 (digit_of c) (and_left (leb 5 (digit_of c)) (leb (digit_of c) 8) u) in
    let high : digit_of c ≤ 8 = leb-true (digit_of c) 8 (and_right (leb 5 (digit_of c)) (leb (digit_of c) 8) u) in
    (negative_fits n (digit_of c - 5) h (omega arith), below n (digit_of c) low ∙ five_are n c e, refl))
    (λ u. tt))

-- each character keeps it
pub next_read : (cs : List ℕ) (x : Data) (c : ℕ) → Read cs x → Read (cs ++ c ∷ []) (read_next x c)
unfolding read_next
next_read cs (Partial k n) c r =
    choice (Read (cs ++ c ∷ [])) (is_digit c && leb n 9999)
    (λ t.
    let e = and_left (is_digit c) (leb n 9999) t in
    choice (Read (cs ++ c ∷ [])) (ltb k 4)
    (λ u. longer cs k n c e r.1 r.2 (ltb-true k 4 u))
    (λ u.
    let four : k ≡ 4 = omega (arith, r.0, ltb-false k 4 u) in
    let q : cs ≡ last_digits 4 n = r.2 ∙ ap (λ (j : ℕ). last_digits j n) four in
    subst (λ (xs : List ℕ). Read (xs ++ c ∷ []) (decode n (digit_of c))) (sym q) (coded n c e (small k n r.0 r.1))))
    (λ t. tt)
next_read cs (Number x) c r = tt
next_read cs Invalid c r = tt

read-from : (cs ds : List ℕ) (x : Data) → Read cs x → Read (cs ++ ds) (read_from x ds)
unfolding read_from
read-from cs [] x r = rw append-nil r
read-from cs (d ∷ ds) x r = rw append_assoc at (read-from (cs ++ d ∷ []) ds (read_next x d) (next_read cs x d r))

pub read_is : (cs : List ℕ) → Read cs (read_data cs)
unfolding read_data
read_is cs = read-from [] cs start (lit≤ tt, omega arith, refl)

-- what is read fits
pub read_fits : (cs : List ℕ) (x : Numeral) → read_data cs ≡ Number x → fits_numeral x ≡ true
read_fits cs x e = (subst (Read cs) e (read_is cs)).0

-- and has five characters
pub read_length : (cs : List ℕ) (x : Numeral) → read_data cs ≡ Number x → length cs ≡ 5
read_length cs x e = (subst (Read cs) e (read_is cs)).2

-- what is read is written as the same characters
pub written_read : (cs : List ℕ) (x : Numeral) → read_data cs ≡ Number x → spell_numeral x ≡ cs
written_read cs x e = (subst (Read cs) e (read_is cs)).1

-- data that is not yet all there: as many digits as were counted, and those of its value
pub partial_digits : (cs : List ℕ) (k n : ℕ) → read_data cs ≡ Partial k n → (k ≤ 4) × (n < 10 ^ k) × (cs ≡ last_digits k n)
partial_digits cs k n e = subst (Read cs) e (read_is cs)

-- ---- a list read in two parts

read_parts : (x : Data) (cs ds : List ℕ) → read_from x (cs ++ ds) ≡ read_from (read_from x cs) ds
unfolding read_from
read_parts x [] ds = refl
read_parts x (c ∷ cs) ds = read_parts (read_next x c) cs ds

-- one character after the other, as the library folds a list
pub folded : (x : Data) (cs : List ℕ) → read_from x cs ≡ fold read_next x cs
unfolding read_from
folded x [] = refl
folded x (c ∷ cs) = folded (read_next x c) cs

pub read_more : (cs ds : List ℕ) → read_data (cs ++ ds) ≡ read_from (read_data cs) ds
unfolding read_data
read_more cs ds = read_parts start cs ds

-- no character, and one character more
pub read_none : read_data [] ≡ start
unfolding read_data read_from
read_none = refl

pub read-next : (cs : List ℕ) (c : ℕ) → read_data (cs ++ (c ∷ [])) ≡ read_next (read_data cs) c
unfolding read_from
read-next cs c = read_more cs (c ∷ [])

-- no character makes good what is no data
pub invalid_stays : (cs : List ℕ) → read_from Invalid cs ≡ Invalid
unfolding read_from read_next
invalid_stays [] = refl
invalid_stays (c ∷ cs) = invalid_stays cs

-- ---- what is partial can be completed

pub record Completion (k n : ℕ) : Type 0 where
  pub rest : List ℕ
  pub digits : AllDigits rest
  pub whole : k + length rest ≡ 5
  pub number : Numeral
  pub reads : read_from (Partial k n) rest ≡ Number number

-- by zeros, for j digits and the code
by_zeros : (j k n : ℕ) → k + j ≡ 4 → n < 10 ^ k → Completion k n
unfolding read_from
by_zeros zero k n e l =
    let four : k ≡ 4 = omega arith in
    record {
      rest = digit 0 ∷ [];
      digits = (digit_is 0 (lit≤ tt), tt);
      whole = omega arith;
      number = numeral (with_decimals (pos n) 0);
      reads =
          ap (λ (j : ℕ). read_next (Partial j n) (digit 0)) four
          ∙ next_code n (digit 0) (digit_is 0 (lit≤ tt)) (small k n (omega arith) l)
          ∙ ap (decode n) (digit_back 0)
          ∙ decode_pos n 0 (lit≤ tt);
    }
by_zeros (suc j) k n e l =
    let p : 10 ^ (k + 1) ≡ 10 ^ k * 10 = ten_more k in
    let r = by_zeros j (k + 1) (n * 10) (omega arith) (omega arith) in
    record {
      rest = digit 0 ∷ r.rest;
      digits = (digit_is 0 (lit≤ tt), r.digits);
      whole = one-more k (length r.rest) r.whole;
      number = r.number;
      reads =
          ap (λ (x : Data). read_from x r.rest) (step k n 0 (lit≤ tt) (small k n (omega arith) l) (omega arith) (omega arith)) ∙ r.reads;
    }
  where
    one-more : (k m : ℕ) → k + 1 + m ≡ 5 → k + suc m ≡ 5
    one-more k m e = omega arith

pub completion : (k n : ℕ) → k ≤ 4 → n < 10 ^ k → Completion k n
completion k n h l = by_zeros (4 - k) k n (omega arith) l

pub partial_viable : (cs : List ℕ) (k n : ℕ) → read_data cs ≡ Partial k n → Completion k n
partial_viable cs k n e =
    let p = partial_digits cs k n e in completion k n p.0 p.1

-- nothing follows five digits, or what is no data
pub next_number : (x : Numeral) (c : ℕ) → read_next (Number x) c ≡ Invalid
unfolding read_next
next_number x c = refl

pub next_invalid : (c : ℕ) → read_next Invalid c ≡ Invalid
unfolding read_next
next_invalid c = refl
