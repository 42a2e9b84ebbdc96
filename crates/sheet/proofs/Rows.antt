-- A sheet from a place on, row by row, as the loops go through it, and what the place of a row says. Assumes nothing.
use mathlib.Core.Path.{◌≡◌, refl, sym, ap, ◌∙◌, subst}
use mathlib.Core.Bool.{Bool, true, false, cond, not, ◌&&◌, ◌||◌, false≢true}
use mathlib.Core.List.{List, [], ◌∷◌}
use Prim.Native.Nat.{ℕ, zero, suc, ◌+◌, ◌*◌, ◌/◌, ◌%◌, ◌≤◌, ◌<◌}
use native.Mathlib.Numerals.{add-one}
use native.Mathlib.Omega.{arith}
use borrow.Author.Tests.{eq-eqb, ne_eqb, eqb-true, eqb-false, le-leb, lt-leb, lt-ltb, le-ltb, ltb-true, ltb-false}
use lib.Dec.{eqb, ltb}
use lib.IntN.{ℤ, pos}
use lib.Signed.{lt_z}
use lib.ListN.{length, get_or, drop_of_length-le, take, drop, length-drop}
use Rattle.std.specs.Simd.{first_chunks}
use lib.Seq.{drop-cons, drop-drop, length-take-le}
use Rattle.refusal.proofs.Logic.{by-test}
use Rattle.sheet.specs.Sheet.{at, rows, sound_row, sound_rows, sound_sheet}
use Rattle.sheet.specs.Lookup.{code_is, is_for, row_among, place_among, row_in, place_in, has_row}
use Rattle.sheet.specs.Inner.{start_in}
use Rattle.std.specs.Prelude.{Option}
use Rattle.std.specs.Option.{option_map}
use Rattle.std.specs.List.{position, position_or_len}

-- ---- a whole row and what lies behind it

one : (s : List ℤ) (i j : ℕ) → j ≡ i + 1 → i < length s → drop i s ≡ at s i ∷ drop j s
one s i j e h = drop-cons s i (pos 0) h ∙ ap (λ (k : ℕ). at s i ∷ drop k s) (sym (e ∙ add-one i))

more : (x : ℤ) {s t : List ℤ} → s ≡ t → x ∷ s ≡ x ∷ t
more x e = ap (λ (l : List ℤ). x ∷ l) e

cut : (s : List ℤ) (i : ℕ) → i + 6 ≤ length s
    → drop i s ≡ at s i ∷ at s (i + 1) ∷ at s (i + 2) ∷ at s (i + 3) ∷ at s (i + 4) ∷ at s (i + 5) ∷ drop (i + 6) s
cut s i h =
    one s i (i + 1) (omega arith) (omega arith)
    ∙ more _ (one s (i + 1) (i + 2) (omega arith) (omega arith)
    ∙ more _ (one s (i + 2) (i + 3) (omega arith) (omega arith)
    ∙ more _ (one s (i + 3) (i + 4) (omega arith) (omega arith)
    ∙ more _ (one s (i + 4) (i + 5) (omega arith) (omega arith)
    ∙ more _ (one s (i + 5) (i + 6) (omega arith) (omega arith))))))

pub rows_cut : (s : List ℤ) (i : ℕ) → i + 6 ≤ length s → rows (drop i s) ≡ take 6 (drop i s) ∷ rows (drop (i + 6) s)
unfolding rows
rows_cut s i h = rw (cut s i h)

-- fewer than six numbers are at most one row
pub rows_short : (l : List ℤ) → length l < 6 → rows l ≡ cond (eqb (length l) 0) [] (l ∷ [])
unfolding rows
rows_short [] h = refl
rows_short (a ∷ []) h = refl
rows_short (a ∷ b ∷ []) h = refl
rows_short (a ∷ b ∷ c ∷ []) h = refl
rows_short (a ∷ b ∷ c ∷ d ∷ []) h = refl
rows_short (a ∷ b ∷ c ∷ d ∷ e ∷ []) h = refl
rows_short (a ∷ b ∷ c ∷ d ∷ e ∷ f ∷ l) h = absurd (omega arith)

-- ---- the whole rows, as the loops go over them

abbrev pub whole_rows : List ℤ → List (List ℤ)
whole_rows s = first_chunks 6 (length s / 6) s

-- six numbers more are a row more
row_more : (n : ℕ) → suc (suc (suc (suc (suc (suc n))))) / 6 ≡ suc (n / 6)
row_more n = omega arith

-- what holds of fewer than six numbers, and of a row before a sheet of which it holds
pub by_rows : (P : List ℤ → List (List ℤ) → Type 0)
    → ((l : List ℤ) → length l < 6 → P l [])
    → ((a b c d e f : ℤ) (s : List ℤ) → P s (whole_rows s) → P (a ∷ b ∷ c ∷ d ∷ e ∷ f ∷ s) ((a ∷ b ∷ c ∷ d ∷ e ∷ f ∷ []) ∷ whole_rows s))
    → (s : List ℤ) → P s (whole_rows s)
by_rows P short next [] = short [] (omega arith)
by_rows P short next (a ∷ []) = short (a ∷ []) (omega arith)
by_rows P short next (a ∷ b ∷ []) = short (a ∷ b ∷ []) (omega arith)
by_rows P short next (a ∷ b ∷ c ∷ []) = short (a ∷ b ∷ c ∷ []) (omega arith)
by_rows P short next (a ∷ b ∷ c ∷ d ∷ []) = short (a ∷ b ∷ c ∷ d ∷ []) (omega arith)
by_rows P short next (a ∷ b ∷ c ∷ d ∷ e ∷ []) = short (a ∷ b ∷ c ∷ d ∷ e ∷ []) (omega arith)
by_rows P short next (a ∷ b ∷ c ∷ d ∷ e ∷ f ∷ s) =
    let l = a ∷ b ∷ c ∷ d ∷ e ∷ f ∷ s in
    subst (λ (n : ℕ). P l (first_chunks 6 n l)) (sym (row_more (length s))) (next a b c d e f s (by_rows P short next s))

-- whole rows only are all the rows
pub rows_whole : (s : List ℤ) → length s % 6 ≡ 0 → rows s ≡ whole_rows s
unfolding rows
rows_whole s = by_rows (λ (l : List ℤ) (rs : List (List ℤ)). length l % 6 ≡ 0 → rows l ≡ rs)
    (λ l h e. rows_short l h ∙ rw (eq-eqb (length l) 0 (omega arith)))
    (λ a b c d e f l p h. ap (λ (rs : List (List ℤ)). (a ∷ b ∷ c ∷ d ∷ e ∷ f ∷ []) ∷ rs) (p (omega arith)))
    s

chunk_at : (n : ℕ) (s : List ℤ) (k : ℕ) → k < n → get_or (first_chunks 6 n s) k [] ≡ take 6 (drop (6 * k) s)
chunk_at zero s k h = absurd (omega arith)
chunk_at (suc n) s zero h = refl
chunk_at (suc n) s (suc k) h =
    let e : 6 + 6 * k ≡ 6 * suc k = omega arith in
    chunk_at n (drop 6 s) k (omega arith) ∙ ap (take 6) (drop-drop (6 * k) 6 s ∙ ap (λ (m : ℕ). drop m s) e)

-- as many whole rows as fit
pub rows_in : (s : List ℤ) → length (whole_rows s) ≡ length s / 6
rows_in s = by_rows (λ (l : List ℤ) (rs : List (List ℤ)). length rs ≡ length l / 6) (λ l h. omega arith) (λ a b c d e f l p. omega (arith, p)) s

-- the row with the number k
pub record RowAt (s : List ℤ) (k : ℕ) : Type 0 where
  pub six : length (get_or (whole_rows s) k []) ≡ 6
  pub code : at (get_or (whole_rows s) k []) 0 ≡ at s (6 * k)

pub row_at : (s : List ℤ) (k : ℕ) → k < length (whole_rows s) → RowAt s k
row_at s k h =
    let j : k < length s / 6 = omega (arith, rows_in s) in
    let e = chunk_at (length s / 6) s k j in record {
      six = ap length e ∙ length-take-le 6 (drop (6 * k) s) (simp length-drop (omega arith));
      code = ap (λ (r : List ℤ). at r 0) (e ∙ ap (take 6) (cut s (6 * k) (omega arith)));
    }

-- ---- the place of an identifier's row

module _ (s : List ℤ) (i id : ℕ) (h : i + 6 ≤ length s) where
  pub place_here : code_is (at s i) id ≡ true → place_in (drop i s) id ≡ 0
  unfolding place_in place_among rows is_for
  place_here e = rw (cut s i h) (rw e)

  pub place_later : code_is (at s i) id ≡ false → place_in (drop i s) id ≡ 6 + place_in (drop (i + 6) s) id
  unfolding place_in place_among rows is_for
  place_later e = rw (cut s i h) (rw e)

-- fewer than six numbers hold no row
pub place_none : (l : List ℤ) (id : ℕ) → length l < 6 → place_in l id ≡ length l
unfolding place_in place_among is_for
place_none l id h =
    rw (rows_short l h)
    (by-test (eqb (length l) 0)
    (λ t. rw t (sym (eqb-true (length l) 0 t)))
    (λ t. rw (t, ne_eqb (length l) 6 (λ (e : length l ≡ 6). omega arith)) (omega arith)))

-- where the row stands: a whole row at its place, or the end of the sheet
pub record Stands (s : List ℤ) (i : ℕ) : Type 0 where
  pub whole : place_in s i < length s → place_in s i + 6 ≤ length s
  pub within : place_in s i ≤ length s
  pub row : row_in s i ≡ take 6 (drop (place_in s i) s)

pub stands : (s : List ℤ) (i : ℕ) → Stands s i
unfolding row_in row_among place_in place_among rows is_for
stands [] i = record { whole = λ h. absurd (omega arith); within = omega arith; row = refl }
stands (a ∷ []) i = record { whole = λ h. absurd (omega arith); within = omega arith; row = refl }
stands (a ∷ b ∷ []) i = record { whole = λ h. absurd (omega arith); within = omega arith; row = refl }
stands (a ∷ b ∷ c ∷ []) i = record { whole = λ h. absurd (omega arith); within = omega arith; row = refl }
stands (a ∷ b ∷ c ∷ d ∷ []) i = record { whole = λ h. absurd (omega arith); within = omega arith; row = refl }
stands (a ∷ b ∷ c ∷ d ∷ e ∷ []) i = record { whole = λ h. absurd (omega arith); within = omega arith; row = refl }
stands (a ∷ b ∷ c ∷ d ∷ e ∷ f ∷ s) i =
    let r = stands s i in
    by-test (code_is a i)
    (λ t. record { whole = rw t (λ h. omega arith); within = rw t (omega arith); row = rw t refl })
    (λ t. record {
      whole = rw t (λ h. omega (arith, r.whole (omega arith)));
      within = rw t (omega (arith, r.within));
      row = rw t (r.row ∙ ap (take 6) (drop-drop (place_among (rows s) i) 6 (a ∷ b ∷ c ∷ d ∷ e ∷ f ∷ s)));
    })

-- the first whole row with the identifier, as the code finds it
-- ---- the place by the position among the whole rows, as the code finds it

abbrev its_position : List (List ℤ) → ℕ → ℕ
its_position rs id = position_or_len (λ r. code_is (at r 0) id) rs

next_place : (k n l m : ℕ) → m ≡ 6 + l → 6 + cond (ltb k n) (6 * k) l ≡ cond (ltb (1 + k) (suc n)) (6 * (1 + k)) m
next_place k n l m e =
    by-test (ltb k n)
    (λ t. rw (t, lt-ltb (1 + k) (suc n) (omega (arith, ltb-true k n t))) (omega arith))
    (λ t. rw (t, le-ltb (1 + k) (suc n) (omega (arith, ltb-false k n t))) (sym e))

placed : (s : List ℤ) (id : ℕ) → place_in s id ≡ cond (ltb (its_position (whole_rows s) id) (length (whole_rows s))) (6 * its_position (whole_rows s) id) (length s)
placed s id =
    by_rows (λ (l : List ℤ) (rs : List (List ℤ)). place_in l id ≡ cond (ltb (its_position rs id) (length rs)) (6 * its_position rs id) (length l))
    (λ l h. place_none l id h)
    (λ a b c d e f l p.
    let s : List ℤ = a ∷ b ∷ c ∷ d ∷ e ∷ f ∷ l in
    let n = length (whole_rows l) in
    by-test (code_is a id)
    (λ t. rw (t, lt-ltb 0 (suc n) (omega arith)) (place_here s 0 id (omega arith) t))
    (λ t. rw t (place_later s 0 id (omega arith) t ∙ ap (λ (k : ℕ). 6 + k) p ∙ next_place (its_position (whole_rows l) id) n (length l) (length s) (omega arith))))
    s

start_of : (s : List ℤ) (id : ℕ) → option_map (λ (k : ℕ). 6 * k) (position (λ r. code_is (at r 0) id) (whole_rows s)) ≡ start_in s id
unfolding start_in has_row
start_of s id =
    let k = its_position (whole_rows s) id in
    let n = length (whole_rows s) in
    let p = placed s id in
    by-test (ltb k n)
    (λ t.
    let q : place_in s id ≡ 6 * k = p ∙ rw t refl in
    rw (t, q, lt-ltb (6 * k) (length s) (omega (arith, ltb-true k n t, rows_in s))) refl)
    (λ t.
    let q : place_in s id ≡ length s = p ∙ rw t refl in
    rw (t, q, le-ltb (length s) (length s) (omega arith)) refl)

pub start_by : (s : List ℤ) (id : ℕ) {rs : List (List ℤ)} {o : Option ℕ} → rs ≡ whole_rows s → o ≡ position (λ r. code_is (at r 0) id) rs → option_map (λ (k : ℕ). 6 * k) o ≡ start_in s id
start_by s id e p = rw (p, e) (start_of s id)

-- ---- the sheet's rules, row by row

-- the row in hand, and those behind it
pub rows_from : (rs : List (List ℤ)) (k : ℕ) → k < length rs → drop k rs ≡ get_or rs k [] ∷ drop (k + 1) rs
rows_from rs k h = drop-cons rs k [] h ∙ ap (λ (n : ℕ). get_or rs k [] ∷ drop n rs) (sym (add-one k))

-- the next row is sound, and its identifier z above the last one: so are all where those behind it are
module _ (rs : List (List ℤ)) (k : ℕ) (last z : ℤ) (b : Bool) (h : k < length rs) (p : b ≡ sound_row (get_or rs k [])) (q : z ≡ at (get_or rs k []) 0) where
  sound_next : sound_rows last (drop k rs) ≡ ((b && lt_z last z) && sound_rows z (drop (k + 1) rs))
  unfolding sound_rows
  sound_next = rw (p, q, rows_from rs k h) refl

  pub rows_more : {x : Bool} → x ≡ sound_rows last (drop k rs) → (b && lt_z last z) ≡ true → x ≡ sound_rows z (drop (k + 1) rs)
  rows_more e t = e ∙ sound_next ∙ rw t refl

  pub rows_bad : {x : Bool} → x ≡ sound_rows last (drop k rs) → (b && lt_z last z) ≡ false → x ≡ false
  rows_bad e t = e ∙ sound_next ∙ rw t refl

-- no row is left
pub rows_done : (rs : List (List ℤ)) (k : ℕ) (last : ℤ) → length rs ≤ k → sound_rows last (drop k rs) ≡ true
unfolding sound_rows
rows_done rs k last h = rw (drop_of_length-le rs h) refl

and_false : (a : Bool) → (a && false) ≡ false
and_false true = refl
and_false false = refl

-- numbers behind the last whole row make a sheet unsound
rows_left : (s : List ℤ) → (length s % 6 ≡ 0 → ⊥) → (last : ℤ) → sound_rows last (rows s) ≡ false
unfolding sound_rows rows sound_row
rows_left s =
    by_rows (λ (l : List ℤ) (rs : List (List ℤ)). (length l % 6 ≡ 0 → ⊥) → (last : ℤ) → sound_rows last (rows l) ≡ false)
    (λ l h n last. rw (rows_short l h, ne_eqb (length l) 0 (λ (e : length l ≡ 0). n (omega arith)), ne_eqb (length l) 6 (λ (e : length l ≡ 6). omega arith)) refl)
    (λ a b c d e f l p n last. rw (p (λ k. n (omega arith)) a) (and_false _))
    s

neither : (a b : Bool) → (a || not b) ≡ false → (a ≡ false) × (b ≡ true)
neither true b e = absurd (false≢true (sym e))
neither false true e = (refl, refl)
neither false false e = absurd (false≢true (sym e))

-- the test of their number, and of what is left behind them
module _ (s : List ℤ) {rs : List (List ℤ)} {n : ℕ} {b : Bool} (p : rs ≡ whole_rows s) (q : n ≡ length s % 6) (e : b ≡ eqb n 0) where
  pub sheet_whole : (ltb 64 (length rs) || not b) ≡ false → sound_rows (pos 0) rs ≡ sound_sheet s
  unfolding sound_sheet
  sheet_whole t =
      let u = neither (ltb 64 (length rs)) b t in
      let r : rows s ≡ rs = rows_whole s (sym q ∙ eqb-true n 0 (sym e ∙ u.1)) ∙ sym p in
      rw (r, le-leb (length rs) 64 (ltb-false 64 (length rs) u.0)) refl

  pub sheet_not : (ltb 64 (length rs) || not b) ≡ true → false ≡ sound_sheet s
  unfolding sound_sheet
  sheet_not t =
      by-test (eqb n 0)
      (λ u.
      let r : rows s ≡ rs = rows_whole s (sym q ∙ eqb-true n 0 u) ∙ sym p in
      by-test (ltb 64 (length rs))
      (λ v. rw (r, lt-leb (length rs) 64 (ltb-true 64 (length rs) v)) refl)
      (λ v. absurd (false≢true (rw (v, e, u) at t))))
      (λ u. rw (rows_left s (λ (z : length s % 6 ≡ 0). eqb-false n 0 u (q ∙ z)) (pos 0)) (sym (and_false _)))

-- ---- the count of rows, by that of numbers

counts : (s : List ℤ) → (length s ≤ length (rows s) * 6) × (length (rows s) * 6 ≤ length s + 5)
unfolding rows
counts [] = (omega arith, omega arith)
counts (a ∷ []) = (omega arith, omega arith)
counts (a ∷ b ∷ []) = (omega arith, omega arith)
counts (a ∷ b ∷ c ∷ []) = (omega arith, omega arith)
counts (a ∷ b ∷ c ∷ d ∷ []) = (omega arith, omega arith)
counts (a ∷ b ∷ c ∷ d ∷ e ∷ []) = (omega arith, omega arith)
counts (a ∷ b ∷ c ∷ d ∷ e ∷ f ∷ s) = let r = counts s in (omega arith, omega arith)

pub sheet_long : (s : List ℤ) → 384 < length s → false ≡ sound_sheet s
unfolding sound_sheet
sheet_long s h = rw (lt-leb (length (rows s)) 64 (omega (arith, (counts s).0)))

pub sheet_short : (s : List ℤ) → length s ≤ 384 → sound_rows (pos 0) (rows s) ≡ sound_sheet s
unfolding sound_sheet
sheet_short s h = rw (le-leb (length (rows s)) 64 (omega (arith, (counts s).1)))
