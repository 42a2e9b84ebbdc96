-- The index: at each code the place where its row starts, and that the part there is the row. The loop goes back over a sheet row by
-- row. Assumes nothing.
use mathlib.Core.Path.{◌≡◌, refl, sym, ap, ◌∙◌}
use mathlib.Core.Bool.{true, false, cond, false≢true}
use mathlib.Core.List.{List, [], ◌∷◌}
use Prim.Native.Nat.{ℕ, zero, suc, ◌+◌, ◌-◌, ◌*◌, ◌/◌, ◌≤◌, ◌<◌}
use native.Mathlib.Nat.{zero-add}
use native.Mathlib.Omega.{arith}
use borrow.Author.Tests.{lt-ltb, le-ltb, ltb-true, ltb-false, eqb-true, eqb-false, eq-eqb}
use lib.Dec.{ltb, eqb}
use lib.IntN.{ℤ, pos, negsuc}
use lib.ListN.{length, get_or, take, drop, replicate, length-drop, length-set, length-replicate, get_or-replicate, drop_of_length-le, get_or-eq_default}
use lib.Seq.{ext_get_or, get_or-set_same, get_or-set_other}
use Rattle.refusal.proofs.Logic.{ands, by-test}
use Rattle.number.specs.Number.{in_range}
use Rattle.sheet.specs.Sheet.{at, sound_row, sound_sheet}
use Rattle.sheet.specs.Lookup.{code_is, place_in, has_row, row_in, row_of}
use Rattle.sheet.specs.Inner.{whole_row, entry_by, entry_at, place_of, places_from, index_of, part_at, marked_from, marked, marked_row}
use Rattle.sheet.specs.Values.{entry_of, entry_in}
use Rattle.sheet.proofs.Rows.{whole_rows, rows_in, row_at, place_here, place_later, place_none, stands}
use Rattle.sheet.proofs.SoundSheets.{row_parts, bench_wins, maker_else, row_of_sound}
use Rattle.sheet.proofs.Values.{entry_below}
use Rattle.std.specs.Prelude.{None, Option, Some}
use Rattle.sheet.specs.declared.Row.{Row}

-- ---- what the index holds

-- the place of the code j by the rows from k on, or d
abbrev pub place_from : List ℤ → ℕ → ℕ → ℕ → ℕ → ℕ
place_from s base k d j = cond (has_row (drop k s) j) (base + (k + place_in (drop k s) j)) d

length_marked : (s : List ℤ) (base i : ℕ) (xs : List ℕ) → length (marked_from s base i xs) ≡ length xs
unfolding marked_from
length_marked s base i [] = refl
length_marked s base i (x ∷ xs) = ap suc (length_marked s base (suc i) xs)

get_d_marked : (s : List ℤ) (base i : ℕ) (xs : List ℕ) (j : ℕ) → j < length xs → get_or (marked_from s base i xs) j 0 ≡ cond (has_row s (i + j)) (base + place_in s (i + j)) (get_or xs j 0)
unfolding marked_from
get_d_marked s base i [] j h = absurd (omega arith)
get_d_marked s base i (x ∷ xs) zero h = let e : i + 0 ≡ i = omega arith in rw e refl
get_d_marked s base i (x ∷ xs) (suc j) h =
    let e : suc i + j ≡ i + suc j = omega arith in
    get_d_marked s base (suc i) xs j (omega arith) ∙ rw e refl

-- ---- one row more, from the last to the first

-- what a row does to the place of a code
pub mark_same : {A : Type 0} (c : ℤ) (p d : A) (xs : List A) (j : ℕ) → code_is c j ≡ true → j < length xs → get_or (marked_row c p xs) j d ≡ p
unfolding code_is marked_row
mark_same (pos n) p d xs j e h = let q : n ≡ j = eqb-true n j e in rw q (get_or-set_same xs j p d h)
mark_same (negsuc n) p d xs j e h = absurd (false≢true e)

pub mark_other : {A : Type 0} (c : ℤ) (p d : A) (xs : List A) (j : ℕ) → code_is c j ≡ false → get_or (marked_row c p xs) j d ≡ get_or xs j d
unfolding code_is marked_row
mark_other (pos n) p d xs j e = get_or-set_other xs n j p d (λ (q : j ≡ n). eqb-false n j e (sym q))
mark_other (negsuc n) p d xs j e = refl

pub length_mark : {A : Type 0} (c : ℤ) (p : A) (xs : List A) → length (marked_row c p xs) ≡ length xs
unfolding marked_row
length_mark (pos n) p xs = length-set xs n p
length_mark (negsuc n) p xs = refl

-- all rows from the one with the number k on are marked
pub record Marked (s : List ℤ) (base : ℕ) (xs places : List ℕ) (k : ℕ) : Type 0 where
  pub long : length places ≡ length xs
  pub each : (j : ℕ) → j < length xs → get_or places j 0 ≡ place_from s base (6 * k) (get_or xs j 0) j

-- fewer than six numbers hold no row
pub marks : (s : List ℤ) (base : ℕ) (xs : List ℕ) (k : ℕ) {rs : List (List ℤ)} → rs ≡ whole_rows s → k ≡ length rs → Marked s base xs xs k
unfolding has_row
marks s base xs k {rs} w h = record {
  long = refl;
  each = λ j i.
      let n : k ≡ length s / 6 = h ∙ ap length w ∙ rows_in s in
      let rest = drop (6 * k) s in
      let l : length rest < 6 = omega (arith, length-drop (6 * k) s) in
      sym (rw (le-ltb (place_in rest j) (length rest) (omega (arith, place_none rest j l))) refl);
}

module _ (s : List ℤ) (base : ℕ) (k : ℕ) (room : 6 * k + 6 ≤ length s) where
  abbrev rest : List ℤ
  rest = drop (6 * k) s

  next : 6 * k + 6 ≡ 6 * (k + 1)
  next = omega arith

  place_back : (j d : ℕ) → code_is (at s (6 * k)) j ≡ false → place_from s base (6 * k) d j ≡ place_from s base (6 * (k + 1)) d j
  unfolding has_row
  place_back j d e =
      let left = drop (6 * (k + 1)) s in
      let p : place_in rest j ≡ 6 + place_in left j = place_later s (6 * k) j room e ∙ ap (λ (n : ℕ). 6 + place_in (drop n s) j) next in
      let l : length rest ≡ 6 + length left = omega (arith, room, length-drop (6 * k) s, length-drop (6 * (k + 1)) s) in
      by-test (ltb (place_in left j) (length left))
      (λ t. let u = ltb-true (place_in left j) (length left) t in rw (t, lt-ltb (place_in rest j) (length rest) (omega arith)) (omega arith))
      (λ t. let u = ltb-false (place_in left j) (length left) t in rw (t, le-ltb (place_in rest j) (length rest) (omega arith)) refl)

  place_first : (j d : ℕ) → code_is (at s (6 * k)) j ≡ true → base + 6 * k ≡ place_from s base (6 * k) d j
  unfolding has_row
  place_first j d e =
      let p : place_in rest j ≡ 0 = place_here s (6 * k) j room e in
      let l : 6 ≤ length rest = omega (arith, room, length-drop (6 * k) s) in
      rw (lt-ltb (place_in rest j) (length rest) (omega arith)) (omega arith)

pub marks_more : (s : List ℤ) (base : ℕ) (xs places next : List ℕ) (k after : ℕ) (z : ℤ) {rs : List (List ℤ)} → rs ≡ whole_rows s → k < length rs
    → z ≡ at (get_or rs k []) 0 → next ≡ marked_row z (base + 6 * k) places → after ≡ k + 1 → Marked s base xs places after → Marked s base xs next k
marks_more s base xs places next k after z {rs} w h q e f p =
    let m : Marked s base xs places (k + 1) = rw f at p in
    let n : k < length s / 6 = omega (arith, ap length w, rows_in s) in
    let room : 6 * k + 6 ≤ length s = omega arith in
    let c : next ≡ marked_row (at s (6 * k)) (base + 6 * k) places = e ∙ ap (λ (x : ℤ). marked_row x (base + 6 * k) places) (q ∙ ap (λ (l : List (List ℤ)). at (get_or l k []) 0) w ∙ (row_at s k (rw w at h)).code) in
    record {
      long = ap length c ∙ length_mark (at s (6 * k)) (base + 6 * k) places ∙ m.long;
      each = λ j l. by-test (code_is (at s (6 * k)) j)
          (λ t. rw c (mark_same (at s (6 * k)) (base + 6 * k) 0 places j t (omega (arith, m.long)) ∙ place_first s base k room j (get_or xs j 0) t))
          (λ t. rw c (mark_other (at s (6 * k)) (base + 6 * k) 0 places j t ∙ m.each j l ∙ sym (place_back s base k room j (get_or xs j 0) t)));
    }

pub marked_all : (s : List ℤ) (base : ℕ) (xs places : List ℕ) (k : ℕ) → k ≡ 0 → Marked s base xs places k → places ≡ marked s base xs
unfolding marked
marked_all s base xs places k e p =
    let m : Marked s base xs places 0 = rw e at p in
    ext_get_or 0 places (marked_from s base 0 xs) (m.long ∙ sym (length_marked s base 0 xs))
    (λ j l.
    let n : j < length xs = omega (arith, m.long) in
    m.each j n
    ∙ ap (λ (p : ℕ). cond (has_row s j) (base + p) (get_or xs j 0)) (zero-add (place_in s j))
    ∙ ap (λ (q : ℕ). cond (has_row s q) (base + place_in s q) (get_or xs j 0)) (sym (zero-add j))
    ∙ sym (get_d_marked s base 0 xs j n))

-- ---- the two sheets

module _ (bench maker : List ℤ) where
  length_places : (i n : ℕ) → length (places_from bench maker i n) ≡ n
  unfolding places_from
  length_places i zero = refl
  length_places i (suc n) = ap suc (length_places (suc i) n)

  get_d_places : (i n j : ℕ) → j < n → get_or (places_from bench maker i n) j 0 ≡ place_of bench maker (i + j)
  unfolding places_from
  get_d_places i zero j h = absurd (omega arith)
  get_d_places i (suc n) zero h = let e : i + 0 ≡ i = omega arith in rw e refl
  get_d_places i (suc n) (suc j) h =
      let e : suc i + j ≡ i + suc j = omega arith in
      get_d_places (suc i) n j (omega arith) ∙ rw e refl

  pub index_long : length (index_of bench maker) ≡ 128
  unfolding index_of
  index_long = length_places 0 128

  index_place : (i : ℕ) → i < 128 → get_or (index_of bench maker) i 0 ≡ place_of bench maker i
  unfolding index_of
  index_place i h = let e : 0 + i ≡ i = omega arith in get_d_places 0 128 i h ∙ ap (place_of bench maker) e

pub sound_whole : (r : List ℤ) → sound_row r ≡ true → whole_row r ≡ true
unfolding whole_row
sound_whole r e = let p = row_parts r e in rw (eq-eqb (length r) 6 p.six, p.access, p.decimals) refl

-- what is known of a whole row
pub whole_parts : (r : List ℤ) → whole_row r ≡ true → (length r ≡ 6) × (in_range (pos 1) (at r 1) (pos 3) ≡ true) × (in_range (pos 0) (at r 2) (pos 3) ≡ true)
unfolding whole_row
whole_parts r e = (eqb-true (length r) 6 (search ands), search ands, search ands)

-- a sound row passes both tests, and what is no whole row neither
by_sound : (r : List ℤ) → sound_row r ≡ true → entry_by r ≡ entry_of r
unfolding entry_by entry_of
by_sound r e = rw (e, sound_whole r e) refl

by_length : (r : List ℤ) → eqb (length r) 6 ≡ false → entry_by r ≡ entry_of r
unfolding entry_by entry_of sound_row whole_row
by_length r e = rw e refl

-- within a list the default is not seen
pub get_d_within : {A : Type 0} (xs : List A) (i : ℕ) (d e : A) → i < length xs → get_or xs i d ≡ get_or xs i e
get_d_within [] i d e h = absurd (omega arith)
get_d_within (x ∷ xs) zero d e h = refl
get_d_within (x ∷ xs) (suc i) d e h = get_d_within xs i d e (omega arith)

module _ (bench maker : List ℤ) (i : ℕ) where
  -- the place of a code, whatever stood there before
  marked_place : (s : List ℤ) (base : ℕ) (xs : List ℕ) → i < length xs → get_or (marked s base xs) i 0 ≡ cond (has_row s i) (base + place_in s i) (get_or xs i 0)
  unfolding marked
  marked_place s base xs h =
      let e : 0 + i ≡ i = omega arith in
      get_d_marked s base 0 xs i h ∙ ap (λ (q : ℕ). cond (has_row s q) (base + place_in s q) (get_or xs i 0)) e

  -- a sheet without the row ends at its place
  in_one : (s : List ℤ) (base : ℕ) → cond (has_row s i) (base + place_in s i) (base + length s) ≡ base + place_in s i
  unfolding has_row
  in_one s base =
      by-test (ltb (place_in s i) (length s))
      (λ t. rw t refl)
      (λ t. rw t (omega (arith, ltb-false (place_in s i) (length s) t, (stands s i).within)))

  place-in : (xs : List ℕ) → length xs ≡ 128 → get_or xs i 0 ≡ length bench + length maker → i < 128 → get_or (marked bench 0 (marked maker (length bench) xs)) i 0 ≡ place_of bench maker i
  unfolding marked place_of
  place-in xs l e h =
      let z : 0 + place_in bench i ≡ place_in bench i = omega arith in
      marked_place bench 0 (marked maker (length bench) xs) (omega (arith, length_marked maker (length bench) 0 xs))
      ∙ ap (λ (d : ℕ). cond (has_row bench i) (0 + place_in bench i) d)
      (marked_place maker (length bench) xs (omega arith) ∙ ap (λ (d : ℕ). cond (has_row maker i) (length bench + place_in maker i) d) e ∙ in_one maker (length bench))
      ∙ ap (λ (p : ℕ). cond (has_row bench i) p (length bench + place_in maker i)) z

  -- behind the bench sheet lies the maker's
  part_behind : (k : ℕ) → part_at bench maker (length bench + k) ≡ take 6 (drop k maker)
  unfolding part_at
  part_behind k =
      let e : (length bench + k) - length bench ≡ k = omega arith in
      rw (le-ltb (length bench + k) (length bench) (omega arith), e) refl

  in_bench : has_row bench i ≡ true → part_at bench maker (place_in bench i) ≡ row_in bench i
  unfolding part_at has_row
  in_bench t = rw t (sym (stands bench i).row)

  -- the part at a code's place in the index is its row
  pub index_row : i < 128 → part_at bench maker (get_or (index_of bench maker) i 0) ≡ row_of bench maker i
  unfolding place_of
  index_row h =
      ap (part_at bench maker) (index_place bench maker i h)
      ∙ by-test (has_row bench i)
      (λ t. rw t (in_bench t) ∙ sym (bench_wins bench maker i t))
      (λ t. rw t (part_behind (place_in maker i) ∙ sym (stands maker i).row) ∙ sym (maker_else bench maker i t))

  -- a code behind the index has no row
  past_entry : 128 ≤ i → entry_in bench maker i ≡ None
  past_entry h = go (entry_in bench maker i) refl
    where
      go : (x : Option Row) → entry_in bench maker i ≡ x → x ≡ None
      go (Some r) e = absurd (omega (arith, h, entry_below bench maker i r e))
      go None e = refl

  end_entry : entry_by (part_at bench maker (length bench + length maker)) ≡ None
  unfolding entry_by whole_row
  end_entry = ap entry_by (part_behind (length maker) ∙ ap (take 6) (let h : length maker ≤ length maker = omega arith in drop_of_length-le maker h))

  -- under sound sheets the entry by the index is the code's
  pub index_entry : sound_sheet bench ≡ true → sound_sheet maker ≡ true → entry_at bench maker (index_of bench maker) i ≡ entry_in bench maker i
  unfolding entry_at entry_in
  index_entry b m =
      let end = length bench + length maker in
      let places = index_of bench maker in
      by-test (ltb i 128)
      (λ t. let h = ltb-true i 128 t in
      ap (λ (k : ℕ). entry_by (part_at bench maker k)) (get_d_within places i end 0 (omega (arith, index_long bench maker)))
      ∙ ap entry_by (index_row h) ∙ by-test (eqb (length (row_of bench maker i)) 6)
      (λ t. by_sound (row_of bench maker i) (row_of_sound bench maker i b m (eqb-true (length (row_of bench maker i)) 6 t)))
      (λ t. by_length (row_of bench maker i) t))
      (λ t. let h = ltb-false i 128 t in
      ap (λ (k : ℕ). entry_by (part_at bench maker k)) (get_or-eq_default places end {n = i} (omega (arith, index_long bench maker)))
      ∙ end_entry ∙ sym (past_entry h))

-- the bench's rows marked over the maker's are the index
pub marked_both : (bench maker : List ℤ) → marked bench 0 (marked maker (length bench) (replicate 128 (length bench + length maker))) ≡ index_of bench maker
unfolding marked
marked_both bench maker =
    let end = length bench + length maker in
    let long = length_marked bench 0 0 (marked maker (length bench) (replicate 128 end)) ∙ length_marked maker (length bench) 0 (replicate 128 end) in
    ext_get_or 0 _ (index_of bench maker) (long ∙ sym (index_long bench maker))
    (λ i h.
    let l : i < 128 = omega (arith, long) in
    place-in bench maker i (replicate 128 end) (length-replicate 128 end) (get_or-replicate 128 i end 0 l) l ∙ sym (index_place bench maker i l))
