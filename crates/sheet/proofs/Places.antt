-- Sound values, by the rows: of the rows with a code the first counts, those of the bench sheet before the maker's. And what the
-- loop over a sheet's rows carries. Assumes nothing.
use mathlib.Core.Path.{◌≡◌, refl, sym, ap, ◌∙◌, subst}
use mathlib.Core.Bool.{Bool, true, false, ◌&&◌, false≢true}
use mathlib.Core.List.{List, [], ◌∷◌, ◌++◌}
use Prim.Native.Nat.{ℕ, ◌+◌, ◌≤◌, ◌<◌}
use native.Mathlib.Omega.{arith}
use borrow.Author.Tests.{eq-eqb, ne_eqb, ltb-true, ltb-false}
use lib.Dec.{eqb, ltb}
use lib.IntN.{ℤ, pos, negsuc, nat_abs}
use lib.ListN.{length, get_or, drop, replicate, drop_of_length-le, get_or-replicate, get_or-eq_default}
use Rattle.refusal.proofs.Logic.{and_left, and_right, and_both, choice, by-test}
use Rattle.sheet.specs.Sheet.{at, rows}
use Rattle.sheet.specs.Lookup.{code_is, is_for, row_among, row_in, has_row, row_of}
use Rattle.sheet.specs.Values.{fits_place, sound_values}
use Rattle.sheet.specs.Inner.{marked_row, is_seen, fits_once, seen_once, fits_rows, seen_rows}
use Rattle.sheet.proofs.Rows.{by_rows, whole_rows, rows_short, rows_from, row_at}
use Rattle.sheet.proofs.SoundSheets.{row_for, row_is, row_none, bench_wins, maker_else, same_test}
use Rattle.sheet.proofs.Values.{places, from_places}
use Rattle.sheet.proofs.Marks.{mark_same, mark_other, length_mark, get_d_within}

-- ---- the rows of two sheets, one behind the other

module _ (ys : List (List ℤ)) (i : ℕ) where
  join_has : (xs : List (List ℤ)) → length (row_among xs i) ≡ 6 → row_among (xs ++ ys) i ≡ row_among xs i
  unfolding row_among
  join_has [] h = absurd (omega arith)
  join_has (r ∷ xs) h = by-test (is_for r i) (λ t. rw t refl) (λ t. rw t (join_has xs (rw t at h)))

  join_none : (xs : List (List ℤ)) → length (row_among xs i) ≡ 0 → row_among (xs ++ ys) i ≡ row_among ys i
  unfolding row_among
  join_none [] h = refl
  join_none (r ∷ xs) h =
      by-test (is_for r i)
      (λ t. absurd (let z : length r ≡ 0 = rw t at h in omega (arith, (row_for r i t).six)))
      (λ t. rw t (join_none xs (rw t at h)))

joined : (bench maker : List ℤ) (i : ℕ) → row_among (rows bench ++ rows maker) i ≡ row_of bench maker i
unfolding row_in
joined bench maker i =
    by-test (has_row bench i)
    (λ t. join_has (rows maker) i (rows bench) (row_is bench i t).six ∙ sym (bench_wins bench maker i t))
    (λ t. join_none (rows maker) i (rows bench) (ap length (row_none bench i t)) ∙ sym (maker_else bench maker i t))

-- ---- one row

module _ (r : List ℤ) (seen : List Bool) where
  seen_long : length (seen_once r seen) ≡ length seen
  unfolding seen_once
  seen_long = choice (λ (l : List Bool). length l ≡ length seen) (eqb (length r) 6) (λ t. length_mark (at r 0) true seen) (λ t. refl)

  seen_other : (j : ℕ) → is_for r j ≡ false → get_or (seen_once r seen) j false ≡ get_or seen j false
  unfolding seen_once is_for
  seen_other j e =
      by-test (eqb (length r) 6)
      (λ t. rw t (mark_other (at r 0) true false seen j (rw t at e)))
      (λ t. rw t refl)

  module _ (j : ℕ) (e : is_for r j ≡ true) (h : j < length seen) where
    seen_same : get_or (seen_once r seen) j false ≡ true
    unfolding seen_once is_for
    seen_same =
        rw (and_left (eqb (length r) 6) _ e)
        (mark_same (at r 0) true false seen j (and_right (eqb (length r) 6) (code_is (at r 0) j) e) h)

    fits_first : (vs : List ℤ) → get_or seen j false ≡ false → fits_once r vs seen ≡ fits_place r (at vs j)
    unfolding fits_once is_seen
    fits_first vs z = rw (row_for r j e).its (rw (get_d_within seen j true false h ∙ z) refl)

-- a code that was not seen has a place
unseen : (z : ℤ) (seen : List Bool) → is_seen z seen ≡ false
    → (z ≡ pos (nat_abs z)) × (nat_abs z < length seen) × (get_or seen (nat_abs z) false ≡ false)
unfolding is_seen
unseen (negsuc n) seen e = absurd (false≢true (sym e))
unseen (pos n) seen e =
    by-test (ltb n (length seen))
    (λ t. let h = ltb-true n (length seen) t in (refl, h, get_d_within seen n false true h ∙ e))
    (λ t. absurd (false≢true (sym e ∙ get_or-eq_default seen true {n = n} (ltb-false n (length seen) t))))

whole_for : (r : List ℤ) → at r 0 ≡ pos (nat_abs (at r 0)) → eqb (length r) 6 ≡ true → is_for r (nat_abs (at r 0)) ≡ true
unfolding is_for code_is
whole_for r e t = and_both t (subst (λ (z : ℤ). code_is z (nat_abs (at r 0)) ≡ true) (sym e) (eq-eqb (nat_abs (at r 0)) (nat_abs (at r 0)) refl))

-- the test passes where no whole row with a code not seen before fails it
once_fits : (r : List ℤ) (seen : List Bool) (vs : List ℤ)
    → ((j : ℕ) → j < length seen → get_or seen j false ≡ false → is_for r j ≡ true → fits_place r (at vs j) ≡ true) → fits_once r vs seen ≡ true
unfolding fits_once
once_fits r seen vs f =
    by-test (is_seen (at r 0) seen)
    (λ u. rw u refl)
    (λ u. rw u (by-test (eqb (length r) 6)
    (λ t. let q = unseen (at r 0) seen u in f (nat_abs (at r 0)) q.1 q.2 (whole_for r q.0 t))
    (λ t. unfold fits_place in rw t refl)))

-- ---- all rows

module _ (vs : List ℤ) where
  fits_join : (xs ys : List (List ℤ)) (seen : List Bool) → fits_rows (xs ++ ys) vs seen ≡ (fits_rows xs vs seen && fits_rows ys vs (seen_rows xs seen))
  unfolding fits_rows seen_rows
  fits_join [] ys seen = refl
  fits_join (r ∷ xs) ys seen =
      by-test (fits_once r vs seen) (λ t. rw t (fits_join xs ys (seen_once r seen))) (λ t. rw t refl)

  each_fits : (rs : List (List ℤ)) (seen : List Bool) → fits_rows rs vs seen ≡ true
      → (j : ℕ) → j < length seen → get_or seen j false ≡ false → fits_place (row_among rs j) (at vs j) ≡ true
  unfolding fits_rows row_among
  each_fits [] seen e j h z = unfold fits_place in refl
  each_fits (r ∷ rs) seen e j h z =
      choice (λ (l : List ℤ). fits_place l (at vs j) ≡ true) (is_for r j)
      (λ t. sym (fits_first r seen j t h vs z) ∙ and_left (fits_once r vs seen) _ e)
      (λ t. each_fits rs (seen_once r seen) (and_right (fits_once r vs seen) _ e) j (omega (arith, seen_long r seen)) (seen_other r seen j t ∙ z))

  fits_each : (rs : List (List ℤ)) (seen : List Bool)
      → ((j : ℕ) → j < length seen → get_or seen j false ≡ false → fits_place (row_among rs j) (at vs j) ≡ true) → fits_rows rs vs seen ≡ true
  unfolding fits_rows row_among
  fits_each [] seen f = refl
  fits_each (r ∷ rs) seen f =
      and_both
      (once_fits r seen vs (λ j h z t. rw t at (f j h z)))
      (fits_each rs (seen_once r seen) (λ j h z.
      let l : j < length seen = omega (arith, seen_long r seen) in
      by-test (is_for r j)
      (λ t. absurd (false≢true (sym z ∙ seen_same r seen j t l)))
      (λ t. rw t at (f j l (sym (seen_other r seen j t) ∙ z)))))

-- the bench sheet's rows, and then the maker's with the codes that are left
pub values_by_rows : (bench maker vs : List ℤ) → length vs ≡ 128
    → (fits_rows (rows bench) vs (replicate 128 false) && fits_rows (rows maker) vs (seen_rows (rows bench) (replicate 128 false))) ≡ sound_values bench maker vs
values_by_rows bench maker vs n =
    let none : List Bool = replicate 128 false in
    sym (fits_join vs (rows bench) (rows maker) none)
    ∙ same_test _ (sound_values bench maker vs)
    (λ e. from_places bench maker vs n (λ i h. rw joined at (each_fits vs (rows bench ++ rows maker) none e i h (get_or-replicate 128 i false false h))))
    (λ e. fits_each vs (rows bench ++ rows maker) none (λ j h z. rw joined (places bench maker vs e j h)))

pub values_count : (bench maker vs : List ℤ) → (length vs ≡ 128 → ⊥) → false ≡ sound_values bench maker vs
unfolding sound_values
values_count bench maker vs h = rw (ne_eqb (length vs) 128 h)

-- ---- the loop over a sheet

-- the rows before the one with the number k are passed
pub record Passed (rs : List (List ℤ)) (vs : List ℤ) (seen₀ seen : List Bool) (fits : Bool) (k : ℕ) : Type 0 where
  pub fit : fits_rows rs vs seen₀ ≡ (fits && fits_rows (drop k rs) vs seen)
  pub marked : seen_rows rs seen₀ ≡ seen_rows (drop k rs) seen

pub starts : (rs : List (List ℤ)) (vs : List ℤ) (seen : List Bool) → Passed rs vs seen seen true 0
starts rs vs seen = record { fit = refl; marked = refl }

and_assoc : (a b c : Bool) → (a && (b && c)) ≡ ((a && b) && c)
and_assoc true b c = refl
and_assoc false b c = refl

and-true : (a : Bool) → a ≡ (a && true)
and-true true = refl
and-true false = refl

-- a whole row is seen, a shorter one is not looked at
seen_whole : (r : List ℤ) (seen : List Bool) → length r ≡ 6 → seen_once r seen ≡ marked_row (at r 0) true seen
unfolding seen_once
seen_whole r seen e = rw (eq-eqb (length r) 6 e)

left_over : (l vs : List ℤ) (seen : List Bool) → length l < 6 → (fits_rows (rows l) vs seen ≡ true) × (seen_rows (rows l) seen ≡ seen)
unfolding fits_rows seen_rows seen_once
left_over l vs seen h =
    rw (rows_short l h)
    (choice (λ (rs : List (List ℤ)). (fits_rows rs vs seen ≡ true) × (seen_rows rs seen ≡ seen)) (eqb (length l) 0)
    (λ t. (refl, refl))
    (λ t. (and_both (once_fits l seen vs (λ j k z e. absurd (omega (arith, (row_for l j e).six)))) refl, rw (ne_eqb (length l) 6 (λ (e : length l ≡ 6). omega arith)))))

-- only the whole rows count
whole_count : (s vs : List ℤ) (seen : List Bool) → (fits_rows (rows s) vs seen ≡ fits_rows (whole_rows s) vs seen) × (seen_rows (rows s) seen ≡ seen_rows (whole_rows s) seen)
unfolding fits_rows seen_rows rows
whole_count s vs =
    by_rows (λ (l : List ℤ) (rs : List (List ℤ)). (seen : List Bool) → (fits_rows (rows l) vs seen ≡ fits_rows rs vs seen) × (seen_rows (rows l) seen ≡ seen_rows rs seen))
    (λ l h seen. left_over l vs seen h)
    (λ a b c d e f l p seen.
    let r : List ℤ = a ∷ b ∷ c ∷ d ∷ e ∷ f ∷ [] in
    let q = p (seen_once r seen) in (ap (λ (x : Bool). fits_once r vs seen && x) q.0, q.1))
    s

-- the next row's test, and the codes seen after it
pub more : (s vs : List ℤ) (seen₀ seen next : List Bool) (fits fit : Bool) (k : ℕ) {rs : List (List ℤ)} → rs ≡ whole_rows s → k < length rs
    → fit ≡ fits_once (get_or rs k []) vs seen → next ≡ marked_row (at (get_or rs k []) 0) true seen
    → Passed rs vs seen₀ seen fits k → Passed rs vs seen₀ next (fits && fit) (k + 1)
unfolding fits_rows seen_rows
more s vs seen₀ seen next fits fit k {rs} w h e m p =
    let r = get_or rs k [] in
    let n : next ≡ seen_once r seen = m ∙ sym (seen_whole r seen (rw w (row_at s k (rw w at h)).six)) in
    record {
      fit = p.fit ∙ rw (rows_from rs k h, e, n) (and_assoc fits (fits_once r vs seen) _);
      marked = p.marked ∙ rw (rows_from rs k h, n) refl;
    }

-- no row is left
pub ends : (s vs : List ℤ) (seen₀ seen : List Bool) (fits : Bool) (k : ℕ) {rs : List (List ℤ)} → rs ≡ whole_rows s → length rs ≤ k → Passed rs vs seen₀ seen fits k
    → (fits ≡ fits_rows (rows s) vs seen₀) × (seen ≡ seen_rows (rows s) seen₀)
unfolding fits_rows seen_rows
ends s vs seen₀ seen fits k {rs} e h p =
    let w = whole_count s vs seen₀ in
    let none = drop_of_length-le rs h in (
      and-true fits ∙ sym (rw none at p.fit) ∙ ap (λ (l : List (List ℤ)). fits_rows l vs seen₀) e ∙ sym w.0,
      sym (rw none at p.marked) ∙ ap (λ (l : List (List ℤ)). seen_rows l seen₀) e ∙ sym w.1,
    )
