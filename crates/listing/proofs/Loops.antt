-- What one word adds to the listing, and what the loop over a buffer carries from word to word, in tail style: what is still to
-- come, behind what is done, is the whole. Assumes nothing.
use Rattle.std.proofs.Common.{◌≡◌, ℕ, zero, suc, ◌+◌, ◌-◌, ◌/◌, ◌<◌, ◌≤◌, Bool, true, false, List, [], ◌∷◌, length, get_or, drop, sym, refl, ap, ◌∙◌, subst, ap₂, add-zero, zero-add, not-suc-le-zero, arith, length-append, length-drop, le-leb}
use borrow.Author.Tests.{lt-leb}
use Rattle.std.specs.Simd.{first_chunks}
use Rattle.std.specs.Prelude.{Err, None, Ok, Option, Result, Some}
use Rattle.refusal.specs.declared.Refusal.{Refusal}
use Rattle.refusal.specs.Refusal.{number_of, outcome_of}
use Rattle.refusal.specs.Call.{call_of, place_call}
use Rattle.refusal.proofs.Buffers.{placed_nothing, Filling, fill_begins, fill_goes_on, fill_laid}
use Rattle.refusal.proofs.Calls.{Placed, placed_gave, placed_refused}
use Rattle.wire.specs.Bytes.{word_of}
use Rattle.message.specs.declared.Message.{Message}
use Rattle.message.specs.Prefix.{parse}
use Rattle.hearing.specs.declared.Pending.{Pending}
use Rattle.hearing.specs.Hearing.{none, open_of, action_of, hear, closes}
use Rattle.hearing.specs.Inner.{left_by}
use Rattle.hearing.proofs.Close.{left_closed, left_other, other_unheard, closing_hears}
use Rattle.listing.specs.declared.Progress.{Progress}
use Rattle.listing.specs.declared.Stop.{Stop}
use Rattle.listing.specs.declared.Stop.TheVariants.{Done, Bad, Full}
use Rattle.listing.specs.declared.Listed.{Listed}
use Rattle.listing.specs.Line.{line}
use Rattle.listing.specs.Listing.{next_position, line_for, count_after, line_at, after, Lines, stopped, behind, listed, answer_of, list_call_of, list_call}

-- ---- one word

-- what the taking of a word w by the open message p answers and leaves
module _ (p : Pending) (w : ℕ) {closed : Bool} {q : Pending} (took : (closed ≡ closes (action_of p w)) × (q ≡ left_by p (action_of p w))) where
  pub passed_by : closed ≡ false → hear p w ≡ record { pending = q; message = None }
  passed_by f =
      let e = sym took.0 ∙ f in
      let is = took.1 ∙ left_other p w e in
      λ j. record { pending = sym is j; message = other_unheard p w e j }

  -- a word that closes the message leaves it open
  pub left_as_it_was : closed ≡ true → q ≡ p
  left_as_it_was t = took.1 ∙ left_closed p (action_of p w) (sym took.0 ∙ t)

  pub closed_by : closed ≡ true → {o : Option Message} → o ≡ parse (open_of q) → hear p w ≡ record { pending = none; message = o }
  closed_by t e =
      closing_hears p w (sym took.0 ∙ t) ∙ ap (λ (x : Option Message). record { pending = none; message = x }) (ap (λ (x : Pending). parse (open_of x)) (sym (left_as_it_was t)) ∙ sym e)

-- what it adds, by what was heard
module _ (p : Progress) (w : ℕ) (q : Pending) (o : Option Message) (e : hear p.pending w ≡ record { pending = q; message = o }) where
  line_heard : line_for p.at o ≡ line_at p w
  unfolding line_at
  line_heard = sym (rw e)

  after_heard : record { pending = q; at = next_position p.at; count = count_after p.count o } ≡ after p w
  unfolding after
  after_heard = sym (rw e)

-- ---- the definition, by cases

-- the next word w, as the code has it
module _ (p : Progress) (low high : ℕ) (bytes : List ℕ) (room w : ℕ) (e : w ≡ word_of low high) where
  pub listed_bad : 256 < w → listed p (low ∷ high ∷ bytes) room ≡ stopped p Bad
  unfolding listed
  listed_bad h = rw (← e) (rw (lt-leb w 256 h))

  pub listed_full : w ≤ 256 → room < length (line_at p w) → listed p (low ∷ high ∷ bytes) room ≡ stopped p Full
  unfolding listed
  listed_full h k = rw (← e) (rw (le-leb w 256 h, lt-leb (length (line_at p w)) room k))

  pub listed_more : w ≤ 256 → length (line_at p w) ≤ room
      → listed p (low ∷ high ∷ bytes) room ≡ behind (line_at p w) (listed (after p w) bytes (room - length (line_at p w)))
  unfolding listed
  listed_more h k = rw (← e) (rw (le-leb w 256 h, le-leb (length (line_at p w)) room k))

pub listed_done : (p : Progress) (bytes : List ℕ) (room : ℕ) → length bytes ≤ 1 → listed p bytes room ≡ stopped p Done
unfolding listed
listed_done p [] room h = refl
listed_done p (low ∷ []) room h = refl
listed_done p (low ∷ high ∷ bytes) room h = absurd (too_long (length bytes) h)
  where
    too_long : (n : ℕ) → suc (suc n) ≤ 1 → ⊥
    too_long n h = omega arith

-- the two bytes of the word at an index
chunk_at : (k i : ℕ) (bs : List ℕ) → i < k → k + k ≤ length bs
    → drop (i + i) bs ≡ get_or (get_or (first_chunks 2 k bs) i []) 0 0 ∷ get_or (get_or (first_chunks 2 k bs) i []) 1 0 ∷ drop (i + 1 + (i + 1)) bs
chunk_at zero i bs h l = absurd (not-suc-le-zero h)
chunk_at (suc k) i [] h l = absurd (too_short k l)
  where
    too_short : (n : ℕ) → suc n + suc n ≤ 0 → ⊥
    too_short n h = omega arith
chunk_at (suc k) i (a ∷ []) h l = absurd (too_short k l)
  where
    too_short : (n : ℕ) → suc n + suc n ≤ 1 → ⊥
    too_short n h = omega arith
chunk_at (suc k) zero (a ∷ b ∷ bs) h l = refl
chunk_at (suc k) (suc i) (a ∷ b ∷ bs) h l =
    let n : suc i + suc i ≡ suc (suc (i + i)) = omega arith in
    let m : suc (suc (i + 1 + (i + 1))) ≡ suc i + 1 + (suc i + 1) = omega arith in
    let pair = get_or (first_chunks 2 k bs) i [] in
    ap (λ (j : ℕ). drop j (a ∷ b ∷ bs)) n
    ∙ chunk_at k i bs (omega arith) (omega arith)
    ∙ ap (λ (j : ℕ). get_or pair 0 0 ∷ get_or pair 1 0 ∷ drop j (a ∷ b ∷ bs)) m

-- ---- the loop

-- the answer behind words taken and bytes written, where l is still to come
unfoldable pub answer_behind : ℕ → ℕ → Lines → Listed
answer_behind taken written l = record { progress = l.progress; taken = taken + l.taken; written = written + length l.text; stop = l.stop }

answer_first : (l : Lines) → answer_of l ≡ answer_behind 0 0 l
unfolding answer_of answer_behind
answer_first l =
    ap₂ (λ (j k : ℕ). record { progress = l.progress; taken = j; written = k; stop = l.stop }) (sym (zero-add l.taken)) (sym (zero-add (length l.text)))

answer-behind : (taken written : ℕ) (xs : List ℕ) (l : Lines) → answer_behind taken written (behind xs l) ≡ answer_behind (taken + 1) (written + length xs) l
unfolding answer_behind behind
answer-behind taken written xs l =
    ap₂ (λ (j k : ℕ). record { progress = l.progress; taken = j; written = k; stop = l.stop }) (omega arith) (omega (arith, length-append xs l.text))

answer_stopped : (taken written : ℕ) (p : Progress) (s : Stop) → answer_behind taken written (stopped p s) ≡ record { progress = p; taken = taken; written = written; stop = s }
unfolding answer_behind stopped
answer_stopped taken written p s =
    ap₂ (λ (j k : ℕ). record { progress = p; taken = j; written = k; stop = s }) (add-zero taken) (add-zero written)

-- words are taken and their lines written; what the rest gives from p on is what the whole gives from p₀ on
pub record Continues (p₀ : Progress) (bs out₀ out : List ℕ) (p : Progress) (written taken : ℕ) : Type 0 where
  pub words-in : taken + taken ≤ length bs
  pub room_in : written ≤ length out₀
  pub answer : answer_of (listed p₀ bs (length out₀)) ≡ answer_behind taken written (listed p (drop (taken + taken) bs) (length out₀ - written))
  pub filling : Filling (listed p₀ bs (length out₀)).text out₀ 0 (listed p (drop (taken + taken) bs) (length out₀ - written)).text out written

pub continue_begins : (p : Progress) (bs out : List ℕ) → Continues p bs out out p 0 0
continue_begins p bs out =
    let n : length out - 0 ≡ length out = omega arith in
    record {
      words-in = omega arith;
      room_in = omega arith;
      answer = answer_first (listed p bs (length out)) ∙ ap (λ (k : ℕ). answer_behind 0 0 (listed p bs k)) (sym n);
      filling = rw n (fill_begins (listed p bs (length out)).text out 0);
    }

module _ {p₀ : Progress} {bs out₀ out : List ℕ} {p : Progress} {written taken : ℕ} (t : Continues p₀ bs out₀ out p written taken) where
  abbrev rest : Lines
  rest = listed p (drop (taken + taken) bs) (length out₀ - written)

  continue_stops : (s : Stop) → rest ≡ stopped p s → list_call_of (record { progress = p; taken = taken; written = written; stop = s }) out ≡ list_call p₀ bs out₀
  unfolding list_call stopped
  continue_stops s e =
      let f : Filling (listed p₀ bs (length out₀)).text out₀ 0 [] out written = rw (ap (λ (l : Lines). l.text) e) at t.filling in
      ap₂ (λ (x : Listed) (b : List ℕ). list_call_of x b)
      (sym (answer_stopped taken written p s) ∙ sym (t.answer ∙ ap (answer_behind taken written) e))
      (fill_laid out written f)

  -- fewer than two bytes are left
  pub stops_done : {n : ℕ} → n ≡ taken → n ≡ length bs / 2 → list_call_of (record { progress = p; taken = n; written = written; stop = Done }) out ≡ list_call p₀ bs out₀
  stops_done e h =
      rw e (continue_stops Done (listed_done p (drop (taken + taken) bs) (length out₀ - written) (omega (arith, length-drop (taken + taken) bs))))

  -- the next word w
  module _ {pairs : List (List ℕ)} (front : pairs ≡ first_chunks 2 (length bs / 2) bs) (count : length pairs ≡ length bs / 2) (in' : taken < length pairs)
      {w : ℕ} (ew : w ≡ word_of (get_or (get_or pairs taken []) 0 0) (get_or (get_or pairs taken []) 1 0)) where
    abbrev pair : List ℕ
    pair = get_or pairs taken []

    abbrev bytes_behind : List ℕ
    bytes_behind = drop (taken + 1 + (taken + 1)) bs

    here : rest ≡ listed p (get_or pair 0 0 ∷ get_or pair 1 0 ∷ bytes_behind) (length out₀ - written)
    here = ap (λ (l : List ℕ). listed p l (length out₀ - written)) (rw front (chunk_at (length bs / 2) taken bs (omega arith) (omega arith)))

    pub stops_bad : 256 < w → list_call_of (record { progress = p; taken = taken; written = written; stop = Bad }) out ≡ list_call p₀ bs out₀
    stops_bad h = continue_stops Bad (here ∙ listed_bad p _ _ bytes_behind (length out₀ - written) w ew h)

    module _ (ok : w ≤ 256) where
      goes_on : (out' : List ℕ) (n : ℕ) → Placed (line_at p w) written out out' n → (p' : Progress) → p' ≡ after p w → Continues p₀ bs out₀ out' p' (written + n) (taken + 1)
      unfolding behind
      goes_on out' n f p' ep =
          let xs = line_at p w in
          let fits = f.room in
          let long : length out ≡ length out₀ = t.filling.long in
          let left = length out₀ - (written + length xs) in
          let less : length out₀ - written - length xs ≡ left = omega arith in
          let next = listed (after p w) bytes_behind left in
          let now : rest ≡ behind xs next
          = here ∙ listed_more p _ _ bytes_behind (length out₀ - written) w ew ok (omega arith) ∙ ap (λ (k : ℕ). behind xs (listed (after p w) bytes_behind k)) less in
          rw (ep, f.count, f.leaves)
          (record {
            words-in = omega arith;
            room_in = omega arith;
            answer = t.answer ∙ ap (answer_behind taken written) now ∙ answer-behind taken written xs next;
            filling = fill_goes_on xs next.text out written (rw now at t.filling) fits;
          })

      -- nothing was heard
      pub goes_on_unheard : {q : Pending} → hear p.pending w ≡ record { pending = q; message = None }
          → Continues p₀ bs out₀ out (record { pending = q; at = next_position p.at; count = p.count }) written (taken + 1)
      unfolding line_for count_after
      goes_on_unheard {q} e =
          let f : Placed (line_for p.at None) written out out 0 = record { room = omega (arith, t.room_in, t.filling.long); count = refl; leaves = sym (placed_nothing written out) } in
          subst (λ (n : ℕ). Continues p₀ bs out₀ out (record { pending = q; at = next_position p.at; count = p.count }) n (taken + 1)) (add-zero written)
          (goes_on out 0 (rw (line_heard p w q None e) at f) _ (after_heard p w q None e))

      -- a message was heard, and its line placed
      module _ {m : Message} (e : hear p.pending w ≡ record { pending = none; message = Some m }) (r : Result ℕ Refusal) {out' : List ℕ}
          (placing : call_of r out' ≡ place_call (line p.at m) written out) where
        line_placing : call_of r out' ≡ place_call (line_at p w) written out
        unfolding line_for
        line_placing = placing ∙ ap (λ (l : List ℕ). place_call l written out) (line_heard p w none (Some m) e)

        fits : {n : ℕ} → r ≡ Ok n → Placed (line_at p w) written out out' n
        fits {n} g = placed_gave _ _ _ n _ line_placing (ap outcome_of g)

        pub line_within : {n : ℕ} → r ≡ Ok n → written + n ≤ length out
        line_within g = let f = fits g in omega (arith, f.count, f.room)

        pub goes_on_heard : {n : ℕ} → r ≡ Ok n → Continues p₀ bs out₀ out' (record { pending = none; at = next_position p.at; count = next_position p.count }) (written + n) (taken + 1)
        unfolding count_after
        goes_on_heard {n} g = goes_on out' n (fits g) _ (after_heard p w none (Some m) e)

        -- or there is no room for it
        pub stops_full : {k : Refusal} → r ≡ Err k → list_call_of (record { progress = p; taken = taken; written = written; stop = Full }) out' ≡ list_call p₀ bs out₀
        stops_full {k} g =
            let u = placed_refused _ _ _ (number_of k) _ line_placing (ap outcome_of g) in
            rw u.leaves
            (continue_stops Full (here ∙ listed_full p _ _ bytes_behind (length out₀ - written) w ew ok (omega (arith, u.short, t.filling.long, t.room_in))))
