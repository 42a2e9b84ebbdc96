-- What the loop of a trace carries beside what the loop of a run does: the notes of the words that are still to be taken, behind those that
-- are written, are the notes of all. Assumes nothing.
use mathlib.Core.Path.{◌≡◌, refl, sym, ap, subst, ◌∙◌}
use mathlib.Core.Bool.{true, false, false≢true}
use mathlib.Core.List.{List, [], ◌∷◌, ◌++◌}
use Prim.Native.Nat.{ℕ, ◌+◌, ◌-◌, ◌*◌, ◌≤◌, ◌<◌}
use native.Mathlib.Numerals.{add-one}
use native.Mathlib.Omega.{arith}
use borrow.Author.Tests.{le-leb}
use lib.IntN.{ℤ}
use lib.ListN.{length, get_or, take, drop}
use lib.Seq.{drop-cons}
use Rattle.refusal.specs.Buffer.{laid, placed}
use Rattle.refusal.proofs.Logic.{choice}
use Rattle.refusal.proofs.Buffers.{Filling, fill_begins, fill_goes_on, fill_laid}
use Rattle.message.specs.Prefix.{parse}
use Rattle.hearing.specs.declared.Pending.{Pending}
use Rattle.hearing.specs.declared.Action.{Action}
use Rattle.hearing.specs.declared.Action.TheVariants.{Ignore, Open, Add, Close, Drop}
use Rattle.hearing.specs.Hearing.{none, open_of, action_of, hear, closes}
use Rattle.hearing.specs.Inner.{Reached, to_close}
use Rattle.hearing.proofs.Close.{other_unheard, nil_cons, word_at, reached_in}
use Rattle.act.specs.declared.Effect.{Effect}
use Rattle.act.specs.Cause.{Why}
use Rattle.card.specs.declared.Card.{Card}
use Rattle.card.specs.Run.{Reaction, Played, stopped, playing}
use Rattle.card.specs.Turn.{reply_of, turn, stored, Instrument, hears}
use Rattle.card.specs.Cause.{why_closed, why_after, why_to}
use Rattle.card.proofs.Runs.{Quiet}
use Rattle.card.proofs.Plays.{holding, carried_out}
use Rattle.card.proofs.Taking.{stands_at, hears_quiet}
use Rattle.trace.specs.Notes.{Note, five_of, fives_of, note_to, noting}

-- ---- words up to one that closes a message

module _ (ws : List ℕ) where
  -- a word that is left closes it
  abbrev pub Closes : Reached → Type 0
  Closes r = r.at < length ws → closes (action_of r.pending (get_or ws r.at 0)) ≡ true

  -- what every word keeps that closes none holds where they reach
  module _ (P : Pending → ℕ → Type 0)
      (keeps : (q : Pending) (i : ℕ) → i < length ws → closes (action_of q (get_or ws i 0)) ≡ false → P q i → P (hear q (get_or ws i 0)).pending (i + 1)) where
    along : (rest : List ℕ) (q : Pending) (i : ℕ) → drop i ws ≡ rest → P q i → P (to_close q rest i).pending (to_close q rest i).at × Closes (to_close q rest i)
    unfolding to_close
    along [] q i e p = (p, λ h. absurd (nil_cons (sym e ∙ drop-cons ws i 0 h)))
    along (x ∷ rest) q i e p =
        let t = word_at ws i x rest e in
        choice (λ (r : Reached). P r.pending r.at × Closes r) (closes (action_of q x))
        (λ c. (p, λ h. subst (λ (w : ℕ). closes (action_of q w) ≡ true) t.1 c))
        (λ o. along rest (hear q x).pending (i + 1) (sym t.2)
        (subst (λ (w : ℕ). P (hear q w).pending (i + 1)) (sym t.1) (keeps q i t.0 (subst (λ (w : ℕ). closes (action_of q w) ≡ false) t.1 o) p)))

    pub reached_open : (q : Pending) (i : ℕ) → P q i → P (to_close q (drop i ws) i).pending (to_close q (drop i ws) i).at × Closes (to_close q (drop i ws) i)
    reached_open q i p = along (drop i ws) q i refl p

  pub reached_closes : (q : Pending) (i : ℕ) → Closes (to_close q (drop i ws) i)
  reached_closes q i = (reached_open (λ (p : Pending) (k : ℕ). Unit {0}) (λ p k h o u. tt) q i tt).1

-- ---- notes

-- five numbers for each
pub fives_length : (ns : List Note) → length (fives_of ns) ≡ length ns * 5
unfolding fives_of
fives_length [] = refl
fives_length (n ∷ ns) = omega (arith, fives_length ns)

module _ {S : Type 0} (f : S → ℕ → Reaction S) (g : S → ℕ → ℕ → List Note) (ws : List ℕ) where
  -- the notes of the words that are taken from the place i on, with so much room
  abbrev pub noted_from : S → ℕ → ℕ → List Note
  noted_from s room i = noting f g s i (take (playing f s room (drop i ws)).taken (drop i ws))

  -- nothing more is taken
  noted_stopped : (s : S) (room i : ℕ) → playing f s room (drop i ws) ≡ stopped s → noted_from s room i ≡ []
  unfolding noting
  noted_stopped s room i e = ap (λ (p : Played S). noting f g s i (take p.taken (drop i ws))) e

  -- a word whose reply fits
  noted_word : (s : S) (room i : ℕ) → i < length ws → length (f s (get_or ws i 0)).reply ≤ room
      → noted_from s room i ≡ g s i (get_or ws i 0) ++ noted_from (f s (get_or ws i 0)).state (room - length (f s (get_or ws i 0)).reply) (i + 1)
  unfolding noting playing
  noted_word s room i h l = rw (drop-cons ws i 0 h) (rw (le-leb (length (f s (get_or ws i 0)).reply) room l, add-one i))

  -- ---- words that close no message are noted nowhere

  abbrev pub Silent : (Pending → S) → Type 0
  Silent at = (q : Pending) (k w : ℕ) → closes (action_of q w) ≡ false → g (at q) k w ≡ []

  module _ (at : Pending → S) (quiet : Quiet f at) (silent : Silent at) (room : ℕ) where
    passed : (q : Pending) (i : ℕ) → i < length ws → closes (action_of q (get_or ws i 0)) ≡ false
        → noted_from (at q) room i ≡ noted_from (at (hear q (get_or ws i 0)).pending) room (i + 1)
    passed q i h o =
        let w = get_or ws i 0 in
        let e : f (at q) w ≡ record { state = at (hear q w).pending; reply = [] } = quiet q w (other_unheard q w o) in
        let z : room - 0 ≡ room = omega arith in
        noted_word (at q) room i h (omega (arith, ap (λ (r : Reaction S). length r.reply) e))
        ∙ ap (λ (r : Reaction S). g (at q) i w ++ noted_from r.state (room - length r.reply) (i + 1)) e
        ∙ rw (silent q i w o, z)

    pub noted_reached : (q : Pending) (i : ℕ) (r : Reached) → r ≡ to_close q (drop i ws) i → noted_from (at q) room i ≡ noted_from (at r.pending) room r.at
    noted_reached q i r e =
        (reached_open ws (λ (p : Pending) (k : ℕ). noted_from (at q) room i ≡ noted_from (at p) room k) (λ p k h o d. d ∙ passed p k h o) q i refl).0
        ∙ ap (λ (x : Reached). noted_from (at x.pending) room x.at) (sym e)

  -- ---- what the loop carries: m messages are noted, and no more than there were words

  pub record Noted (total : List Note) (notes₀ : List ℕ) (s : S) (room i : ℕ) (notes : List ℕ) (m : ℕ) : Type 0 where
    pub few : m ≤ i
    pub filling : Filling (fives_of total) notes₀ 0 (fives_of (noted_from s room i)) notes (m * 5)

  pub note-begins : (notes₀ : List ℕ) (s : S) (room i room' : ℕ) → room' ≡ room → Noted (noted_from s room i) notes₀ s room' i notes₀ 0
  note-begins notes₀ s room i room' e = rw e (record { few = omega arith; filling = fill_begins (fives_of (noted_from s room i)) notes₀ 0 })

  module _ (total : List Note) (notes₀ : List ℕ) (s : S) (room i : ℕ) (notes : List ℕ) (m : ℕ) (k : Noted total notes₀ s room i notes m) where
    -- a word that is noted, as the code has it
    pub note_turned : (r : Reaction S) → r ≡ f s (get_or ws i 0) → i < length ws → length r.reply ≤ room → (n : Note) → g s i (get_or ws i 0) ≡ n ∷ [] → m * 5 + 5 ≤ length notes₀
        → (notes' : List ℕ) → notes' ≡ placed (five_of n) (m * 5) notes → (room' : ℕ) → room' ≡ room - length r.reply
        → Noted total notes₀ r.state room' (i + 1) notes' (m + 1)
    unfolding fives_of
    note_turned r er h l n en fits notes' e room' z =
        let w = get_or ws i 0 in
        let next = noted_from r.state room' (i + 1) in
        let more : noted_from s room i ≡ n ∷ next =
        noted_word s room i h (omega (arith, ap (λ (x : Reaction S). length x.reply) er))
        ∙ ap (λ (x : Reaction S). g s i w ++ noted_from x.state (room - length x.reply) (i + 1)) (sym er)
        ∙ rw (en, ← z) in
        let fill = fill_goes_on (five_of n) (fives_of next) notes (m * 5) (subst (λ (l : List Note). Filling (fives_of total) notes₀ 0 (fives_of l) notes (m * 5)) more k.filling) (omega (arith, k.filling.long)) in
        let c : m * 5 + 5 ≡ (m + 1) * 5 = omega arith in
        record { few = omega (arith, k.few); filling = rw (e, ← c) fill }

    -- the trace ends here
    pub note_over : playing f s room (drop i ws) ≡ stopped s → (count : length total ≡ m) × (laid (fives_of total) notes₀ ≡ notes)
    unfolding fives_of
    note_over e =
        let fill = subst (λ (l : List Note). Filling (fives_of total) notes₀ 0 (fives_of l) notes (m * 5)) (noted_stopped s room i e) k.filling in
        (omega (arith, fill.count, fives_length total), sym (fill_laid notes (m * 5) fill))

  -- up to the next word that closes a message
  pub note_reached : (total : List Note) (notes₀ : List ℕ) (at : Pending → S) → Quiet f at → Silent at → (q : Pending) (room i : ℕ) (notes : List ℕ) (m : ℕ) → Noted total notes₀ (at q) room i notes m
      → i ≤ length ws → (r : Reached) → r ≡ to_close q (drop i ws) i → Noted total notes₀ (at r.pending) room r.at notes m
  note_reached total notes₀ at quiet silent q room i notes m k h r e =
      let b : i ≤ r.at = subst (λ (x : Reached). i ≤ x.at) (sym e) (reached_in ws q i h).0 in
      record { few = omega (arith, k.few); filling = subst (λ (l : List Note). Filling (fives_of total) notes₀ 0 (fives_of l) notes (m * 5)) (noted_reached at quiet silent room q i r e) k.filling }

-- ---- at an instrument

module _ (bench maker : List ℤ) where
  -- a word that closes none
  pub open_silent : (i : Instrument) → Silent (hears bench maker) (note_to bench maker) [] (holding i)
  unfolding note_to
  open_silent i q k w o = rw o

  module _ (c : Card) (values : List ℤ) (w : ℕ) where
    why_closing : (a : Action) → closes a ≡ true → why_after bench maker c values a ≡ why_closed bench maker c.setup c.offer values (open_of c.pending) (parse (open_of c.pending))
    unfolding why_after
    why_closing Ignore e = absurd (false≢true e)
    why_closing (Open x) e = absurd (false≢true e)
    why_closing (Add x) e = absurd (false≢true e)
    why_closing Close e = refl
    why_closing Drop e = absurd (false≢true e)

    -- a word that closes one
    pub closing-noted : (k n : ℕ) (y : Why) → closes (action_of c.pending w) ≡ true → n ≡ length (turn bench maker c values w).reply
        → y ≡ why_closed bench maker c.setup c.offer values (open_of c.pending) (parse (open_of c.pending))
        → note_to bench maker (record { card = c; values = values }) k w ≡ record { at = k; characters = c.pending.len; bytes = n; cause = y } ∷ []
    unfolding note_to why_to
    closing-noted k n y e en ey = rw (e, why_closing (action_of c.pending w) e, en, ey)

  -- what the loop carries, from a message that is answered and noted to the next
  module _ (total : List Note) (notes₀ ws : List ℕ) (i : Instrument) (room k : ℕ) (notes : List ℕ) (m : ℕ) (c : Noted (hears bench maker) (note_to bench maker) ws total notes₀ i room k notes m)
      (e : Effect) (turns : carried_out i none e ≡ hears bench maker i (get_or ws k 0)) (h : k < length ws) where
    pub noted-goes-on : length (reply_of e.said) ≤ room → (room' : ℕ) → room' ≡ room - length (reply_of e.said)
        → (n : Note) → note_to bench maker i k (get_or ws k 0) ≡ n ∷ [] → m * 5 + 5 ≤ length notes₀ → (notes' : List ℕ) → notes' ≡ placed (five_of n) (m * 5) notes
        → (values' : List ℤ) → values' ≡ stored i.values e.store → (r : Reached) → r ≡ to_close none (drop (k + 1) ws) (k + 1)
        → Noted (hears bench maker) (note_to bench maker) ws total notes₀ (stands_at i.card.setup e.offer values' r) room' r.at notes' (m + 1)
    noted-goes-on l room' z n en fits notes' ne values' ve r q =
        let next = (carried_out i none e).state in
        let here = note_turned (hears bench maker) (note_to bench maker) ws total notes₀ i room k notes m c (carried_out i none e) turns h l n en fits notes' ne room' z in
        subst (λ (v : List ℤ). Noted (hears bench maker) (note_to bench maker) ws total notes₀ (stands_at i.card.setup e.offer v r) room' r.at notes' (m + 1)) (sym ve)
        (note_reached (hears bench maker) (note_to bench maker) ws total notes₀ (holding next) (hears_quiet bench maker next) (open_silent next) none room' (k + 1) notes' (m + 1) here (omega arith) r q)
