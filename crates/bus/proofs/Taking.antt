-- The loop that takes the words of a run: what it begins with, what holds at each message that is closed, and where it ends. Assumes nothing.
use mathlib.Core.Path.{◌≡◌, refl, sym, ap, ap₂, ◌∙◌, subst}
use mathlib.Core.Bool.{true}
use mathlib.Core.List.{List, [], map}
use Prim.Native.Nat.{ℕ, ◌+◌, ◌-◌, ◌*◌, ◌/◌, ◌≤◌, ◌<◌}
use native.Mathlib.Omega.{arith}
use lib.IntN.{ℤ}
use lib.ListN.{length, get_or, set, take, drop, length-map, length-drop, length-set}
use lib.Seq.{length-take-le, get_or-take, take-set-lt}
use Rattle.std.specs.Prelude.{None, Option}
use Rattle.refusal.specs.Lists.{every}
use Rattle.refusal.specs.Refusal.{refused, gave}
use Rattle.refusal.specs.Buffer.{placed}
use Rattle.message.specs.declared.Message.{Message}
use Rattle.message.specs.Prefix.{parse}
use Rattle.hearing.specs.declared.Pending.{Pending}
use Rattle.hearing.specs.Hearing.{none, open_of, hear}
use Rattle.hearing.specs.Inner.{Reached, to_close}
use Rattle.hearing.proofs.Close.{reached_in, reached_hears}
use Rattle.act.specs.declared.Setup.{Setup}
use Rattle.act.specs.declared.Offer.{Offer}
use Rattle.act.specs.declared.Effect.{Effect}
use Rattle.card.specs.declared.Card.{Card}
use Rattle.card.specs.declared.Took.{Took}
use Rattle.card.specs.Run.{Reaction, Played, stopped, playing}
use Rattle.card.specs.Turn.{reply_of, effect_of, stored, Instrument}
use Rattle.card.specs.Inner.{Settled, settles}
use Rattle.card.specs.Refusals.{sound_setup}
use Rattle.card.proofs.Turns.{stored_count}
use Rattle.card.proofs.Settled.{Done, Undone, gave_done, refused_undone}
use Rattle.card.proofs.Runs.{Carried, played_from, starts, begins, over, no_room, turned, carried-reached, ends}
use Rattle.card.proofs.Taking.{reached_of, Closes, Came, came_to}
use Rattle.bus.specs.Bus.{instruments, hears_all}
use Rattle.bus.specs.Refusals.{apart, sound_parts}
use Rattle.bus.specs.Rows.{rows_in, cards_of, stored_back}
use Rattle.bus.specs.Inner.{setup_in, offer_in, pending_in, Finds, meant_by, cards_with, served_rows}
use Rattle.bus.proofs.Parts.{part_at, lent_part, lent-part, put_part, put_same, put_length}
use Rattle.bus.proofs.Checks.{Passes, checked, passed_sound, few, rows_count, rows_hold, setups_apart, setups_sound, values_count}
use Rattle.bus.proofs.Apart.{meant_inside}
use Rattle.bus.proofs.Standing.{cards_count, cards_read, standing, standing_quiet, meant_effect, meant_turn, standing_closes, ended_here}

-- what stands behind the last
abbrev pub no_setup : Setup
no_setup = record { letter = 0; address = 0; count = 0; scan = []; revision = 0 }

-- ---- the rows that are read

-- what has passed, and what the code has of the rows
pub record Read (numbers bench maker values₀ : List ℤ) (words : List ℕ) (count : ℕ) (setups : List Setup) (offers₀ : List (Option Offer)) : Type 0 where
  pub ok : Passes numbers bench maker values₀ words
  pub count-is : count ≡ length (rows_in numbers)
  pub some : 1 ≤ count
  pub setups-are : take count setups ≡ map setup_in (rows_in numbers)
  pub offers-are : take count offers₀ ≡ map offer_in (rows_in numbers)

-- as the code reads them
pub reads : (numbers bench maker values₀ : List ℤ) (words : List ℕ) (rows : List (List ℤ)) (setups : List Setup) (offers₀ : List (Option Offer)) → checked numbers bench maker values₀ words ≡ gave tt → rows ≡ rows_in numbers
    → (length rows ≡ 0 → ⊥) → take (length rows) setups ≡ map setup_in rows → take (length rows) offers₀ ≡ map offer_in rows → Read numbers bench maker values₀ words (length rows) setups offers₀
reads numbers bench maker values₀ words rows setups offers₀ e is some h k =
    record { ok = passed_sound numbers bench maker values₀ words e; count-is = ap length is; some = omega arith; setups-are = h ∙ ap (map setup_in) is; offers-are = k ∙ ap (map offer_in) is }

module _ {numbers bench maker values₀ : List ℤ} {words : List ℕ} {count : ℕ} {setups : List Setup} {offers₀ : List (Option Offer)} (s : Read numbers bench maker values₀ words count setups offers₀) where
  abbrev ss : List Setup
  ss = take count setups

  pub row_count : count ≡ length numbers / 23
  row_count = s.count-is ∙ rows_count numbers

  pub at_most : count ≤ 32
  at_most = omega (arith, row_count, few numbers s.ok.bus)

  pub ss-count : length ss ≡ count
  ss-count = ap length s.setups-are ∙ length-map (rows_in numbers) setup_in ∙ sym s.count-is

  pub values-long : length values₀ ≡ count * 128
  values-long = values_count bench maker values₀ count (ap (λ (n : ℕ). sound_parts bench maker n values₀) row_count ∙ s.ok.values_sound)

  pub setups-pass : (1 ≤ length ss) × (every sound_setup ss ≡ true) × (apart ss ≡ true)
  setups-pass =
      (omega (arith, ss-count, s.some), ap (every sound_setup) s.setups-are ∙ setups_sound numbers s.ok.rows, ap apart s.setups-are ∙ setups_apart numbers s.ok.bus)

-- ---- the loop

-- where the code stands: what is played from here on, behind what is written, is what is played of the whole; a word that is left closes a
-- message
pub record Going (numbers bench maker values₀ : List ℤ) (words out₀ : List ℕ) (count : ℕ) (setups : List Setup) (offers₀ : List (Option Offer)) (table : List ℕ) (offers : List (Option Offer)) (values : List ℤ) (pending : Pending) (taken : ℕ) (out : List ℕ) (at : ℕ) : Type 0 where
  pub read : Read numbers bench maker values₀ words count setups offers₀
  pub finds : Finds (take count setups) table
  pub carried : Carried (hears_all bench maker) (playing (hears_all bench maker) (instruments (cards_of numbers) values₀) (length out₀) words) out₀ words (standing bench maker (take count setups) (take count offers) values pending) out at taken
  pub closes : Closes words (reached_of pending taken)
  pub many : length offers ≡ 32
  pub long : length values ≡ length values₀

-- all that is played
abbrev whole : List ℤ → List ℤ → List ℤ → List ℤ → List ℕ → List ℕ → Played (List Instrument)
whole numbers bench maker values₀ words out₀ = playing (hears_all bench maker) (instruments (cards_of numbers) values₀) (length out₀) words

-- the cards as the code has them
abbrev holds : List ℤ → List ℤ → ℕ → List Setup → List (Option Offer) → List ℤ → Pending → List Instrument
holds bench maker count setups offers values = standing bench maker (take count setups) (take count offers) values

module _ {numbers bench maker values₀ : List ℤ} {words out₀ : List ℕ} {count : ℕ} {setups : List Setup} {offers₀ : List (Option Offer)} {table : List ℕ} where
  -- the first words are taken
  pub begins-so : Read numbers bench maker values₀ words count setups offers₀ → Finds (take count setups) table → length offers₀ ≡ 32 → (p₀ : Pending) → p₀ ≡ pending_in (take 23 numbers)
      → (pending : Pending) (taken : ℕ) → Came p₀ words 0 pending taken → Going numbers bench maker values₀ words out₀ count setups offers₀ table offers₀ values₀ pending taken out₀ 0
  begins-so s f m p₀ open-is pending taken came =
      let first = reached_of pending taken in
      let is-first : first ≡ to_close p₀ words 0 = came_to p₀ words 0 pending taken came in
      let as_lent : holds bench maker count setups offers₀ values₀ p₀ ≡ instruments (cards_of numbers) values₀ =
      ap₂ (λ (x : List Setup) (y : List (Option Offer)). instruments (cards_with p₀ x y) values₀) s.setups-are s.offers-are
      ∙ ap (λ (cs : List Card). instruments cs values₀) (cards_read p₀ (rows_in numbers) (λ k l. rows_hold numbers (omega (arith, row_count s, s.some)) s.ok.bus k l ∙ sym open-is)) in
      let is_all : (whole numbers bench maker values₀ words out₀) ≡ played_from (hears_all bench maker) out₀ words (holds bench maker count setups offers₀ values₀ pending) taken =
      sym (ap (λ (is : List Instrument). playing (hears_all bench maker) is (length out₀) words) as_lent)
      ∙ starts (hears_all bench maker) out₀ words (holds bench maker count setups offers₀ values₀) (standing_quiet bench maker (take count setups) (take count offers₀) values₀) p₀ first is-first in
      record {
        read = s;
        finds = f;
        carried =
            subst (λ (x : Played (List Instrument)). Carried (hears_all bench maker) x out₀ words (holds bench maker count setups offers₀ values₀ pending) out₀ 0 taken) (sym is_all)
            (begins (hears_all bench maker) out₀ words (holds bench maker count setups offers₀ values₀ pending) taken (subst (λ (x : Reached). x.at ≤ length words) (sym is-first) (reached_in words p₀ 0 (omega arith)).1));
        closes = subst (Closes words) (sym is-first) (reached_hears words p₀ 0);
        many = m;
        long = refl;
      }

  module _ {offers : List (Option Offer)} {values : List ℤ} {pending : Pending} {taken : ℕ} {out : List ℕ} {at : ℕ} (g : Going numbers bench maker values₀ words out₀ count setups offers₀ table offers values pending taken out at) where
    abbrev own : List Setup
    own = take count setups

    abbrev os : List (Option Offer)
    os = take count offers

    abbrev here : List Instrument
    here = holds bench maker count setups offers values pending

    os-count : length os ≡ count
    os-count = length-take-le count offers (omega (arith, at_most g.read, g.many))

    as-many : length own ≡ length os
    as-many = ss-count g.read ∙ sym os-count

    room : length own * 128 ≤ length values
    room = omega (arith, ss-count g.read, g.long, values-long g.read)

    -- the cards can be stored back
    pub storable : (length own ≡ length os) × (length own * 23 ≤ length numbers)
    storable = (as-many, omega (arith, ss-count g.read, row_count g.read))

    -- nothing more is taken, and the cards are stored back
    pub stops : playing (hears_all bench maker) here (length out₀ - at) (drop taken words) ≡ stopped here → (numbers' : List ℤ) → numbers' ≡ stored_back (cards_with pending own os) numbers
        → record { numbers = numbers'; outcome = gave (record { words = taken; bytes = at }); values = values; buffer = out } ≡ served_rows numbers bench maker values₀ words out₀
    stops e numbers' m =
        let o = over (hears_all bench maker) (whole numbers bench maker values₀ words out₀) out₀ words here out at taken g.carried e in
        let n = cards_count pending own os as-many in
        ended_here numbers bench maker values₀ words out₀ (whole numbers bench maker values₀ words out₀) (cards_with pending own os) values numbers' out taken at refl o.0 o.1 o.2 o.3 m (omega (arith, g.long, values-long g.read, n, ss-count g.read))

    -- no word is left
    pub no_word : length words ≤ taken → playing (hears_all bench maker) here (length out₀ - at) (drop taken words) ≡ stopped here
    no_word h = ends (hears_all bench maker) (whole numbers bench maker values₀ words out₀) out₀ words here out at taken g.carried h

    -- a message is closed, with the effect e at the card that is meant
    module _ (in_words : taken < length words) {x : Option Message} (is-parsed : x ≡ parse (open_of pending)) {j : ℕ} (is-j : j ≡ meant_by table x) where
      pub j-in : j < count
      j-in = omega (arith, is-j, meant_inside own table g.finds x, ss-count g.read)

      pub j-small : j < 32
      j-small = omega (arith, j-in, at_most g.read)

      pub part-in : j * 128 + 128 ≤ length values
      part-in = omega (arith, j-in, g.long, values-long g.read)

      module _ {e : Effect} (acts : e ≡ effect_of bench maker (get_or setups j no_setup) (get_or offers j None) (lent_part 128 j values) x) {z : Settled} (is-settled : z ≡ settles e (lent_part 128 j values) at out) where
        abbrev meant_one : Effect
        meant_one = meant_effect bench maker own os values table g.finds as-many room no_setup None x

        is-effect : e ≡ meant_one
        is-effect =
            acts
            ∙ (λ i. effect_of bench maker (sym (get_or-take count setups j no_setup j-in) i) (sym (get_or-take count offers j None j-in) i) (lent-part 128 j values i) x)
            ∙ ap (λ (m : ℕ). effect_of bench maker (get_or own m no_setup) (get_or os m None) (part_at 128 m values) x) is-j

        abbrev leads : Reaction (List Instrument)
        leads = meant_turn bench maker own os values table g.finds as-many room no_setup None x

        is-turn : leads ≡ (hears_all bench maker) here (get_or words taken 0)
        is-turn =
            sym (standing_closes bench maker own os values table g.finds as-many room no_setup None x pending (get_or words taken 0)
            (g.closes in_words ∙ ap (λ (o : Option Message). record { pending = none; message = o }) (sym is-parsed)))

        -- there is no room for the reply
        pub undone : (n : ℕ) → z.outcome ≡ refused n → Undone e (lent_part 128 j values) at out z
        undone n o = refused_undone e (lent_part 128 j values) at out z is-settled n o

        pub unchanged : (n : ℕ) → z.outcome ≡ refused n → put_part 128 j z.values values ≡ values
        unchanged n o = ap (λ (part : List ℤ). put_part 128 j part values) (undone n o).kept ∙ put_same 128 j values

        pub short : (n : ℕ) → z.outcome ≡ refused n → playing (hears_all bench maker) here (length out₀ - at) (drop taken words) ≡ stopped here
        short n o =
            no_room (hears_all bench maker) (whole numbers bench maker values₀ words out₀) out₀ words here out at taken g.carried leads is-turn in_words (omega (arith, (undone n o).unsaid.short, ap (λ (y : Effect). length (reply_of y.said)) is-effect, g.carried.filling.long))

        -- the message is answered, and the words behind it are taken up to the next that closes a message
        module _ {n : ℕ} (o : z.outcome ≡ gave n) where
          done : Done e (lent_part 128 j values) at out z n
          done = gave_done e (lent_part 128 j values) at out z is-settled n o

          pub fits : at + n ≤ length out
          fits = omega (arith, done.said.count, done.said.room)

          abbrev pub values' : List ℤ
          values' = put_part 128 j z.values values

          abbrev pub offers' : List (Option Offer)
          offers' = set offers j e.offer

          part-long : length z.values ≡ 128
          part-long =
              ap length done.kept ∙ stored_count (lent_part 128 j values) e.store
              ∙ ap length (lent-part 128 j values)
              ∙ length-take-le 128 (drop (j * 128) values) (omega (arith, length-drop (j * 128) values, part-in))

          pub long' : length values' ≡ length values₀
          long' = put_length 128 j z.values values part-long part-in ∙ g.long

          is_state : holds bench maker count setups offers' values' none ≡ leads.state
          is_state =
              let u : take count offers' ≡ set os (meant_by table x) meant_one.offer =
              take-set-lt count offers j e.offer j-in
              ∙ ap₂ (λ (i : ℕ) (y : Option Offer). set os i y) is-j (ap (λ (y : Effect). y.offer) is-effect) in
              let v : values' ≡ put_part 128 (meant_by table x) (stored (part_at 128 (meant_by table x) values) meant_one.store) values =
              ap (λ (part : List ℤ). put_part 128 j part values)
              (done.kept ∙ ap₂ (λ (part : List ℤ) (y : Effect). stored part y.store) (lent-part 128 j values) is-effect)
              ∙ ap (λ (i : ℕ). put_part 128 i (stored (part_at 128 i values) meant_one.store) values) is-j in
              ap₂ (λ (y : List (Option Offer)) (w : List ℤ). standing bench maker own y w none) u v

          goes : Carried (hears_all bench maker) (whole numbers bench maker values₀ words out₀) out₀ words (holds bench maker count setups offers' values' none) z.buffer (at + n) (taken + 1)
          goes =
              subst (λ (is : List Instrument). Carried (hears_all bench maker) (whole numbers bench maker values₀ words out₀) out₀ words is z.buffer (at + n) (taken + 1)) (sym is_state)
              (turned (hears_all bench maker) (whole numbers bench maker values₀ words out₀) out₀ words here out at taken g.carried leads is-turn in_words z.buffer n
              (done.said.count ∙ ap (λ (y : Effect). length (reply_of y.said)) is-effect) (omega (arith, fits, g.carried.filling.long))
              (done.said.leaves ∙ ap (λ (y : Effect). placed (reply_of y.said) at out) is-effect))

          pub goes_on : (pending' : Pending) (taken' : ℕ) → Came none words (taken + 1) pending' taken' → Going numbers bench maker values₀ words out₀ count setups offers₀ table offers' values' pending' taken' z.buffer (at + n)
          goes_on pending' taken' came =
              let next = came_to none words (taken + 1) pending' taken' came in
              record {
                read = g.read;
                finds = g.finds;
                carried = carried-reached (hears_all bench maker) (whole numbers bench maker values₀ words out₀) out₀ words (holds bench maker count setups offers' values') (standing_quiet bench maker own (take count offers') values') none z.buffer (at + n) (taken + 1) goes (reached_of pending' taken') next;
                closes = subst (Closes words) (sym next) (reached_hears words none (taken + 1));
                many = length-set offers j e.offer ∙ g.many;
                long = long';
              }
