-- A run over whatever takes words one by one: with room for every reply it takes all words; and what the loop of a run carries from
-- message to message, in tail style: what is played from here on, behind what is written, is what is played from the start. Assumes nothing.
use mathlib.Core.Path.{◌≡◌, refl, sym, ap, subst, ◌∙◌}
use mathlib.Core.Bool.{cond}
use mathlib.Core.List.{List, [], ◌∷◌, ◌++◌}
use Prim.Native.Nat.{ℕ, suc, ◌+◌, ◌-◌, ◌≤◌, ◌<◌}
use native.Mathlib.Nat.{zero-add}
use native.Mathlib.Numerals.{add-one}
use native.Mathlib.Omega.{arith}
use borrow.Author.Tests.{le-leb, lt-leb}
use lib.Dec.{leb}
use lib.ListN.{length, get_or, drop, drop_of_length-le, length-append}
use lib.Seq.{drop-cons}
use Rattle.refusal.specs.Buffer.{laid, placed}
use Rattle.refusal.proofs.Buffers.{Filling, fill_begins, fill_goes_on, fill_laid}
use Rattle.hearing.specs.declared.Pending.{Pending}
use Rattle.hearing.specs.Hearing.{hear}
use Rattle.hearing.specs.Inner.{Reached, to_close}
use Rattle.hearing.proofs.Close.{reached, reached_in}
use Rattle.card.specs.Run.{Reaction, Played, stopped, after, playing}
use Rattle.std.specs.Prelude.{None}

-- what is played, with other bytes and so many words before it
abbrev pub behind : {S : Type 0} → List ℕ → ℕ → Played S → Played S
behind b n p = record { state = p.state; bytes = b; taken = n + p.taken }

-- n words before what is played
abbrev pub later : {S : Type 0} → ℕ → Played S → Played S
later n p = behind p.bytes n p

module _ {S : Type 0} (f : S → ℕ → Reaction S) where
  -- ---- word by word

  pub play_end : (s : S) (room : ℕ) → playing f s room [] ≡ stopped s
  unfolding playing
  play_end s room = refl

  pub play_word : (s : S) (room w : ℕ) (ws : List ℕ)
      → playing f s room (w ∷ ws)
      ≡ cond (leb (length (f s w).reply) room) (after (f s w).reply (playing f (f s w).state (room - length (f s w).reply) ws)) (stopped s)
  unfolding playing
  play_word s room w ws = refl

  -- ---- all words, whatever the room

  unfoldable pub all : S → List ℕ → Played S
  all s [] = stopped s
  all s (w ∷ ws) = after (f s w).reply (all (f s w).state ws)

  pub all_end : (s : S) → all s [] ≡ stopped s
  unfolding all
  all_end s = refl

  pub all_word : (s : S) (w : ℕ) (ws : List ℕ) → all s (w ∷ ws) ≡ after (f s w).reply (all (f s w).state ws)
  unfolding all
  all_word s w ws = refl

  pub all_taken : (s : S) (ws : List ℕ) → (all s ws).taken ≡ length ws
  unfolding all
  all_taken s [] = refl
  all_taken s (w ∷ ws) = ap suc (all_taken (f s w).state ws)

  -- with room for every reply
  pub run_all : (s : S) (room : ℕ) (ws : List ℕ) → length (all s ws).bytes ≤ room → playing f s room ws ≡ all s ws
  unfolding playing all
  run_all s room [] h = refl
  run_all s room (w ∷ ws) h =
      let b = (f s w).reply in
      let u = all (f s w).state ws in
      let l = length-append b u.bytes in
      rw (le-leb (length b) room (omega arith)) (ap (after b) (run_all (f s w).state (room - length b) ws (omega arith)))

  -- ---- words that close no heard message

  -- all the same but for the open message: a word that closes no heard message only changes that
  abbrev pub Quiet : (Pending → S) → Type 0
  Quiet at = (q : Pending) (w : ℕ) → (hear q w).message ≡ None → f (at q) w ≡ record { state = at (hear q w).pending; reply = [] }

  module _ (at : Pending → S) (quiet : Quiet at) (room : ℕ) (ws : List ℕ) where
    -- one of them
    unheard : (q : Pending) (i : ℕ) → i < length ws → (hear q (get_or ws i 0)).message ≡ None
        → later i (playing f (at q) room (drop i ws)) ≡ later (i + 1) (playing f (at (hear q (get_or ws i 0)).pending) room (drop (i + 1) ws))
    unfolding playing
    unheard q i h u =
        let w = get_or ws i 0 in
        let p : Played S = playing f (at (hear q w).pending) room (drop (i + 1) ws) in
        let z : room - 0 ≡ room = omega arith in
        let e : playing f (at q) room (drop i ws) ≡ after [] p = rw (drop-cons ws i 0 h) (rw (quiet q w u, le-leb 0 room (omega arith), z, add-one i) refl) in
        let t : i + suc p.taken ≡ i + 1 + p.taken = omega arith in
        ap (later i) e ∙ (λ j. record { state = p.state; bytes = p.bytes; taken = t j })

    -- all of them, up to a word that closes a message
    pub play_reached : (q : Pending) (i : ℕ)
        → later i (playing f (at q) room (drop i ws))
        ≡ later (to_close q (drop i ws) i).at (playing f (at (to_close q (drop i ws) i).pending) room (drop (to_close q (drop i ws) i).at ws))
    play_reached q i =
        reached ws (λ (p : Pending) (k : ℕ). later i (playing f (at q) room (drop i ws)) ≡ later k (playing f (at p) room (drop k ws)))
        (λ p k l u g. g ∙ unheard p k l u) q i refl

  -- ---- what the loop carries

  pub record Carried (total : Played S) (out₀ ws : List ℕ) (s : S) (out : List ℕ) (at i : ℕ) : Type 0 where
    pub i_in : i ≤ length ws
    pub at_in : at ≤ length out₀
    pub filling : Filling total.bytes out₀ 0 (playing f s (length out₀ - at) (drop i ws)).bytes out at
    pub whole : total ≡ behind total.bytes i (playing f s (length out₀ - at) (drop i ws))

  module _ (out₀ ws : List ℕ) where
    -- all that is played from the word i on, with the words before it counted
    abbrev pub played_from : S → ℕ → Played S
    played_from s i = later i (playing f s (length out₀) (drop i ws))

    -- the run from its start is what is played from the first word that closes a message on
    pub starts : (at : Pending → S) → Quiet at → (q : Pending) (r : Reached) → r ≡ to_close q ws 0 → playing f (at q) (length out₀) ws ≡ played_from (at r.pending) r.at
    starts at quiet q r e =
        let p = playing f (at q) (length out₀) ws in
        (λ j. record { state = p.state; bytes = p.bytes; taken = sym (zero-add p.taken) j })
        ∙ play_reached at quiet (length out₀) ws q 0
        ∙ ap (λ (x : Reached). played_from (at x.pending) x.at) (sym e)

    pub begins : (s : S) (i : ℕ) → i ≤ length ws → Carried (played_from s i) out₀ ws s out₀ 0 i
    begins s i h =
        let p = played_from s i in
        let z : length out₀ ≡ length out₀ - 0 = omega arith in
        let l : p ≡ later i (playing f s (length out₀ - 0) (drop i ws)) = ap (λ (n : ℕ). later i (playing f s n (drop i ws))) z in
        let b = ap (λ (x : Played S). x.bytes) l in
        record {
          i_in = h;
          at_in = omega arith;
          filling = subst (λ (x : List ℕ). Filling p.bytes out₀ 0 x out₀ 0) b (fill_begins p.bytes out₀ 0);
          whole = l ∙ ap (λ (x : List ℕ). behind x i (playing f s (length out₀ - 0) (drop i ws))) (sym b);
        }

  module _ (total : Played S) (out₀ ws : List ℕ) (s : S) (out : List ℕ) (at i : ℕ) (k : Carried total out₀ ws s out at i) where
    -- what is still to be played
    abbrev rest : Played S
    rest = playing f s (length out₀ - at) (drop i ws)

    pub ends : length ws ≤ i → rest ≡ stopped s
    unfolding playing
    ends h = rw (drop_of_length-le ws h)

    -- the next word leads to r
    module _ (r : Reaction S) (e : r ≡ f s (get_or ws i 0)) (h : i < length ws) where
      -- no room for its reply
      pub no_room : length out₀ < at + length r.reply → rest ≡ stopped s
      unfolding playing
      no_room l =
          let a = k.at_in in
          rw (drop-cons ws i 0 h) (rw (sym e, lt-leb (length r.reply) (length out₀ - at) (omega arith)))

      -- what is played behind it
      abbrev onward : Played S
      onward = playing f r.state (length out₀ - (at + length r.reply)) (drop (i + 1) ws)

      goes : at + length r.reply ≤ length out₀ → rest ≡ after r.reply onward
      unfolding playing
      goes l =
          let a = k.at_in in
          let less : length out₀ - at - length r.reply ≡ length out₀ - (at + length r.reply) = omega arith in
          rw (drop-cons ws i 0 h) (rw (sym e, le-leb (length r.reply) (length out₀ - at) (omega arith), less, add-one i))

      taken_turn : at + length r.reply ≤ length out₀ → Carried total out₀ ws r.state (placed r.reply at out) (at + length r.reply) (i + 1)
      taken_turn l =
          let g = goes l in
          let f : Filling total.bytes out₀ 0 (r.reply ++ onward.bytes) out at = subst (λ (p : Played S). Filling total.bytes out₀ 0 p.bytes out at) g k.filling in
          let long = k.filling.long in
          let t : i + suc onward.taken ≡ i + 1 + onward.taken = omega arith in
          record {
            i_in = omega arith;
            at_in = l;
            filling = fill_goes_on r.reply onward.bytes out at f (omega arith);
            whole = k.whole ∙ ap (behind total.bytes i) g ∙ (λ j. record { state = onward.state; bytes = total.bytes; taken = t j });
          }

      -- the same, as the code has it: n bytes placed, and the buffer after the write
      pub turned : (out' : List ℕ) (n : ℕ) → n ≡ length r.reply → at + n ≤ length out₀ → out' ≡ placed r.reply at out → Carried total out₀ ws r.state out' (at + n) (i + 1)
      turned out' n en l eo =
          subst (λ (x : ℕ). Carried total out₀ ws r.state out' (at + x) (i + 1)) (sym en)
          (subst (λ (x : List ℕ). Carried total out₀ ws r.state x (at + length r.reply) (i + 1)) (sym eo) (taken_turn (omega arith)))

    -- the run ends here: nothing more is taken
    pub over : rest ≡ stopped s → (state : total.state ≡ s) × (taken : total.taken ≡ i) × (count : length total.bytes ≡ at) × (laid total.bytes out₀ ≡ out)
    over e =
        let w : total ≡ behind total.bytes i (stopped s) = k.whole ∙ ap (behind total.bytes i) e in
        let g : Filling total.bytes out₀ 0 [] out at = subst (λ (p : Played S). Filling total.bytes out₀ 0 p.bytes out at) e k.filling in
        let z : i + 0 ≡ i = omega arith in
        (ap (λ (p : Played S). p.state) w, ap (λ (p : Played S). p.taken) w ∙ z, omega (arith, g.count), sym (fill_laid out at g))

  -- up to the next word that closes a message
  pub carried-reached : (total : Played S) (out₀ ws : List ℕ) (hold : Pending → S) → Quiet hold → (q : Pending) (out : List ℕ) (at i : ℕ) → Carried total out₀ ws (hold q) out at i
      → (r : Reached) → r ≡ to_close q (drop i ws) i → Carried total out₀ ws (hold r.pending) out at r.at
  carried-reached total out₀ ws hold quiet q out at i k r e =
      let p = play_reached hold quiet (length out₀ - at) ws q i in
      let b = ap (λ (x : Played S). x.bytes) p in
      subst (λ (x : Reached). Carried total out₀ ws (hold x.pending) out at x.at) (sym e)
      (record {
        i_in = (reached_in ws q i k.i_in).1;
        at_in = k.at_in;
        filling = subst (λ (x : List ℕ). Filling total.bytes out₀ 0 x out at) b k.filling;
        whole = k.whole ∙ ap (λ (x : Played S). record { state = x.state; bytes = total.bytes; taken = x.taken }) p;
      })
