-- What the two passes of the normal form carry from message to message, in tail style: what is still to come, behind what is done, is the
-- whole. Assumes nothing.
use mathlib.Core.Path.{◌≡◌, refl, sym, ap, ap₂, ◌∙◌, subst}
use mathlib.Core.Bool.{Bool, true, false, cond}
use mathlib.Core.List.{List, [], ◌++◌}
use Prim.Native.Nat.{ℕ, suc, ◌+◌, ◌-◌, ◌<◌, ◌≤◌}
use native.Mathlib.Numerals.{add-one}
use native.Mathlib.Omega.{arith}
use borrow.Author.Tests.{le-leb, lt-leb, lt-ltb, le-ltb, ltb-true, ltb-false}
use lib.Dec.{leb, ltb}
use Rattle.refusal.proofs.Logic.{by-test}
use Rattle.std.proofs.lemmas.Option.{none-some}
use lib.ListN.{length, get_or, drop, length-append, drop_of_length-le}
use lib.Seq.{drop-cons}
use Rattle.refusal.specs.Buffer.{laid, placed}
use Rattle.refusal.proofs.Buffers.{Filling, fill_begins, fill_goes_on, fill_laid}
use Rattle.message.specs.declared.Message.{Message}
use Rattle.message.specs.Prefix.{parse}
use Rattle.hearing.specs.declared.Pending.{Pending}
use Rattle.hearing.specs.declared.passes.Closing.{Closing}
use Rattle.hearing.specs.Hearing.{none, open_of, hear, before, heard_from, heard}
use Rattle.hearing.specs.Normal.{words_of, normal}
use Rattle.hearing.specs.Inner.{Reached, to_close, next_closed, worth}
use Rattle.hearing.proofs.Close.{reached, reached_in, reached_hears}
use Rattle.std.specs.Prelude.{None, Option, Some}

-- the normal form of what is still to come
unfoldable pub normal_from : Pending → List ℕ → List ℕ
normal_from p ws = words_of (heard_from p ws)

pub words_before : (o : Option Message) (ms : List Message) → words_of (before o ms) ≡ worth o ++ words_of ms
unfolding words_of before worth
words_before (Some m) ms = refl
words_before None ms = refl

pub normal_whole : (ws : List ℕ) → normal ws ≡ normal_from none ws
unfolding normal heard normal_from
normal_whole ws = refl

-- an unheard word adds nothing
normal_unheard : (p : Pending) (ws : List ℕ) (i : ℕ) → i < length ws → (hear p (get_or ws i 0)).message ≡ None → normal_from p (drop i ws) ≡ normal_from (hear p (get_or ws i 0)).pending (drop (i + 1) ws)
unfolding normal_from heard_from before
normal_unheard p ws i h e = rw (drop-cons ws i 0 h) (rw (e, add-one i) refl)

-- the words up to one that closes a message add nothing
normal_reached : (p : Pending) (ws : List ℕ) (i : ℕ) → normal_from p (drop i ws) ≡ normal_from (to_close p (drop i ws) i).pending (drop (to_close p (drop i ws) i).at ws)
normal_reached p ws i =
    reached ws (λ (q : Pending) (k : ℕ). normal_from p (drop i ws) ≡ normal_from q (drop k ws)) (λ q k l u g. g ∙ normal_unheard q ws k l u) p i refl

-- a word that closes a message adds it
normal_more : (p : Pending) (ws : List ℕ) (i : ℕ) → i < length ws → (o : Option Message) → hear p (get_or ws i 0) ≡ record { pending = none; message = o } → normal_from p (drop i ws) ≡ worth o ++ normal_from none (drop (i + 1) ws)
unfolding normal_from heard_from
normal_more p ws i h o e = rw (drop-cons ws i 0 h) (rw (e, add-one i) (words_before o (heard_from none (drop (suc i) ws))))

normal_done : (p : Pending) (ws : List ℕ) (i : ℕ) → length ws ≤ i → normal_from p (drop i ws) ≡ []
unfolding normal_from heard_from words_of
normal_done p ws i h = rw (drop_of_length-le ws h)

value_or : Option Closing → Closing → Closing
value_or (Some k) d = k
value_or None d = d

-- the words from a place on with none open, by the message that they close first
module _ (ws : List ℕ) (i : ℕ) where
  abbrev there : Reached
  there = to_close none (drop i ws) i

  abbrev its : Closing
  its = record { message = parse (open_of there.pending); at = there.at }

  pub record Closes (k : Closing) : Type 0 where
    pub behind : i ≤ k.at
    pub in' : k.at < length ws
    pub normal_closed : normal_from none (drop i ws) ≡ worth k.message ++ normal_from none (drop (k.at + 1) ws)

  it-closes : i ≤ length ws → there.at < length ws → Closes its
  it-closes l h = record {
    behind = (reached_in ws none i l).0;
    in' = h;
    normal_closed = normal_reached none ws i ∙ normal_more there.pending ws there.at h (parse (open_of there.pending)) (reached_hears ws none i h);
  }

  -- as the code has it: a message and its place, or none
  pub closed : i ≤ length ws → (k : Closing) → next_closed ws i ≡ Some k → Closes k
  unfolding next_closed value_or
  closed l k e =
      by-test (ltb there.at (length ws))
      (λ t. subst Closes (ap (λ (o : Option Closing). value_or o its) (sym (ap (λ (b : Bool). cond b (Some its) None) t) ∙ e)) (it-closes l (ltb-true there.at (length ws) t)))
      (λ f. absurd (none-some k (sym (ap (λ (b : Bool). cond b (Some its) None) f) ∙ e)))

  pub unclosed : next_closed ws i ≡ None → normal_from none (drop i ws) ≡ []
  unfolding next_closed
  unclosed e =
      by-test (ltb there.at (length ws))
      (λ t. absurd (none-some its (sym e ∙ ap (λ (b : Bool). cond b (Some its) None) t)))
      (λ f. normal_reached none ws i ∙ normal_done there.pending ws there.at (ltb-false there.at (length ws) f))

-- what is answered, as the code has it
module _ (ws : List ℕ) (i : ℕ) (n q : Pending) (at : ℕ) (en : n ≡ none) (e : (at ≡ (to_close n (drop i ws) i).at) × (q ≡ (to_close n (drop i ws) i).pending)) where
  at-is : at ≡ (there ws i).at
  at-is = e.0 ∙ ap (λ (p : Pending). (to_close p (drop i ws) i).at) en

  pub gives_none : length ws ≤ at → None ≡ next_closed ws i
  unfolding next_closed
  gives_none h = sym (ap (λ (b : Bool). cond b (Some (its ws i)) None) (le-ltb (there ws i).at (length ws) (omega (arith, at-is))))

  pub gives_one : (m : Option Message) → at < length ws → m ≡ parse (open_of q) → Some (record { message = m; at = at }) ≡ next_closed ws i
  unfolding next_closed
  gives_one m h l =
      let k : record { message = m; at = at } ≡ its ws i
      = ap₂ (λ (x : Option Message) (j : ℕ). record { message = x; at = j }) (l ∙ ap (λ (p : Pending). parse (open_of p)) (e.1 ∙ ap (λ (p : Pending). (to_close p (drop i ws) i).pending) en)) at-is in
      ap Some k ∙ sym (ap (λ (b : Bool). cond b (Some (its ws i)) None) (lt-ltb (there ws i).at (length ws) (omega (arith, at-is))))

-- ---- the counting pass

pub record Measuring (ws : List ℕ) (room n i : ℕ) : Type 0 where
  pub i_in : i ≤ length ws
  pub n_in : n ≤ room
  pub whole : length (normal ws) ≡ n + length (normal_from none (drop i ws))

pub measure_begins : (ws : List ℕ) (room : ℕ) → Measuring ws room 0 0
measure_begins ws room = record { i_in = omega arith; n_in = omega arith; whole = omega (arith, ap length (normal_whole ws)) }

module _ (ws : List ℕ) (room n i : ℕ) (c : Measuring ws room n i) where
  -- a message is closed, and its length, as the code has it
  module _ (k : Closing) (e : next_closed ws i ≡ Some k) (m : ℕ) (l : m ≡ length (worth k.message)) where
    more : length (normal ws) ≡ n + (m + length (normal_from none (drop (k.at + 1) ws)))
    more =
        let q = closed ws i c.i_in k e in
        c.whole ∙ ap (λ (j : ℕ). n + j) (ap length q.normal_closed ∙ length-append (worth k.message) (normal_from none (drop (k.at + 1) ws)) ∙ ap (λ (j : ℕ). j + length (normal_from none (drop (k.at + 1) ws))) (sym l))

    pub measure-goes-on : m ≤ room - n → Measuring ws room (n + m) (k.at + 1)
    measure-goes-on r =
        let a = c.n_in in
        let q = closed ws i c.i_in k e in
        record { i_in = omega (arith, q.in'); n_in = omega arith; whole = omega (arith, more) }

    pub measure-fails : room - n < m → false ≡ leb (length (normal ws)) room
    measure-fails r = let a = c.n_in in sym (lt-leb (length (normal ws)) room (omega (arith, more)))

  -- nothing more is heard
  pub measure-ends : next_closed ws i ≡ None → true ≡ leb (length (normal ws)) room
  measure-ends d = let a = c.n_in in sym (le-leb (length (normal ws)) room (omega (arith, c.whole, ap length (unclosed ws i d))))

-- ---- the writing pass

pub record Writing (ws out₀ out : List ℕ) (at i : ℕ) : Type 0 where
  pub i_in : i ≤ length ws
  pub filling : Filling (normal ws) out₀ 0 (normal_from none (drop i ws)) out at

pub writing_begins : (ws out : List ℕ) → Writing ws out out 0 0
writing_begins ws out = record { i_in = omega arith; filling = subst (λ (l : List ℕ). Filling (normal ws) out 0 l out 0) (normal_whole ws) (fill_begins (normal ws) out 0) }

module _ (ws out₀ out : List ℕ) (at i : ℕ) (f : Writing ws out₀ out at i) where
  -- a message is closed, as the code has it
  module _ (k : Closing) (e : next_closed ws i ≡ Some k) where
    abbrev rest : List ℕ
    rest = normal_from none (drop (k.at + 1) ws)

    more_words : Filling (normal ws) out₀ 0 (worth k.message ++ rest) out at
    more_words = subst (λ (l : List ℕ). Filling (normal ws) out₀ 0 l out at) (closed ws i f.i_in k e).normal_closed f.filling

    -- there is room for it
    pub has_room : length (normal ws) ≤ length out₀ → at + length (worth k.message) ≤ length out
    has_room r = omega (arith, more_words.count, more_words.long, length-append (worth k.message) rest)

    pub writing-goes-on : (out' : List ℕ) (at' : ℕ) → length (normal ws) ≤ length out₀ → at' ≡ at + length (worth k.message) → out' ≡ placed (worth k.message) at out
        → Writing ws out₀ out' at' (k.at + 1)
    writing-goes-on out' at' r ea eo =
        let q = closed ws i f.i_in k e in
        record { i_in = omega (arith, q.in'); filling = rw (ea, eo) (fill_goes_on (worth k.message) rest out at more_words (has_room r)) }

  -- nothing more is heard
  pub writing-ends : next_closed ws i ≡ None → (at ≡ length (normal ws)) × (out ≡ laid (normal ws) out₀)
  writing-ends d =
      let g : Filling (normal ws) out₀ 0 [] out at = subst (λ (l : List ℕ). Filling (normal ws) out₀ 0 l out at) (unclosed ws i d) f.filling in
      (omega (arith, g.count), fill_laid out at g)
