-- Demand 3, as one claim over whole recordings: the hearing half is hearing's own theorems, and the playing half follows from them,
-- since a run with room for every reply obeys the messages heard. Assumes nothing.
use Rattle.card.specs.declared.Took.{Took}
use mathlib.Core.Path.{◌≡◌, sym, ap, ◌∙◌, subst}
use mathlib.Core.Logic.{◌↔◌}
use mathlib.Core.Bool.{true}
use mathlib.Core.List.{List, [], ◌∷◌, ◌++◌}
use Prim.Native.Nat.{ℕ, ◌≤◌}
use native.Mathlib.Omega.{arith}
use lib.IntN.{ℤ}
use lib.ListN.{length, take, drop}
use Rattle.refusal.specs.Refusal.{gave}
use Rattle.refusal.specs.Buffer.{laid}
use Rattle.refusal.specs.Call.{Call}
use Rattle.refusal.proofs.Buffers.{laid_front, laid_behind}
use Rattle.wire.specs.Word.{valid_words}
use Rattle.hearing.specs.Hearing.{heard}
use Rattle.hearing.specs.Normal.{normal, normal_call}
use Rattle.hearing.proofs.Normal.{heard_normal, normal_normal, normal_same, normal_valid, normal_served, wrote_normal}
use Rattle.card.specs.declared.Card.{Card}
use Rattle.card.specs.Run.{Played}
use Rattle.card.specs.Turn.{Turn, turn, stored, Instrument, hears}
use Rattle.card.specs.Calls.{After, ended, run_call}
use Rattle.card.proofs.Steps.{run_served}
use Rattle.card.proofs.Runs.{all, all_end, all_word, all_taken, run_all}
use Rattle.card.proofs.Plays.{Left, left_by, left_alike}
use Rattle.demands.specs.Terms.{Sound, HasWritten, replies}
use Rattle.demands.specs.Demand3.{Wrote, PlayedAlike, Demand3}
use Rattle.demands.proofs.Words.{passed}

-- ---- a call that writes

pub laid_writes : (call : Call) (xs out : List ℕ) → call ≡ record { outcome = gave (length xs); buffer = laid xs out } → HasWritten call xs
laid_writes call xs out e = record { gives = ap (λ (c : Call). c.outcome) e; front = ap (λ (c : Call). take (length xs) c.buffer) e ∙ laid_front xs out }

-- ---- the call that writes a normal form

pub record Parts (ws out xs : List ℕ) : Type 0 where
  pub valid : valid_words ws ≡ true
  pub is_normal : xs ≡ normal ws
  pub room : length xs ≤ length out

pub parts : (ws out xs : List ℕ) → Wrote ws out xs → Parts ws out xs
parts ws out xs w =
    let n = wrote_normal ws out (length xs) w.gives in
    let e = sym w.front ∙ n.front in
    record { valid = n.valid; is_normal = e; room = rw (ap length e) n.room }

leaves : (ws out xs : List ℕ) → Parts ws out xs → normal_call ws out ≡ record { outcome = gave (length xs); buffer = laid xs out }
leaves ws out xs p =
    normal_served ws out p.valid (rw (sym (ap length p.is_normal)) p.room)
    ∙ ap (λ (l : List ℕ). record { outcome = gave (length l); buffer = laid l out }) (sym p.is_normal)

pub whole : (ws out xs : List ℕ) → Parts ws out xs → Wrote ws out xs
whole ws out xs p = laid_writes (normal_call ws out) xs out (leaves ws out xs p)

same_messages : (a b xs ys : List ℕ) → xs ≡ normal a → ys ≡ normal b → (xs ≡ ys) ↔ (heard a ≡ heard b)
same_messages a b xs ys p q = (λ e. (normal_same a b).0 (sym p ∙ e ∙ q), λ e. p ∙ (normal_same a b).1 e ∙ sym q)

-- ---- a run with room for every reply

pub all-replies : (bench maker : List ℤ) (c : Card) (values : List ℤ) (ws : List ℕ) → (all (hears bench maker) (record { card = c; values = values }) ws).bytes ≡ replies bench maker c values ws
unfolding replies
all-replies bench maker c values [] = ap (λ (p : Played Instrument). p.bytes) (all_end (hears bench maker) (record { card = c; values = values }))
all-replies bench maker c values (w ∷ ws) =
    let t : Turn = turn bench maker c values w in
    ap (λ (p : Played Instrument). p.bytes) (all_word (hears bench maker) (record { card = c; values = values }) w ws) ∙ ap (λ (l : List ℕ). t.reply ++ l) (all-replies bench maker t.card (stored values t.store) ws)

module _ (bench maker : List ℤ) (c : Card) (values : List ℤ) (s : Sound bench maker c values) where
  abbrev start : Instrument
  start = record { card = c; values = values }

  abbrev ends : List ℕ → Played Instrument
  ends ws = all (hears bench maker) start ws

  module _ (ws out : List ℕ) (n : ℕ) (v : valid_words ws ≡ true) (b : length (ends ws).bytes ≡ n) (h : n ≤ length out) where
    pub served : run_call c bench maker values ws out ≡ ended (ends ws) out
    served = run_served c bench maker values ws out (passed bench maker c values s ws v) ∙ ap (λ (p : Played Instrument). ended p out) (run_all (hears bench maker) start (length out) ws (omega arith))

    pub outcome : (run_call c bench maker values ws out).outcome ≡ gave (record { words = length ws; bytes = n })
    outcome = ap (λ (r : After Took). r.outcome) served ∙ (λ j. gave (record { words = all_taken (hears bench maker) start ws j; bytes = b j }))

    pub bytes_written : take n (run_call c bench maker values ws out).buffer ≡ (ends ws).bytes
    bytes_written =
        ap (λ (r : After Took). take n r.buffer) served
        ∙ ap (λ (k : ℕ). take k (laid (ends ws).bytes out)) (sym b)
        ∙ laid_front (ends ws).bytes out

  -- two recordings that leave the same
  pub alike : (ws xs out out' : List ℕ) → left_by (ends ws) ≡ left_by (ends xs) → valid_words ws ≡ true → valid_words xs ≡ true → length (replies bench maker c values ws) ≤ length out
      → length (replies bench maker c values xs) ≤ length out' → PlayedAlike bench maker c values ws xs out out'
  alike ws xs out out' e v v' h h' =
      let n = length (replies bench maker c values ws) in
      let b : length (ends ws).bytes ≡ n = ap length (all-replies bench maker c values ws) in
      let b' : length (ends xs).bytes ≡ n = sym (ap (λ (l : Left). length l.bytes) e) ∙ b in
      let k : length (ends xs).bytes ≡ length (replies bench maker c values xs) = ap length (all-replies bench maker c values xs) in
      let m : n ≤ length out' = omega arith in
      record {
        takes_all = outcome ws out n v b h;
        other_takes_all = outcome xs out' n v' b' m;
        same_replies = bytes_written ws out n v b h ∙ ap (λ (l : Left). l.bytes) e ∙ sym (bytes_written xs out' n v' b' m);
        same_values = ap (λ (r : After Took). r.values) (served ws out n v b h) ∙ ap (λ (l : Left). l.values) e ∙ sym (ap (λ (r : After Took). r.values) (served xs out' n v' b' m));
        same_offer = ap (λ (r : After Took). r.card.offer) (served ws out n v b h) ∙ ap (λ (l : Left). l.offer) e ∙ sym (ap (λ (r : After Took). r.card.offer) (served xs out' n v' b' m));
      }

pub demand_3 : Demand3
demand_3 = record {
  served = λ ws out xs. (
    λ w. let p = parts ws out xs w in (p.valid, p.is_normal, p.room),
    λ p. whole ws out xs (record { valid = p.0; is_normal = p.1; room = p.2 }),
  );
  behind = λ ws out xs w. ap (λ (c : Call). drop (length xs) c.buffer) (leaves ws out xs (parts ws out xs w)) ∙ laid_behind xs out;
  same = λ a b out out' xs ys p q. same_messages a b xs ys (parts a out xs p).is_normal (parts b out' ys q).is_normal;
  heard_alike = λ ws out xs w. ap heard (parts ws out xs w).is_normal ∙ heard_normal ws;
  own_normal_form = λ ws out out' xs w h.
      let e = (parts ws out xs w).is_normal in
      whole xs out' xs (record { valid = ap valid_words e ∙ normal_valid ws; is_normal = e ∙ sym (normal_normal ws) ∙ ap normal (sym e); room = h });
  played_alike = λ ws out xs w bench maker c values a b s p h h'.
      let q = parts ws out xs w in
      let e = subst (λ (ys : List ℕ). left_by (ends bench maker c values s ws) ≡ left_by (ends bench maker c values s ys)) (sym q.is_normal) (left_alike bench maker c values ws p) in
      alike bench maker c values s ws xs a b e q.valid (ap valid_words q.is_normal ∙ normal_valid ws) h h';
}
