-- Any characters of a message, from its letter to its `*`, are listed as what they parse to, at the position of the `*`, as long as
-- positions don't begin again. Assumes nothing.
use Rattle.std.proofs.Common.{◌≡◌, ℕ, suc, ◌+◌, ◌^◌, ◌<◌, ◌≤◌, true, List, [], ◌∷◌, ◌++◌, length, sym, ap, ◌∙◌, subst, ap₂, append_assoc, append-nil, add-zero, arith, lit<, length-append, le-leb}
use Rattle.wire.specs.Word.{with_parity, travelling}
use Rattle.wire.proofs.Words.{written_byte, travelling_append}
use Rattle.message.specs.Message.{star, is_letter}
use Rattle.message.specs.Prefix.{parse}
use Rattle.message.proofs.Messages.{Plain}
use Rattle.hearing.specs.declared.Pending.{Pending}
use Rattle.hearing.specs.declared.Hearing.{Hearing}
use Rattle.hearing.specs.Hearing.{none, added, open_of, hear}
use Rattle.hearing.proofs.Heard.{OpenChars, none_holds, added_holds, hear_open, hear_add, hear_star}
use Rattle.listing.specs.declared.Progress.{Progress}
use Rattle.listing.specs.Listing.{next_position, line_for, count_after, line_at, after, listing_from}
use Rattle.listing.proofs.Messages.{word_bytes, one_word, position_plain}
use Rattle.std.specs.Prelude.{None, Option}
use Rattle.message.specs.declared.Message.{Message}

abbrev pub progress_at : Pending → ℕ → ℕ → Progress
progress_at q at n = record { pending = q; at = at; count = n }

module _ (q : Pending) (at n : ℕ) (room : suc at < 2 ^ 64) where
  -- one character, and what it leaves open and has heard
  pub character_heard : (c : ℕ) (ws : List ℕ) (h : Hearing) → hear q (with_parity c) ≡ h
      → listing_from (progress_at q at n) (word_bytes (with_parity c ∷ ws)) ≡ line_for at h.message ++ listing_from (progress_at h.pending (suc at) (count_after n h.message)) (word_bytes ws)
  unfolding word_bytes line_at after
  character_heard c ws h e =
      one_word (progress_at q at n) (with_parity c) (word_bytes ws) (le-leb (with_parity c) 256 (omega (arith, written_byte c)))
      ∙ ap (λ (x : Hearing). line_for at x.message ++ listing_from (progress_at x.pending (next_position at) (count_after n x.message)) (word_bytes ws)) e
      ∙ ap (λ (k : ℕ). line_for at h.message ++ listing_from (progress_at h.pending k (count_after n h.message)) (word_bytes ws)) (position_plain at room)

  pub character_unheard : (c : ℕ) (ws : List ℕ) (q' : Pending) → hear q (with_parity c) ≡ record { pending = q'; message = None }
      → listing_from (progress_at q at n) (word_bytes (with_parity c ∷ ws)) ≡ listing_from (progress_at q' (suc at) n) (word_bytes ws)
  unfolding line_for count_after
  character_unheard c ws q' e = character_heard c ws (record { pending = q'; message = None }) e

-- the characters ds are added to cs
record Adding (q : Pending) (cs ds : List ℕ) (at n : ℕ) (ws : List ℕ) : Type 0 where
  last : Pending
  holds : OpenChars last (cs ++ ds)
  lists : listing_from (progress_at q at n) (word_bytes (travelling ds ++ ws)) ≡ listing_from (progress_at last (at + length ds) n) (word_bytes ws)

adding : (q : Pending) (cs ds : List ℕ) (at n : ℕ) (ws : List ℕ) → OpenChars q cs → 1 ≤ length cs → length cs + length ds ≤ 10 → Plain ds → at + length ds < 2 ^ 64 → Adding q cs ds at n ws
unfolding travelling
adding q cs [] at n ws h l m p b = record {
  last = q;
  holds = subst (OpenChars q) (sym (append-nil cs)) h;
  lists = ap (λ (k : ℕ). listing_from (progress_at q k n) (word_bytes ws)) (sym (add-zero at));
}
adding q cs (d ∷ ds) at n ws h l m p b =
    let more = length-append cs (d ∷ []) in
    let r = adding (added q d) (cs ++ (d ∷ [])) ds (suc at) n ws (added_holds q cs d h (omega arith)) (omega arith) (omega arith) p.1 (omega arith) in
    let k : suc at + length ds ≡ at + suc (length ds) = omega arith in
    record {
      last = r.last;
      holds = subst (OpenChars r.last) (append_assoc cs (d ∷ []) ds) r.holds;
      lists =
          character_unheard q at n (omega arith) d (travelling ds ++ ws) (added q d) (hear_add q (omega (arith, h.len_is)) d p.0)
          ∙ r.lists
          ∙ ap (λ (j : ℕ). listing_from (progress_at r.last j n) (word_bytes ws)) k;
    }

pub spoken : (c : ℕ) (cs : List ℕ) (at n : ℕ) (ws : List ℕ) (o : Option Message) → is_letter c ≡ true → Plain cs → length cs ≤ 9 → at + length cs + 2 < 2 ^ 64 → parse (c ∷ cs) ≡ o
    → listing_from (progress_at none at n) (word_bytes (travelling (c ∷ (cs ++ (star ∷ []))) ++ ws)) ≡ line_for (at + length cs + 1) o ++ listing_from (progress_at none (at + length cs + 2) (count_after n o)) (word_bytes ws)
unfolding travelling
spoken c cs at n ws o e p l b q =
    let first = added_holds none [] c none_holds (lit< tt) in
    let r = adding (added none c) (c ∷ []) cs (suc at) n (with_parity star ∷ ws) first (omega arith) (omega arith) p (omega arith) in
    let parts : (travelling (cs ++ (star ∷ [])) ++ ws) ≡ travelling cs ++ (with_parity star ∷ ws)
    = ap (λ (l : List ℕ). l ++ ws) (travelling_append cs (star ∷ [])) ∙ append_assoc (travelling cs) (with_parity star ∷ []) ws in
    let is : parse (open_of r.last) ≡ o = ap parse r.holds.open_is ∙ q in
    let j : suc at + length cs ≡ at + length cs + 1 = omega arith in
    let k : suc (suc at + length cs) ≡ at + length cs + 2 = omega arith in
    character_unheard none at n (omega arith) c (travelling (cs ++ (star ∷ [])) ++ ws) (added none c) (hear_open c e)
    ∙ ap (λ (l : List ℕ). listing_from (progress_at (added none c) (suc at) n) (word_bytes l)) parts
    ∙ r.lists
    ∙ character_heard r.last (suc at + length cs) n (omega arith) star ws (record { pending = none; message = parse (open_of r.last) }) (hear_star r.last (omega (arith, r.holds.len_is)))
    ∙ ap (λ (x : Option Message). line_for (suc at + length cs) x ++ listing_from (progress_at none (suc (suc at + length cs)) (count_after n x)) (word_bytes ws)) is
    ∙ ap₂ (λ (x y : ℕ). line_for x o ++ listing_from (progress_at none y (count_after n o)) (word_bytes ws)) j k
