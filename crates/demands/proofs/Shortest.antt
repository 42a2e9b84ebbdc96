-- The normal form is the shortest, and so is the writer's message: what is heard as messages is their words or longer, and their words are
-- heard as they are, so that no other words are as few. And no reply is heard as a message. Assumes nothing.
use mathlib.Core.Path.{◌≡◌, refl, sym, ap, ◌∙◌, subst}
use mathlib.Core.Bool.{Bool, true, ◌&&◌}
use mathlib.Core.List.{List, [], ◌∷◌, ◌++◌}
use Prim.Native.Nat.{ℕ, ◌≤◌}
use native.Mathlib.Omega.{arith}
use lib.ListN.{length}
use Rattle.refusal.specs.Refusal.{gave}
use Rattle.refusal.proofs.Longer.{not_shorter, as_long_is_same}
use Rattle.wire.specs.Word.{travelling, valid_words}
use Rattle.wire.proofs.Words.{valid_both, travelling_valid}
use Rattle.message.specs.declared.Message.{Message}
use Rattle.message.specs.Spell.{spell, write_call}
use Rattle.hearing.specs.Hearing.{none, heard_from, heard}
use Rattle.hearing.specs.Normal.{words_of, normal}
use Rattle.hearing.proofs.Heard.{Messages}
use Rattle.hearing.proofs.Unopened.{heard_as_nothing, heard_between}
use Rattle.hearing.proofs.Normal.{heard_words, one_message, normal_words, normal_alike, wrote_message, heard_written}
use Rattle.hearing.proofs.Shortest.{words_or_longer}
use Rattle.reply.specs.declared.Answer.{Answer}
use Rattle.reply.specs.Read.{read_call}
use Rattle.reply.proofs.Spelled.{behind_letter, spelled_behind}
use Rattle.reply.proofs.Reader.{answer_parts, read_exact}
use Rattle.reply.proofs.Unheard.{behind_plain, reply_as_nothing}
use Rattle.demands.specs.Terms.{HasWritten}
use Rattle.demands.specs.Demand3.{Wrote}
use Rattle.demands.specs.Shortest.{FewestWords, Shortest, RepliesDropped}
use Rattle.demands.proofs.Words.{message_leaves}
use Rattle.demands.proofs.Recordings.{laid_writes, parts, whole}

-- ---- the fewest words are those of the messages

fewest : (ms : List Message) → Messages ms → FewestWords ms (words_of ms)
fewest ms h = record { is_heard = heard_words ms h; same_or_longer = λ ys e. words_or_longer ms ys e }

only_fewest : (ms : List Message) (xs : List ℕ) → Messages ms → FewestWords ms xs → xs ≡ words_of ms
only_fewest ms xs h f = as_long_is_same (words_or_longer ms xs f.is_heard) (not_shorter (f.same_or_longer (words_of ms) (heard_words ms h)))

-- ---- the normal form

normal_fewest : (ws : List ℕ) → FewestWords (heard ws) (normal ws)
normal_fewest ws = subst (FewestWords (heard ws)) (sym (normal_words ws)) (fewest (heard ws) (heard_written ws))

module _ (ws out xs : List ℕ) where
  writes_fewest : Wrote ws out xs → FewestWords (heard ws) xs
  writes_fewest w = subst (FewestWords (heard ws)) (sym (parts ws out xs w).is_normal) (normal_fewest ws)

  fewest_written : valid_words ws ≡ true → FewestWords (heard ws) xs → length xs ≤ length out → Wrote ws out xs
  fewest_written v f h = whole ws out xs (record { valid = v; is_normal = only_fewest (heard ws) xs (heard_written ws) f ∙ sym (normal_words ws); room = h })

-- ---- the writer's message

module _ (m : Message) (out xs : List ℕ) where
  message_fewest : HasWritten (write_call m out) xs → FewestWords (m ∷ []) xs × (length xs ≤ length out)
  message_fewest w =
      let n = wrote_message m out (length xs) w.gives in
      let e : xs ≡ travelling (spell m) = sym w.front ∙ n.front in
      (subst (FewestWords (m ∷ [])) (one_message m ∙ sym e) (fewest (m ∷ []) (n.valid, tt)), omega (arith, n.room, ap length e))

  message_written : FewestWords (m ∷ []) xs → length xs ≤ length out → HasWritten (write_call m out) xs
  message_written f h =
      let v : Messages (m ∷ []) = subst Messages f.is_heard (heard_written xs) in
      let e : xs ≡ travelling (spell m) = only_fewest (m ∷ []) xs v f ∙ one_message m in
      subst (HasWritten (write_call m out)) (sym e) (laid_writes (write_call m out) (travelling (spell m)) out (message_leaves m out v.0 (omega (arith, ap length e))))

pub shortest : Shortest
shortest = record {
  none_shorter = λ ws out xs ys w h e. omega (arith, not_shorter ((writes_fewest ws out xs w).same_or_longer ys e));
  exact = λ ws out xs. (
    λ w. let p = parts ws out xs w in (p.valid, writes_fewest ws out xs w, p.room),
    λ p. fewest_written ws out xs p.0 p.1 p.2,
  );
  room_of_any_alike = λ ws ys out v e h.
      whole ws out (normal ws) (record { valid = v; is_normal = refl; room = omega (arith, not_shorter ((normal_fewest ws).same_or_longer ys e)) });
  none_shorter_for_one = λ m out xs ys w h e. omega (arith, not_shorter ((message_fewest m out xs w).0.same_or_longer ys e));
  exact_for_one = λ m out xs. (λ w. message_fewest m out xs w, λ p. message_written m out xs p.0 p.1);
}

-- ---- replies

reply_unheard : (bs ws : List ℕ) (a : Answer) → read_call bs ≡ gave a → heard_from none (bs ++ ws) ≡ heard_from none ws
reply_unheard bs ws a e =
    let r = read_exact bs a e in
    let p = answer_parts a r.0 in
    ap (λ (l : List ℕ). heard_from none (l ++ ws)) (r.1 ∙ ap travelling (spelled_behind a))
    ∙ heard_as_nothing a.letter (behind_letter a) ws p.is-letter (behind_plain a p) (reply_as_nothing a p)

reply_valid : (bs : List ℕ) (a : Answer) → read_call bs ≡ gave a → valid_words bs ≡ true
reply_valid bs a e = ap valid_words (read_exact bs a e).1 ∙ travelling_valid _

pub replies_dropped : RepliesDropped
replies_dropped = record {
  dropped = λ before bs behind out a e o.
      normal_alike (before ++ (bs ++ behind)) (before ++ behind) out
      (valid_both before (bs ++ behind)
      ∙ ap (λ (v : Bool). valid_words before && v) (valid_both bs behind ∙ ap (λ (v : Bool). v && valid_words behind) (reply_valid bs a e))
      ∙ sym (valid_both before behind))
      (heard_between before bs behind o (reply_unheard bs behind a e));
}
