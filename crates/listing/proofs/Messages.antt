-- What is listed is what is heard: the lines of a recording are those of its heard messages, each at the position of its `*`, and END
-- gives their number. For every recording of words up to 256, as long as positions don't begin again. Assumes nothing.
use Rattle.std.proofs.Common.{◌≡◌, ℕ, suc, ◌+◌, ◌/◌, ◌%◌, ◌^◌, ◌<◌, ◌≤◌, true, leb, List, [], ◌∷◌, ◌++◌, length, sym, ap, ◌∙◌, ap₂, append_assoc, add-zero, zero-add, arith}
use Rattle.refusal.proofs.Logic.{and_left, and_right}
use Rattle.refusal.specs.Lists.{every}
use Rattle.wire.specs.Word.{valid_words}
use Rattle.message.specs.declared.Message.{Message}
use Rattle.hearing.specs.declared.Pending.{Pending}
use Rattle.hearing.specs.Hearing.{none, hear, before, heard_from, heard}
use Rattle.wire.specs.Bytes.{word_of}
use Rattle.hearing.proofs.Heard.{heard_start, heard_end, heard_word, before_heard, before_unheard}
use Rattle.listing.specs.declared.Progress.{Progress}
use Rattle.listing.specs.declared.Ending.TheVariants as ending
use Rattle.listing.specs.Listing.{heading, next_position, start, line_for, count_after, line_at, after, last_line, listing_from, listing}
use Rattle.listing.proofs.Whole.{word_good}
use Rattle.std.specs.Prelude.{None, Option, Some}

-- the bytes of a recording's words, low byte first
unfoldable pub word_bytes : List ℕ → List ℕ
word_bytes [] = []
word_bytes (w ∷ ws) = (w % 256) ∷ (w / 256) ∷ word_bytes ws

-- the lines of the messages heard, each with the position of the word that closed it; at is the position of the first word
unfoldable pub lines_from : ℕ → Pending → List ℕ → List ℕ
lines_from at p [] = []
lines_from at p (w ∷ ws) = line_for at (hear p w).message ++ lines_from (suc at) (hear p w).pending ws

word_back : (w : ℕ) → word_of (w % 256) (w / 256) ≡ w
unfolding word_of
word_back w = omega arith

pub position_plain : (n : ℕ) → suc n < 2 ^ 64 → next_position n ≡ suc n
unfolding next_position
position_plain n h = omega arith

count_one : (o : Option Message) (n : ℕ) (ms : List Message) → suc n < 2 ^ 64 → count_after n o + length ms ≡ n + length (before o ms)
unfolding count_after
count_one (Some m) n ms h = omega (arith, position_plain n h, ap length (before_heard m ms))
count_one None n ms h = ap (λ (l : List Message). n + length l) (sym (before_unheard ms))

count_most : (o : Option Message) (n at : ℕ) → n ≤ at → suc at < 2 ^ 64 → count_after n o ≤ suc at
unfolding count_after
count_most (Some m) n at l h = omega (arith, position_plain n (omega arith))
count_most None n at l h = omega arith

-- a good word in front
pub one_word : (p : Progress) (w : ℕ) (bytes : List ℕ) → leb w 256 ≡ true → listing_from p ((w % 256) ∷ (w / 256) ∷ bytes) ≡ line_at p w ++ listing_from (after p w) bytes
one_word p w bytes e =
    word_good p (w % 256) (w / 256) bytes (ap (λ (x : ℕ). leb x 256) (word_back w) ∙ e)
    ∙ ap (λ (x : ℕ). line_at p x ++ listing_from (after p x) bytes) (word_back w)

lists_from : (p : Progress) (ws : List ℕ) → valid_words ws ≡ true → p.at + length ws < 2 ^ 64 → p.count ≤ p.at
    → listing_from p (word_bytes ws) ≡ lines_from p.at p.pending ws ++ last_line (ending.End (p.count + length (heard_from p.pending ws)))
unfolding word_bytes lines_from listing_from valid_words every after line_at
lists_from p [] v h l =
    ap (λ (n : ℕ). last_line (ending.End n)) (sym (ap (λ (ms : List Message). p.count + length ms) (heard_end p.pending) ∙ add-zero p.count))
lists_from p (w ∷ ws) v h l =
    let x = hear p.pending w in
    let o = x.message in
    let n : next_position p.at ≡ suc p.at = position_plain p.at (omega arith) in
    let k = count_one o p.count (heard_from x.pending ws) (omega arith) in
    one_word p w (word_bytes ws) (and_left (leb w 256) (valid_words ws) v)
    ∙ ap (λ (t : List ℕ). line_for p.at o ++ t)
    (lists_from (after p w) ws (and_right (leb w 256) (valid_words ws) v) (omega arith) (omega (arith, count_most o p.count p.at l (omega arith)))
    ∙ ap₂ (λ (j m : ℕ). lines_from j x.pending ws ++ last_line (ending.End m)) n k)
    ∙ sym (append_assoc (line_for p.at o) (lines_from (suc p.at) x.pending ws) (last_line (ending.End (p.count + length (before o (heard_from x.pending ws))))))
    ∙ ap (λ (ms : List Message). (line_for p.at o ++ lines_from (suc p.at) x.pending ws) ++ last_line (ending.End (p.count + length ms))) (sym (heard_word p.pending w ws))

pub lists_heard : (ws : List ℕ) → valid_words ws ≡ true → length ws < 2 ^ 64
    → listing (word_bytes ws) ≡ heading ++ (lines_from 0 none ws ++ last_line (ending.End (length (heard ws))))
unfolding listing start
lists_heard ws v h =
    ap (λ (t : List ℕ). heading ++ t)
    (lists_from start ws v (omega arith) (omega arith)
    ∙ ap (λ (n : ℕ). lines_from 0 none ws ++ last_line (ending.End n)) (zero-add (length (heard_from none ws)) ∙ ap length (sym (heard_start ws))))
