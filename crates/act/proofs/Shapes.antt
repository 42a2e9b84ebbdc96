-- What a message leads to whatever the values are: the length of what is said, and the offer that it leaves. Every reply with a number is as long
-- as any other. Assumes nothing.
use mathlib.Core.Path.{◌≡◌, refl, sym, ap, ◌∙◌}
use mathlib.Core.Bool.{cond, ◌&&◌}
use mathlib.Core.List.{List}
use Prim.Native.Nat.{ℕ, ◌+◌}
use lib.Dec.{eqb}
use lib.IntN.{ℤ, pos}
use lib.ListN.{length, get_or}
use Rattle.refusal.proofs.Logic.{by-test, choice}
use Rattle.number.specs.Number.{in_range, raised, lowered}
use Rattle.number.specs.Data.{with_decimals}
use Rattle.number.specs.declared.Decimal.{Decimal}
use Rattle.number.specs.declared.Numeral.{Numeral}
use Rattle.number.proofs.Digits.{data_length}
use Rattle.message.specs.declared.Body.{Body}
use Rattle.message.specs.declared.Body.TheVariants as body
use Rattle.message.specs.declared.Message.{Message}
use Rattle.sheet.specs.declared.Row.{Row}
use Rattle.sheet.specs.Values.{entry_in, is_readable, is_writable, is_read_write}
use Rattle.reply.specs.declared.Mark.{Mark}
use Rattle.reply.specs.declared.Mark.TheVariants.{Accepted, Declined}
use Rattle.reply.specs.declared.Content.{Content}
use Rattle.reply.specs.declared.Content.TheVariants.{Number}
use Rattle.reply.specs.Reply.{scan_identifier, spell_content, spell_answer}
use Rattle.reply.specs.Inner.{spell_front}
use Rattle.reply.proofs.Spelled.{number_data, four_length, five_length, answer_sum}
use Rattle.act.specs.declared.Setup.{Setup}
use Rattle.act.specs.declared.Effect.{Effect}
use Rattle.act.specs.Cause.{is_for, takes_zero}
use Rattle.act.specs.Act.{no_effect, answer_to, no_number, says, accepts, shown_by, offers, named, scan_of, act}
use Rattle.act.specs.Inner.{declines, query, moves, up, down, set_to, serve, declines_scan, serve_scan, addressed}
use Rattle.act.proofs.Judged.{act_is}
use Rattle.std.specs.Prelude.{None, Option, Some}
use Rattle.act.specs.declared.Offer.{Offer}
use Rattle.reply.specs.declared.Answer.{Answer}

-- how many characters are said
abbrev pub size_of : Option Answer → ℕ
size_of None = 0
size_of (Some a) = length (spell_answer a)

-- two effects that differ at most in the numbers that are said, and in what is stored
pub record Shaped (x y : Effect) : Type 0 where
  pub same_offer : x.offer ≡ y.offer
  pub same_size : size_of x.said ≡ size_of y.said

pub itself : (x : Effect) → Shaped x x
itself x = record { same_offer = refl; same_size = refl }

-- ---- a reply to the message m

module _ (m : Message) where
  -- with so many characters of data, offer gone
  record Sized (n : ℕ) (x : Effect) : Type 0 where
    pub gone : x.offer ≡ None
    pub size : size_of x.said ≡ length (spell_front m.letter m.address m.identifier) + n + 2

  sized_alike : {n : ℕ} {x y : Effect} → Sized n x → Sized n y → Shaped x y
  sized_alike p q = record { same_offer = p.gone ∙ sym q.gone; same_size = p.size ∙ sym q.size }

  says_sized : (k : Mark) (x : Content) (n : ℕ) → length (spell_content x) ≡ n → Sized n (says m k x)
  unfolding says
  says_sized k x n e = record { gone = refl; size = answer_sum (answer_to m k x) ∙ ap (λ (l : ℕ). length (spell_front m.letter m.address m.identifier) + l + 2) e }

  number_length : (x : Decimal) → length (spell_content (Number x)) ≡ 5
  number_length x = ap length (number_data x) ∙ data_length x

  accepts_sized : (z : ℤ) (d : ℕ) → Sized 5 (accepts m z d)
  unfolding says accepts
  accepts_sized z d = let s = says_sized Accepted (Number (with_decimals z d)) 5 (number_length (with_decimals z d)) in record { gone = refl; size = s.size }

  declines_sized : (e : Option Row) (v : ℤ) → Sized 5 (declines m e v)
  unfolding declines shown_by
  declines_sized (Some r) v =
      says_sized Declined (shown_by (Some r) v) 5
      (choice (λ (x : Content). length (spell_content x) ≡ 5) (is_readable r) (λ t. number_length (with_decimals v r.decimals)) (λ t. number_length (with_decimals (pos 0) 0)))
  declines_sized None v = says_sized Declined no_number 5 (number_length (with_decimals (pos 0) 0))

  query_sized : (e : Option Row) (v : ℤ) → Sized 5 (query m e v)
  unfolding query
  query_sized (Some r) v =
      choice (Sized 5) (is_readable r) (λ t. says_sized Accepted (Number (with_decimals v r.decimals)) 5 (number_length (with_decimals v r.decimals))) (λ t. declines_sized (Some r) v)
  query_sized None v = declines_sized None v

  moves_sized : (r : Row) (v y : ℤ) → Sized 5 (moves m r v y)
  unfolding moves
  moves_sized r v y = choice (Sized 5) (is_read_write r && in_range r.least y r.greatest) (λ t. accepts_sized y r.decimals) (λ t. declines_sized (Some r) v)

  up_sized : (e : Option Row) (v : ℤ) → Sized 5 (up m e v)
  unfolding up
  up_sized (Some r) v = moves_sized r v (raised v r.step)
  up_sized None v = declines_sized None v

  down_sized : (e : Option Row) (v : ℤ) → Sized 5 (down m e v)
  unfolding down
  down_sized (Some r) v = moves_sized r v (lowered v r.step)
  down_sized None v = declines_sized None v

  -- ---- two values

  set_shaped : (c : Setup) (e : Option Row) (v y : ℤ) (x : Numeral) → Shaped (set_to c m e v x) (set_to c m e y x)
  unfolding set_to
  set_shaped c (Some r) v y x =
      by-test (is_writable r && eqb x.decimals r.decimals && takes_zero c (body.Set x) && in_range r.least x.number r.greatest)
      (λ t. rw t (itself (offers m r x.number))) (λ t. rw t (sized_alike (declines_sized (Some r) v) (declines_sized (Some r) y)))
  set_shaped c None v y x = sized_alike (declines_sized None v) (declines_sized None y)

  serve_shaped : (c : Setup) (e : Option Row) (o : Option Offer) (v y : ℤ) (b : Body) → Shaped (serve c m e o v b) (serve c m e o y b)
  unfolding serve
  serve_shaped c e o v y body.Status = itself _
  serve_shaped c e o v y body.Query = sized_alike (query_sized e v) (query_sized e y)
  serve_shaped c e o v y body.Up = sized_alike (up_sized e v) (up_sized e y)
  serve_shaped c e o v y body.Down = sized_alike (down_sized e v) (down_sized e y)
  serve_shaped c e o v y (body.Set x) = set_shaped c e v y x
  serve_shaped c e o v y body.Store = itself _

  scan_sized : (c : Setup) (x : ℕ → Decimal) → Sized (cond (eqb c.count 4) 22 27) (says m Accepted (scan_of c x))
  unfolding scan_of
  scan_sized c x =
      by-test (eqb c.count 4)
      (λ t. rw t (says_sized Accepted _ 22 (four_length (x (named c 0)) (x (named c 1)) (x (named c 2)) (x (named c 3)))))
      (λ t. rw t (says_sized Accepted _ 27 (five_length (x (named c 0)) (x (named c 1)) (x (named c 2)) (x (named c 3)) (x (named c 4)))))

  scan_shaped : (c : Setup) (x y : ℕ → Decimal) (b : Body) → Shaped (serve_scan c m (scan_of c x) b) (serve_scan c m (scan_of c y) b)
  unfolding serve_scan
  scan_shaped c x y body.Status = itself _
  scan_shaped c x y body.Query = by-test (eqb c.count 0) (λ t. rw t (itself (declines_scan m))) (λ t. rw t (sized_alike (scan_sized c x) (scan_sized c y)))
  scan_shaped c x y body.Up = itself _
  scan_shaped c x y body.Down = itself _
  scan_shaped c x y (body.Set z) = itself _
  scan_shaped c x y body.Store = itself _

  pub act_shaped : (bench maker : List ℤ) (c : Setup) (o : Option Offer) (values values' : List ℤ) → Shaped (act bench maker c o values m) (act bench maker c o values' m)
  unfolding addressed
  act_shaped bench maker c o values values' =
      rw (act_is bench maker c o values m, act_is bench maker c o values' m)
      (by-test (is_for c m)
      (λ t.
      by-test (eqb m.identifier scan_identifier)
      (λ u. rw (t, u) (scan_shaped c _ _ m.body))
      (λ u. rw (t, u) (serve_shaped c (entry_in bench maker m.identifier) o (get_or values m.identifier (pos 0)) (get_or values' m.identifier (pos 0)) m.body)))
      (λ t. by-test (eqb m.identifier scan_identifier) (λ u. rw (t, u) (itself (no_effect o))) (λ u. rw (t, u) (itself (no_effect o)))))
