-- A word leaves a sound open message sound. And the characters of a message before its `*` are a sound open message, which the `*`
-- closes: it is heard as that message. Assumes nothing.
use mathlib.Core.Path.{◌≡◌, refl, sym, ap, ◌∙◌}
use mathlib.Core.Bool.{true, ◌||◌, false≢true}
use mathlib.Core.List.{List, [], ◌∷◌, ◌++◌}
use Prim.Native.Nat.{ℕ, zero, suc, ◌+◌, ◌<◌, ◌≤◌}
use native.Mathlib.Numerals.{add-one}
use native.Mathlib.Nat.{min-le_left}
use native.Mathlib.Omega.{arith}
use borrow.Author.Tests.{ltb-true, leb-true, le-leb, eqb-true, eqb-false, ne_eqb, lt-ltb}
use lib.Dec.{ltb, eqb, lit≤}
use lib.ListN.{length, get_or, set, take, drop, replicate, length-append, length-drop, length-take}
use lib.Seq.{drop-set-lt, get_or-set_other, take-append_seam, drop-append_seam}
use Rattle.refusal.specs.Lists.{every}
use Rattle.refusal.proofs.Logic.{ands, and_both, not_is, is_not, choice, by-test}
use Rattle.refusal.proofs.Lists.{every_none, every_first, every_set, every_drop, every_replicate}
use Rattle.wire.specs.Word.{with_parity, received}
use Rattle.wire.proofs.Words.{received_small}
use Rattle.message.specs.declared.Message.{Message}
use Rattle.message.specs.Message.{star, is_letter, is_message}
use Rattle.message.specs.Prefix.{parse}
use Rattle.message.specs.Spell.{spell_address, spell_body, spell_open}
use Rattle.message.proofs.Messages.{parts, PlainChar, Plain, plain_letter}
use Rattle.message.proofs.Reading.{parse_spell}
use Rattle.message.proofs.Spelling.{plain_rest, open_first, open_length}
use Rattle.hearing.specs.declared.Pending.{Pending}
use Rattle.hearing.specs.declared.Action.{Action}
use Rattle.hearing.specs.declared.Action.TheVariants.{Close}
use Rattle.hearing.specs.declared.Hearing.{Hearing}
use Rattle.hearing.specs.Hearing.{most, none, added, open_of, opening, continuing, action_of, perform, hear}
use Rattle.hearing.specs.Sound.{plain_char, plain, zeros, sound_pending}
use Rattle.hearing.proofs.Heard.{OpenChars, hear_star}
use Rattle.std.specs.Prelude.{None, Option, Some}

-- ---- a sound open message, by its rules

pub record PendingParts (p : Pending) : Type 0 where
  pub short : p.len ≤ most
  pub is_plain : every plain_char (take p.len p.chars) ≡ true
  pub is_zero : every (λ (c : ℕ). eqb c 0) (drop p.len p.chars) ≡ true
  pub first : (eqb p.len 0 || is_letter (get_or p.chars 0 0)) ≡ true

pub pending_parts : (p : Pending) → sound_pending p ≡ true → PendingParts p
unfolding sound_pending plain zeros
pending_parts p e = record { short = leb-true p.len most (search ands); is_plain = search ands; is_zero = search ands; first = search ands }

pub parts_pending : (p : Pending) → PendingParts p → sound_pending p ≡ true
unfolding sound_pending plain zeros
parts_pending p q = and_both (and_both (le-leb p.len most q.short) (and_both q.is_plain q.is_zero)) q.first

plain_is : (c : ℕ) → PlainChar c → plain_char c ≡ true
unfolding plain_char
plain_is c p = and_both (lt-ltb c 128 p.small) (is_not p.no_star)

plain_back : (c : ℕ) → plain_char c ≡ true → PlainChar c
unfolding plain_char
plain_back c e = record { small = ltb-true c 128 (search ands); no_star = not_is {a = eqb c star} (search ands) }

every_plain : (cs : List ℕ) → every plain_char cs ≡ true → Plain cs
unfolding every
every_plain [] e = tt
every_plain (c ∷ cs) e = (plain_back c (search ands), every_plain cs (search ands))

small_places : (n : ℕ) (cs : List ℕ) → every plain_char (take n cs) ≡ true → every (λ (c : ℕ). eqb c 0) (drop n cs) ≡ true → (k : ℕ) → get_or cs k 0 < 128
unfolding every
small_places n [] p z k = lit≤ tt
small_places zero (c ∷ cs) p z zero = omega (arith, eqb-true c 0 (search ands))
small_places zero (c ∷ cs) p z (suc k) = small_places zero cs p (search ands) k
small_places (suc n) (c ∷ cs) p z zero = (plain_back c (search ands)).small
small_places (suc n) (c ∷ cs) p z (suc k) = small_places n cs (search ands) z k

-- seven bits in each of its places, those behind the last character too
pub place_small : (p : Pending) → sound_pending p ≡ true → (k : ℕ) → get_or p.chars k 0 < 128
place_small p e k = let q = pending_parts p e in small_places p.len p.chars q.is_plain q.is_zero k

-- what is open are seven-bit characters without `*`, at most ten
pub open_plain : (p : Pending) → sound_pending p ≡ true → Plain (open_of p)
unfolding open_of
open_plain p e = every_plain (take p.len p.chars) (pending_parts p e).is_plain

pub open_most : (p : Pending) → sound_pending p ≡ true → length (open_of p) ≤ most
unfolding open_of
open_most p e = omega (arith, (pending_parts p e).short, length-take p.len p.chars, min-le_left p.len (length p.chars))

-- and what a word closes begins with a letter
pub record Begins (xs : List ℕ) : Type 0 where
  pub letter : ℕ
  pub rest : List ℕ
  pub is : xs ≡ letter ∷ rest
  pub is-letter : is_letter letter ≡ true

begins : (n : ℕ) (cs : List ℕ) → (n ≡ 0 → ⊥) → is_letter (get_or cs 0 0) ≡ true → Begins (take n cs)
unfolding is_letter
begins zero cs f e = absurd (f refl)
begins (suc n) [] f e = absurd (false≢true e)
begins (suc n) (c ∷ cs) f e = record { letter = c; rest = take n cs; is = refl; is-letter = e }

closes_none : (r : Option ℕ) → opening r ≡ Close → ⊥
unfolding opening
closes_none (Some c) =
    choice (λ (a : Action). a ≡ Close → ⊥) (is_letter c)
    (λ t e. let z : ◌≡◌ {A = ℕ} 0 1 = cc in omega arith) (λ t e. let z : ◌≡◌ {A = ℕ} 0 1 = cc in omega arith)
closes_none None = λ e. let z : ◌≡◌ {A = ℕ} 0 1 = cc in omega arith

pub open_begins : (p : Pending) (w : ℕ) → sound_pending p ≡ true → action_of p w ≡ Close → Begins (open_of p)
unfolding open_of action_of
open_begins p w e a =
    by-test (eqb p.len 0)
    (λ t. absurd (closes_none (received w) (sym (rw t) ∙ a)))
    (λ t. begins p.len p.chars (eqb-false p.len 0 t) (sym (rw t) ∙ (pending_parts p e).first))

-- ---- characters in an open message

-- these characters, and zeros behind them
abbrev pub pending_with : List ℕ → Pending
pending_with cs = record { chars = cs ++ drop (length cs) (replicate most 0); len = length cs }

pub pending_holds : (cs : List ℕ) → length cs ≤ most → OpenChars (pending_with cs) cs
unfolding open_of
pending_holds cs h =
    let zero : List ℕ = replicate most 0 in
    record {
      len_is = refl;
      open_is = take-append_seam cs (drop (length cs) zero);
      room = omega (arith, length-append cs (drop (length cs) zero), length-drop (length cs) zero);
    }

all_plain : (cs : List ℕ) → Plain cs → every plain_char cs ≡ true
all_plain [] h = every_none plain_char
all_plain (c ∷ cs) h = every_first plain_char c cs (plain_is c h.0) (all_plain cs h.1)

pub pending_sound : (c : ℕ) (cs : List ℕ) → is_letter c ≡ true → Plain cs → length (c ∷ cs) ≤ most → sound_pending (pending_with (c ∷ cs)) ≡ true
pending_sound c cs e p h =
    let ds = c ∷ cs in
    let behind : List ℕ = drop (length ds) (replicate most 0) in
    parts_pending (pending_with ds) (record {
      short = h;
      is_plain = ap (every plain_char) (take-append_seam ds behind) ∙ all_plain ds (plain_letter c e, p);
      is_zero = ap (every (λ (c : ℕ). eqb c 0)) (drop-append_seam ds behind) ∙ every_replicate (λ (c : ℕ). eqb c 0) 0 refl (length ds) most;
      first = rw (ne_eqb (length ds) 0 (λ z. omega arith)) e;
    })

-- ---- a message that is open but for its `*`

module _ (m : Message) (e : is_message m ≡ true) where
  pub spelled_sound : sound_pending (pending_with (spell_open m)) ≡ true
  spelled_sound =
      let p = parts m e in
      let h = open_length m in
      rw (open_first m) (pending_sound m.letter (spell_address m.address ++ (m.identifier ∷ spell_body m.body)) p.is-letter (plain_rest m p) (rw (open_first m) at h))

  pub spelled_closed : (hear (pending_with (spell_open m)) (with_parity star)).message ≡ Some m
  spelled_closed =
      ap (λ (h : Hearing). h.message) (hear_star (pending_with (spell_open m)) (omega (arith, ap length (open_first m))))
      ∙ ap parse (pending_holds (spell_open m) (open_length m)).open_is
      ∙ parse_spell m e

-- ---- what a word leaves

pub none_sound : sound_pending none ≡ true
unfolding none
none_sound = parts_pending none (record {
  short = lit≤ tt;
  is_plain = every_none plain_char;
  is_zero = every_replicate (λ (c : ℕ). eqb c 0) 0 refl 0 most;
  first = refl;
})

opened_sound : (x : ℕ) → is_letter x ≡ true → sound_pending (added none x) ≡ true
unfolding none added
opened_sound x e = pending_sound x [] e tt (lit≤ tt)

added_sound : (p : Pending) (x : ℕ) → (p.len ≡ 0 → ⊥) → plain_char x ≡ true → PendingParts p → sound_pending (added p x) ≡ true
unfolding added
added_sound p x o c q =
    choice (λ (y : Pending). sound_pending y ≡ true) (ltb p.len most)
    (λ t. parts_pending (record { chars = set p.chars p.len x; len = p.len + 1 }) (record {
      short = omega (arith, ltb-true p.len most t);
      is_plain = rw (add-one p.len) (every_set plain_char p.chars p.len x q.is_plain c);
      is_zero = rw (add-one p.len, drop-set-lt (suc p.len) p.chars p.len x (omega arith)) (every_drop (λ (c : ℕ). eqb c 0) p.chars p.len q.is_zero);
      first = rw (ne_eqb (p.len + 1) 0 (λ e. omega arith), get_or-set_other p.chars p.len 0 x 0 (λ e. o (sym e))) (rw (ne_eqb p.len 0 o) at q.first);
    }))
    (λ t. none_sound)

opens_sound : (p : Pending) (r : Option ℕ) → sound_pending p ≡ true → sound_pending (perform p (opening r)).pending ≡ true
unfolding opening perform
opens_sound p (Some c) e = choice (λ (a : Action). sound_pending (perform p a).pending ≡ true) (is_letter c) (λ t. opened_sound c t) (λ t. e)
opens_sound p None e = e

goes_sound : (p : Pending) (r : Option ℕ) → ((c : ℕ) → r ≡ Some c → c < 128) → (p.len ≡ 0 → ⊥) → sound_pending p ≡ true → sound_pending (perform p (continuing r)).pending ≡ true
unfolding continuing perform
goes_sound p (Some c) f o e =
    choice (λ (a : Action). sound_pending (perform p a).pending ≡ true) (eqb c star) (λ t. none_sound)
    (λ t. added_sound p c o (plain_is c (record { small = f c refl; no_star = t })) (pending_parts p e))
goes_sound p None f o e = none_sound

pub hear_sound : (p : Pending) (w : ℕ) → sound_pending p ≡ true → sound_pending (hear p w).pending ≡ true
unfolding hear action_of
hear_sound p w e =
    choice (λ (a : Action). sound_pending (perform p a).pending ≡ true) (eqb p.len 0)
    (λ t. opens_sound p (received w) e) (λ t. goes_sound p (received w) (received_small w) (eqb-false p.len 0 t) e)
