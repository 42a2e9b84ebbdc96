-- Hearing: a message that is spelled is heard as itself and leaves none open, and what is heard is a message. By the laws of a word
-- that opens, adds or closes, carried over the characters of a message. Assumes nothing.
use mathlib.Core.Path.{◌≡◌, refl, sym, ap, ◌∙◌, subst}
use mathlib.Core.Bool.{Bool, true, false, cond}
use mathlib.Core.List.{List, [], ◌∷◌, ◌++◌, append-nil, append_assoc}
use Prim.Native.Nat.{ℕ, ◌+◌, ◌<◌, ◌≤◌}
use native.Mathlib.Numerals.{add-one}
use native.Mathlib.Omega.{arith}
use borrow.Author.Tests.{lt-ltb, ne_eqb}
use lib.Dec.{eqb, lit<}
use lib.ListN.{length, take, set, length-append, length-set}
use lib.Seq.{take-suc-set}
use Rattle.refusal.proofs.Lists.{Each}
use Rattle.wire.specs.Word.{with_parity, travelling}
use Rattle.wire.proofs.Words.{travels, travelling_append}
use Rattle.message.specs.declared.Message.{Message}
use Rattle.message.specs.Message.{star, is_letter, is_message}
use Rattle.message.specs.Prefix.{parse}
use Rattle.message.specs.Spell.{spell_address, spell_body, spell}
use Rattle.message.proofs.Messages.{parts, PlainChar, Plain, plain_letter}
use Rattle.message.proofs.Reading.{Heard-is, parse_spell, parse_message}
use Rattle.message.proofs.Spelling.{plain_rest, open_first, star_last, open_length}
use Rattle.hearing.specs.declared.Pending.{Pending}
use Rattle.hearing.specs.declared.Action.{Action}
use Rattle.hearing.specs.declared.Action.TheVariants.{Ignore, Open, Add, Close, Drop}
use Rattle.hearing.specs.declared.Hearing.{Hearing}
use Rattle.hearing.specs.Hearing.{most, none, added, open_of, opening, continuing, action_of, perform, hear, before, heard_from, open_after, heard}
use Rattle.std.specs.Prelude.{None, Option, Some}

-- ---- the open message as a list of characters

pub record OpenChars (p : Pending) (cs : List ℕ) : Type 0 where
  pub len_is : p.len ≡ length cs
  pub open_is : open_of p ≡ cs
  pub room : length p.chars ≡ most

pub none_holds : OpenChars none []
unfolding none open_of
none_holds = record { len_is = refl; open_is = refl; room = refl }

pub added_holds : (p : Pending) (cs : List ℕ) (c : ℕ) → OpenChars p cs → length cs < most → OpenChars (added p c) (cs ++ (c ∷ []))
unfolding added open_of
added_holds p cs c h l =
    let n : p.len ≡ length cs = h.len_is in
    let r : length p.chars ≡ most = h.room in
    let in' : p.len < length p.chars = omega arith in
    subst (λ (x : Pending). OpenChars x (cs ++ (c ∷ [])))
    (sym (ap (λ (b : Bool). cond b (record { chars = set p.chars p.len c; len = p.len + 1 }) none) (lt-ltb p.len most (omega arith))))
    (record {
      len_is = omega (arith, length-append cs (c ∷ []));
      open_is =
          ap (λ (k : ℕ). take k (set p.chars p.len c)) (add-one p.len)
          ∙ take-suc-set p.chars p.len c in'
          ∙ ap (λ (l : List ℕ). l ++ (c ∷ [])) h.open_is;
      room = length-set p.chars p.len c ∙ r;
    })

-- ---- one word

pub hear_open : (c : ℕ) → is_letter c ≡ true → hear none (with_parity c) ≡ record { pending = added none c; message = None }
unfolding hear perform action_of opening none
hear_open c e = rw (travels c (plain_letter c e).small, e)

-- a message is open
module _ (p : Pending) (n : 1 ≤ p.len) where
  is_open : eqb p.len 0 ≡ false
  is_open = ne_eqb p.len 0 (λ e. omega arith)

  pub hear_add : (c : ℕ) → PlainChar c → hear p (with_parity c) ≡ record { pending = added p c; message = None }
  unfolding hear perform action_of continuing
  hear_add c q = rw (is_open, travels c q.small, q.no_star)

  pub hear_star : hear p (with_parity star) ≡ record { pending = none; message = parse (open_of p) }
  unfolding hear perform action_of continuing
  hear_star = rw (is_open, travels star (lit< tt))

-- ---- a word, and those behind it

pub heard_start : (ws : List ℕ) → heard ws ≡ heard_from none ws
unfolding heard
heard_start ws = refl

pub heard_end : (p : Pending) → heard_from p [] ≡ []
unfolding heard_from
heard_end p = refl

pub heard_word : (p : Pending) (w : ℕ) (ws : List ℕ) → heard_from p (w ∷ ws) ≡ before (hear p w).message (heard_from (hear p w).pending ws)
unfolding heard_from
heard_word p w ws = refl

pub before_heard : (m : Message) (ms : List Message) → before (Some m) ms ≡ m ∷ ms
unfolding before
before_heard m ms = refl

pub before_unheard : (ms : List Message) → before None ms ≡ ms
unfolding before
before_unheard ms = refl

-- what is heard in two recordings, one behind the other
before_both : (o : Option Message) (ms ns : List Message) → before o (ms ++ ns) ≡ before o ms ++ ns
unfolding before
before_both (Some m) ms ns = refl
before_both None ms ns = refl

pub heard_both : (p : Pending) (xs ys : List ℕ) → heard_from p (xs ++ ys) ≡ heard_from p xs ++ heard_from (open_after p xs) ys
unfolding heard_from open_after
heard_both p [] ys = refl
heard_both p (x ∷ xs) ys =
    let h = hear p x in
    ap (before h.message) (heard_both h.pending xs ys) ∙ before_both h.message (heard_from h.pending xs) (heard_from (open_after h.pending xs) ys)

-- after some words the messages heard and the message open are those from q on
pub record Leads (p : Pending) (ws : List ℕ) (q : Pending) (rest : List ℕ) : Type 0 where
  pub hears : heard_from p ws ≡ heard_from q rest
  pub opens : open_after p ws ≡ open_after q rest

then : {p q r : Pending} {xs ys zs : List ℕ} → Leads p xs q ys → Leads q ys r zs → Leads p xs r zs
then a b = record { hears = a.hears ∙ b.hears; opens = a.opens ∙ b.opens }

pub leads_unheard : (p : Pending) (w : ℕ) (ws : List ℕ) (q : Pending) → hear p w ≡ record { pending = q; message = None } → Leads p (w ∷ ws) q ws
unfolding heard_from open_after before
leads_unheard p w ws q e = record {
  hears = ap (λ (h : Hearing). before h.message (heard_from h.pending ws)) e;
  opens = ap (λ (h : Hearing). open_after h.pending ws) e;
}

-- plain characters are added to the open message
pub record Adds (p : Pending) (cs ds rest : List ℕ) : Type 0 where
  pub last : Pending
  pub holds : OpenChars last (cs ++ ds)
  pub leads : Leads p (travelling ds ++ rest) last rest

adds : (p : Pending) (cs ds rest : List ℕ) → OpenChars p cs → 1 ≤ length cs → length cs + length ds ≤ most → Plain ds → Adds p cs ds rest
unfolding travelling
adds p cs [] rest h o l q = record { last = p; holds = subst (OpenChars p) (sym (append-nil cs)) h; leads = record { hears = refl; opens = refl } }
adds p cs (d ∷ ds) rest h o l q =
    let k : p.len ≡ length cs = h.len_is in
    let a = adds (added p d) (cs ++ (d ∷ [])) ds rest (added_holds p cs d h (omega arith)) (omega (arith, length-append cs (d ∷ []))) (omega (arith, length-append cs (d ∷ []))) q.1 in
    record {
      last = a.last;
      holds = subst (OpenChars a.last) (append_assoc cs (d ∷ []) ds) a.holds;
      leads = then (leads_unheard p (with_parity d) (travelling ds ++ rest) (added p d) (hear_add p (omega arith) d q.0)) a.leads;
    }

-- ---- a letter, characters behind it, and `*`

-- as they travel, the letter's word and the star's apart
pub words_apart : (c : ℕ) (cs rest : List ℕ) → travelling ((c ∷ cs) ++ (star ∷ [])) ++ rest ≡ with_parity c ∷ (travelling cs ++ (with_parity star ∷ rest))
unfolding travelling
words_apart c cs rest =
    ap (λ (l : List ℕ). with_parity c ∷ (l ++ rest)) (travelling_append cs (star ∷ []))
    ∙ ap (λ (l : List ℕ). with_parity c ∷ l) (append_assoc (travelling cs) (with_parity star ∷ []) rest)

-- the letter opens, the characters behind it are added, and the star closes: what they are read as is heard
pub record HeardAs (c : ℕ) (cs rest : List ℕ) : Type 0 where
  pub hears : heard_from none (travelling ((c ∷ cs) ++ (star ∷ [])) ++ rest) ≡ before (parse (c ∷ cs)) (heard_from none rest)
  pub opens : open_after none (travelling ((c ∷ cs) ++ (star ∷ [])) ++ rest) ≡ open_after none rest

pub heard_as : (c : ℕ) (cs rest : List ℕ) → is_letter c ≡ true → Plain cs → length (c ∷ cs) ≤ most → HeardAs c cs rest
unfolding heard_from open_after
heard_as c cs rest e p h =
    let ends = with_parity star ∷ rest in
    let opened = leads_unheard none (with_parity c) (travelling cs ++ ends) (added none c) (hear_open c e) in
    let a = adds (added none c) (c ∷ []) cs ends (added_holds none [] c none_holds (lit< tt)) (omega arith) (omega arith) p in
    let q = a.last in
    let n : q.len ≡ length (c ∷ cs) = a.holds.len_is in
    let l = then opened a.leads in
    let s : hear q (with_parity star) ≡ record { pending = none; message = parse (c ∷ cs) }
    = hear_star q (omega arith) ∙ ap (λ (x : List ℕ). record { pending = none; message = parse x }) a.holds.open_is in
    record {
      hears = ap (heard_from none) (words_apart c cs rest) ∙ l.hears ∙ ap (λ (h : Hearing). before h.message (heard_from h.pending rest)) s;
      opens = ap (open_after none) (words_apart c cs rest) ∙ l.opens ∙ ap (λ (h : Hearing). open_after h.pending rest) s;
    }

-- a message that is spelled is heard as itself
pub record Spelled (m : Message) (rest : List ℕ) : Type 0 where
  pub hears : heard_from none (travelling (spell m) ++ rest) ≡ m ∷ heard_from none rest
  pub opens : open_after none (travelling (spell m) ++ rest) ≡ open_after none rest

pub spelled : (m : Message) (rest : List ℕ) → is_message m ≡ true → Spelled m rest
spelled m rest e =
    let p = parts m e in
    let cs = spell_address m.address ++ (m.identifier ∷ spell_body m.body) in
    let w : spell m ≡ (m.letter ∷ cs) ++ (star ∷ []) = star_last m ∙ ap (λ (l : List ℕ). l ++ (star ∷ [])) (open_first m) in
    let h = heard_as m.letter cs rest p.is-letter (plain_rest m p) (omega (arith, open_length m, ap length (open_first m))) in
    record {
      hears =
          ap (λ (l : List ℕ). heard_from none (travelling l ++ rest)) w
          ∙ h.hears
          ∙ ap (λ (x : Option Message). before x (heard_from none rest)) (ap parse (sym (open_first m)) ∙ parse_spell m e)
          ∙ before_heard m (heard_from none rest);
      opens = ap (λ (l : List ℕ). open_after none (travelling l ++ rest)) w ∙ h.opens;
    }

-- ---- what is heard is a message

performed : (p : Pending) (a : Action) → Heard-is (perform p a).message
unfolding perform
performed p Ignore = tt
performed p (Open c) = tt
performed p (Add c) = tt
performed p Close = parse_message (open_of p)
performed p Drop = tt

pub hear_message : (p : Pending) (w : ℕ) → Heard-is (hear p w).message
unfolding hear
hear_message p w = performed p (action_of p w)

abbrev pub Messages : List Message → Type 0
Messages ms = Each (λ (m : Message). is_message m ≡ true) ms

messages_before : (o : Option Message) (ms : List Message) → Heard-is o → Messages ms → Messages (before o ms)
unfolding before
messages_before (Some m) ms e h = (e, h)
messages_before None ms e h = h

pub heard_messages : (p : Pending) (ws : List ℕ) → Messages (heard_from p ws)
unfolding heard_from
heard_messages p [] = tt
heard_messages p (w ∷ ws) =
    messages_before (hear p w).message (heard_from (hear p w).pending ws) (hear_message p w) (heard_messages (hear p w).pending ws)
