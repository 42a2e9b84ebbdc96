-- What some well-formed message begins with: characters that lead to any state but the wrong one, since each such state has characters
-- that complete it. So the position is the first place that no well-formed message could have. Assumes nothing.
use mathlib.Core.Path.{◌≡◌, refl, sym, ap, ◌∙◌, subst}
use mathlib.Core.Bool.{true, false, false≢true}
use mathlib.Core.List.{List, [], ◌∷◌, ◌++◌, append_assoc, append-nil, head-eq_of_cons-eq, tail-eq_of_cons-eq}
use mathlib.Core.Logic.{◌↔◌}
use Prim.Native.Nat.{ℕ, zero, suc, ◌+◌, ◌*◌, ◌≤◌}
use Prim.Native.Char.{code}
use native.Mathlib.Omega.{arith}
use borrow.Author.Tests.{ltb-true, ltb-false, eq-eqb}
use lib.Dec.{ltb, eqb, lit≤}
use lib.ListN.{length, take, drop, length-append, take-append-drop}
use lib.Seq.{take_all, take-append-le, take-take}
use Rattle.refusal.proofs.Logic.{by-test}
use Rattle.number.specs.declared.Data.TheVariants.{Partial, Number, Invalid}
use Rattle.number.specs.Data.{digit, is_digit, read_next}
use Rattle.number.proofs.Reading.{partial_viable}
use Rattle.message.specs.declared.Body.TheVariants.{Status, Query, Set}
use Rattle.message.specs.declared.Message.{Message}
use Rattle.message.specs.declared.Prefix.{Prefix}
use Rattle.message.specs.declared.Prefix.TheVariants.{Start, Letter, Digit, Address, Identifier, Digits, Complete, Wrong}
use Rattle.message.specs.Message.{star, question, is_letter, is_address, is_identifier}
use Rattle.message.specs.Prefix.{message, extend_identifier, extend_data, extend_body, extend, extend_all, finish, parse}
use Rattle.message.specs.Position.{is_wrong, matched, position, WellFormed, Possible, Impossible}
use Rattle.message.proofs.Messages.{letter_is, address_is, Plain}
use Rattle.message.proofs.Reading.{Known, known_scan, extend_letter, extend_first, extend_second, extend_identifier_2, all_data}
use Rattle.message.proofs.Places.{leads, wrong_stays, wrong_count}
use Rattle.message.proofs.Short.{unheard}
use Rattle.message.proofs.Matched.{wrong_is, matched_most, matched_stays, matched_greatest}
use Rattle.std.specs.Prelude.{None, Option, Some}

-- ---- a state is completed

-- characters that make it a message
pub record Completion (s : Prefix) : Type 0 where
  pub rest : List ℕ
  pub made : Message
  pub heard : leads s rest ≡ Some made

-- by one character, and what completes the state behind it
by_one : (s : Prefix) (c : ℕ) {t : Prefix} → extend s c ≡ t → Completion t → Completion s
unfolding extend_all
by_one s c e r = record { rest = c ∷ r.rest; made = r.made; heard = ap (λ (u : Prefix). leads u r.rest) e ∙ r.heard }

question_is : is_identifier question ≡ true
unfolding is_identifier is_digit
question_is = refl

complete_identifier : (l a i : ℕ) → Completion (Identifier l a i)
unfolding extend_all extend extend_body finish
complete_identifier l a i =
    by-test (eqb i question)
    (λ t. record { rest = question ∷ []; made = message l a i Status; heard = rw t })
    (λ t. record { rest = question ∷ []; made = message l a i Query; heard = rw t })

complete_address : (l a : ℕ) → is_address a ≡ true → Completion (Address l a)
complete_address l a e = by_one (Address l a) question (extend_identifier_2 l a question e question_is) (complete_identifier l a question)

complete_digit : (l d : ℕ) → d ≤ 9 → Completion (Digit l d)
complete_digit l d h =
    let e = address_is (d * 10 + 1) (omega arith) (omega arith) in
    by_one (Digit l d) (digit 1) (extend_second l d 1 (lit≤ tt) e) (complete_address l (d * 10 + 1) e)

complete_letter : (l : ℕ) → Completion (Letter l)
complete_letter l = by_one (Letter l) (digit 1) (extend_first l 1 (lit≤ tt)) (complete_digit l 1 (lit≤ tt))

pub completion : (s : Prefix) → Known s → is_wrong s ≡ false → Completion s
unfolding extend_all extend_data finish is_wrong
completion Start h e = by_one Start (code "L") (extend_letter (code "L") letter_is) (complete_letter (code "L"))
completion (Letter l) h e = complete_letter l
completion (Digit l d) h e = complete_digit l d h.1
completion (Address l a) h e = complete_address l a h.1
completion (Identifier l a i) h e = complete_identifier l a i
completion (Digits l a i (Partial k n)) h e =
    let r = partial_viable h.4.chars k n h.4.reads in
    record {
      rest = r.rest;
      made = message l a i (Set r.number);
      heard = ap finish (all_data l a i (Partial k n) r.rest ∙ ap (extend_data l a i) r.reads);
    }
completion (Digits l a i (Number x)) h e = absurd h.5
completion (Digits l a i Invalid) h e = absurd h.5
completion (Complete m) h e = record { rest = []; made = m; heard = refl }
completion Wrong h e = absurd (false≢true (sym e))

-- ---- what some well-formed message begins with

all_append : (s : Prefix) (xs ys : List ℕ) → extend_all s (xs ++ ys) ≡ extend_all (extend_all s xs) ys
unfolding extend_all
all_append s [] ys = refl
all_append s (x ∷ xs) ys = all_append (extend s x) xs ys

right_possible : (xs : List ℕ) → is_wrong (extend_all Start xs) ≡ false → Possible xs
unfolding parse
right_possible xs e =
    let r = completion (extend_all Start xs) (known_scan Start xs tt) e in (
      r.rest ++ (star ∷ []),
      record {
        characters = xs ++ r.rest;
        message = r.made;
        closed = sym (append_assoc xs r.rest (star ∷ []));
        heard = ap finish (all_append Start xs r.rest) ∙ r.heard;
      },
    )

-- without a `*`, they stand before the one that closes the message
split : (xs rest cs : List ℕ) → Plain xs → xs ++ rest ≡ cs ++ (star ∷ [])
    → (ys : List ℕ) × (cs ≡ xs ++ ys) × (rest ≡ ys ++ (star ∷ []))
split [] rest cs p e = (cs, refl, e)
split (x ∷ xs) rest [] p e = absurd (false≢true (sym p.0.no_star ∙ eq-eqb x star (head-eq_of_cons-eq e)))
split (x ∷ xs) rest (c ∷ cs) p e =
    let r = split xs rest cs p.1 (tail-eq_of_cons-eq e) in
    let q : c ∷ cs ≡ x ∷ (xs ++ r.0) = (λ j. head-eq_of_cons-eq (sym e) j ∷ r.1 j) in (r.0, q, r.2)

-- what is heard was never wrong
heard_right : (s : Prefix) (ys : List ℕ) (m : Message) → leads s ys ≡ Some m → is_wrong s ≡ false
heard_right s ys m e =
    by-test (is_wrong s)
    (λ t. absurd (unheard (sym (ap (λ (u : Prefix). leads u ys) (wrong_is s t) ∙ wrong_stays ys) ∙ e)))
    (λ t. t)

possible_right : (xs : List ℕ) → Plain xs → Possible xs → is_wrong (extend_all Start xs) ≡ false
unfolding parse
possible_right xs p w =
    let r = split xs w.0 w.1.characters p w.1.closed in
    heard_right (extend_all Start xs) r.0 w.1.message
    (ap finish (sym (all_append Start xs r.0) ∙ ap (extend_all Start) (sym r.1)) ∙ w.1.heard)

-- a `*` is matched nowhere
star_wrong : (s : Prefix) → extend s star ≡ Wrong
unfolding extend extend_identifier extend_body extend_data read_next is_letter is_digit is_identifier
star_wrong Start = refl
star_wrong (Letter l) = refl
star_wrong (Digit l d) = by-test (is_address d) (λ t. rw t) (λ t. rw t)
star_wrong (Address l a) = by-test (is_address a) (λ t. rw t) (λ t. rw t)
star_wrong (Identifier l a i) = by-test (eqb i question) (λ t. rw t) (λ t. rw t)
star_wrong (Digits l a i (Partial k n)) = refl
star_wrong (Digits l a i (Number x)) = refl
star_wrong (Digits l a i Invalid) = refl
star_wrong (Complete m) = refl
star_wrong Wrong = refl

-- with its `*`, only what is heard
possible_heard : (cs : List ℕ) → Plain cs → Possible (cs ++ (star ∷ [])) → (m : Message) × (parse cs ≡ Some m)
unfolding parse extend_all
possible_heard cs p w =
    let r = split cs (star ∷ w.0) w.1.characters p (sym (append_assoc cs (star ∷ []) w.0) ∙ w.1.closed) in
    (m, go r.0 r.2 (ap finish (sym (all_append Start cs r.0) ∙ ap (extend_all Start) (sym r.1)) ∙ w.1.heard))
  where
    s : Prefix
    s = extend_all Start cs

    m : Message
    m = w.1.message

    go : (ys : List ℕ) → star ∷ w.0 ≡ ys ++ (star ∷ []) → leads s ys ≡ Some m → leads s [] ≡ Some m
    go [] q e = e
    go (y ∷ ys) q e =
        let wrong : extend s y ≡ Wrong = ap (extend s) (sym (head-eq_of_cons-eq q)) ∙ star_wrong s in
        absurd (unheard (sym (ap (λ (u : Prefix). leads u ys) wrong ∙ wrong_stays ys) ∙ e))

-- ---- the first place that no well-formed message could have

possible_take : (n : ℕ) (xs : List ℕ) → Possible xs → Possible (take n xs)
possible_take n xs w = (
  drop n xs ++ w.0,
  subst WellFormed (ap (λ (ys : List ℕ). ys ++ w.0) (sym (take-append-drop n xs)) ∙ append_assoc (take n xs) (drop n xs) w.0) w.1,
)

possible_shorter : (m n : ℕ) (xs : List ℕ) → m ≤ n → Possible (take n xs) → Possible (take m xs)
possible_shorter m n xs h w = subst Possible (take-take m n xs h) (possible_take m (take n xs) w)

impossible_once : (xs : List ℕ) (p q : ℕ) → Impossible xs p → Impossible xs q → p ≡ q
impossible_once xs p q i j =
    by-test (ltb p q)
    (λ t. absurd (i.behind (possible_shorter (suc p) q xs (ltb-true p q t) j.before)))
    (λ t.
    by-test (ltb q p)
    (λ u. absurd (j.behind (possible_shorter (suc q) p xs (ltb-true q p u) i.before)))
    (λ u. omega (arith, ltb-false p q t, ltb-false q p u)))

well_formed_never : (xs : List ℕ) → WellFormed xs → (p : ℕ) → Impossible xs p → ⊥
well_formed_never xs w p i = i.behind (possible_take (suc p) xs ([], subst WellFormed (sym (append-nil xs)) w))

plain_take : (n : ℕ) (cs : List ℕ) → Plain cs → Plain (take n cs)
plain_take zero cs p = tt
plain_take (suc n) [] p = tt
plain_take (suc n) (c ∷ cs) p = (p.0, plain_take n cs p.1)

by_parsed : {X : Type 0} (x : Option Message) → ((m : Message) → x ≡ Some m → X) → (x ≡ None → X) → X
by_parsed (Some m) f g = f m refl
by_parsed None f g = g refl

-- of characters without a `*`, as the first `*` closes a message
module _ (cs : List ℕ) (plain : Plain cs) where
  pub position_is : parse cs ≡ None → Impossible (cs ++ (star ∷ [])) (position cs)
  unfolding position is_wrong
  position_is e = record {
    inside = omega (arith, matched_most Start cs, length-append cs (star ∷ []));
    before =
        subst Possible (sym (take-append-le p cs (star ∷ []) (matched_most Start cs)))
        (right_possible (take p cs) (matched_stays Start cs refl));
    behind = λ w.
        by-test (ltb p (length cs))
        (λ t.
        let h = ltb-true p (length cs) t in
        let v = subst Possible (take-append-le (suc p) cs (star ∷ []) h) w in
        omega (arith, matched_greatest Start cs (suc p) h (possible_right (take (suc p) cs) (plain_take (suc p) cs plain) v)))
        (λ t.
        let all = take_all (suc p) (cs ++ (star ∷ [])) (omega (arith, ltb-false p (length cs) t, length-append cs (star ∷ []))) in
        unheard (sym e ∙ (possible_heard cs plain (subst Possible all w)).1));
  }
    where
      p : ℕ
      p = matched Start cs

  pub well_formed : (m : Message) → parse cs ≡ Some m → WellFormed (cs ++ (star ∷ []))
  well_formed m e = record { characters = cs; message = m; closed = refl; heard = e }

  pub position_only : (p : ℕ) → Impossible (cs ++ (star ∷ [])) p → (parse cs ≡ None) × (p ≡ position cs)
  position_only p i =
      by_parsed (parse cs)
      (λ m e. absurd (well_formed_never (cs ++ (star ∷ [])) (well_formed m e) p i))
      (λ e. (e, impossible_once (cs ++ (star ∷ [])) p (position cs) i (position_is e)))

  pub well_formed_heard : WellFormed (cs ++ (star ∷ [])) → (m : Message) × (parse cs ≡ Some m)
  well_formed_heard w =
      by_parsed (parse cs) (λ m e. (m, e)) (λ e. absurd (well_formed_never (cs ++ (star ∷ [])) w (position cs) (position_is e)))

  pub well_formed_is : WellFormed (cs ++ (star ∷ [])) ↔ ((p : ℕ) → Impossible (cs ++ (star ∷ [])) p → ⊥)
  well_formed_is = (
    well_formed_never (cs ++ (star ∷ [])),
    λ f. by_parsed (parse cs) well_formed (λ e. absurd (f (position cs) (position_is e))),
  )

-- ---- its least and its greatest

pub position_least : (c : ℕ) (cs : List ℕ) → is_letter c ≡ true → 1 ≤ position (c ∷ cs)
unfolding position matched is_wrong
position_least c cs e = rw (extend_letter c e) (omega arith)

-- at most ten characters are ever open
pub position_most : (cs : List ℕ) → length cs ≤ 10 → parse cs ≡ None → position cs ≤ 9
unfolding position parse extend_all is_wrong
position_most cs h e =
    let p = matched Start cs in
    by-test (ltb p (length cs))
    (λ t. omega (arith, ltb-true p (length cs) t))
    (λ t.
    let all = take_all p cs (ltb-false p (length cs) t) in
    let right = subst (λ (xs : List ℕ). is_wrong (extend_all Start xs) ≡ false) all (matched_stays Start cs refl) in
    let r = completion (extend_all Start cs) (known_scan Start cs tt) right in
    omega (arith, matched_most Start cs, open_most r.rest r.made r.heard))
  where
    -- a message is longer
    open_most : (rest : List ℕ) (m : Message) → leads (extend_all Start cs) rest ≡ Some m → length cs ≤ 9
    open_most [] m q = absurd (unheard (sym e ∙ q))
    open_most (c ∷ rest) m q =
        by-test (ltb 9 (length cs))
        (λ t.
        let long : parse (cs ++ (c ∷ rest)) ≡ None
        = wrong_count (cs ++ (c ∷ rest)) (λ a b. omega (arith, length-append cs (c ∷ rest), ltb-true 9 (length cs) t)) in
        absurd (unheard (sym long ∙ ap finish (all_append Start cs (c ∷ rest)) ∙ q)))
        (λ t. omega (arith, ltb-false 9 (length cs) t))
