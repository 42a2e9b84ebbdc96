-- The reader gives back every answer that is spelled, and reads nothing else: the guess by position is right at what is spelled, and
-- a guess stands only where its spelling is the very bytes. Assumes nothing.
use mathlib.Core.Path.{◌≡◌, refl, sym, ap, ap₂, ◌∙◌, subst}
use mathlib.Core.Bool.{true, false, cond, not, ◌&&◌, ◌||◌, false≢true}
use mathlib.Core.List.{List, [], ◌∷◌, ◌++◌, map}
use Prim.Native.Nat.{ℕ, suc, ◌+◌, ◌-◌, ◌*◌, ◌/◌, ◌%◌, ◌<◌, ◌≤◌}
use Prim.Native.Char.{code}
use native.Mathlib.Nat.{div-add-mod', mod-eq_of_lt}
use native.Mathlib.Omega.{arith}
use borrow.Author.Tests.{eqb-true, eq-eqb, ne_eqb}
use lib.Dec.{leb, eqb, lit<}
use lib.IntN.{ℤ, pos, negsuc, nat_abs}
use lib.ListN.{length, get_or, take, drop, length-append, length-take, length-drop, length-map, get_or-map, get_or-eq_default}
use lib.Seq.{get_or-take, get_or-drop, get_or-append-add, drop-drop}
use borrow.Author.Rules.{rules}
use Rattle.std.proofs.Common.{Bor}
use Rattle.std.specs.Prelude.{Option, Some, None}
use Rattle.std.specs.Option.{MatchOption}
use Rattle.std.proofs.lemmas.List.{drop-map}
use Rattle.std.specs.Slice.{IsItemAt}
use Rattle.refusal.specs.Lists.{every, same}
use Rattle.refusal.specs.Refusal.{refused, gave}
use Rattle.refusal.specs.Check.{refuse_if, first, decided}
use Rattle.refusal.specs.declared.Refusal.TheVariants.{NotReply}
use Rattle.refusal.proofs.Lists.{same_is, is_same, each_append}
use Rattle.refusal.proofs.Checks.{refused_gave, first_holds, first_passes, first_none}
use Rattle.refusal.proofs.Logic.{ands, and_both, and_left, and_right, not_is, is_not, by-test, choice}
use Rattle.wire.specs.Word.{travelling}
use Rattle.wire.proofs.Words.{written_low}
use Rattle.number.specs.declared.Decimal.{Decimal}
use Rattle.number.specs.declared.Data.{Data}
use Rattle.number.specs.declared.Data.TheVariants.{Partial, Invalid}
use Rattle.number.specs.declared.Data.TheVariants as read
use Rattle.number.specs.Data.{with_decimals, digit, is_digit, digit_of, fits, spell_data, read_data, spell_all}
use Rattle.number.proofs.Digits.{digit_is, digit_back, data_length}
use Rattle.number.proofs.Reading.{read_number, read_length}
use Rattle.number.proofs.Several.{all_length, first_data, nth, each_read}
use Rattle.message.specs.Message.{star, question, is_letter, is_address, is_identifier}
use Rattle.message.specs.Spell.{spell_address}
use Rattle.message.proofs.Places.{five_are}
use Rattle.message.proofs.Messages.{address_most, identifier_no_digit}
use Rattle.message.proofs.Spelling.{Small, plain_small}
use Rattle.reply.specs.declared.Mark.{Mark}
use Rattle.reply.specs.declared.Mark.TheVariants as mark
use Rattle.reply.specs.declared.Content.{Content}
use Rattle.reply.specs.declared.Content.TheVariants.{Empty, Number, Four, Five}
use Rattle.reply.specs.declared.Answer.{Answer}
use Rattle.reply.specs.Reply.{scan_identifier, mark_of, spell_scan, spell_content, spell_answer, is_no_number, fits_content, is_answer}
use Rattle.reply.specs.Read.{characters_of, guess_mark, read_or_zero, decimal_at, guess_content, guess_behind, guess, is_reply, read_call}
use Rattle.reply.proofs.Spelled.{before_star, star_ends, before_plain}

-- ---- an answer by its parts

pub record AnswerParts (a : Answer) : Type 0 where
  pub is-letter : is_letter a.letter ≡ true
  pub is-address : is_address a.address ≡ true
  pub is-identifier : is_identifier a.identifier ≡ true
  pub fits-content : fits_content a.identifier a.mark a.content ≡ true

pub answer_parts : (a : Answer) → is_answer a ≡ true → AnswerParts a
unfolding is_answer
answer_parts a e = record { is-letter = search ands; is-address = search ands; is-identifier = search ands; fits-content = search ands }

pub parts_answer : (a : Answer) → AnswerParts a → is_answer a ≡ true
unfolding is_answer
parts_answer a p = and_both (and_both (and_both p.is-letter p.is-address) p.is-identifier) p.fits-content

-- a mark by its character
accepted : (k : Mark) → eqb (mark_of k) (code "A") ≡ true → k ≡ mark.Accepted
accepted mark.Accepted e = refl
accepted mark.Offered e = absurd (false≢true e)
accepted mark.Declined e = absurd (false≢true e)

-- what each content tells of its answer
pub status_content : (i : ℕ) (k : Mark) → fits_content i k Empty ≡ true → (k ≡ mark.Accepted) × (eqb i question ≡ true)
unfolding fits_content
status_content i k e = (accepted k (search ands), search ands)

pub content_status : (i : ℕ) → eqb i question ≡ true → fits_content i mark.Accepted Empty ≡ true
unfolding fits_content
content_status i e = e

-- a number's answer: any but for `?`, and for `]` only `N` with `00000`
pub record NumberContent (i : ℕ) (k : Mark) (x : Decimal) : Type 0 where
  pub no_status : eqb i question ≡ false
  pub fit : fits x ≡ true
  pub no_scan : (not (eqb i scan_identifier) || (eqb (mark_of k) (code "N") && is_no_number x)) ≡ true

pub number_content : (i : ℕ) (k : Mark) (x : Decimal) → fits_content i k (Number x) ≡ true → NumberContent i k x
unfolding fits_content
number_content i k x e = record { no_status = not_is {a = eqb i question} (search ands); fit = search ands; no_scan = search ands }

pub content_number : (i : ℕ) (k : Mark) (x : Decimal) → NumberContent i k x → fits_content i k (Number x) ≡ true
unfolding fits_content
content_number i k x n = and_both (and_both (is_not n.no_status) n.fit) n.no_scan

declined : (k : Mark) → eqb (mark_of k) (code "N") ≡ true → k ≡ mark.Declined
declined mark.Accepted e = absurd (false≢true e)
declined mark.Offered e = absurd (false≢true e)
declined mark.Declined e = refl

pub none_content : (i : ℕ) (k : Mark) (x : Decimal) → eqb i scan_identifier ≡ true → NumberContent i k x → (k ≡ mark.Declined) × (x ≡ with_decimals (pos 0) 0)
unfolding is_no_number
none_content i k x e n =
    let t : (eqb (mark_of k) (code "N") && is_no_number x) ≡ true = rw e at n.no_scan in
    (declined k (search ands), ap₂ with_decimals (nothing x.number (search ands)) (eqb-true x.decimals 0 (search ands)))
  where
    nothing : (z : ℤ) → eqb (nat_abs z) 0 ≡ true → z ≡ pos 0
    nothing (pos n) e = ap pos (eqb-true n 0 e)
    nothing (negsuc n) e = absurd (let z = eqb-true (suc n) 0 e in omega arith)

-- the answer of a scan
pub record ScanContent (i : ℕ) (k : Mark) (xs : List Decimal) : Type 0 where
  pub is_accepted : k ≡ mark.Accepted
  pub is-scan : eqb i scan_identifier ≡ true
  pub fit : every fits xs ≡ true

pub four_content : (i : ℕ) (k : Mark) (a b c d : Decimal) → fits_content i k (Four a b c d) ≡ true → ScanContent i k (a ∷ b ∷ c ∷ d ∷ [])
unfolding fits_content
four_content i k a b c d e = record { is_accepted = accepted k (search ands); is-scan = search ands; fit = and_right (eqb (mark_of k) (code "A") && eqb i scan_identifier) _ e }

pub five_content : (i : ℕ) (k : Mark) (a b c d f : Decimal) → fits_content i k (Five a b c d f) ≡ true → ScanContent i k (a ∷ b ∷ c ∷ d ∷ f ∷ [])
unfolding fits_content
five_content i k a b c d f e = record { is_accepted = accepted k (search ands); is-scan = search ands; fit = and_right (eqb (mark_of k) (code "A") && eqb i scan_identifier) _ e }

pub scan_four : (i : ℕ) (a b c d : Decimal) → eqb i scan_identifier ≡ true → every fits (a ∷ b ∷ c ∷ d ∷ []) ≡ true → fits_content i mark.Accepted (Four a b c d) ≡ true
unfolding fits_content
scan_four i a b c d e f = and_both e f

pub scan_five : (i : ℕ) (a b c d g : Decimal) → eqb i scan_identifier ≡ true → every fits (a ∷ b ∷ c ∷ d ∷ g ∷ []) ≡ true → fits_content i mark.Accepted (Five a b c d g) ≡ true
unfolding fits_content
scan_five i a b c d g e f = and_both e f

-- ---- characters and back

pub character_in : (bs : List ℕ) (k : ℕ) → get_or (characters_of bs) k 0 ≡ get_or bs k 0 % 128
unfolding characters_of
character_in bs k = get_or-map (λ (b : ℕ). b % 128) bs k 0

pub character_out : (bs : List ℕ) (k : ℕ) → length bs ≤ k → get_or (characters_of bs) k 0 ≡ 0
unfolding characters_of
character_out bs k h = get_or-eq_default (map (λ (b : ℕ). b % 128) bs) 0 (subst (λ (n : ℕ). n ≤ k) (sym (length-map bs (λ (b : ℕ). b % 128))) h)

-- by what `get` lends at the place
pub character_is : (bs : List ℕ) (k r : ℕ) (Q : Bor ℕ → Type 0) (o : Option (Bor ℕ)) → IsItemAt bs k o → MatchOption o (r ≡ 0) Q → ((x : Bor ℕ) → Q x → r ≡ x.now % 128)
    → r ≡ get_or (characters_of bs) k 0
character_is bs k r Q None i m h = m ∙ sym (character_out bs k (search rules))
character_is bs k r Q (Some x) i m h = h x m ∙ sym (character_in bs k ∙ ap (λ (b : ℕ). b % 128) (search rules))

pub characters_back : (cs : List ℕ) → Small cs → characters_of (travelling cs) ≡ cs
unfolding characters_of travelling
characters_back [] h = refl
characters_back (c ∷ cs) h = ap₂ (λ (x : ℕ) (xs : List ℕ). x ∷ xs) (written_low c h.0) (characters_back cs h.1)

pub answer_small : (a : Answer) → AnswerParts a → Small (spell_answer a)
answer_small a p =
    rw (star_ends a)
    (each_append _ (before_star a) (star ∷ []) (plain_small (before_star a) (before_plain a p.is-letter p.is-address p.is-identifier)) (lit< tt, tt))

-- ---- the guess at what is spelled

mark_back : (k : Mark) → guess_mark (mark_of k) ≡ k
unfolding guess_mark
mark_back mark.Accepted = refl
mark_back mark.Offered = refl
mark_back mark.Declined = refl

-- the character before the last
before_last : (xs : List ℕ) (m s : ℕ) → get_or (xs ++ (m ∷ s ∷ [])) (length (xs ++ (m ∷ s ∷ [])) - 2) 0 ≡ m
before_last xs m s =
    let n : length (xs ++ (m ∷ s ∷ [])) - 2 ≡ length xs + 0 = omega (arith, length-append xs (m ∷ s ∷ [])) in
    ap (λ (k : ℕ). get_or (xs ++ (m ∷ s ∷ [])) k 0) n ∙ get_or-append-add xs (m ∷ s ∷ []) 0 0

-- a number that stands from a place on
number_back : (cs : List ℕ) (k : ℕ) (x : Decimal) → fits x ≡ true → take 5 (drop k cs) ≡ spell_data x → decimal_at cs k ≡ x
unfolding decimal_at read_or_zero
number_back cs k x h e = ap (λ (ds : List ℕ). read_or_zero (read_data ds)) e ∙ ap read_or_zero (read_number x h)

one_digit : (l a i : ℕ) (xs : List ℕ) → is_identifier i ≡ true → guess (l ∷ digit a ∷ i ∷ xs) ≡ guess_behind l a (i ∷ xs)
unfolding guess
one_digit l a i xs e = rw (identifier_no_digit i e, digit_back a)

two_digits : (l a : ℕ) (xs : List ℕ) → is_address a ≡ true → guess (l ∷ digit (a / 10) ∷ digit (a % 10) ∷ xs) ≡ guess_behind l a xs
unfolding guess
two_digits l a xs e =
    let h = address_most a e in
    let q : (a / 10 * 10 + a % 10) % 100 ≡ a = ap (λ (n : ℕ). n % 100) (div-add-mod' a 10) ∙ mod-eq_of_lt (omega arith) in
    rw (digit_is (a % 10) (omega arith), digit_back (a / 10), digit_back (a % 10), q)

-- `]` is not `?`
pub scan_no_status : (i : ℕ) → eqb i scan_identifier ≡ true → eqb i question ≡ false
scan_no_status i e = ne_eqb i question (λ q. let z = eqb-true i scan_identifier e in apart (sym q ∙ z))
  where
    apart : question ≡ scan_identifier → ⊥
    apart z = omega arith

-- the values of a scan, each in its place behind the identifier and the count of digits
each_back : (i x y : ℕ) (xs : List Decimal) (rest : List ℕ) (j : ℕ) → every fits xs ≡ true → j < length xs → decimal_at (i ∷ x ∷ y ∷ (spell_all xs ++ rest)) (3 + 5 * j) ≡ nth xs j
unfolding decimal_at read_or_zero
each_back i x y xs rest j e h =
    ap (λ (ds : List ℕ). read_or_zero (read_data (take 5 ds))) (sym (drop-drop (5 * j) 3 (i ∷ x ∷ y ∷ (spell_all xs ++ rest))))
    ∙ ap read_or_zero (each_read xs j rest e h)

-- from the identifier on
content_back : (i : ℕ) (rest : List ℕ) (k : Mark) (y : Content) → fits_content i k y ≡ true → length rest ≡ 2 → cond (eqb i question) Empty (guess_content (i ∷ (spell_content y ++ rest))) ≡ y
unfolding guess_content spell_content spell_scan
content_back i rest k Empty e n = rw (status_content i k e).1
content_back i rest k (Number x) e n =
    let f = number_content i k x e in
    let l : length (i ∷ (spell_data x ++ rest)) ≡ 8 = omega (arith, length-append (spell_data x) rest, data_length x) in
    rw f.no_status (rw l (ap Number (number_back (i ∷ (spell_data x ++ rest)) 1 x f.fit (first_data x rest).0)))
content_back i rest k (Four a b c d) e n =
    let xs : List Decimal = a ∷ b ∷ c ∷ d ∷ [] in
    let f = four_content i k a b c d e in
    let q = each_back i (digit 2) (digit 0) xs rest in
    let l : length (i ∷ digit 2 ∷ digit 0 ∷ (spell_all xs ++ rest)) ≡ 25 = omega (arith, length-append (spell_all xs) rest, all_length xs) in
    rw (scan_no_status i f.is-scan) (rw l (λ j. Four (q 0 f.fit (lit< tt) j) (q 1 f.fit (lit< tt) j) (q 2 f.fit (lit< tt) j) (q 3 f.fit (lit< tt) j)))
content_back i rest k (Five a b c d g) e n =
    let xs : List Decimal = a ∷ b ∷ c ∷ d ∷ g ∷ [] in
    let f = five_content i k a b c d g e in
    let q = each_back i (digit 2) (digit 5) xs rest in
    let l : length (i ∷ digit 2 ∷ digit 5 ∷ (spell_all xs ++ rest)) ≡ 30 = omega (arith, length-append (spell_all xs) rest, all_length xs) in
    rw (scan_no_status i f.is-scan) (rw l (λ j. Five (q 0 f.fit (lit< tt) j) (q 1 f.fit (lit< tt) j) (q 2 f.fit (lit< tt) j) (q 3 f.fit (lit< tt) j) (q 4 f.fit (lit< tt) j)))

behind : (l a i : ℕ) (k : Mark) (y : Content) → fits_content i k y ≡ true
    → guess_behind l a (i ∷ (spell_content y ++ (mark_of k ∷ star ∷ []))) ≡ record { letter = l; address = a; identifier = i; mark = k; content = y }
unfolding guess_behind
behind l a i k y e =
    let m = ap guess_mark (before_last (i ∷ spell_content y) (mark_of k) star) ∙ mark_back k in
    let c = content_back i (mark_of k ∷ star ∷ []) k y e refl in
    λ j. record { letter = l; address = a; identifier = i; mark = m j; content = c j }

-- an answer is guessed from its spelling: an address of one digit, or of two
pub guess_spelled : (a : Answer) → AnswerParts a → guess (spell_answer a) ≡ a
unfolding spell_answer spell_address
guess_spelled a p =
    let rest = a.identifier ∷ (spell_content a.content ++ (mark_of a.mark ∷ star ∷ [])) in
    choice (λ (x : List ℕ). guess (a.letter ∷ (x ++ rest)) ≡ a) (leb a.address 9)
    (λ t. one_digit a.letter a.address a.identifier (spell_content a.content ++ (mark_of a.mark ∷ star ∷ [])) p.is-identifier ∙ behind a.letter a.address a.identifier a.mark a.content p.fits-content)
    (λ t. two_digits a.letter a.address rest p.is-address ∙ behind a.letter a.address a.identifier a.mark a.content p.fits-content)

-- ---- the reader

is_reply_parts : (bs : List ℕ) → is_reply bs ≡ true → (is_answer (guess (characters_of bs)) ≡ true) × (bs ≡ travelling (spell_answer (guess (characters_of bs))))
unfolding is_reply
is_reply_parts bs e =
    let g = guess (characters_of bs) in
    let s = same eqb (travelling (spell_answer g)) bs in
    (and_left (is_answer g) s e, sym (same_is eqb (λ x y t. eqb-true x y t) (travelling (spell_answer g)) bs (and_right (is_answer g) s e)))

-- what is one whole reply is read as the guess, and nothing else is read
pub read_is : (bs : List ℕ) → read_call bs ≡ decided (first (refuse_if (not (is_reply bs)) NotReply ∷ [])) refused (gave (guess (characters_of bs)))
unfolding read_call
read_is bs = refl

pub read_reply : (bs : List ℕ) → is_reply bs ≡ true → read_call bs ≡ gave (guess (characters_of bs))
unfolding read_call
read_reply bs e = rw (first_passes (refuse_if (not (is_reply bs)) NotReply) [] (rw e) ∙ first_none)

pub read_no_reply : (bs : List ℕ) → is_reply bs ≡ false → read_call bs ≡ refused 6
unfolding read_call
read_no_reply bs e = rw (first_holds (refuse_if (not (is_reply bs)) NotReply) [] (is_not e))

-- the reader's test is the guess's
pub reply_is : (bs : List ℕ) → is_reply bs ≡ (is_answer (guess (characters_of bs)) && same eqb (travelling (spell_answer (guess (characters_of bs)))) bs)
unfolding is_reply
reply_is bs = refl

-- every answer is read from its spelling
pub read_spelled : (a : Answer) → is_answer a ≡ true → read_call (travelling (spell_answer a)) ≡ gave a
unfolding is_reply
read_spelled a e =
    let p = answer_parts a e in
    let bs = travelling (spell_answer a) in
    let g : guess (characters_of bs) ≡ a = ap guess (characters_back (spell_answer a) (answer_small a p)) ∙ guess_spelled a p in
    read_reply bs (rw (g, e, is_same eqb (λ x. eq-eqb x x refl) bs)) ∙ ap gave g

-- and what is read is an answer, of which the bytes are the spelling
pub read_exact : (bs : List ℕ) (a : Answer) → read_call bs ≡ gave a → (is_answer a ≡ true) × (bs ≡ travelling (spell_answer a))
read_exact bs a e =
    by-test (is_reply bs)
    (λ t.
    let g = guess (characters_of bs) in
    let r : gave g ≡ gave a = sym (read_reply bs t) ∙ e in
    let q : g ≡ a = cc in
    subst (λ (x : Answer). (is_answer x ≡ true) × (bs ≡ travelling (spell_answer x))) q (is_reply_parts bs t))
    (λ t. absurd (refused_gave (sym (read_no_reply bs t) ∙ e)))

-- ---- what the code's guess comes to

pub character_behind : (cs : List ℕ) (k j : ℕ) → get_or cs (k + j) 0 ≡ get_or (drop k cs) j 0
character_behind cs k j = sym (get_or-drop k cs j 0)

pub characters_long : (bs : List ℕ) → length (characters_of bs) ≡ length bs
unfolding characters_of
characters_long bs = length-map bs (λ (b : ℕ). b % 128)

-- fewer than five characters are no number
pub number_short : (cs : List ℕ) (k : ℕ) → length cs < k + 5 → decimal_at cs k ≡ with_decimals (pos 0) 0
unfolding decimal_at read_or_zero
number_short cs k h = go (read_data (take 5 (drop k cs))) refl
  where
    go : (x : Data) → read_data (take 5 (drop k cs)) ≡ x → read_or_zero x ≡ with_decimals (pos 0) 0
    go (Partial n v) e = refl
    go (read.Number x) e = absurd (omega (arith, read_length (take 5 (drop k cs)) x e, length-take 5 (drop k cs), length-drop k cs))
    go Invalid e = refl

-- five characters or more, one after the other
pub number_here : (bs rest : List ℕ) (k : ℕ) → rest ≡ drop k bs → 5 ≤ length rest
    → read_or_zero (read_data (get_or rest 0 0 % 128 ∷ get_or rest 1 0 % 128 ∷ get_or rest 2 0 % 128 ∷ get_or rest 3 0 % 128 ∷ get_or rest 4 0 % 128 ∷ [])) ≡ decimal_at (characters_of bs) k
unfolding characters_of decimal_at
number_here bs (a ∷ b ∷ c ∷ d ∷ e ∷ more) k h l =
    ap (λ (ds : List ℕ). read_or_zero (read_data (take 5 ds))) (ap (map (λ (x : ℕ). x % 128)) h ∙ sym (drop-map (λ (x : ℕ). x % 128) k bs))
number_here bs [] k h l = absurd (omega arith)
number_here bs (a ∷ []) k h l = absurd (omega arith)
number_here bs (a ∷ b ∷ []) k h l = absurd (omega arith)
number_here bs (a ∷ b ∷ c ∷ []) k h l = absurd (omega arith)
number_here bs (a ∷ b ∷ c ∷ d ∷ []) k h l = absurd (omega arith)

-- five characters, one after the other
pub five_at : (cs : List ℕ) (k : ℕ) → k + 5 ≤ length cs
    → get_or cs k 0 ∷ get_or cs (k + 1) 0 ∷ get_or cs (k + 2) 0 ∷ get_or cs (k + 3) 0 ∷ get_or cs (k + 4) 0 ∷ [] ≡ take 5 (drop k cs)
five_at cs k h =
    let z : k ≡ k + 0 = omega arith in
    let l : length (take 5 (drop k cs)) ≡ 5 = omega (arith, length-take 5 (drop k cs), length-drop k cs) in
    (λ j. (ap (λ (i : ℕ). get_or cs i 0) z ∙ its 0 (lit< tt)) j ∷ its 1 (lit< tt) j ∷ its 2 (lit< tt) j ∷ its 3 (lit< tt) j ∷ its 4 (lit< tt) j ∷ []) ∙ five_are (take 5 (drop k cs)) l
  where
    its : (i : ℕ) → i < 5 → get_or cs (k + i) 0 ≡ get_or (take 5 (drop k cs)) i 0
    its i h = character_behind cs k i ∙ sym (get_or-take 5 (drop k cs) i 0 h)

-- a number from k on, by its place among all characters
number_behind : (cs : List ℕ) (k j : ℕ) → decimal_at cs (k + j) ≡ decimal_at (drop k cs) j
unfolding decimal_at
number_behind cs k j = sym (ap (λ (l : List ℕ). read_or_zero (read_data (take 5 l))) (drop-drop j k cs))

-- the numbers that the code has read, by how many characters there are
module _ (bs : List ℕ) (k : ℕ) where
  abbrev all : List ℕ
  all = characters_of bs

  abbrev its : List ℕ
  its = drop k all

  many : (n : ℕ) → 0 < n → length bs ≡ k + n → length its ≡ n
  many n z e = omega (arith, length-drop k all, characters_long bs)

  module _ {a b c d : Decimal} (ea : a ≡ decimal_at all (k + 3)) (eb : b ≡ decimal_at all (k + 8)) (ec : c ≡ decimal_at all (k + 13)) (ed : d ≡ decimal_at all (k + 18)) where
    pub guess_four : length bs ≡ k + 25 → Four a b c d ≡ guess_content its
    unfolding guess_content
    guess_four e =
        rw (many 25 (lit< tt) e)
        (λ j. Four ((ea ∙ number_behind all k 3) j) ((eb ∙ number_behind all k 8) j) ((ec ∙ number_behind all k 13) j) ((ed ∙ number_behind all k 18) j))

    pub guess_five : {f : Decimal} → f ≡ decimal_at all (k + 23) → length bs ≡ k + 30 → Five a b c d f ≡ guess_content its
    unfolding guess_content
    guess_five ef e =
        rw (many 30 (lit< tt) e)
        (λ j. Five ((ea ∙ number_behind all k 3) j) ((eb ∙ number_behind all k 8) j) ((ec ∙ number_behind all k 13) j) ((ed ∙ number_behind all k 18) j) ((ef ∙ number_behind all k 23) j))

  pub guess_number : {a : Decimal} → a ≡ decimal_at all (k + 1) → (length bs ≡ k + 25 → ⊥) → (length bs ≡ k + 30 → ⊥) → Number a ≡ guess_content its
  unfolding guess_content
  guess_number ea f g =
      rw (ne_eqb (length its) 25 (λ e. f (long 24 e)), ne_eqb (length its) 30 (λ e. g (long 29 e))) (ap Number (ea ∙ number_behind all k 1))
    where
      long : (n : ℕ) → length its ≡ suc n → length bs ≡ k + suc n
      long n e = omega (arith, length-drop k all, characters_long bs)

module _ (l a i : ℕ) (k : Mark) (cs : List ℕ) (e : i ≡ get_or cs 0 0) (m : k ≡ guess_mark (get_or cs (length cs - 2) 0)) where
  pub behind_status : i ≡ question → record { letter = l; address = a; identifier = i; mark = k; content = Empty } ≡ guess_behind l a cs
  unfolding guess_behind
  behind_status q = rw (eq-eqb (get_or cs 0 0) question (sym e ∙ q)) (λ j. record { letter = l; address = a; identifier = e j; mark = m j; content = Empty })

  pub behind_number : (y : Content) → (i ≡ question → ⊥) → y ≡ guess_content cs → record { letter = l; address = a; identifier = i; mark = k; content = y } ≡ guess_behind l a cs
  unfolding guess_behind
  behind_number y q n = rw (ne_eqb (get_or cs 0 0) question (λ z. q (e ∙ z))) (λ j. record { letter = l; address = a; identifier = e j; mark = m j; content = n j })

pub guess_two : (cs : List ℕ) → is_digit (get_or cs 2 0) ≡ true → guess cs ≡ guess_behind (get_or cs 0 0) ((digit_of (get_or cs 1 0) * 10 + digit_of (get_or cs 2 0)) % 100) (drop 3 cs)
unfolding guess
guess_two cs e = rw e

pub guess_one : (cs : List ℕ) → is_digit (get_or cs 2 0) ≡ false → guess cs ≡ guess_behind (get_or cs 0 0) (digit_of (get_or cs 1 0)) (drop 2 cs)
unfolding guess
guess_one cs e = rw e
