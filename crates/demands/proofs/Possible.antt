-- Each answer that the reader knows is drawn from a sound card by the `*` that closes its open message: Type 1 for `?`; for a number
-- a row of step 1 from -9,999 to 9,999, a query for `A`, a step up that a read-only row declines for `N`, and Type 3 for `I`; for the
-- values of a scan a row for each, and a query on `]`. So the reader takes exactly what some sound card replies with. Assumes nothing.
use mathlib.Core.Path.{◌≡◌, refl, sym, ap, ◌∙◌, subst}
use mathlib.Core.Bool.{true, false, ◌&&◌, ◌||◌}
use mathlib.Core.List.{List, [], ◌∷◌}
use Prim.Native.Nat.{ℕ, zero, suc, ◌+◌, ◌<◌, ◌≤◌}
use native.Mathlib.Omega.{arith}
use borrow.Author.Tests.{eqb-true}
use lib.Dec.{eqb, lit≤, lit<}
use lib.IntN.{ℤ, pos}
use lib.ListN.{length, get_or, take, replicate}
use Rattle.refusal.proofs.Checks.{gave_is}
use Rattle.refusal.specs.Buffer.{laid}
use Rattle.refusal.specs.Lists.{every}
use Rattle.refusal.proofs.Logic.{and_both, by-test}
use Rattle.refusal.proofs.Buffers.{laid_front}
use Rattle.wire.specs.Word.{with_parity, travelling}
use Rattle.wire.proofs.Words.{star_travels}
use Rattle.number.specs.declared.Decimal.{Decimal}
use Rattle.number.specs.Number.{in_range}
use Rattle.number.specs.Data.{with_decimals, fits, numeral}
use Rattle.number.proofs.Cuts.{ends_in_range, four_digits, one_multiple, cut_own}
use Rattle.number.proofs.Reading.{fits_within, numeral_fits}
use Rattle.number.proofs.Several.{nth}
use Rattle.message.specs.declared.Body.{Body}
use Rattle.message.specs.declared.Body.TheVariants as body
use Rattle.message.specs.declared.Message.{Message}
use Rattle.message.specs.Message.{star, question, is_letter, is_address, is_identifier, is_message}
use Rattle.message.specs.Spell.{spell_open}
use Rattle.message.proofs.Messages.{BodyParts, parts, whole, parts_body}
use Rattle.message.proofs.Spelling.{open_length}
use Rattle.hearing.proofs.Sound.{pending_with, pending_holds, spelled_sound, spelled_closed}
use Rattle.sheet.specs.Sheet.{sound_sheet}
use Rattle.sheet.specs.Lookup.{has_row}
use Rattle.sheet.specs.Values.{entry_in, sound_values}
use Rattle.sheet.proofs.Values.{read_write_is, read_write_readable, read_write_writable, read_only_readable, read_only_not_read_write}
use Rattle.sheet.proofs.OneRow.{no_rows, no_rows_values, no_rows_none, one_row, its_numbers, one_value, one_else, one_sound, one_entry, one_there, one_values}
use Rattle.sheet.proofs.Rising.{Codes, rising_rows, rising_values, rising_codes, rising_sound, rising_entry, rising_else, rising_there, rising-values}
use Rattle.reply.specs.declared.Mark.{Mark}
use Rattle.reply.specs.declared.Mark.TheVariants.{Accepted, Offered, Declined}
use Rattle.reply.specs.declared.Content.{Content}
use Rattle.reply.specs.declared.Content.TheVariants.{Empty, Number, Four, Five}
use Rattle.reply.specs.declared.Answer.{Answer}
use Rattle.reply.specs.Reply.{longest_reply, scan_identifier, spell_answer, fits_content, is_answer}
use Rattle.reply.specs.Read.{read_call}
use Rattle.reply.proofs.Reader.{answer_parts, number_content, status_content, none_content, four_content, five_content, scan_no_status, read_spelled, read_exact}
use Rattle.act.specs.declared.Effect.{Effect}
use Rattle.act.specs.declared.Setup.{Setup}
use Rattle.act.specs.Cause.{is_for}
use Rattle.act.specs.Act.{no_number, named, value_of, scan_of}
use Rattle.act.proofs.OnOffer.{value_is, four_named, five_named, own_card, answered, scan_said, scan_declined, status_said, query_said, up_refused, set_said}
use Rattle.card.specs.declared.Card.{Card}
use Rattle.card.specs.Turn.{effect_of, turn}
use Rattle.card.specs.Refusals.{sound_scan}
use Rattle.card.specs.Calls.{After, WordAnswer, bytes_of}
use Rattle.card.proofs.Turns.{effect_heard}
use Rattle.card.proofs.Steps.{served_step}
use Rattle.card.proofs.Sounds.{parts_card, setup_sound, first_revision, nothing_sound, no-scan-row, readable_scan, no_scan}
use Rattle.demands.specs.Terms.{Sound, said_to}
use Rattle.demands.specs.Demand2.{Drawn, ReaderExact}
use Rattle.demands.proofs.Answers.{said_bytes, said_is, writes_spelling}
use Rattle.std.specs.Prelude.{None, Option, Some}

-- ---- the card that a message is for, with it open

module _ (m : Message) (names : ℕ) (scan : List ℕ) where
  abbrev pub setup_for : Setup
  setup_for = record { letter = m.letter; address = m.address; count = names; scan = scan; revision = 1 }

  abbrev pub card_for : Card
  card_for = record { setup = setup_for; pending = pending_with (spell_open m); offer = None }

  pub for_itself : is_for setup_for m ≡ true
  for_itself = own_card setup_for m refl refl

  pub card_sound : is_message m ≡ true → (bench maker values : List ℤ) → (sound_sheet bench && sound_sheet maker) ≡ true → sound_scan bench maker setup_for ≡ true → sound_values bench maker values ≡ true → Sound bench maker card_for values
  card_sound e bench maker values p n v =
      let t = parts m e in
      record {
        card_sound = parts_card card_for (record { is_set = setup_sound setup_for t.is-letter t.is-address first_revision; is_open = spelled_sound m e });
        sheets_sound = p;
        offer_sound = nothing_sound bench maker;
        scan_sound = n;
        values_sound = v;
      }

-- room for any reply
abbrev pub room : List ℕ
room = replicate longest_reply 0

pub star_valid : with_parity star ≤ 256
star_valid = rw star_travels (lit≤ tt)

module _ (m : Message) (e : is_message m ≡ true) (names : ℕ) (scan : List ℕ) (bench maker values : List ℤ) (a : Answer) (g : (answered bench maker (setup_for m names scan) None values m (for_itself m names scan)).said ≡ Some a) where
  abbrev s : Setup
  s = setup_for m names scan

  abbrev c : Card
  c = card_for m names scan

  says_so : said_to bench maker c values (with_parity star) ≡ Some a
  unfolding said_to
  says_so =
      ap (λ (x : Option Message). (effect_of bench maker s None values x).said) (spelled_closed m e)
      ∙ ap (λ (x : Effect). x.said) (effect_heard bench maker s None values m)
      ∙ g

  drawn : (sound_sheet bench && sound_sheet maker) ≡ true → length scan ≡ 5 → sound_scan bench maker s ≡ true → sound_values bench maker values ≡ true → Drawn (travelling (spell_answer a)) a
  drawn p five n v =
      let t = card_sound m names scan e bench maker values p n v in
      let w = writes_spelling bench maker c values (with_parity star) room t star_valid (lit≤ tt) a says_so in
      record {
        bench = bench;
        maker = maker;
        card = c;
        values = values;
        word = with_parity star;
        out = room;
        sound = t;
        room = (pending_holds (spell_open m) (open_length m)).room;
        names_room = five;
        valid = star_valid;
        says = says_so;
        gives = w.0;
        bytes = w.1;
      }

-- ---- each answer

-- no names
abbrev unnamed : List ℕ
unnamed = replicate 5 0

abbrev zeros : List ℤ
zeros = replicate 128 (pos 0)

-- `A` to `E`
abbrev letters : List ℕ
letters = 65 ∷ 66 ∷ 67 ∷ 68 ∷ 69 ∷ []

letter_is : (k : ℕ) → k < 5 → get_or letters k 0 ≡ 65 + k
letter_is zero h = refl
letter_is (suc zero) h = refl
letter_is (suc (suc zero)) h = refl
letter_is (suc (suc (suc zero))) h = refl
letter_is (suc (suc (suc (suc zero)))) h = refl
letter_is (suc (suc (suc (suc (suc k))))) h = absurd (omega arith)

module _ (l a i : ℕ) (pl : is_letter l ≡ true) (pa : is_address a ≡ true) (pi : is_identifier i ≡ true) where
  abbrev asked : Body → Message
  asked b = record { letter = l; address = a; identifier = i; body = b }

  abbrev given : Mark → Content → Answer
  given k x = record { letter = l; address = a; identifier = i; mark = k; content = x }

  a_message : (b : Body) → BodyParts i b → is_message (asked b) ≡ true
  a_message b f = whole (asked b) (record { is-letter = pl; is-address = pa; is-identifier = pi; fits-body = parts_body i b f })

  -- a card that names none, with sheets that have no row for `]`
  by_none : (bench values : List ℤ) (b : Body) (k : Mark) (x : Content) → BodyParts i b → (answered bench [] (setup_for (asked b) 0 unnamed) None values (asked b) (for_itself (asked b) 0 unnamed)).said ≡ Some (given k x) → sound_sheet bench ≡ true → has_row bench scan_identifier ≡ false → sound_values bench [] values ≡ true → Drawn (travelling (spell_answer (given k x))) (given k x)
  by_none bench values b k x t g p n v =
      drawn (asked b) (a_message b t) 0 unnamed bench [] values (given k x) g
      (and_both p no_rows) refl (no_scan bench [] (no-scan-row bench [] n (no_rows_none scan_identifier)) (setup_for (asked b) 0 unnamed) refl) v

  -- without rows
  by_nothing : (b : Body) (k : Mark) (x : Content) → BodyParts i b → (answered [] [] (setup_for (asked b) 0 unnamed) None zeros (asked b) (for_itself (asked b) 0 unnamed)).said ≡ Some (given k x) → Drawn (travelling (spell_answer (given k x))) (given k x)
  by_nothing b k x t g = by_none [] zeros b k x t g no_rows (no_rows_none scan_identifier) (no_rows_values zeros refl)

  status_drawn : eqb i question ≡ true → Drawn (travelling (spell_answer (given Accepted Empty))) (given Accepted Empty)
  status_drawn q =
      let m = asked body.Status in
      let u : eqb i scan_identifier ≡ false = rw (eqb-true i question q) refl in
      by_nothing body.Status Accepted Empty q (status_said [] [] (setup_for m 0 unnamed) None zeros m (for_itself m 0 unnamed) u refl)

  module _ (x : Decimal) (q : eqb i question ≡ false) (u : eqb i scan_identifier ≡ false) (f : fits x ≡ true) where
    abbrev n : ℤ
    n = x.number

    abbrev d : ℕ
    d = x.decimals

    -- a row of its own, with n in its place
    module _ (access : ℕ) (r : in_range (pos 1) (pos access) (pos 3) ≡ true) where
      abbrev to : Body → Effect
      to b = answered (one_row i access d) [] (setup_for (asked b) 0 unnamed) None (one_value i n) (asked b) (for_itself (asked b) 0 unnamed)

      its : entry_in (one_row i access d) [] i ≡ Some (its_numbers access d)
      its = one_entry i access d pi q r (fits_within x f).1

      there : (k : Mark) (b : Body) → (to b).said ≡ Some (given k (Number (with_decimals (get_or (one_value i n) i (pos 0)) d))) → (to b).said ≡ Some (given k (Number x))
      there k b e = e ∙ ap (λ (z : ℤ). Some (given k (Number (with_decimals z d)))) (one_there i access d pi q r (fits_within x f).1 n)

      by_row : (b : Body) (k : Mark) → BodyParts i b → (to b).said ≡ Some (given k (Number x)) → Drawn (travelling (spell_answer (given k (Number x)))) (given k (Number x))
      by_row b k t g =
          let w = fits_within x f in
          by_none (one_row i access d) (one_value i n) b k (Number x) t g
          (one_sound i access d pi q r w.1) (one_else i access d scan_identifier u) (one_values i access d pi q r w.1 n w.0)

    number_drawn : (k : Mark) → Drawn (travelling (spell_answer (given k (Number x)))) (given k (Number x))
    number_drawn Accepted =
        let m = asked body.Query in
        let r = ends_in_range (pos 1) (pos 2) (pos 3) refl refl in
        by_row 2 r body.Query Accepted q
        (there 2 r Accepted body.Query
        (query_said (one_row i 2 d) [] (setup_for m 0 unnamed) None (one_value i n) m (for_itself m 0 unnamed) u (its_numbers 2 d) (its 2 r) refl (read_write_readable (its_numbers 2 d) (read_write_is (its_numbers 2 d) refl))))
    number_drawn Declined =
        let m = asked body.Up in
        let r = ends_in_range (pos 1) (pos 1) (pos 3) refl refl in
        by_row 1 r body.Up Declined q
        (there 1 r Declined body.Up
        (up_refused (one_row i 1 d) [] (setup_for m 0 unnamed) None (one_value i n) m (for_itself m 0 unnamed) u (its_numbers 1 d) (its 1 r) refl (read_only_not_read_write (its_numbers 1 d) refl) (read_only_readable (its_numbers 1 d) refl)))
    number_drawn Offered =
        let m = asked (body.Set (numeral x)) in
        let r = ends_in_range (pos 1) (pos 2) (pos 3) refl refl in
        let h = (fits_within x f).0 in
        by_row 2 r (body.Set (numeral x)) Offered (q, numeral_fits x f)
        (set_said (one_row i 2 d) [] (setup_for m 0 unnamed) None (one_value i n) m (for_itself m 0 unnamed) u (its_numbers 2 d) (its 2 r) n refl (read_write_writable (its_numbers 2 d) (read_write_is (its_numbers 2 d) refl)) (four_digits n h)
        ∙ ap (λ (z : ℤ). Some (given Offered (Number (with_decimals z d)))) (cut_own (pos 1) refl n h (lit≤ tt) (one_multiple n)))

  -- on `]`: `00000` with `N`
  declined_drawn : eqb i scan_identifier ≡ true → Drawn (travelling (spell_answer (given Declined no_number))) (given Declined no_number)
  declined_drawn u =
      let m = asked body.Up in
      by_nothing body.Up Declined no_number (scan_no_status i u) (scan_declined [] [] (setup_for m 0 unnamed) None zeros m (for_itself m 0 unnamed) u refl)

  -- the values of a scan: a row for each, with identifiers from `A` on, and each number in its place
  module _ (u : eqb i scan_identifier ≡ true) (xs : List Decimal) (f : every fits xs ≡ true) (most-five : length xs ≤ 5) where
    abbrev asks : Message
    asks = asked body.Query

    abbrev namer : Setup
    namer = setup_for asks (length xs) letters

    abbrev valued : ℕ → Decimal
    valued = value_of (entry_in (rising_rows 65 xs) []) (λ (j : ℕ). get_or (rising_values 65 xs) j (pos 0))

    codes : Codes 65 xs
    codes = rising_codes 65 xs (lit≤ tt) (omega arith)

    entry : (k : ℕ) → k < length xs → entry_in (rising_rows 65 xs) [] (named namer k) ≡ Some (its_numbers 1 (nth xs k).decimals)
    entry k h = rw (letter_is k (omega arith)) (rising_entry 65 k xs h codes f [])

    value : (k : ℕ) → k < length xs → valued (named namer k) ≡ nth xs k
    value k h =
        value_is (entry_in (rising_rows 65 xs) []) (λ (j : ℕ). get_or (rising_values 65 xs) j (pos 0)) (named namer k) (its_numbers 1 (nth xs k).decimals) (entry k h)
        ∙ ap (λ (z : ℤ). with_decimals z (nth xs k).decimals) (rw (letter_is k (omega arith)) (rising_there 65 k xs h codes))

    scan_drawn : (eqb (length xs) 0 || eqb (length xs) 4 || eqb (length xs) 5) ≡ true → eqb (length xs) 0 ≡ false → (x : Content) → scan_of namer valued ≡ x → Drawn (travelling (spell_answer (given Accepted x))) (given Accepted x)
    scan_drawn many some x e =
        drawn asks (a_message body.Query (scan_no_status i u)) (length xs) letters (rising_rows 65 xs) [] (rising_values 65 xs) (given Accepted x)
        (scan_said (rising_rows 65 xs) [] namer None (rising_values 65 xs) asks (for_itself asks (length xs) letters) u refl some ∙ ap (λ (y : Content). Some (given Accepted y)) e)
        (and_both (rising_sound 65 xs (lit< tt) codes f (omega arith)) no_rows) refl
        (readable_scan (rising_rows 65 xs) [] (no-scan-row (rising_rows 65 xs) [] (rising_else 65 scan_identifier xs (omega arith)) (no_rows_none scan_identifier)) namer many
        (λ k h. (its_numbers 1 (nth xs k).decimals, entry k h, read_only_readable (its_numbers 1 (nth xs k).decimals) refl)))
        (rising-values 65 xs codes f)

  content_drawn : (k : Mark) (x : Content) → fits_content i k x ≡ true → Drawn (travelling (spell_answer (given k x))) (given k x)
  content_drawn k Empty f =
      let p = status_content i k f in
      subst (λ (j : Mark). Drawn (travelling (spell_answer (given j Empty))) (given j Empty)) (sym p.0) (status_drawn p.1)
  content_drawn k (Number x) f =
      let p = number_content i k x f in
      by-test (eqb i scan_identifier)
      (λ u. let o = none_content i k x u p in rw (o.0, o.1) (declined_drawn u))
      (λ u. number_drawn x p.no_status u p.fit k)
  content_drawn k (Four a b c d) f =
      let p = four_content i k a b c d f in
      let xs : List Decimal = a ∷ b ∷ c ∷ d ∷ [] in
      let v = value p.is-scan xs p.fit (lit≤ tt) in
      rw p.is_accepted (scan_drawn p.is-scan xs p.fit (lit≤ tt) refl refl (Four a b c d)
      (four_named (namer p.is-scan xs p.fit (lit≤ tt)) (valued p.is-scan xs p.fit (lit≤ tt)) refl ∙ rw (v 0 (lit< tt), v 1 (lit< tt), v 2 (lit< tt), v 3 (lit< tt))))
  content_drawn k (Five a b c d g) f =
      let p = five_content i k a b c d g f in
      let xs : List Decimal = a ∷ b ∷ c ∷ d ∷ g ∷ [] in
      let v = value p.is-scan xs p.fit (lit≤ tt) in
      rw p.is_accepted (scan_drawn p.is-scan xs p.fit (lit≤ tt) refl refl (Five a b c d g)
      (five_named (namer p.is-scan xs p.fit (lit≤ tt)) (valued p.is-scan xs p.fit (lit≤ tt)) refl ∙ rw (v 0 (lit< tt), v 1 (lit< tt), v 2 (lit< tt), v 3 (lit< tt), v 4 (lit< tt))))

pub answer_drawn : (a : Answer) → is_answer a ≡ true → Drawn (travelling (spell_answer a)) a
answer_drawn a e =
    let p = answer_parts a e in
    content_drawn a.letter a.address a.identifier p.is-letter p.is-address p.is-identifier a.mark a.content p.fits-content

-- ---- the reader

-- what was drawn is the spelling of what was said
drawn_bytes : (bs : List ℕ) (a : Answer) → (d : Drawn bs a) → bs ≡ travelling (spell_answer a)
drawn_bytes bs a d =
    let t = turn d.bench d.maker d.card d.values d.word in
    let l = (served_step d.card d.bench d.maker d.values d.word d.out (length bs) d.gives).leaves in
    let k : length bs ≡ length t.reply = gave_is (sym d.gives ∙ ap (λ (x : After WordAnswer). bytes_of x.outcome) l) in
    sym d.bytes
    ∙ ap (λ (x : After WordAnswer). take (length bs) x.buffer) l
    ∙ ap (λ (n : ℕ). take n (laid t.reply d.out)) k
    ∙ laid_front t.reply d.out
    ∙ said_bytes d.bench d.maker d.card d.values d.word a d.says

one_on_scan : (a : Answer) (x : Decimal) → is_answer a ≡ true → a.identifier ≡ scan_identifier → a.content ≡ Number x → (a.mark ≡ Declined) × (Number x ≡ no_number)
one_on_scan a x e i f =
    let u : eqb a.identifier scan_identifier ≡ true = rw i refl in
    let n = none_content a.identifier a.mark x u (number_content a.identifier a.mark x (rw f at (answer_parts a e).fits-content)) in
    (n.0, ap Number n.1)

pub reader_exact : ReaderExact
reader_exact = record {
  exact = λ bs a. (
    λ e. let p = read_exact bs a e in subst (λ (xs : List ℕ). Drawn xs a) (sym p.1) (answer_drawn a p.0),
    λ d. ap read_call (drawn_bytes bs a d) ∙ read_spelled a (said_is d.bench d.maker d.card d.values d.word d.sound a d.says),
  );
  one_on_scan = λ bs a x e. one_on_scan a x (read_exact bs a e).0;
}
