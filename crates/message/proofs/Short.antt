-- A message is heard from its own spelling or from more characters: each state of the recogniser knows how what it has taken would be
-- spelled, and that this is what it took or is shorter. Assumes nothing.
use mathlib.Core.Path.{◌≡◌, refl, sym, ap, ap₂, ◌∙◌, subst}
use mathlib.Core.Logic.{inl, inr}
use mathlib.Core.Bool.{true, ◌&&◌}
use mathlib.Core.List.{List, [], ◌∷◌, ◌++◌, append_assoc, append-nil}
use Prim.Native.Nat.{ℕ, ◌+◌, ◌*◌, ◌/◌, ◌%◌, ◌≤◌}
use Prim.Native.Char.{code}
use native.Mathlib.Omega.{arith}
use borrow.Author.Tests.{le-leb, eqb-true}
use lib.Dec.{leb, eqb}
use lib.ListN.{length, length-append}
use Rattle.refusal.proofs.Logic.{choice}
use Rattle.refusal.proofs.Longer.{SameOrLonger, longer_behind}
use Rattle.number.specs.declared.Data.{Data}
use Rattle.number.specs.declared.Data.TheVariants.{Partial, Number, Invalid}
use Rattle.number.specs.Data.{digit, is_digit, digit_of, start, read_next, read_data}
use Rattle.number.proofs.Digits.{digit_below, digit_again}
use Rattle.number.proofs.Reading.{read_none, read-next, written_read}
use Rattle.message.specs.declared.Body.{Body}
use Rattle.message.specs.declared.Body.TheVariants.{Status, Query, Up, Down, Set, Store}
use Rattle.message.specs.declared.Message.{Message}
use Rattle.message.specs.declared.Prefix.{Prefix}
use Rattle.message.specs.declared.Prefix.TheVariants.{Start, Letter, Digit, Address, Identifier, Digits, Complete, Wrong}
use Rattle.message.specs.Message.{star, question, is_letter, is_address, is_identifier}
use Rattle.message.specs.Prefix.{message, extend_identifier, extend_address, extend_data, extend_body, extend, extend_all, finish, parse}
use Rattle.message.specs.Spell.{spell_address, kind_of, spell_kind, spell_body, spell_open, spell}
use Rattle.std.specs.Prelude.{None, Some}

-- letter, address and identifier, and then these
spelled_to : ℕ → ℕ → ℕ → List ℕ → List ℕ
spelled_to l a i cs = l ∷ (spell_address a ++ (i ∷ cs))

-- characters that are read as data behind a `#`: those up to it, spelled so or longer, and those of the data
record WithData (l a i : ℕ) (x : Data) (cs : List ℕ) : Type 0 where
  front : List ℕ
  digits : List ℕ
  parted : cs ≡ front ++ digits
  reads : read_data digits ≡ x
  longer : SameOrLonger (spelled_to l a i (code "#" ∷ [])) front

-- the characters taken: spelled so, or longer
abbrev Taken : Prefix → List ℕ → Type 0
Taken Start cs = cs ≡ []
Taken (Letter l) cs = cs ≡ l ∷ []
Taken (Digit l d) cs = (cs ≡ l ∷ digit d ∷ []) × (d ≤ 9)
Taken (Address l a) cs = SameOrLonger (l ∷ spell_address a) cs
Taken (Identifier l a i) cs = SameOrLonger (spelled_to l a i []) cs
Taken (Digits l a i x) cs = WithData l a i x cs
Taken (Complete m) cs = SameOrLonger (spell_open m) cs
Taken Wrong cs = Unit {0}

-- with characters behind it
behind : (l a i : ℕ) (cs ds : List ℕ) → spelled_to l a i cs ++ ds ≡ spelled_to l a i (cs ++ ds)
unfolding spelled_to
behind l a i cs ds = ap (λ (x : List ℕ). l ∷ x) (append_assoc (spell_address a) (i ∷ cs) ds)

more : (l a i : ℕ) (cs ds : List ℕ) (c : ℕ) → SameOrLonger (spelled_to l a i cs) ds → SameOrLonger (spelled_to l a i (cs ++ (c ∷ []))) (ds ++ (c ∷ []))
more l a i cs ds c h = subst (λ (x : List ℕ). SameOrLonger x (ds ++ (c ∷ []))) (behind l a i cs (c ∷ [])) (longer_behind (c ∷ []) h)

-- ---- each character keeps it

-- and one more
abbrev With : List ℕ → ℕ → Prefix → Type 0
With cs c s = Taken s (cs ++ (c ∷ []))

module _ (l d c : ℕ) (cs : List ℕ) (e : cs ≡ l ∷ digit d ∷ []) (h : d ≤ 9) where
  -- a second digit of the address: a leading zero isn't spelled
  second_digit : is_digit c ≡ true → SameOrLonger (l ∷ spell_address (d * 10 + digit_of c)) (cs ++ (c ∷ []))
  unfolding spell_address
  second_digit t =
      let low = digit_below c t in
      let tens : d ≡ (d * 10 + digit_of c) / 10 = omega arith in
      let ones : digit_of c ≡ (d * 10 + digit_of c) % 10 = omega arith in
      choice (λ (x : List ℕ). SameOrLonger (l ∷ x) (cs ++ (c ∷ []))) (leb (d * 10 + digit_of c) 9)
      (λ u. inr (omega (arith, ap length e, length-append cs (c ∷ []))))
      (λ u. inl (ap (λ (x : List ℕ). x ++ (c ∷ [])) e ∙ ap₂ (λ (x y : ℕ). l ∷ digit x ∷ y ∷ []) tens (sym (digit_again c t) ∙ ap digit ones)))

  -- behind one digit an identifier
  behind_one : SameOrLonger (spelled_to l d c []) (cs ++ (c ∷ []))
  unfolding spelled_to spell_address
  behind_one = inl (ap (λ (x : List ℕ). x ++ (c ∷ [])) e ∙ sym (rw (le-leb d 9 h)))

taken_identifier : (l a c : ℕ) (cs : List ℕ) → SameOrLonger (spelled_to l a c []) cs → Taken (extend_identifier l a c) cs
unfolding extend_identifier
taken_identifier l a c cs h = choice (λ (s : Prefix). Taken s cs) (is_address a && is_identifier c) (λ t. h) (λ t. tt)

module _ (l a i : ℕ) (cs : List ℕ) (h : SameOrLonger (spelled_to l a i []) cs) where
  -- a body of one character
  whole : (b : Body) (c d : ℕ) → eqb c d ≡ true → spell_body b ≡ d ∷ [] → SameOrLonger (spell_open (message l a i b)) (cs ++ (c ∷ []))
  unfolding spell_open spelled_to
  whole b c d e q =
      let s : spell_body b ≡ c ∷ [] = q ∙ ap (λ (x : ℕ). x ∷ []) (sym (eqb-true c d e)) in
      rw s (more l a i [] cs c h)

  taken_body : (c : ℕ) → With cs c (extend_body l a i c)
  unfolding extend_body kind_of spell_kind
  taken_body c =
      choice (With cs c) (eqb i question)
      (λ _. choice (With cs c) (eqb c question) (λ t. whole Status c question t refl) (λ _. tt))
      (λ _. choice (With cs c) (eqb c question) (λ t. whole Query c question t refl)
      (λ _. choice (With cs c) (eqb c (code "+")) (λ t. whole Up c (code "+") t refl)
      (λ _. choice (With cs c) (eqb c (code "-")) (λ t. whole Down c (code "-") t refl)
      (λ _. choice (With cs c) (eqb c (code "I")) (λ t. whole Store c (code "I") t refl)
      (λ _. choice (With cs c) (eqb c (code "#")) (λ t. hash (eqb-true c (code "#") t)) (λ _. tt))))))
    where
      hash : c ≡ code "#" → WithData l a i start (cs ++ (c ∷ []))
      hash e = record {
        front = cs ++ (c ∷ []);
        digits = [];
        parted = sym (append-nil (cs ++ (c ∷ [])));
        reads = read_none;
        longer = subst (λ (d : ℕ). SameOrLonger (spelled_to l a i (d ∷ [])) (cs ++ (c ∷ []))) e (more l a i [] cs c h);
      }

-- a number is read from its own spelling
taken_data : (l a i : ℕ) (x : Data) (cs : List ℕ) → WithData l a i x cs → Taken (extend_data l a i x) cs
unfolding extend_data spell_open spelled_to kind_of spell_kind
taken_data l a i (Partial k n) cs w = w
taken_data l a i (Number x) cs w =
    let spelled : spelled_to l a i (code "#" ∷ []) ++ w.digits ≡ spell_open (message l a i (Set x))
    = behind l a i (code "#" ∷ []) w.digits ∙ ap (λ (ds : List ℕ). spelled_to l a i (code "#" ∷ ds)) (sym (written_read w.digits x w.reads)) in
    subst (λ (xs : List ℕ). SameOrLonger xs cs) spelled (rw w.parted (longer_behind w.digits w.longer))
taken_data l a i Invalid cs w = tt

next_data : (l a i : ℕ) (x : Data) (c : ℕ) (cs : List ℕ) → WithData l a i x cs → WithData l a i (read_next x c) (cs ++ (c ∷ []))
next_data l a i x c cs w = record {
  front = w.front;
  digits = w.digits ++ (c ∷ []);
  parted = ap (λ (xs : List ℕ). xs ++ (c ∷ [])) w.parted ∙ append_assoc w.front w.digits (c ∷ []);
  reads = read-next w.digits c ∙ ap (λ (y : Data). read_next y c) w.reads;
  longer = w.longer;
}

taken_step : (s : Prefix) (c : ℕ) (cs : List ℕ) → Taken s cs → With cs c (extend s c)
unfolding extend extend_address
taken_step Start c cs h = choice (With cs c) (is_letter c) (λ t. ap (λ (x : List ℕ). x ++ (c ∷ [])) h) (λ t. tt)
taken_step (Letter l) c cs h =
    choice (With cs c) (is_digit c)
    (λ t. (ap (λ (x : List ℕ). x ++ (c ∷ [])) h ∙ ap (λ (x : ℕ). l ∷ x ∷ []) (sym (digit_again c t)), digit_below c t)) (λ t. tt)
taken_step (Digit l d) c cs h =
    choice (With cs c) (is_digit c)
    (λ t. choice (With cs c) (is_address (d * 10 + digit_of c)) (λ u. second_digit l d c cs h.0 h.1 t) (λ u. tt))
    (λ t. taken_identifier l d c (cs ++ (c ∷ [])) (behind_one l d c cs h.0 h.1))
taken_step (Address l a) c cs h = taken_identifier l a c (cs ++ (c ∷ [])) (unfold spelled_to in longer_behind (c ∷ []) h)
taken_step (Identifier l a i) c cs h = taken_body l a i cs h c
taken_step (Digits l a i x) c cs h = taken_data l a i (read_next x c) (cs ++ (c ∷ [])) (next_data l a i x c cs h)
taken_step (Complete m) c cs h = tt
taken_step Wrong c cs h = tt

taken_all : (s : Prefix) (cs ds : List ℕ) → Taken s cs → Taken (extend_all s ds) (cs ++ ds)
unfolding extend_all
taken_all s cs [] h = subst (Taken s) (sym (append-nil cs)) h
taken_all s cs (d ∷ ds) h = subst (Taken (extend_all (extend s d) ds)) (append_assoc cs (d ∷ []) ds) (taken_all (extend s d) (cs ++ (d ∷ [])) ds (taken_step s d cs h))

-- ---- what is heard

pub unheard : {m : Message} → None ≡ Some m → ⊥
unheard e = let z : ◌≡◌ {A = ℕ} 0 1 = cc in omega arith

finished : (s : Prefix) (cs : List ℕ) (m : Message) → Taken s cs → finish s ≡ Some m → SameOrLonger (spell_open m) cs
unfolding finish
finished Start cs m h e = absurd (unheard e)
finished (Letter l) cs m h e = absurd (unheard e)
finished (Digit l d) cs m h e = absurd (unheard e)
finished (Address l a) cs m h e = absurd (unheard e)
finished (Identifier l a i) cs m h e = absurd (unheard e)
finished (Digits l a i x) cs m h e = absurd (unheard e)
finished (Complete k) cs m h e = let q : k ≡ m = cc in subst (λ (x : Message). SameOrLonger (spell_open x) cs) q h
finished Wrong cs m h e = absurd (unheard e)

-- document 02, ticket 7, for one message: what is heard as it is its spelling, or longer
pub spelled_or_longer : (cs : List ℕ) (m : Message) → parse cs ≡ Some m → SameOrLonger (spell m) (cs ++ (star ∷ []))
unfolding parse spell
spelled_or_longer cs m e = longer_behind (star ∷ []) (finished (extend_all Start cs) cs m (taken_all Start [] cs refl) e)
