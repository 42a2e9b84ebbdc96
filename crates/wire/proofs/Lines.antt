-- A line built one character after the other holds those characters. Assumes nothing.
use mathlib.Core.Path.{◌≡◌, refl, sym, ap, ◌∙◌, subst}
use mathlib.Core.List.{List, [], ◌∷◌, ◌++◌, append-nil, append_assoc}
use Prim.Native.Nat.{ℕ, suc, ◌+◌, ◌<◌, ◌≤◌, min}
use native.Mathlib.Numerals.{add-one}
use native.Mathlib.Omega.{arith}
use borrow.Author.Tests.{lt-ltb}
use lib.ListN.{length, get_or, take, drop, set, replicate, length-append, length-set, length-take, take-append-drop}
use lib.Seq.{drop-cons, set_at, append_snoc, take-append_seam}
use Rattle.refusal.specs.Buffer.{laid, placed}
use Rattle.refusal.specs.Call.{Call, writes, place_call}
use Rattle.refusal.proofs.Buffers.{laid_length, placed_nothing, placed_both, placed_one}
use Rattle.refusal.proofs.Calls.{placed_writes}
use Rattle.std.specs.List.{fold}
use Rattle.wire.specs.Word.{with_parity, travelling}
use Rattle.wire.specs.Inner.{longest_message, empty, put, puts, line_of, bytes_of}
use Rattle.wire.specs.declared.Line.{Line}
use Rattle.wire.proofs.Words.{travelling_append, travelling_length}

-- one more at the front of a room
laid_more : (xs : List ℕ) (x : ℕ) (out : List ℕ) (n : ℕ) → length xs ≡ n → n < length out → set (laid xs out) n x ≡ laid (xs ++ (x ∷ [])) out
unfolding laid
laid_more xs x out n e h =
    let l : length (xs ++ (x ∷ [])) ≡ suc n = length-append xs (x ∷ []) ∙ ap (λ (k : ℕ). k + 1) e ∙ add-one n in
    ap (λ (k : ℕ). set (xs ++ drop k out) n x) e
    ∙ ap (λ (r : List ℕ). set (xs ++ r) n x) (drop-cons out n 0 h)
    ∙ set_at xs (get_or out n 0) (drop (suc n) out) x n e
    ∙ sym (append_snoc xs x (drop (suc n) out))
    ∙ ap (λ (k : ℕ). (xs ++ (x ∷ [])) ++ drop k out) (sym l)

pub empty_line : empty ≡ line_of []
unfolding empty line_of laid travelling
empty_line = refl

pub put_line : (cs : List ℕ) (c : ℕ) → length cs < longest_message → put (line_of cs) c ≡ line_of (cs ++ (c ∷ []))
unfolding put line_of travelling
put_line cs c h =
    let p : set (laid (travelling cs) (replicate longest_message 0)) (length cs) (with_parity c) ≡ laid (travelling (cs ++ (c ∷ []))) (replicate longest_message 0)
    = laid_more (travelling cs) (with_parity c) (replicate longest_message 0) (length cs) (travelling_length cs) (omega arith)
    ∙ ap (λ (l : List ℕ). laid l (replicate longest_message 0)) (sym (travelling_append cs (c ∷ []))) in
    let q : length cs + 1 ≡ length (cs ++ (c ∷ [])) = sym (length-append cs (c ∷ [])) in
    rw (lt-ltb (length cs) longest_message h) (λ j. record { bytes = p j; len = q j })

pub puts_line : (cs ds : List ℕ) → length cs + length ds ≤ longest_message → puts (line_of cs) ds ≡ line_of (cs ++ ds)
unfolding puts
puts_line cs [] h = ap line_of (sym (append-nil cs))
puts_line cs (d ∷ ds) h =
    ap (λ (l : Line). puts l ds) (put_line cs d (omega arith))
    ∙ puts_line (cs ++ (d ∷ [])) ds (omega (arith, length-append cs (d ∷ [])))
    ∙ ap line_of (append_assoc cs (d ∷ []) ds)

-- what is put on an empty line is the line of those characters
pub puts_empty : (cs : List ℕ) → length cs ≤ longest_message → puts empty cs ≡ line_of cs
puts_empty cs h = ap (λ (l : Line). puts l cs) empty_line ∙ puts_line [] cs (omega arith)

put_room : (l : Line) (c : ℕ) → l.len < longest_message → put l c ≡ record { bytes = set l.bytes l.len (with_parity c); len = l.len + 1 }
unfolding put
put_room l c h = rw (lt-ltb l.len longest_message h)

pub puts_append : (l : Line) (cs ds : List ℕ) → puts l (cs ++ ds) ≡ puts (puts l cs) ds
unfolding puts
puts_append l [] ds = refl
puts_append l (c ∷ cs) ds = puts_append (put l c) cs ds

-- with room for all of them: the bytes that travel, in their places at once
pub puts_placed : (cs : List ℕ) (l : Line) → length l.bytes ≡ longest_message → l.len + length cs ≤ longest_message
    → record { bytes = placed (travelling cs) l.len l.bytes; len = l.len + length cs } ≡ puts l cs
unfolding puts travelling
puts_placed [] l e h =
    let p : placed (travelling []) l.len l.bytes ≡ l.bytes = placed_nothing l.len l.bytes in
    let n : l.len + length (travelling []) ≡ l.len = omega arith in
    λ j. record { bytes = p j; len = n j }
puts_placed (c ∷ cs) l e h =
    let x = with_parity c in
    let m : Line = record { bytes = set l.bytes l.len x; len = l.len + 1 } in
    let p : placed (x ∷ travelling cs) l.len l.bytes ≡ placed (travelling cs) (l.len + 1) m.bytes
    = sym (placed_both (x ∷ []) l.len l.bytes (omega (arith, e)) (travelling cs))
    ∙ ap (λ (b : List ℕ). placed (travelling cs) (l.len + 1) b) (sym (placed_one x l.len l.bytes (omega (arith, e)))) in
    let q : put l c ≡ m = put_room l c (omega arith) in
    let n : l.len + length (c ∷ cs) ≡ l.len + 1 + length cs = omega arith in
    (λ j. record { bytes = p j; len = n j })
    ∙ puts_placed cs m (length-set l.bytes l.len x ∙ e) (omega arith)
    ∙ ap (λ (k : Line). puts k cs) (sym q)

-- the same as a fold
fold_puts : (l : Line) (cs : List ℕ) → fold put l cs ≡ puts l cs
unfolding puts
fold_puts l [] = refl
fold_puts l (c ∷ cs) = fold_puts (put l c) cs

pub puts_fold : (l : Line) (cs : List ℕ) (m : Line) → m ≡ fold put l cs → m ≡ puts l cs
puts_fold l cs m e = e ∙ fold_puts l cs

-- the bytes of a line
pub line_bytes : (cs : List ℕ) → bytes_of (line_of cs) ≡ travelling cs
unfolding bytes_of line_of laid
line_bytes cs =
    ap (λ (n : ℕ). take n (travelling cs ++ drop (length (travelling cs)) (replicate longest_message 0))) (sym (travelling_length cs))
    ∙ take-append_seam (travelling cs) (drop (length (travelling cs)) (replicate longest_message 0))

pub empty_bytes : bytes_of empty ≡ []
unfolding bytes_of empty
empty_bytes = refl

-- the part of the array that a line's count gives, as the code has it
pub line_part : (l : Line) (cs : List ℕ) → l ≡ line_of cs → take l.len l.bytes ≡ travelling cs
unfolding bytes_of
line_part l cs e = ap bytes_of e ∙ line_bytes cs

pub line_fits : (l : Line) (cs : List ℕ) → l ≡ line_of cs → length cs ≤ longest_message → l.len ≤ length l.bytes
unfolding line_of
line_fits l cs e h =
    subst (λ (x : Line). x.len ≤ length x.bytes) (sym e)
    (omega (arith, laid_length (travelling cs) (replicate longest_message 0) (subst (λ (n : ℕ). n ≤ longest_message) (sym (travelling_length cs)) h)))

-- the first so many, counted by themselves
pub take_counted : (n : ℕ) (xs : List ℕ) → take (length (take n xs)) xs ≡ take n xs
take_counted n xs = ap (λ (l : List ℕ). take (length (take n xs)) l) (sym (take-append-drop n xs)) ∙ take-append_seam (take n xs) (drop n xs)

-- how many, as the code has it: eleven bytes, and `len` of them
pub bytes_count : (l : Line) → length l.bytes ≡ longest_message → min l.len longest_message ≡ length (bytes_of l)
unfolding bytes_of
bytes_count l e = omega (arith, length-take l.len l.bytes)

pub counted_within : (l : Line) (n : ℕ) → n ≡ length (bytes_of l) → n ≤ length l.bytes
unfolding bytes_of
counted_within l n e = omega (arith, length-take l.len l.bytes)

pub bytes_fit : (l : Line) → length (bytes_of l) ≤ length l.bytes
bytes_fit l = counted_within l (length (bytes_of l)) refl

-- what is placed at the front of a buffer is what the line holds
pub counted_written : (l : Line) (n : ℕ) (out : List ℕ) (c : Call) → n ≡ length (bytes_of l) → c ≡ place_call (take n l.bytes) 0 out → c ≡ writes [] (bytes_of l) out
unfolding bytes_of
counted_written l n out c e p =
    p
    ∙ ap (λ (xs : List ℕ). place_call xs 0 out) (ap (λ (k : ℕ). take k l.bytes) e ∙ take_counted l.len l.bytes)
    ∙ placed_writes (bytes_of l) out
