-- The list of tests comes to what each type of message tests: what is accepted has no cause, and what has one is turned down as its cause
-- says. Assumes nothing.
use mathlib.Core.Path.{◌≡◌, refl, sym, ◌∙◌}
use mathlib.Core.Bool.{true, false, cond}
use mathlib.Core.List.{List}
use Prim.Native.Nat.{ℕ}
use lib.Dec.{eqb}
use lib.IntN.{ℤ, pos}
use lib.ListN.{get_or}
use Rattle.refusal.specs.Check.{first, decided}
use Rattle.refusal.proofs.Logic.{by-test}
use Rattle.number.specs.Number.{in_range, raised, lowered}
use Rattle.message.specs.declared.Body.{Body}
use Rattle.message.specs.declared.Body.TheVariants as body
use Rattle.message.specs.declared.Message.{Message}
use Rattle.message.specs.Message.{asks_minus_zero}
use Rattle.sheet.specs.Values.{entry_in, is_readable, is_writable, is_read_write}
use Rattle.reply.specs.declared.Mark.TheVariants.{Accepted}
use Rattle.reply.specs.declared.Content.{Content}
use Rattle.reply.specs.Reply.{scan_identifier}
use Rattle.act.specs.declared.Setup.{Setup}
use Rattle.act.specs.declared.Effect.{Effect}
use Rattle.act.specs.declared.causes.Standing.{Standing}
use Rattle.act.specs.Cause.{row_or_zeros, is_offered, standing, on_entry, on_bracket, is_for, takes_zero, causes}
use Rattle.act.specs.Act.{no_effect, no_number, says, shown_by, granted, has_scan, value_of, scan_of, turned_down, respond, act}
use Rattle.act.specs.Inner.{declines, query, moves, up, down, set_to, store, serve, declines_scan, serve_scan, addressed, on_scan, on_row}
use Rattle.std.specs.Prelude.{None, Option, Some}
use Rattle.act.specs.declared.Offer.{Offer}
use Rattle.sheet.specs.declared.Row.{Row}

module _ (c : Setup) (o : Option Offer) (m : Message) where
  -- what the tests come to, where `N` shows x and y is done otherwise
  abbrev judged : Standing → Content → Effect → Effect
  judged s x y = decided (first (causes c m s)) (turned_down o m x) y

  -- ---- on an identifier of the sheets

  module _ (its : is_for c m ≡ true) (v : ℤ) where
    abbrev on : Option Row → Body → Effect
    on e b = judged (on_entry e o v m.identifier b) (shown_by e v) (granted m (row_or_zeros e) o v b)

    query_is : (e : Option Row) → m.body ≡ body.Query → on e body.Query ≡ query m e v
    unfolding first causes takes_zero asks_minus_zero standing turned_down granted query declines
    query_is (Some r) q = by-test (is_readable r) (λ t. rw (its, t, q)) (λ t. rw (its, t))
    query_is None q = rw its

    up_is : (e : Option Row) → m.body ≡ body.Up → on e body.Up ≡ up m e v
    unfolding first causes takes_zero asks_minus_zero standing turned_down granted up moves declines
    up_is (Some r) q =
        by-test (is_read_write r)
        (λ t. by-test (in_range r.least (raised v r.step) r.greatest) (λ u. rw (its, t, q, u)) (λ u. rw (its, t, q, u))) (λ t. rw (its, t))
    up_is None q = rw its

    down_is : (e : Option Row) → m.body ≡ body.Down → on e body.Down ≡ down m e v
    unfolding first causes takes_zero asks_minus_zero standing turned_down granted down moves declines
    down_is (Some r) q =
        by-test (is_read_write r)
        (λ t. by-test (in_range r.least (lowered v r.step) r.greatest) (λ u. rw (its, t, q, u)) (λ u. rw (its, t, q, u))) (λ t. rw (its, t))
    down_is None q = rw its

    set_is : (e : Option Row) (x : _) → m.body ≡ body.Set x → on e (body.Set x) ≡ set_to c m e v x
    unfolding first causes standing turned_down granted set_to declines
    set_is (Some r) x q =
        by-test (is_writable r)
        (λ t.
        by-test (eqb x.decimals r.decimals)
        (λ u.
        by-test (takes_zero c (body.Set x))
        (λ z. by-test (in_range r.least x.number r.greatest) (λ w. rw (its, t, u, q, z, w)) (λ w. rw (its, t, u, q, z, w)))
        (λ z. rw (its, t, u, q, z)))
        (λ u. rw (its, t, u)))
        (λ t. rw (its, t))
    set_is None x q = rw its

    store_is : (e : Option Row) (p : Option Offer) → m.body ≡ body.Store → o ≡ p → on e body.Store ≡ store m e p
    unfolding first causes takes_zero asks_minus_zero standing is_offered turned_down granted store
    store_is e (Some p) b q = rw q (by-test (eqb p.identifier m.identifier) (λ t. rw (its, t, b)) (λ t. rw (its, t)))
    store_is e None b q = rw q (rw its)

    serve_is : (e : Option Row) (b : Body) → m.body ≡ b → on e b ≡ serve c m e o v b
    unfolding first causes takes_zero asks_minus_zero standing granted serve
    serve_is e body.Status q = rw (its, q)
    serve_is e body.Query q = query_is e q
    serve_is e body.Up q = up_is e q
    serve_is e body.Down q = down_is e q
    serve_is e (body.Set x) q = set_is e x q
    serve_is e body.Store q = store_is e o q refl

  -- ---- on `]`

  module _ (its : is_for c m ≡ true) (x : Content) where
    scan_is : (b : Body) → m.body ≡ b → judged (on_bracket (has_scan c) b) no_number (says m Accepted x) ≡ serve_scan c m x b
    unfolding first causes takes_zero asks_minus_zero on_bracket turned_down serve_scan declines_scan
    scan_is body.Status q = by-test (eqb c.count 0) (λ t. rw (its, t)) (λ t. rw (its, t))
    scan_is body.Query q = by-test (eqb c.count 0) (λ t. rw (its, t)) (λ t. rw (its, t, q))
    scan_is body.Up q = by-test (eqb c.count 0) (λ t. rw (its, t)) (λ t. rw (its, t))
    scan_is body.Down q = by-test (eqb c.count 0) (λ t. rw (its, t)) (λ t. rw (its, t))
    scan_is (body.Set y) q = by-test (eqb c.count 0) (λ t. rw (its, t)) (λ t. rw (its, t))
    scan_is body.Store q = rw its

  -- ---- for another card

  other_is : (s : Standing) (x : Content) (y : Effect) → is_for c m ≡ false → judged s x y ≡ no_effect o
  unfolding first causes turned_down
  other_is s x y t = rw t

  -- ---- any message

  -- e gives the entry of each identifier, and v its value
  module _ (e : ℕ → Option Row) (v : ℕ → ℤ) where
    pub row_is : on_row c o e v m ≡ addressed c o m (serve c m (e m.identifier) o (v m.identifier) m.body)
    unfolding on_row addressed
    row_is = by-test (is_for c m) (λ t. serve_is t (v m.identifier) (e m.identifier) m.body refl ∙ sym (rw t)) (λ t. other_is _ _ _ t ∙ sym (rw t))

    pub bracket_is : on_scan c o e v m ≡ addressed c o m (serve_scan c m (scan_of c (value_of e v)) m.body)
    unfolding on_scan addressed
    bracket_is = by-test (is_for c m) (λ t. scan_is t (scan_of c (value_of e v)) m.body refl ∙ sym (rw t)) (λ t. other_is _ _ _ t ∙ sym (rw t))

    -- what the card does, by whether the message is on `]`
    pub scan_responds : eqb m.identifier scan_identifier ≡ true → on_scan c o e v m ≡ respond c o e v m
    unfolding respond on_scan
    scan_responds q = sym (rw q)

    pub row_responds : eqb m.identifier scan_identifier ≡ false → on_row c o e v m ≡ respond c o e v m
    unfolding respond on_row
    row_responds q = sym (rw q)

module _ (bench maker : List ℤ) (c : Setup) (o : Option Offer) (values : List ℤ) (m : Message) where
  abbrev value_at : ℕ → ℤ
  value_at i = get_or values i (pos 0)

  pub act_is : act bench maker c o values m
      ≡ cond (eqb m.identifier scan_identifier) (addressed c o m (serve_scan c m (scan_of c (value_of (entry_in bench maker) value_at)) m.body))
      (addressed c o m (serve c m (entry_in bench maker m.identifier) o (value_at m.identifier) m.body))
  unfolding act
  act_is =
      by-test (eqb m.identifier scan_identifier)
      (λ t. sym (scan_responds c o m (entry_in bench maker) value_at t) ∙ bracket_is c o m (entry_in bench maker) value_at ∙ sym (rw t))
      (λ t. sym (row_responds c o m (entry_in bench maker) value_at t) ∙ row_is c o m (entry_in bench maker) value_at ∙ sym (rw t))
