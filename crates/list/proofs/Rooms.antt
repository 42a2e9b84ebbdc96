-- A part of a buffer that is lent from a place on: what lies in the part lies behind that place in the buffer, also when the part
-- comes back changed. Assumes nothing.
use mathlib.Core.Path.{◌≡◌}
use mathlib.Core.List.{List}
use Prim.Native.Nat.{ℕ, ◌+◌, ◌-◌, ◌≤◌}
use native.Mathlib.Omega.{arith}
use borrow.Rule.Slice.PartMut.{mid_of, put_mid, mid_len, same_len_mid}
use lib.ListN.{length}

module _ (from n : ℕ) (out : List ℕ) (in' : from ≤ length out) (h : n ≤ length (mid_of from (length out - from) out)) where
  pub in_part : from + n ≤ length out
  in_part = omega (arith, mid_len from (length out) out (omega arith))

  pub in_changed : (part : List ℕ) → length part ≡ length (mid_of from (length out - from) out) → from + n ≤ length (put_mid from (length out - from) out part)
  in_changed part e = omega (arith, in_part, same_len_mid from (length out - from) out part e)
