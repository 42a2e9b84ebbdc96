-- What holds of the program's state from turn to turn.
use Rattle.std.specs.Prelude.{ℕ, ◌≤◌, List, length}
use Rattle.list.specs.declared.State.{State}

-- the bytes to be listed lie in the buffer that was read, and those to be written in the other
pub record Within (s : State) (bytes out : List ℕ) : Type 0 where
  pub listed : s.from ≤ s.len
  pub read : s.len ≤ length bytes
  pub waiting : s.used ≤ length out
