-- `row::bytes_from` meets its contract: the closure gives each byte at its place. Assumes nothing.
use Rattle.std.proofs.Common.{rules, ℕ, ◌+◌, tests}
use Rattle.sheet.specs.Sheet.{at}
use Rattle.row.specs.Row.{byte_of}
use Rattle.row.proofs.Arrays.{made_at}
use Rattle.row.proofs.Laws.{bytes_made}
use Rattle.row.proofs.bytes_from.Goals as goal

pub returns : goal.returns
returns g c =
    let row = c.args.row.now in
    let start = c.args.start in
    bytes_made row start g.row.N _ c.from_fn.ensures.items.long (λ k h. made_at _ (λ (k : ℕ). byte_of (at row (start + k))) _ _ g.row.N c.from_fn.ensures.items (λ x b q k. search (rules, tests)) k 0 h)
