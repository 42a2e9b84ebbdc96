-- `reply::guess_content` meets its contract: the count of characters says how many numbers there are. Assumes nothing.
use Rattle.reply.proofs.Reader.{guess_four, guess_five, guess_number}
use Rattle.reply.proofs.guessing.guess_content.Goals as goal

pub returns-then-bytes-k : goal.returns-then-bytes-k
returns-then-bytes-k c =
    guess_four c.args.bytes.now c.args.k c.decimal_at.ensures c.decimal_at-then-bytes-k.ensures c.decimal_at-then-bytes-k-2.ensures c.decimal_at-then-bytes-k-3.ensures c.if-bytes-k.true

pub returns-then-bytes-k-2 : goal.returns-then-bytes-k-2
returns-then-bytes-k-2 c =
    guess_five c.args.bytes.now c.args.k c.decimal_at-then-bytes-k-2-2.ensures c.decimal_at-then-bytes-k-2-3.ensures c.decimal_at-then-bytes-k-2-4.ensures c.decimal_at-then-bytes-k-2-5.ensures c.decimal_at-then-bytes-k-2-6.ensures c.if-bytes-k-2.true

pub returns-else-bytes-k-2 : goal.returns-else-bytes-k-2
returns-else-bytes-k-2 c = guess_number c.args.bytes.now c.args.k c.decimal_at-else-bytes-k-2.ensures c.if-bytes-k.false c.if-bytes-k-2.false
