-- `reply::spelled_len` meets its contract: letter, address, identifier, mark and `*` stand around the data. Assumes nothing.
use mathlib.Core.Path.{ap}
use native.Mathlib.Omega.{arith}
use lib.ListN.{length}
use Rattle.reply.proofs.Spelled.{content_length, front_one, front_two, answer_sum}
use Rattle.reply.proofs.spelled_len.Goals as goal

pub overflow_add-result : goal.overflow_add-result
overflow_add-result c = omega (arith, c.before.before.content_len-data.ensures, content_length c.before.before.before.args.answer.content)

pub overflow_add-result-else-answer-le9 : goal.overflow_add-result-else-answer-le9
overflow_add-result-else-answer-le9 c = omega (arith, c.before.before.content_len-data.ensures, content_length c.before.before.before.args.answer.content)

pub returns-then-answer-le9 : goal.returns-then-answer-le9
returns-then-answer-le9 c =
    let a = c.before.before.before.args.answer in
    omega (arith, c.before.before.content_len-data.ensures, answer_sum a, ap length (front_one a.letter a.address a.identifier c.if-answer-le9.true))

pub returns-else-answer-le9 : goal.returns-else-answer-le9
returns-else-answer-le9 c =
    let a = c.before.before.before.args.answer in
    omega (arith, c.before.before.content_len-data.ensures, answer_sum a, ap length (front_two a.letter a.address a.identifier c.if-answer-le9.false))
