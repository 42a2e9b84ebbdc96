-- `reply::character_at` meets its contract: seven bits of the byte there, or 0. Assumes nothing.
use borrow.Author.Rules.{rules}
use Rattle.reply.proofs.Reader.{character_is}
use Rattle.reply.proofs.guessing.character_at.Goals as goal

pub returns : goal.returns
returns c = character_is _ _ _ _ c.get.result c.get.ensures.lookup c.map_or.ensures (λ x q. search rules)
