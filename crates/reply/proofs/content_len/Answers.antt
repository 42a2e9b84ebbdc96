-- `reply::content_len` meets its contract: no data, five digits, or the count of digits and the digits. Assumes nothing.
use mathlib.Core.Path.{sym, ap, ◌∙◌}
use lib.ListN.{length}
use Rattle.number.proofs.Digits.{data_length}
use Rattle.reply.specs.declared.Content.{Content}
use Rattle.reply.specs.Reply.{spell_content}
use Rattle.reply.proofs.Spelled.{no_data, number_data, four_length, five_length}
use Rattle.reply.proofs.content_len.Goals as goal

pub returns-in-Empty : goal.returns-in-Empty
returns-in-Empty c = sym (ap (λ (x : Content). length (spell_content x)) c.in-Empty.is ∙ ap length no_data)

pub returns-in-Number : goal.returns-in-Number
returns-in-Number c = sym (ap (λ (x : Content). length (spell_content x)) c.in-Number.is ∙ ap length (number_data _) ∙ data_length _)

pub returns-in-Four : goal.returns-in-Four
returns-in-Four c = sym (ap (λ (x : Content). length (spell_content x)) c.in-Four.is ∙ four_length _ _ _ _)

pub returns-in-Five : goal.returns-in-Five
returns-in-Five c = sym (ap (λ (x : Content). length (spell_content x)) c.in-Five.is ∙ five_length _ _ _ _ _)
