use Rattle.std.proofs.Common.{rules, inl, inr}
use Rattle.imap_grammar.proofs.Memory.{wider}
use Rattle.imap_data.specs.MailboxData.{list_or_lsub, list, lsub}
use Rattle.imap_data.specs.Names.{list_data}
use Rattle.imap_data.proofs.readers.mailbox_data.list_or_lsub.Goals as goal

pub returns-clause-steps : goal.returns-clause-steps
unfolding list_or_lsub list list_data lsub
returns-clause-steps c = search rules depth 2

pub returns-in_default-clause-memory : goal.returns-in_default-clause-memory
returns-in_default-clause-memory c = λ q. inl (c.in_default.ensures.memory (search rules))

pub returns-clause-memory : goal.returns-clause-memory
returns-clause-memory c = wider _ _ c.listed-2.result (λ h. inr h) c.listed-2.ensures.memory
