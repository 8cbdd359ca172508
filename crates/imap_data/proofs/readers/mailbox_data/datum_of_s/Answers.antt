use Rattle.std.proofs.Common.{inl, inr}
use Rattle.imap_data.proofs.readers.mailbox_data.datum_of_s.Goals as goal

pub returns-2-clause-memory : goal.returns-2-clause-memory
returns-2-clause-memory c = λ q. inr (inl (c.in-Err-first.ensures.memory q))

pub returns-4-clause-memory : goal.returns-4-clause-memory
returns-4-clause-memory c = λ q. inr (inr (c.in-Err-first-first.ensures.memory q))
