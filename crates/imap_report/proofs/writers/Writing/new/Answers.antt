use Rattle.std.proofs.Common.{rules}
use Rattle.imap_report.proofs.writers.Writing.new.Goals as goal

pub returns-clause-fresh : goal.returns-clause-fresh
returns-clause-fresh c = search rules depth 2
