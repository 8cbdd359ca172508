use Rattle.std.proofs.Common.{rules}
use Rattle.imap_report.proofs.running.report_of.Goals as goal

pub returns : goal.returns
returns c = search rules depth 2

pub returns-in-Ok-clause-report : goal.returns-in-Ok-clause-report
returns-in-Ok-clause-report c = search rules depth 2
