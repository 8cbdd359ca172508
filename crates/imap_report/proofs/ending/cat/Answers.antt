use Rattle.std.proofs.Common.{rules}
use Rattle.imap_report.proofs.ending.cat.Goals as goal

pub returns-clause-finished : goal.returns-clause-finished
returns-clause-finished c = search rules depth 2

pub returns-clause-broken_off : goal.returns-clause-broken_off
returns-clause-broken_off c = search rules depth 2
