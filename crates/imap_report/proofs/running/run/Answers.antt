use Rattle.imap_report.proofs.Progress.{reports_all, reports_some}
use Rattle.imap_report.proofs.running.run.Goals as goal

pub returns-clause-whole : goal.returns-clause-whole
returns-clause-whole g c = reports_all _ _ _ _ _ _ c.in_ok-end.end c.in_ok-end.left _ c.in_ok-end.ensures.told c.tell_last.ensures.whole

pub returns-clause-begun : goal.returns-clause-begun
returns-clause-begun g c = reports_some _ _ _ _ _ _ c.in_ok-end.end c.in_ok-end.left _ c.in_ok-end.ensures.told c.tell_last.ensures.begun
