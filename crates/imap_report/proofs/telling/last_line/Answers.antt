use Rattle.imap_report.proofs.Turns.{last_report}
use Rattle.imap_report.proofs.telling.last_line.Goals as goal

pub returns : goal.returns
returns g c = λ m left. last_report _ m _ _ _ _ _ left (c.finish_of-finish.ensures m left.ends left.size) c.in_ok-text.ensures c.in_ok-as_line.ensures
