use Rattle.std.proofs.Common.{true, false}
use Rattle.imap_body.proofs.Marks.{attribute}
use Rattle.imap_body.proofs.laws.lending.Goals as goal

pub returns : goal.returns
returns c = attribute false true
