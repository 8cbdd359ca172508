use Rattle.imap_proto.proofs.OneText.{said_alike, same_reads_back}
use Rattle.imap_proto.proofs.laws.read_back.Goals as goal

pub returns-clause-alike : goal.returns-clause-alike
returns-clause-alike c = said_alike

pub returns-clause-marks : goal.returns-clause-marks
returns-clause-marks c = same_reads_back
