use Rattle.imap_command.proofs.OtherLine.{one_line, literal_ends_line}
use Rattle.imap_command.proofs.laws.other_lines.Goals as goal

pub returns-clause-one_line : goal.returns-clause-one_line
returns-clause-one_line c = one_line

pub returns-clause-literal_ends_line : goal.returns-clause-literal_ends_line
returns-clause-literal_ends_line c = literal_ends_line
