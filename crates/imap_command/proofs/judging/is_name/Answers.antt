use Rattle.std.proofs.Common.{arith}
use Rattle.std.proofs.lemmas.Grind.{common_steps}
use Rattle.imap_command.proofs.Names.{name-byte, begun-byte}
use Rattle.imap_command.proofs.judging.is_name.Goals as goal

pub returns-else-is_name_byte : goal.returns-else-is_name_byte
returns-else-is_name_byte c = grind (arith, common_steps, name-byte, begun-byte)
