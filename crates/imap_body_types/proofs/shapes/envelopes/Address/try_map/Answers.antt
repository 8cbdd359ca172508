use Rattle.std.proofs.Common.{rules}
use Rattle.imap_body_types.proofs.shapes.envelopes.Address.try_map.Goals as goal

pub returns-clause-changed : goal.returns-clause-changed
returns-clause-changed c = search rules depth 2
