use Rattle.imap_envelopes.proofs.Naming.{maybe_rests}
use Rattle.imap_envelopes.proofs.at.texts.byte_string.Goals as goal

pub returns-clause-rests : goal.returns-clause-rests
returns-clause-rests c = maybe_rests _ _ _ c.in_ok-q.ensures.inside
