use Rattle.imap_body_types.proofs.Places.{part_rests}
use Rattle.imap_envelopes.proofs.at.texts.string_text.Goals as goal

pub returns-clause-rests : goal.returns-clause-rests
returns-clause-rests c = part_rests _ _ c.in_ok-q.ensures.inside.0.1 c.in_ok-q.ensures.inside.0.2
