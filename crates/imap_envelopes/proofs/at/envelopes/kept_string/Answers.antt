use Rattle.std.proofs.Common.{refl}
use Rattle.imap_envelopes.proofs.Keeping.{kept_rests}
use Rattle.imap_envelopes.proofs.at.envelopes.kept_string.Goals as goal

pub returns-clause-reads : goal.returns-clause-reads
returns-clause-reads g c = record {
  steps = rw (c.in_ok-q.ensures.steps, c.kept_bytes.ensures.is) refl;
  ahead = c.in_ok-q.ensures.ahead;
  rests = kept_rests _ _ _ _ _ _ c.kept_bytes.ensures c.in_ok-q.ensures.rests;
}
