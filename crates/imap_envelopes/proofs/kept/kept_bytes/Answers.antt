use Rattle.imap_envelopes.proofs.Keeping.{kept_if_any}
use Rattle.imap_envelopes.proofs.kept.kept_bytes.Goals as goal

pub returns-in-Some : goal.returns-in-Some
returns-in-Some g c = rw c.in-Some.is (kept_if_any _ _ _ _ _ c.bytes.ensures)
