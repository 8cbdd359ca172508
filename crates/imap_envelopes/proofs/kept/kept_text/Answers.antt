use Rattle.imap_envelopes.proofs.Keeping.{kept_if_any}
use Rattle.imap_envelopes.proofs.kept.kept_text.Goals as goal

pub returns-in_ok-text-in-Some : goal.returns-in_ok-text-in-Some
returns-in_ok-text-in-Some g c = rw c.in-Some.is (kept_if_any _ _ _ _ _ c.in_ok-text-in-Some.ensures)
