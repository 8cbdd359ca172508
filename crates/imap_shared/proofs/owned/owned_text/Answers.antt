use Rattle.std.proofs.Common.{refl}
use Rattle.imap_shared.proofs.owned.owned_text.Goals as goal

pub returns-in_ok-from_str-in-Borrowed-clause-same : goal.returns-in_ok-from_str-in-Borrowed-clause-same
returns-in_ok-from_str-in-Borrowed-clause-same c = rw (c.in-Borrowed.is, c.in_ok-from_str-in-Borrowed.ensures.ok) refl
