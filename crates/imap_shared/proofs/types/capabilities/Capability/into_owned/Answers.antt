use Rattle.std.proofs.Common.{refl}
use Rattle.imap_shared.proofs.types.capabilities.Capability.into_owned.Goals as goal
use Rattle.imap_shared.proofs.types.capabilities.Capability.into_owned.Goals.{in-Imap4rev1, in-Auth+in_ok-owned_text-in-Auth, in-Atom+in_ok-owned_text-in-Atom}

pub returns-clause-same : goal.returns-clause-same
returns-clause-same c =
    elim c.match-self.branch [
      | in-Imap4rev1 w ↦ rw (w.result-is, w.in-Imap4rev1.is) refl
      | in-Auth+in_ok-owned_text-in-Auth w ↦ rw (w.result-is, w.in-Auth.is, w.in_ok-owned_text-in-Auth.ensures.same) refl
      | in-Atom+in_ok-owned_text-in-Atom w ↦ rw (w.result-is, w.in-Atom.is, w.in_ok-owned_text-in-Atom.ensures.same) refl
    ]
