-- A text's mark is whether it is borrowed. Where all texts of a value are marked alike twice, the later mark stays.
use Rattle.std.proofs.Common.{Bool, refl}
use Rattle.imap_grammar.proofs.Marks.{LaterStays}
use Rattle.imap_shared.specs.Capabilities.{Imap4rev1, Auth, Atom, changed_capability}

-- marked with b, and then with a
module _ (a b : Bool) where
  pub capability : LaterStays a b changed_capability
  capability Imap4rev1 = refl
  capability (Auth t) = refl
  capability (Atom t) = refl
