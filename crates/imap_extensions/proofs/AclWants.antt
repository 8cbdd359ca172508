-- Where the reader of an access control list may want memory.
use Rattle.std.proofs.Common.{◌≡◌, Ok, refl, inl, inr}
use Rattle.imap_grammar.specs.Memory.{StartsWith}
use Rattle.imap_grammar.specs.Rule.{meaning, ◌⨾◌, ◌▹◌}
use Rattle.imap_grammar.specs.Step.{step}
use Rattle.imap_grammar.specs.Tags.{word, blanks0, blanks1}
use Rattle.imap_grammar.specs.Text.{Bytes, Text, IsOwned}
use Rattle.imap_grammar.proofs.Agreement.{reads}
use Rattle.imap_grammar.proofs.Memory.{stands_behind}
use Rattle.imap_bytes.specs.Texts.{astring_utf8, YieldsOwned}
use Rattle.imap_shared.specs.Mailboxes.{mailbox}
use Rattle.imap_extensions.specs.Acls.{AclEntryValue, acl_entry, AclMayWant}

-- a text that has to be owned stands there
pub owned_starts : (m : Bytes) → YieldsOwned IsOwned astring_utf8 m → StartsWith astring_utf8 m
owned_starts m p = (p.0, p.1, reads astring_utf8 m p.1 p.0 p.2)

-- an entry begins with its identifier
pub entry_starts : (m rest : Bytes) (v : AclEntryValue) → step acl_entry m ≡ Ok (rest, v) → StartsWith astring_utf8 m
unfolding meaning acl_entry
entry_starts m rest v is = let y = reads acl_entry m rest v is in (y.0.0, y.1.0, y.1.1)

pub mailbox_wants : (m a b x y : Bytes) → step (word "ACL") m ≡ Ok (a, x) → step blanks1 a ≡ Ok (b, y) → YieldsOwned IsOwned astring_utf8 b → AclMayWant m
mailbox_wants m a b x y is then p = inl (stands_behind (YieldsOwned IsOwned astring_utf8) (word "ACL" ▹ blanks1) m b y (rw (is, then) refl) p)

pub entries_want : (m a b c d x y z : Bytes) (t : Text) → step (word "ACL") m ≡ Ok (a, x) → step blanks1 a ≡ Ok (b, y) → step mailbox b ≡ Ok (c, t) → step blanks0 c ≡ Ok (d, z) → StartsWith astring_utf8 d → AclMayWant m
entries_want m a b c d x y z t is then third last p =
    inr (stands_behind (StartsWith astring_utf8) (word "ACL" ▹ blanks1 ▹ mailbox ⨾ blanks0) m d (t, z) (rw (is, then, third, last) refl) p)
