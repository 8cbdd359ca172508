-- Where the readers of mailbox data may want memory.
use Rattle.std.proofs.Common.{◌≡◌, List, Option, Ok, refl, inl, inr}
use Rattle.imap_grammar.specs.Lists.{opened}
use Rattle.imap_grammar.specs.Memory.{StartsWith}
use Rattle.imap_grammar.specs.Rule.{◌⨾◌, ◌▹◌}
use Rattle.imap_grammar.specs.Step.{step}
use Rattle.imap_grammar.specs.Tags.{word, sp}
use Rattle.imap_grammar.specs.Text.{Bytes, Text, IsOwned}
use Rattle.imap_grammar.proofs.Memory.{stands_behind}
use Rattle.imap_bytes.specs.Texts.{quoted_utf8, astring_utf8, YieldsOwned}
use Rattle.imap_shared.specs.Mailboxes.{mailbox}
use Rattle.imap_data.specs.Counts.{status_item}
use Rattle.imap_data.specs.Names.{NameAttributeValue, name_attributes, delimiter, ListMayWant}
use Rattle.imap_data.specs.MailboxData.{StatusMayWant}

-- ---- LIST and LSUB

pub delimiter_wants : (m a b x : Bytes) (v : List NameAttributeValue) → step name_attributes m ≡ Ok (a, v) → step sp a ≡ Ok (b, x) → YieldsOwned IsOwned quoted_utf8 b → ListMayWant m
delimiter_wants m a b x v is then p = inr (inl (stands_behind (YieldsOwned IsOwned quoted_utf8) (name_attributes ⨾ sp) m b (v, x) (rw (is, then) refl) p))

pub name_wants : (m a b c d x y : Bytes) (v : List NameAttributeValue) (o : Option Text) → step name_attributes m ≡ Ok (a, v) → step sp a ≡ Ok (b, x) → step delimiter b ≡ Ok (c, o) → step sp c ≡ Ok (d, y) → YieldsOwned IsOwned astring_utf8 d → ListMayWant m
name_wants m a b c d x y v o is then third last p =
    inr (inr (stands_behind (YieldsOwned IsOwned astring_utf8) (name_attributes ⨾ sp ▹ delimiter ⨾ sp) m d (v, (o, y)) (rw (is, then, third, last) refl) p))

-- ---- STATUS

pub mailbox_wants : (m a v : Bytes) → step (word "STATUS ") m ≡ Ok (a, v) → YieldsOwned IsOwned astring_utf8 a → StatusMayWant m
mailbox_wants m a v is p = inl (stands_behind (YieldsOwned IsOwned astring_utf8) (word "STATUS ") m a v is p)

pub items_want : (m a b c v x : Bytes) (t : Text) → step (word "STATUS ") m ≡ Ok (a, v) → step mailbox a ≡ Ok (b, t) → step sp b ≡ Ok (c, x) → StartsWith (opened status_item) c → StatusMayWant m
items_want m a b c v x t is then last p = inr (stands_behind (StartsWith (opened status_item)) (word "STATUS " ▹ mailbox ⨾ sp) m c (t, x) (rw (is, then, last) refl) p)
