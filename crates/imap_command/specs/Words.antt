-- The words of a FETCH (RFC 3501, section 6.4.5, RFC 4551, section 3.3.2, Gmail's extensions).
use Rattle.std.specs.Prelude.{ℕ, List, codes}
use Rattle.imap_command.specs.declared.words.AttrMacro.{AttrMacro}
use Rattle.imap_command.specs.declared.words.AttrMacro.TheVariants as group
use Rattle.imap_command.specs.declared.words.Attribute.{Attribute}
use Rattle.imap_command.specs.declared.words.Attribute.TheVariants as attribute

abbrev pub macro_word : AttrMacro → List ℕ
macro_word group.All = codes "ALL"
macro_word group.Fast = codes "FAST"
macro_word group.Full = codes "FULL"

abbrev pub attribute_word : Attribute → List ℕ
attribute_word attribute.Body = codes "BODY"
attribute_word attribute.Envelope = codes "ENVELOPE"
attribute_word attribute.Flags = codes "FLAGS"
attribute_word attribute.InternalDate = codes "INTERNALDATE"
attribute_word attribute.ModSeq = codes "MODSEQ"
attribute_word attribute.Rfc822 = codes "RFC822"
attribute_word attribute.Rfc822Size = codes "RFC822.SIZE"
attribute_word attribute.Rfc822Text = codes "RFC822.TEXT"
attribute_word attribute.Uid = codes "UID"
attribute_word attribute.GmailLabels = codes "X-GM-LABELS"
attribute_word attribute.GmailMsgId = codes "X-GM-MSGID"
attribute_word attribute.GmailThrId = codes "X-GM-THRID"
