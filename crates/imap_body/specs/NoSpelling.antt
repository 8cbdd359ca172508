-- Values of which texts are told that do not spell them.
use Rattle.std.specs.Prelude.{None, Some}
use Rattle.imap_grammar.specs.Text.{Bytes, as_text}
use Rattle.imap_body_types.specs.EnvelopeValues.{AddressValue}
use Rattle.imap_body_types.specs.ExtensionValues.{Ext1PartValue}

-- an address with a mailbox alone
abbrev pub a_mailbox_alone : Bytes → AddressValue
a_mailbox_alone mailbox =
    record { name = None; adl = None; mailbox = Some (as_text mailbox); host = None }

-- the extension data of a part of which the MD5 sum alone is told
abbrev pub an_md5_alone : Bytes → Ext1PartValue
an_md5_alone md5 =
    record {
      md5 = Some (as_text md5);
      disposition = None;
      language = None;
      location = None;
      extension = None;
    }
