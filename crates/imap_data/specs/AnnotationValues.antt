-- Annotations of mailboxes (RFC 5464, section 5: entry-value).
use Rattle.std.specs.Prelude.{Option, option_map}
use Rattle.std.specs.String.{string_bytes}
use Rattle.imap_grammar.specs.Text.{Bytes}
use Rattle.imap_data.specs.declared.types.annotations.Metadata.{Metadata}

-- an annotation's texts are owned always
pub record MetadataValue : Type 0 where
  pub entry : Bytes
  pub value : Option Bytes

abbrev pub metadata_value : Metadata → MetadataValue
metadata_value m = record { entry = string_bytes m.entry; value = option_map string_bytes m.value }
