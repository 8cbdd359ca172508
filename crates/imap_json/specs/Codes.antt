-- Response codes.
use Rattle.std.specs.Prelude.{codes}
use Rattle.serde_json.specs.Data.{Data}
use Rattle.imap_data.specs.Codes.{CodeValue, Alert, Parse, ReadOnly, ReadWrite, TryCreate, UidNotSticky, MetadataTooMany, MetadataNoPrivate, BadCharset, Capabilities, PermanentFlags, UidNext, UidValidity, Unseen, HighestModSeq, MetadataLongEntries, MetadataMaxSize, AppendUid, CopyUid}
use Rattle.imap_json.specs.Forms.{string_json, number_json, option_json, list_json, pair_json, triple_json, variant_json}
use Rattle.imap_json.specs.Texts.{text_json}
use Rattle.imap_json.specs.Capabilities.{capability_json}
use Rattle.imap_json.specs.UidSets.{member_json}

abbrev pub code_json : CodeValue → Data
code_json Alert = string_json (codes "Alert")
code_json (BadCharset charsets) =
    variant_json (codes "BadCharset") (option_json (list_json text_json) charsets)
code_json (Capabilities capabilities) =
    variant_json (codes "Capabilities") (list_json capability_json capabilities)
code_json (HighestModSeq n) = variant_json (codes "HighestModSeq") (number_json n)
code_json Parse = string_json (codes "Parse")
code_json (PermanentFlags flags) =
    variant_json (codes "PermanentFlags") (list_json text_json flags)
code_json ReadOnly = string_json (codes "ReadOnly")
code_json ReadWrite = string_json (codes "ReadWrite")
code_json TryCreate = string_json (codes "TryCreate")
code_json (UidNext n) = variant_json (codes "UidNext") (number_json n)
code_json (UidValidity n) = variant_json (codes "UidValidity") (number_json n)
code_json (Unseen n) = variant_json (codes "Unseen") (number_json n)
code_json (AppendUid n uids) =
    variant_json (codes "AppendUid") (pair_json number_json (list_json member_json) (n, uids))
code_json (CopyUid n from to) =
    variant_json (codes "CopyUid")
    (triple_json number_json (list_json member_json) (list_json member_json) (n, from, to))
code_json UidNotSticky = string_json (codes "UidNotSticky")
code_json (MetadataLongEntries n) = variant_json (codes "MetadataLongEntries") (number_json n)
code_json (MetadataMaxSize n) = variant_json (codes "MetadataMaxSize") (number_json n)
code_json MetadataTooMany = string_json (codes "MetadataTooMany")
code_json MetadataNoPrivate = string_json (codes "MetadataNoPrivate")
