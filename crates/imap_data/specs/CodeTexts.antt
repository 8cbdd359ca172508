-- The text of a response code.
use Rattle.std.specs.Prelude.{List, [], Option, None, Some}
use Rattle.imap_grammar.specs.Text.{Text}
use Rattle.imap_grammar.specs.Pieces.{Pieces, ◌then◌, words, space, number_text, literal_text, list_text}
use Rattle.imap_grammar.specs.ReadBack.{Texts}
use Rattle.imap_grammar.specs.Spelling.{this, exactly, in_any_case, ◌and◌, spells_number, spells_astring_text, spells_some_list}
use Rattle.imap_shared.specs.FlagTexts.{canonical_flag_list, spells_flag_list}
use Rattle.imap_shared.specs.CapabilityTexts.{canonical_each, spells_capability_data}
use Rattle.imap_shared.specs.UidSetTexts.{canonical_uid_set, spells_uid_set}
use Rattle.imap_data.specs.Codes.{CodeValue, Alert, Parse, ReadOnly, ReadWrite, TryCreate, UidNotSticky, MetadataTooMany, MetadataNoPrivate, BadCharset, Capabilities, PermanentFlags, UidNext, UidValidity, Unseen, HighestModSeq, MetadataLongEntries, MetadataMaxSize, AppendUid, CopyUid}

abbrev pub canonical_charsets : Option (List Text) → Pieces
canonical_charsets None = []
canonical_charsets (Some charsets) = space then list_text literal_text charsets

-- what stands between the brackets
abbrev pub canonical_code : CodeValue → Pieces
canonical_code Alert = words "ALERT"
canonical_code (BadCharset charsets) = words "BADCHARSET" then canonical_charsets charsets
canonical_code (Capabilities capabilities) = words "CAPABILITY" then canonical_each capabilities
canonical_code Parse = words "PARSE"
canonical_code (PermanentFlags flags) = words "PERMANENTFLAGS " then canonical_flag_list flags
canonical_code (UidValidity n) = words "UIDVALIDITY " then number_text n
canonical_code (UidNext n) = words "UIDNEXT " then number_text n
canonical_code (Unseen n) = words "UNSEEN " then number_text n
canonical_code ReadOnly = words "READ-ONLY"
canonical_code ReadWrite = words "READ-WRITE"
canonical_code TryCreate = words "TRYCREATE"
canonical_code (HighestModSeq n) = words "HIGHESTMODSEQ " then number_text n
canonical_code (AppendUid n uids) =
    words "APPENDUID " then number_text n then space then canonical_uid_set uids
canonical_code (CopyUid n from to) =
    words "COPYUID "
    then number_text n
    then space
    then canonical_uid_set from
    then space
    then canonical_uid_set to
canonical_code UidNotSticky = words "UIDNOTSTICKY"
canonical_code (MetadataLongEntries n) = words "METADATA LONGENTRIES " then number_text n
canonical_code (MetadataMaxSize n) = words "METADATA MAXSIZE " then number_text n
canonical_code MetadataTooMany = words "METADATA TOOMANY"
canonical_code MetadataNoPrivate = words "METADATA NOPRIVATE"

abbrev pub canonical_response_code : CodeValue → Pieces
canonical_response_code code = words "[" then canonical_code code then words "]"

abbrev pub spells_charsets : Option (List Text) → Texts
spells_charsets None = this []
spells_charsets (Some charsets) = exactly " " and spells_some_list spells_astring_text charsets

abbrev pub spells_code : CodeValue → Texts
spells_code Alert = in_any_case "ALERT"
spells_code (BadCharset charsets) = in_any_case "BADCHARSET" and spells_charsets charsets
spells_code (Capabilities capabilities) = spells_capability_data capabilities
spells_code Parse = in_any_case "PARSE"
spells_code (PermanentFlags flags) = in_any_case "PERMANENTFLAGS " and spells_flag_list flags
spells_code (UidValidity n) = in_any_case "UIDVALIDITY " and spells_number n
spells_code (UidNext n) = in_any_case "UIDNEXT " and spells_number n
spells_code (Unseen n) = in_any_case "UNSEEN " and spells_number n
spells_code ReadOnly = in_any_case "READ-ONLY"
spells_code ReadWrite = in_any_case "READ-WRITE"
spells_code TryCreate = in_any_case "TRYCREATE"
spells_code (HighestModSeq n) = in_any_case "HIGHESTMODSEQ " and spells_number n
spells_code (AppendUid n uids) =
    in_any_case "APPENDUID " and spells_number n and exactly " " and spells_uid_set uids
spells_code (CopyUid n from to) =
    in_any_case "COPYUID "
    and spells_number n
    and exactly " "
    and spells_uid_set from
    and exactly " "
    and spells_uid_set to
spells_code UidNotSticky = in_any_case "UIDNOTSTICKY"
spells_code (MetadataLongEntries n) = in_any_case "METADATA LONGENTRIES " and spells_number n
spells_code (MetadataMaxSize n) = in_any_case "METADATA MAXSIZE " and spells_number n
spells_code MetadataTooMany = in_any_case "METADATA TOOMANY"
spells_code MetadataNoPrivate = in_any_case "METADATA NOPRIVATE"

abbrev pub spells_response_code : CodeValue → Texts
spells_response_code code = exactly "[" and spells_code code and exactly "]"
