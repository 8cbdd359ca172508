-- Response codes (RFC 3501, section 9, RFC 4551, section 4, RFC 4315, section 4, and RFC 5464, section 5:
-- resp-text-code; RFC 4315, section 4: resp-code-apnd, resp-code-copy).
use Rattle.std.specs.Prelude.{◌≡◌, ℕ, ◌⊎◌, List, ◌++◌, Option, Some, option_map, map, codes}
use Rattle.imap_grammar.specs.Text.{Bytes, Text, text_of, lent_text}
use Rattle.imap_grammar.specs.Memory.{BeginsWord}
use Rattle.imap_grammar.specs.Rule.{Rule, gives, opt, ◌⨾◌, ◌▹◌, ◌◃◌, ◌or◌}
use Rattle.imap_grammar.specs.Tags.{tag, word, names, sp}
use Rattle.imap_grammar.specs.Lists.{nonempty_list_of}
use Rattle.imap_bytes.specs.Numbers.{number, number_64}
use Rattle.imap_bytes.specs.Texts.{astring_utf8}
use Rattle.imap_shared.specs.Flags.{flag_list}
use Rattle.imap_shared.specs.Capabilities.{capability_data}
use Rattle.imap_shared.specs.UidSets.{MemberValue, uid_set, member_value, IsOrdered}
use Rattle.std.specs.List.{All}
use Rattle.imap_shared.specs.Capabilities.{CapabilityValue, capability_value, changed_capability}
use Rattle.imap_data.specs.declared.types.codes.ResponseCode.{ResponseCode}
use Rattle.imap_data.specs.declared.types.codes.ResponseCode.TheVariants as code

-- ---- values

pub data CodeValue : Type 0 where
  Alert Parse ReadOnly ReadWrite TryCreate UidNotSticky : CodeValue
  MetadataTooMany MetadataNoPrivate : CodeValue
  BadCharset : Option (List Text) → CodeValue
  Capabilities : List CapabilityValue → CodeValue
  PermanentFlags : List Text → CodeValue
  UidNext UidValidity Unseen : ℕ → CodeValue
  HighestModSeq MetadataLongEntries MetadataMaxSize : ℕ → CodeValue
  AppendUid : ℕ → List MemberValue → CodeValue
  CopyUid : ℕ → List MemberValue → List MemberValue → CodeValue

abbrev pub code_value : ResponseCode → CodeValue
code_value code.Alert = Alert
code_value (code.BadCharset charsets) = BadCharset (option_map (λ v. map text_of v.items) charsets)
code_value (code.Capabilities capabilities) = Capabilities (map capability_value capabilities.items)
code_value (code.HighestModSeq n) = HighestModSeq n
code_value code.Parse = Parse
code_value (code.PermanentFlags flags) = PermanentFlags (map text_of flags.items)
code_value code.ReadOnly = ReadOnly
code_value code.ReadWrite = ReadWrite
code_value code.TryCreate = TryCreate
code_value (code.UidNext n) = UidNext n
code_value (code.UidValidity n) = UidValidity n
code_value (code.Unseen n) = Unseen n
code_value (code.AppendUid n uids) = AppendUid n (map member_value uids.items)
code_value (code.CopyUid n from to) =
    CopyUid n (map member_value from.items) (map member_value to.items)
code_value code.UidNotSticky = UidNotSticky
code_value (code.MetadataLongEntries n) = MetadataLongEntries n
code_value (code.MetadataMaxSize n) = MetadataMaxSize n
code_value code.MetadataTooMany = MetadataTooMany
code_value code.MetadataNoPrivate = MetadataNoPrivate

-- with each text changed by h
abbrev pub changed_code : (Text → Text) → CodeValue → CodeValue
changed_code h (BadCharset charsets) = BadCharset (option_map (map h) charsets)
changed_code h (Capabilities capabilities) = Capabilities (map (changed_capability h) capabilities)
changed_code h (PermanentFlags flags) = PermanentFlags (map h flags)
changed_code h other = other

-- with all texts borrowed: two values say the same where these are equal
abbrev pub lent_code : CodeValue → CodeValue
lent_code = changed_code lent_text

-- it holds no list
abbrev pub HoldsNoList : CodeValue → Type 0
HoldsNoList (BadCharset (Some charsets)) = ⊥
HoldsNoList (Capabilities capabilities) = ⊥
HoldsNoList (PermanentFlags flags) = ⊥
HoldsNoList (AppendUid n uids) = ⊥
HoldsNoList (CopyUid n from to) = ⊥
HoldsNoList other = Unit {0}

-- the word of a code that may hold a list stands in front
abbrev pub BeginsListWord : Bytes → Type 0
BeginsListWord m =
    BeginsWord "APPENDUID " m
    ⊎ BeginsWord "BADCHARSET " m
    ⊎ BeginsWord "CAPABILITY" m
    ⊎ BeginsWord "COPYUID " m
    ⊎ BeginsWord "PERMANENTFLAGS " m

-- and a bracket before it
abbrev pub BeginsListCode : Bytes → Type 0
BeginsListCode m = (rest : Bytes) × (m ≡ codes "[" ++ rest) × BeginsListWord rest

-- what `==` tells of a code
abbrev pub code_content : ResponseCode → CodeValue
code_content c = lent_code (code_value c)

-- each range of its UIDs starts not above its end
abbrev pub HasOrderedUids : ResponseCode → Type 0
HasOrderedUids (code.AppendUid n uids) = All IsOrdered uids.items
HasOrderedUids (code.CopyUid n from to) = All IsOrdered from.items × All IsOrdered to.items
HasOrderedUids other = Unit {0}

-- ---- rules

abbrev pub charset : Rule Text
charset = astring_utf8

abbrev pub charset_list : Rule (List Text)
charset_list = nonempty_list_of charset

unfoldable pub charsets : Rule (List Text)
charsets = sp ▹ charset_list

-- "BADCHARSET" [SP "(" astring *(SP astring) ")"]
unfoldable pub bad_charset : Rule CodeValue
bad_charset = gives BadCharset (word "BADCHARSET" ▹ opt charsets)

-- a UIDVALIDITY and UIDs
abbrev pub append_uid_of : ℕ × List MemberValue → CodeValue
append_uid_of (validity, uids) = AppendUid validity uids

-- a UIDVALIDITY, the UIDs of the messages, and those of their copies
abbrev pub copy_uid_of : ℕ × (List MemberValue × List MemberValue) → CodeValue
copy_uid_of (validity, (source, destination)) = CopyUid validity source destination

-- resp-code-apnd = "APPENDUID" SP nz-number SP append-uid, where a uid-set stands as append-uid, and zero is read, too
unfoldable pub append_uid : Rule CodeValue
append_uid = gives append_uid_of (word "APPENDUID " ▹ number ⨾ sp ▹ uid_set)

-- resp-code-copy = "COPYUID" SP nz-number SP uid-set SP uid-set, where zero is read, too
unfoldable pub copy_uid : Rule CodeValue
copy_uid = gives copy_uid_of (word "COPYUID " ▹ number ⨾ sp ▹ uid_set ⨾ sp ▹ uid_set)

unfoldable pub capabilities : Rule CodeValue
capabilities = gives Capabilities capability_data

-- "PERMANENTFLAGS" SP "(" [flag-perm *(SP flag-perm)] ")"
unfoldable pub permanent_flags : Rule CodeValue
permanent_flags = gives PermanentFlags (word "PERMANENTFLAGS " ▹ flag_list)

unfoldable pub uid_validity : Rule CodeValue
uid_validity = gives UidValidity (word "UIDVALIDITY " ▹ number)

unfoldable pub uid_next : Rule CodeValue
uid_next = gives UidNext (word "UIDNEXT " ▹ number)

unfoldable pub unseen : Rule CodeValue
unseen = gives Unseen (word "UNSEEN " ▹ number)

unfoldable pub highest_mod_seq : Rule CodeValue
highest_mod_seq = gives HighestModSeq (word "HIGHESTMODSEQ " ▹ number_64)

unfoldable pub long_entries : Rule CodeValue
long_entries = gives MetadataLongEntries (word "METADATA LONGENTRIES " ▹ number_64)

unfoldable pub max_size : Rule CodeValue
max_size = gives MetadataMaxSize (word "METADATA MAXSIZE " ▹ number_64)

unfoldable pub too_many : Rule CodeValue
too_many = names "METADATA TOOMANY" MetadataTooMany

unfoldable pub no_private : Rule CodeValue
no_private = names "METADATA NOPRIVATE" MetadataNoPrivate

-- RFC 3501: resp-text-code = "ALERT" / "BADCHARSET" [SP "(" astring *(SP astring) ")"] / capability-data / "PARSE" /
-- "PERMANENTFLAGS" SP "(" [flag-perm *(SP flag-perm)] ")" / "READ-ONLY" / "READ-WRITE" / "TRYCREATE" / "UIDNEXT" SP
-- nz-number / "UIDVALIDITY" SP nz-number / "UNSEEN" SP nz-number / atom [SP 1*<any TEXT-CHAR except "]">]: zero is
-- read, too, and the last alternative, any other code, is no rule here
unfoldable pub basic_code : Rule CodeValue
basic_code =
    names "ALERT" Alert
    or bad_charset
    or capabilities
    or names "PARSE" Parse
    or permanent_flags
    or uid_validity
    or uid_next
    or unseen
    or names "READ-ONLY" ReadOnly
    or names "READ-WRITE" ReadWrite
    or names "TRYCREATE" TryCreate

-- RFC 4551: resp-text-code =/ "HIGHESTMODSEQ" SP mod-sequence-value / "NOMODSEQ" / "MODIFIED" SP set, without the last
-- two, and zero is read as a mod-sequence-value, too; RFC 4315: resp-text-code =/ resp-code-apnd / resp-code-copy /
-- "UIDNOTSTICKY"
unfoldable pub uid_code : Rule CodeValue
uid_code = highest_mod_seq or append_uid or copy_uid or names "UIDNOTSTICKY" UidNotSticky

-- RFC 5464: resp-text-code =/ "METADATA" SP "LONGENTRIES" SP number / "METADATA" SP ("MAXSIZE" SP number / "TOOMANY" /
-- "NOPRIVATE"), where a number may have 64 bits
unfoldable pub metadata_code : Rule CodeValue
metadata_code = long_entries or max_size or too_many or no_private

-- any other code is denied
unfoldable pub any_code : Rule CodeValue
any_code = basic_code or uid_code or metadata_code

-- ---- no further rules: those alternatives of `any_code` that may start with one byte, as the reader tries them

unfoldable pub code_of_a : Rule CodeValue
code_of_a = names "ALERT" Alert or append_uid

unfoldable pub code_of_c : Rule CodeValue
code_of_c = capabilities or copy_uid

unfoldable pub code_of_p : Rule CodeValue
code_of_p = names "PARSE" Parse or permanent_flags

unfoldable pub code_of_u : Rule CodeValue
code_of_u = (uid_validity or uid_next or unseen) or names "UIDNOTSTICKY" UidNotSticky

unfoldable pub code_of_r : Rule CodeValue
code_of_r = names "READ-ONLY" ReadOnly or names "READ-WRITE" ReadWrite

unfoldable pub code_of_t : Rule CodeValue
code_of_t = names "TRYCREATE" TryCreate

-- "[" resp-text-code "]"
unfoldable pub response_code : Rule CodeValue
response_code = tag "[" ▹ any_code ◃ tag "]"
