-- METADATA: annotations of mailboxes (RFC 5464, section 5: entry, entry-value, entry-values, entry-list, metadata-resp).
use Rattle.std.specs.Prelude.{ℕ, Bool, true, false, List, [], ◌∷◌, Option, None, Some, option_map, ◌==◌, ◌&&◌, ◌||◌, nat_lt, not, if◌then◌else◌, codes}
use Rattle.std.specs.List.{list_all, take_while}
use Rattle.imap_grammar.specs.Ascii.{carriage_return, space, percent, asterisk, slash}
use Rattle.imap_grammar.specs.Text.{Bytes, Text}
use Rattle.imap_grammar.specs.Rule.{Rule, gives, test, list0, ◌⨾◌, ◌▹◌, ◌◃◌}
use Rattle.imap_grammar.specs.Tags.{word, sp}
use Rattle.imap_grammar.specs.declared.lists.Separator.TheVariants.{Space}
use Rattle.imap_grammar.specs.Lists.{separator, nonempty_list_of}
use Rattle.imap_bytes.specs.Strings.{astring}
use Rattle.imap_bytes.specs.Texts.{utf8, quoted_utf8, nstring_utf8}
use Rattle.imap_data.specs.AnnotationValues.{MetadataValue}
use Rattle.imap_data.specs.DatumValues.{DatumValue, MetadataSolicited, MetadataUnsolicited}

-- ---- entry names: RFC 5464 has entry = astring; the Rust crate reads only the paths below

-- a byte of a component: from 26 to 127, but none of `*`, `%`, `/`
abbrev pub is_component_byte : ℕ → Bool
is_component_byte b =
    nat_lt 25 b && nat_lt b 128 && not ((b == asterisk) || (b == percent) || (b == slash))

-- `/`, or a byte of a component
abbrev pub is_path_byte : ℕ → Bool
is_path_byte b = (b == slash) || is_component_byte b

-- up to the first CR
abbrev pub first_line : Bytes → Bytes
first_line m = take_while (λ b. not (b == carriage_return)) m

-- nothing, or a SP or CR and anything, or `/` and path bytes up to the first CR
abbrev pub is_path : Bytes → Bool
is_path [] = true
is_path (b ∷ m) =
    (b == space) || (b == carriage_return) || ((b == slash) && list_all is_path_byte (first_line m))

-- `/` and a byte of a component
abbrev pub has_component : Bytes → Bool
has_component (first ∷ b ∷ m) = (first == slash) && is_component_byte b
has_component _ = false

-- what stands behind the word, where the bytes begin with it
abbrev pub behind : Bytes → Bytes → Option Bytes
behind [] m = Some m
behind (x ∷ word) [] = None
behind (x ∷ word) (b ∷ m) = if b == x then behind word m else None

-- whether it is there, and passes
abbrev pub passes : (Bytes → Bool) → Option Bytes → Bool
passes p None = false
passes p (Some m) = p m

abbrev pub is_comment : Bytes → Bool
is_comment m = passes is_path (behind (codes "/comment") m)

abbrev pub is_vendor : Bytes → Bool
is_vendor m = passes (λ path. has_component path && is_path path) (behind (codes "/vendor") m)

abbrev pub is_comment_or_vendor : Bytes → Bool
is_comment_or_vendor m = is_comment m || is_vendor m

abbrev pub is_private : Bytes → Bool
is_private m = passes is_comment_or_vendor (behind (codes "/private") m)

abbrev pub is_admin : Bytes → Bool
is_admin m = passes is_path (behind (codes "/shared/admin") m)

abbrev pub is_shared : Bytes → Bool
is_shared m = passes is_comment_or_vendor (behind (codes "/shared") m)

-- any of the three
abbrev pub is_entry_name : Bytes → Bool
is_entry_name m = is_private m || is_admin m || is_shared m

-- ---- rules

-- entry = astring, where the bytes are an entry's name
unfoldable pub entry : Rule Bytes
entry = test is_entry_name astring

unfoldable pub entry_utf8 : Rule Text
entry_utf8 = utf8 entry

abbrev pub bytes_in : Text → Bytes
bytes_in t = t.bytes

abbrev pub annotation_of : Text × Option Text → MetadataValue
annotation_of (entry, value) = record { entry = entry.bytes; value = option_map bytes_in value }

-- entry-value = entry SP value, where the value is an nstring
unfoldable pub annotation : Rule MetadataValue
annotation = gives annotation_of (entry_utf8 ⨾ sp ▹ nstring_utf8)

-- "METADATA" SP mailbox SP, the front of metadata-resp, where the mailbox stands in quotes
unfoldable pub metadata_mailbox : Rule Text
metadata_mailbox = word "METADATA " ▹ quoted_utf8 ◃ sp

-- the same without the SP
abbrev pub quoted_mailbox : Rule Text
quoted_mailbox = word "METADATA " ▹ quoted_utf8

-- entry-values = "(" entry-value *(SP entry-value) ")"
unfoldable pub annotations : Rule (List MetadataValue)
annotations = nonempty_list_of annotation

-- entry-list = entry *(SP entry), or none
unfoldable pub entries : Rule (List Text)
entries = list0 (separator Space) entry_utf8

-- ---- as data of a mailbox

abbrev pub solicited_of : Text × List MetadataValue → DatumValue
solicited_of (mailbox, values) = MetadataSolicited mailbox values

-- metadata-resp = "METADATA" SP mailbox SP (entry-values / entry-list): that with values
unfoldable pub metadata_solicited : Rule DatumValue
metadata_solicited = gives solicited_of (metadata_mailbox ⨾ annotations)

abbrev pub unsolicited_of : Text × List Text → DatumValue
unsolicited_of (mailbox, entries) = MetadataUnsolicited mailbox entries

-- and that without
unfoldable pub metadata_unsolicited : Rule DatumValue
metadata_unsolicited = gives unsolicited_of (metadata_mailbox ⨾ entries)
