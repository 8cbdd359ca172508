-- Flags (RFC 3501, section 9: flag, flag-extension, flag-keyword, flag-perm, flag-list). A flag's text has its
-- backslash.
use Rattle.std.specs.Prelude.{List, codes}
use Rattle.imap_grammar.specs.Classes.{is_atom_char, is_astring_char}
use Rattle.imap_grammar.specs.Text.{Bytes, Text, as_text}
use Rattle.imap_grammar.specs.Rule.{Rule, run0, run1, raw, gives, ◌⨾◌, ◌or◌}
use Rattle.imap_grammar.specs.Tags.{tag, exactly_names}
use Rattle.imap_grammar.specs.Lists.{list_of}
use Rattle.imap_bytes.specs.Strings.{in_utf8}

unfoldable pub backslashed : Rule Bytes
backslashed = raw (tag "\\" ⨾ run0 is_atom_char)

-- flag-extension = "\" atom. Here nothing need follow the backslash.
unfoldable pub backslashed_text : Rule Bytes
backslashed_text = in_utf8 backslashed

-- flag-keyword = atom. Here its bytes are astring-chars.
unfoldable pub keyword : Rule Bytes
keyword = in_utf8 (run1 is_astring_char)

-- flag = "\Answered" / "\Flagged" / "\Deleted" / "\Seen" / "\Draft" / flag-keyword / flag-extension
unfoldable pub flag : Rule Bytes
flag = backslashed_text or keyword

-- flag-perm = flag / "\*"
unfoldable pub flag_perm : Rule Bytes
flag_perm = exactly_names "\\*" (codes "\\*") or flag

unfoldable pub flag_text : Rule Text
flag_text = gives as_text flag_perm

-- flag-list = "(" [flag *(SP flag)] ")". Here a flag may be `\*`, and a SP may stand before the `)`.
unfoldable pub flag_list : Rule (List Text)
flag_list = list_of flag_text
