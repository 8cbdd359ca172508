-- Mailbox names (RFC 3501, section 9: mailbox).
use Rattle.std.specs.Prelude.{cond, codes}
use Rattle.imap_grammar.specs.Meaning.{is_word}
use Rattle.imap_grammar.specs.Text.{Text, as_text}
use Rattle.imap_grammar.specs.Rule.{Rule, gives}
use Rattle.imap_grammar.specs.Tags.{same_letter}
use Rattle.imap_bytes.specs.Texts.{astring_utf8}

-- INBOX in any case is INBOX
abbrev pub mailbox_of : Text → Text
mailbox_of t = cond (is_word same_letter (codes "INBOX") t.bytes) (as_text (codes "INBOX")) t

-- mailbox = "INBOX" / astring
unfoldable pub mailbox : Rule Text
mailbox = gives mailbox_of astring_utf8
