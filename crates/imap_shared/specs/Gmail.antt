-- Gmail's items of a message: labels, message number, thread number (X-GM-EXT-1).
use Rattle.std.specs.Prelude.{ℕ, List}
use Rattle.imap_grammar.specs.Text.{Text, as_text}
use Rattle.imap_grammar.specs.Rule.{Rule, gives, ◌▹◌, ◌or◌}
use Rattle.imap_grammar.specs.Tags.{word}
use Rattle.imap_grammar.specs.Lists.{list_of}
use Rattle.imap_bytes.specs.Numbers.{number_64}
use Rattle.imap_bytes.specs.Texts.{quoted_utf8}
use Rattle.imap_shared.specs.Flags.{flag}

abbrev pub flag_label : Rule Text
flag_label = gives as_text flag

-- a flag, or a quoted string
unfoldable pub gmail_label : Rule Text
gmail_label = flag_label or quoted_utf8

unfoldable pub gmail_labels : Rule (List Text)
gmail_labels = list_of gmail_label

unfoldable pub gmail_label_list : Rule (List Text)
gmail_label_list = word "X-GM-LABELS " ▹ gmail_labels

unfoldable pub gmail_msgid : Rule ℕ
gmail_msgid = word "X-GM-MSGID " ▹ number_64

unfoldable pub gmail_thrid : Rule ℕ
gmail_thrid = word "X-GM-THRID " ▹ number_64
