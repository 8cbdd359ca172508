-- The text of a mailbox name.
use Rattle.std.specs.Prelude.{◌≡◌, ◌⊎◌, IsTrue, false, codes}
use Rattle.imap_grammar.specs.Meaning.{is_word}
use Rattle.imap_grammar.specs.Tags.{same_letter}
use Rattle.imap_grammar.specs.Text.{Text}
use Rattle.imap_grammar.specs.Pieces.{Pieces, literal_text}
use Rattle.imap_grammar.specs.ReadBack.{Texts}
use Rattle.imap_grammar.specs.Spelling.{spells_astring_text}

abbrev pub canonical_mailbox : Text → Pieces
canonical_mailbox = literal_text

-- INBOX in any case
abbrev pub spells_inbox : Texts
spells_inbox c =
    (t : Text) × IsTrue (is_word same_letter (codes "INBOX") t.bytes) × spells_astring_text t c

-- INBOX in any case spells INBOX, and no other name
abbrev pub spells_mailbox : Text → Texts
spells_mailbox t c =
    ((t.bytes ≡ codes "INBOX") × spells_inbox c)
    ⊎ ((is_word same_letter (codes "INBOX") t.bytes ≡ false) × spells_astring_text t c)
