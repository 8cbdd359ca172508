-- Values that hold nothing, each with the text that it is read from.
use Rattle.std.specs.Prelude.{List, [], ◌∷◌, ◌++◌, None, IsTrue, codes}
use Prim.Native.String.{String}
use Rattle.imap_grammar.specs.Meaning.{is_word}
use Rattle.imap_grammar.specs.Tags.{same_letter}
use Rattle.imap_grammar.specs.Text.{Bytes}
use Rattle.imap_grammar.specs.Rule.{Rule, meaning}
use Rattle.imap_shared.specs.Capabilities.{CapabilityValue, Imap4rev1}
use Rattle.imap_shared.specs.declared.types.statuses.Status.{Status}
use Rattle.imap_shared.specs.declared.types.statuses.Status.TheVariants.{Ok, No, Bad, PreAuth, Bye}
use Rattle.imap_extensions.specs.Quotas.{QuotaResourceNameValue, Storage, Message}
use Rattle.imap_data.specs.Codes.{CodeValue, Alert, Parse, ReadOnly, ReadWrite, TryCreate, UidNotSticky, MetadataTooMany, MetadataNoPrivate, BadCharset}
use Rattle.imap_data.specs.Names.{NameAttributeValue, NoInferiors, NoSelect, Marked, Unmarked, All, Archive, Drafts, Flagged, Junk, Sent, Trash}

abbrev pub status_texts : List (String × Status)
status_texts = ("OK", Ok) ∷ ("NO", No) ∷ ("BAD", Bad) ∷ ("PREAUTH", PreAuth) ∷ ("BYE", Bye) ∷ []

abbrev pub capability_texts : List (String × CapabilityValue)
capability_texts = ("IMAP4rev1", Imap4rev1) ∷ []

abbrev pub code_texts : List (String × CodeValue)
code_texts =
    ("[ALERT]", Alert)
    ∷ ("[BADCHARSET]", BadCharset None)
    ∷ ("[PARSE]", Parse)
    ∷ ("[READ-ONLY]", ReadOnly)
    ∷ ("[READ-WRITE]", ReadWrite)
    ∷ ("[TRYCREATE]", TryCreate)
    ∷ ("[UIDNOTSTICKY]", UidNotSticky)
    ∷ ("[METADATA TOOMANY]", MetadataTooMany)
    ∷ ("[METADATA NOPRIVATE]", MetadataNoPrivate)
    ∷ []

abbrev pub name_attribute_texts : List (String × NameAttributeValue)
name_attribute_texts =
    ("\\Noinferiors", NoInferiors)
    ∷ ("\\Noselect", NoSelect)
    ∷ ("\\Marked", Marked)
    ∷ ("\\Unmarked", Unmarked)
    ∷ ("\\All", All)
    ∷ ("\\Archive", Archive)
    ∷ ("\\Drafts", Drafts)
    ∷ ("\\Flagged", Flagged)
    ∷ ("\\Junk", Junk)
    ∷ ("\\Sent", Sent)
    ∷ ("\\Trash", Trash)
    ∷ []

abbrev pub resource_texts : List (String × QuotaResourceNameValue)
resource_texts = ("STORAGE", Storage) ∷ ("MESSAGE", Message) ∷ []

-- the rule yields the value on its text, each letter in either case, and leaves what follows, whatever it is
abbrev pub IsReadBy : {V : Type 0} → Rule V → String × V → Type 0
IsReadBy r (text, v) =
    (c rest : Bytes) → IsTrue (is_word same_letter (codes text) c)
    → (meaning r).yields (c ++ rest) v rest
