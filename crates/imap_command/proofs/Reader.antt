-- A reader of commands: the call that stands in front of a text in a typed state, and the text behind it.
use Rattle.std.proofs.Common.{◌≡◌, ℕ, List, Bool, true, cond, Option, None, Some, refl, drop, not}
use Rattle.std.specs.Prelude.{codes, ◌==◌, ◌||◌}
use Rattle.std.specs.List.{list_all}
use Rattle.std.specs.Option.{option_map}
use Rattle.std.specs.Str.{bytes_eq}
use Rattle.imap_command.specs.Words.{attribute_word}
use Rattle.imap_command.specs.Calls.{Call, Stage, start, no_params, empty, messages, attributes, modifiers, check, close, list, login, select, examine, cond_store, fetch, uid_fetch, num, range, range_from, attr_macro, attr, changed_since}
use Rattle.imap_command.specs.declared.words.AttrMacro.TheVariants as group
use Rattle.imap_command.specs.declared.words.Attribute.{Attribute}
use Rattle.imap_command.specs.declared.words.Attribute.TheVariants as attribute
use Rattle.imap_command.proofs.Runs.{front, beyond, stripped, is_digit, number, quoted_content, behind_quoted}

abbrev pub Found : Type 0
Found = Option (Call × List ℕ)

-- reads on behind a word, or else in another way
abbrev pub on_word : List ℕ → List ℕ → (List ℕ → Found) → Found → Found
on_word word text read otherwise = elim (stripped word text) [ Some rest ↦ read rest | None ↦ otherwise ]

-- two quoted texts, a space between them
abbrev pub pair : (List ℕ → List ℕ → Call) → List ℕ → Found
pair call text =
    let second = drop 1 (behind_quoted text) in
    Some (call (quoted_content text) (quoted_content second), behind_quoted second)

abbrev pub single : (List ℕ → Call) → List ℕ → Found
single call text = Some (call (quoted_content text), behind_quoted text)

-- messages: a range to the last message, a range, or a number
abbrev pub item : List ℕ → Found
item text =
    let first = number text in
    let rest = beyond is_digit text in
    on_word (codes ":*") rest (λ after. Some (range_from first, after))
    (on_word (codes ":") rest (λ after. Some (range first (number after), beyond is_digit after))
    (Some (num first, rest)))

-- the attribute of a word
abbrev pub known_attribute : List ℕ → Option Attribute
known_attribute word =
    cond (bytes_eq word (codes "BODY")) (Some attribute.Body)
    (cond (bytes_eq word (codes "ENVELOPE")) (Some attribute.Envelope)
    (cond (bytes_eq word (codes "FLAGS")) (Some attribute.Flags)
    (cond (bytes_eq word (codes "INTERNALDATE")) (Some attribute.InternalDate)
    (cond (bytes_eq word (codes "MODSEQ")) (Some attribute.ModSeq)
    (cond (bytes_eq word (codes "RFC822")) (Some attribute.Rfc822)
    (cond (bytes_eq word (codes "RFC822.SIZE")) (Some attribute.Rfc822Size)
    (cond (bytes_eq word (codes "RFC822.TEXT")) (Some attribute.Rfc822Text)
    (cond (bytes_eq word (codes "UID")) (Some attribute.Uid)
    (cond (bytes_eq word (codes "X-GM-LABELS")) (Some attribute.GmailLabels)
    (cond (bytes_eq word (codes "X-GM-MSGID")) (Some attribute.GmailMsgId)
    (cond (bytes_eq word (codes "X-GM-THRID")) (Some attribute.GmailThrId) None)))))))))))

-- a byte of an attribute's word: no space and no `)`
abbrev pub in_word : ℕ → Bool
in_word b = not (b == 32 || b == 41)

abbrev pub word : List ℕ → Found
word text = option_map (λ a. (attr a, beyond in_word text)) (known_attribute (front in_word text))

abbrev pub since : List ℕ → Found
since text = Some (changed_since (number text), drop 1 (beyond is_digit text))

abbrev pub reads : Stage → List ℕ → Found
reads start text =
    on_word (codes "CHECK") text (λ rest. Some (check, rest))
    (on_word (codes "CLOSE") text (λ rest. Some (close, rest))
    (on_word (codes "LIST ") text (pair list)
    (on_word (codes "LOGIN ") text (pair login)
    (on_word (codes "SELECT ") text (single select)
    (on_word (codes "EXAMINE ") text (single examine)
    (on_word (codes "FETCH ") text (λ rest. Some (fetch, rest))
    (on_word (codes "UID FETCH ") text (λ rest. Some (uid_fetch, rest)) None)))))))
reads no_params text = on_word (codes " (CONDSTORE") text (λ rest. Some (cond_store, rest)) None
reads empty text = item text
reads messages text =
    on_word (codes ",") text item
    (on_word (codes " (") text word
    (on_word (codes " ALL") text (λ rest. Some (attr_macro group.All, rest))
    (on_word (codes " FAST") text (λ rest. Some (attr_macro group.Fast, rest))
    (on_word (codes " FULL") text (λ rest. Some (attr_macro group.Full, rest)) None))))
reads attributes text = on_word (codes ") (CHANGEDSINCE ") text since (on_word (codes " ") text word None)
reads modifiers text = on_word (codes " (CHANGEDSINCE ") text since None
reads stage text = None

-- each word names its attribute, and has no byte that ends it
pub known-attribute_word : (a : Attribute) → known_attribute (attribute_word a) ≡ Some a
known-attribute_word attribute.Body = refl
known-attribute_word other = refl

pub whole_words : (a : Attribute) → list_all in_word (attribute_word a) ≡ true
whole_words attribute.Body = refl
whole_words other = refl
