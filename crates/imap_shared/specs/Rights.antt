-- Rights and their letters (RFC 4314, section 7: rights).
use Rattle.std.specs.Prelude.{ℕ, List, map, IsTrue, ◌==◌, if◌then◌else◌, codes, get_or}
use Prim.Native.String.{String}
use Rattle.std.specs.List.{list_any}
use Rattle.std.specs.Str.{chars}
use Rattle.imap_grammar.specs.Text.{Bytes, Text}
use Rattle.imap_grammar.specs.Rule.{Rule, gives}
use Rattle.imap_bytes.specs.Texts.{astring_utf8}
use Rattle.imap_shared.specs.declared.types.rights.AclRight.{AclRight}
use Rattle.imap_shared.specs.declared.types.rights.AclRight.TheVariants.{Lookup, Read, Seen, Write, Insert, Post, CreateMailbox, DeleteMailbox, DeleteMessage, Expunge, Administer, Annotation, OldCreate, OldDelete, Custom}

-- the letters that have a right of their own
abbrev pub letters : List ℕ
letters = codes "lrswipkxteancd"

-- the code of a character that is written alone
abbrev pub code : String → ℕ
code c = get_or (codes c) 0 0

-- the right that a character names, which is given by its code
abbrev pub right_of : ℕ → AclRight
right_of c =
    if c == code "l" then Lookup
    else if c == code "r" then Read
    else if c == code "s" then Seen
    else if c == code "w" then Write
    else if c == code "i" then Insert
    else if c == code "p" then Post
    else if c == code "k" then CreateMailbox
    else if c == code "x" then DeleteMailbox
    else if c == code "t" then DeleteMessage
    else if c == code "e" then Expunge
    else if c == code "a" then Administer
    else if c == code "n" then Annotation
    else if c == code "c" then OldCreate
    else if c == code "d" then OldDelete
    else Custom c

-- the character of a right
abbrev pub letter_of : AclRight → ℕ
letter_of Lookup = code "l"
letter_of Read = code "r"
letter_of Seen = code "s"
letter_of Write = code "w"
letter_of Insert = code "i"
letter_of Post = code "p"
letter_of CreateMailbox = code "k"
letter_of DeleteMailbox = code "x"
letter_of DeleteMessage = code "t"
letter_of Expunge = code "e"
letter_of Administer = code "a"
letter_of Annotation = code "n"
letter_of OldCreate = code "c"
letter_of OldDelete = code "d"
letter_of (Custom c) = c

-- a `Custom` of a letter that has a right of its own
abbrev pub IsShadowed : AclRight → Type 0
IsShadowed (Custom c) = IsTrue (list_any (λ letter. c == letter) letters)
IsShadowed right = ⊥

-- the right of each character, in order
abbrev pub rights_of : Bytes → List AclRight
rights_of text = map right_of (chars text)

abbrev pub rights_in : Text → List AclRight
rights_in text = rights_of text.bytes

-- rights = astring. Each of its characters is a right.
unfoldable pub rights : Rule (List AclRight)
rights = gives rights_in astring_utf8
