-- The text of rights: their letters.
use Rattle.std.specs.Prelude.{◌≡◌, List, map, encode_utf8_all}
use Rattle.imap_grammar.specs.Text.{Bytes, as_text}
use Rattle.imap_grammar.specs.Pieces.{Pieces, lit}
use Rattle.imap_grammar.specs.ReadBack.{Texts}
use Rattle.imap_grammar.specs.Spelling.{spells_astring_text}
use Rattle.imap_shared.specs.declared.types.rights.AclRight.{AclRight}
use Rattle.imap_shared.specs.Rights.{letter_of, rights_of}

-- the letters, in UTF-8
abbrev pub letters_of : List AclRight → Bytes
letters_of rights = encode_utf8_all (map letter_of rights)

abbrev pub canonical_rights : List AclRight → Pieces
canonical_rights rights = lit (letters_of rights)

-- No text spells a `Custom` of a letter that has a right of its own.
abbrev pub spells_rights : List AclRight → Texts
spells_rights rights c =
    (rights_of (letters_of rights) ≡ rights) × spells_astring_text (as_text (letters_of rights)) c
