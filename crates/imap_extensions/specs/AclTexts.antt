-- The text of access control lists.
use Rattle.std.specs.Prelude.{◌≡◌, List, [], ◌∷◌}
use Rattle.imap_grammar.specs.Pieces.{Pieces, ◌then◌, words, space, literal_text, each}
use Rattle.imap_grammar.specs.ReadBack.{Texts}
use Rattle.imap_grammar.specs.Spelling.{in_any_case, ◌and◌, blanks, some_blanks, with_between, spells_astring_text}
use Rattle.imap_shared.specs.declared.types.rights.AclRight.{AclRight}
use Rattle.imap_shared.specs.MailboxTexts.{canonical_mailbox, spells_mailbox}
use Rattle.imap_shared.specs.RightTexts.{canonical_rights, spells_rights}
use Rattle.imap_extensions.specs.Acls.{AclEntryValue, AclValue, ListRightsValue, MyRightsValue, joined}

abbrev pub canonical_acl_entry : AclEntryValue → Pieces
canonical_acl_entry e = literal_text e.identifier then space then canonical_rights e.rights

abbrev pub canonical_acl : AclValue → Pieces
canonical_acl a =
    words "ACL"
    then space
    then canonical_mailbox a.mailbox
    then each (λ e. space then canonical_acl_entry e) a.acls

-- optional rights stand in one text, or in none
abbrev pub canonical_optional : List AclRight → Pieces
canonical_optional [] = []
canonical_optional (r ∷ rights) = space then canonical_rights (r ∷ rights)

abbrev pub canonical_list_rights : ListRightsValue → Pieces
canonical_list_rights r =
    words "LISTRIGHTS"
    then space
    then canonical_mailbox r.mailbox
    then space
    then literal_text r.identifier
    then space
    then canonical_rights r.required
    then canonical_optional r.optional

abbrev pub canonical_my_rights : MyRightsValue → Pieces
canonical_my_rights r =
    words "MYRIGHTS"
    then space
    then canonical_mailbox r.mailbox
    then space
    then canonical_rights r.rights

abbrev pub spells_acl_entry : AclEntryValue → Texts
spells_acl_entry e = spells_astring_text e.identifier and some_blanks and spells_rights e.rights

abbrev pub spells_acl : AclValue → Texts
spells_acl a =
    in_any_case "ACL"
    and some_blanks
    and spells_mailbox a.mailbox
    and blanks
    and with_between some_blanks spells_acl_entry a.acls

-- optional rights, cut into any texts
abbrev pub spells_optional : List AclRight → Texts
spells_optional rights c =
    (groups : List (List AclRight))
    × (joined groups ≡ rights)
    × (blanks and with_between some_blanks spells_rights groups) c

abbrev pub spells_list_rights : ListRightsValue → Texts
spells_list_rights r =
    in_any_case "LISTRIGHTS"
    and some_blanks
    and spells_mailbox r.mailbox
    and some_blanks
    and spells_astring_text r.identifier
    and some_blanks
    and spells_rights r.required
    and spells_optional r.optional

abbrev pub spells_my_rights : MyRightsValue → Texts
spells_my_rights r =
    in_any_case "MYRIGHTS"
    and some_blanks
    and spells_mailbox r.mailbox
    and some_blanks
    and spells_rights r.rights
