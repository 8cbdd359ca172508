-- Access control lists (RFC 4314, section 7: acl-data, listrights-data, myrights-data), with any blanks between the
-- parts.
use Rattle.std.specs.Prelude.{◌⊎◌, List, map}
use Rattle.std.specs.List.{flat_map}
use Rattle.imap_grammar.specs.declared.lists.Separator.TheVariants.{Blanks}
use Rattle.imap_grammar.specs.Memory.{Behind, StartsWith}
use Rattle.imap_grammar.specs.Text.{Bytes, Text, text_of, lent_text, IsOwned}
use Rattle.imap_grammar.specs.Rule.{Rule, gives, list0, ◌⨾◌, ◌▹◌}
use Rattle.imap_grammar.specs.Tags.{word, blanks0, blanks1}
use Rattle.imap_grammar.specs.Lists.{separator}
use Rattle.imap_bytes.specs.Texts.{astring_utf8, YieldsOwned}
use Rattle.imap_shared.specs.Mailboxes.{mailbox}
use Rattle.imap_shared.specs.Rights.{rights}
use Rattle.imap_shared.specs.declared.types.rights.AclRight.{AclRight}
use Rattle.imap_extensions.specs.declared.types.acls.AclEntry.{AclEntry}
use Rattle.imap_extensions.specs.declared.types.acls.Acl.{Acl}
use Rattle.imap_extensions.specs.declared.types.acls.ListRights.{ListRights}
use Rattle.imap_extensions.specs.declared.types.acls.MyRights.{MyRights}

-- ---- values

pub record AclEntryValue : Type 0 where
  pub identifier : Text
  pub rights : List AclRight

pub record AclValue : Type 0 where
  pub mailbox : Text
  pub acls : List AclEntryValue

pub record ListRightsValue : Type 0 where
  pub mailbox : Text
  pub identifier : Text
  pub required : List AclRight
  pub optional : List AclRight

pub record MyRightsValue : Type 0 where
  pub mailbox : Text
  pub rights : List AclRight

-- ---- rules

abbrev pub acl_entry_of : Text × List AclRight → AclEntryValue
acl_entry_of (identifier, rights) = record { identifier = identifier; rights = rights }

unfoldable pub acl_entry : Rule AclEntryValue
acl_entry = gives acl_entry_of (astring_utf8 ⨾ blanks1 ▹ rights)

unfoldable pub acl_entries : Rule (List AclEntryValue)
acl_entries = list0 (separator Blanks) acl_entry

abbrev pub acl_of : Text × List AclEntryValue → AclValue
acl_of (mailbox, acls) = record { mailbox = mailbox; acls = acls }

-- acl-data = "ACL" SP mailbox *(SP identifier SP rights), where no blank need stand behind the mailbox
unfoldable pub acl : Rule AclValue
acl = gives acl_of (word "ACL" ▹ blanks1 ▹ mailbox ⨾ blanks0 ▹ acl_entries)

-- its reader may want memory at a mailbox that is not UTF-8, and where the identifier of an entry stands
abbrev pub AclMayWant : Bytes → Type 0
AclMayWant m =
    Behind (word "ACL" ▹ blanks1) (YieldsOwned IsOwned astring_utf8) m
    ⊎ Behind (word "ACL" ▹ blanks1 ▹ mailbox ⨾ blanks0) (StartsWith astring_utf8) m

abbrev pub joined : List (List AclRight) → List AclRight
joined groups = flat_map (λ (group : List AclRight). group) groups

unfoldable pub right_groups : Rule (List (List AclRight))
right_groups = list0 (separator Blanks) rights

-- in groups, which are joined in order
unfoldable pub optional_rights : Rule (List AclRight)
optional_rights = gives joined (blanks0 ▹ right_groups)

abbrev pub list_rights_of : Text × (Text × (List AclRight × List AclRight)) → ListRightsValue
list_rights_of (mailbox, (identifier, (required, optional))) =
    record {
      mailbox = mailbox;
      identifier = identifier;
      required = required;
      optional = optional;
    }

-- listrights-data = "LISTRIGHTS" SP mailbox SP identifier SP rights *(SP rights)
unfoldable pub list_rights : Rule ListRightsValue
list_rights =
    gives list_rights_of
    (word "LISTRIGHTS" ▹ blanks1 ▹ mailbox
    ⨾ blanks1 ▹ astring_utf8
    ⨾ blanks1 ▹ rights
    ⨾ optional_rights)

abbrev pub my_rights_of : Text × List AclRight → MyRightsValue
my_rights_of (mailbox, rights) = record { mailbox = mailbox; rights = rights }

-- myrights-data = "MYRIGHTS" SP mailbox SP rights
unfoldable pub my_rights : Rule MyRightsValue
my_rights = gives my_rights_of (word "MYRIGHTS" ▹ blanks1 ▹ mailbox ⨾ blanks1 ▹ rights)

-- ---- of the code's values

abbrev pub acl_entry_value : AclEntry → AclEntryValue
acl_entry_value e = record { identifier = text_of e.identifier; rights = e.rights.items }

abbrev pub acl_value : Acl → AclValue
acl_value a = record { mailbox = text_of a.mailbox; acls = map acl_entry_value a.acls.items }

abbrev pub list_rights_value : ListRights → ListRightsValue
list_rights_value r =
    record {
      mailbox = text_of r.mailbox;
      identifier = text_of r.identifier;
      required = r.required.items;
      optional = r.optional.items;
    }

abbrev pub my_rights_value : MyRights → MyRightsValue
my_rights_value r = record { mailbox = text_of r.mailbox; rights = r.rights.items }

-- ---- with each text changed by h

abbrev pub changed_acl_entry : (Text → Text) → AclEntryValue → AclEntryValue
changed_acl_entry h e = record { identifier = h e.identifier; rights = e.rights }

abbrev pub changed_acl : (Text → Text) → AclValue → AclValue
changed_acl h a = record { mailbox = h a.mailbox; acls = map (changed_acl_entry h) a.acls }

abbrev pub changed_list_rights : (Text → Text) → ListRightsValue → ListRightsValue
changed_list_rights h r =
    record {
      mailbox = h r.mailbox;
      identifier = h r.identifier;
      required = r.required;
      optional = r.optional;
    }

abbrev pub changed_my_rights : (Text → Text) → MyRightsValue → MyRightsValue
changed_my_rights h r = record { mailbox = h r.mailbox; rights = r.rights }

-- ---- with all texts borrowed: two values say the same where these are equal

abbrev pub lent_acl_entry : AclEntryValue → AclEntryValue
lent_acl_entry = changed_acl_entry lent_text

abbrev pub lent_acl : AclValue → AclValue
lent_acl = changed_acl lent_text

abbrev pub lent_list_rights : ListRightsValue → ListRightsValue
lent_list_rights = changed_list_rights lent_text

abbrev pub lent_my_rights : MyRightsValue → MyRightsValue
lent_my_rights = changed_my_rights lent_text

abbrev pub acl_entry_content : AclEntry → AclEntryValue
acl_entry_content e = lent_acl_entry (acl_entry_value e)

abbrev pub acl_content : Acl → AclValue
acl_content a = lent_acl (acl_value a)

abbrev pub list_rights_content : ListRights → ListRightsValue
list_rights_content r = lent_list_rights (list_rights_value r)

abbrev pub my_rights_content : MyRights → MyRightsValue
my_rights_content r = lent_my_rights (my_rights_value r)
