-- Access control lists, and rights on a mailbox.
use Rattle.std.specs.Prelude.{[], ◌∷◌, codes}
use Rattle.serde_json.specs.Data.{Data}
use Rattle.imap_extensions.specs.Acls.{AclEntryValue, AclValue, ListRightsValue, MyRightsValue}
use Rattle.imap_json.specs.Forms.{list_json, object_json}
use Rattle.imap_json.specs.Texts.{text_json}
use Rattle.imap_json.specs.Rights.{right_json}

abbrev pub acl_entry_json : AclEntryValue → Data
acl_entry_json e =
    object_json
    ((codes "identifier", text_json e.identifier)
    ∷ (codes "rights", list_json right_json e.rights)
    ∷ [])

abbrev pub acl_json : AclValue → Data
acl_json a =
    object_json
    ((codes "mailbox", text_json a.mailbox) ∷ (codes "acls", list_json acl_entry_json a.acls) ∷ [])

abbrev pub list_rights_json : ListRightsValue → Data
list_rights_json r =
    object_json
    ((codes "mailbox", text_json r.mailbox)
    ∷ (codes "identifier", text_json r.identifier)
    ∷ (codes "required", list_json right_json r.required)
    ∷ (codes "optional", list_json right_json r.optional)
    ∷ [])

abbrev pub my_rights_json : MyRightsValue → Data
my_rights_json r =
    object_json
    ((codes "mailbox", text_json r.mailbox) ∷ (codes "rights", list_json right_json r.rights) ∷ [])
