-- Responses: the JSON of each.
use Rattle.std.specs.Prelude.{[], ◌∷◌, List, codes}
use Rattle.serde_json.specs.Data.{Data}
use Rattle.imap_grammar.specs.Text.{Bytes}
use Rattle.imap_proto.specs.Responses.{OutcomeValue, ResponseValue}
use Rattle.imap_proto.specs.Responses as said
use Rattle.imap_json.specs.Forms.{Field, string_json, number_json, flag_json, option_json, list_json, object_json}
use Rattle.imap_json.specs.Texts.{text_json}
use Rattle.imap_json.specs.Ranges.{range_json}
use Rattle.imap_json.specs.Statuses.{status_json}
use Rattle.imap_json.specs.Capabilities.{capability_json}
use Rattle.imap_json.specs.Codes.{code_json}
use Rattle.imap_json.specs.MailboxData.{datum_json}
use Rattle.imap_json.specs.Quotas.{quota_json, quota_root_json}
use Rattle.imap_json.specs.Ids.{id_json}
use Rattle.imap_json.specs.Acls.{acl_json, list_rights_json, my_rights_json}
use Rattle.imap_json.specs.Attributes.{attribute_json}

abbrev pub outcome_json : OutcomeValue → Data
outcome_json o =
    object_json
    ((codes "code", option_json code_json o.code)
    ∷ (codes "information", option_json text_json o.information)
    ∷ [])

-- its kind first, and behind it what it says
abbrev pub kind_json : Bytes → List Field → Data
kind_json kind fields = object_json ((codes "kind", string_json kind) ∷ fields)

abbrev pub json_of : ResponseValue → Data
json_of (said.Capabilities capabilities) =
    kind_json (codes "capabilities")
    ((codes "capabilities", list_json capability_json capabilities) ∷ [])
json_of (said.Continue o) = kind_json (codes "continue") ((codes "outcome", outcome_json o) ∷ [])
json_of (said.Done tag status o) =
    kind_json (codes "done")
    ((codes "tag", string_json tag)
    ∷ (codes "status", status_json status)
    ∷ (codes "outcome", outcome_json o)
    ∷ [])
json_of (said.Data status o) =
    kind_json (codes "data")
    ((codes "status", status_json status) ∷ (codes "outcome", outcome_json o) ∷ [])
json_of (said.Expunge n) = kind_json (codes "expunge") ((codes "number", number_json n) ∷ [])
json_of (said.Vanished earlier uids) =
    kind_json (codes "vanished")
    ((codes "earlier", flag_json earlier) ∷ (codes "uids", list_json range_json uids) ∷ [])
json_of (said.Fetch n attributes) =
    kind_json (codes "fetch")
    ((codes "number", number_json n)
    ∷ (codes "attributes", list_json attribute_json attributes)
    ∷ [])
json_of (said.MailboxData datum) =
    kind_json (codes "mailboxdata") ((codes "datum", datum_json datum) ∷ [])
json_of (said.Quota quota) = kind_json (codes "quota") ((codes "quota", quota_json quota) ∷ [])
json_of (said.QuotaRoot root) =
    kind_json (codes "quotaroot") ((codes "quota_root", quota_root_json root) ∷ [])
json_of (said.Id map) = kind_json (codes "id") ((codes "id", option_json id_json map) ∷ [])
json_of (said.Acl acl) = kind_json (codes "acl") ((codes "acl", acl_json acl) ∷ [])
json_of (said.ListRights rights) =
    kind_json (codes "listrights") ((codes "list_rights", list_rights_json rights) ∷ [])
json_of (said.MyRights rights) =
    kind_json (codes "myrights") ((codes "my_rights", my_rights_json rights) ∷ [])
