-- Responses as values: texts by their bytes, and whether they are borrowed.
use Rattle.std.specs.Prelude.{◌≡◌, ℕ, Bool, List, ◌∷◌, ◌++◌, Option, option_map, map}
use Rattle.std.specs.String.{string_bytes}
use Rattle.std.specs.declared.alloc.Global.{Global}
use Rattle.std.specs.declared.vec.Vec.{Vec}
use Rattle.imap_grammar.specs.Ascii.{line_feed, carriage_return}
use Rattle.imap_grammar.specs.Text.{Bytes, Text, text_of, lent_text}
use Rattle.imap_grammar.specs.Ranges.{Range, range_of}
use Rattle.imap_shared.specs.declared.types.statuses.Status.{Status}
use Rattle.imap_data.specs.Codes.{CodeValue, code_value, changed_code}
use Rattle.imap_shared.specs.Capabilities.{CapabilityValue, capability_value, changed_capability}
use Rattle.imap_data.specs.DatumValues.{DatumValue, datum_value, changed_datum}
use Rattle.imap_extensions.specs.Quotas.{QuotaValue, QuotaRootValue, quota_value, quota_root_value, changed_quota, changed_quota_root}
use Rattle.imap_extensions.specs.Ids.{IdValue, id_value, changed_id}
use Rattle.imap_extensions.specs.Acls.{AclValue, ListRightsValue, MyRightsValue, acl_value, list_rights_value, my_rights_value, changed_acl, changed_list_rights, changed_my_rights}
use Rattle.imap_grammar.specs.declared.at.span.Span.{Span}
use Rattle.imap_body_types.specs.declared.spans.SpannedText.{SpannedText}
use Rattle.imap_body.specs.declared.spanned_attribute.SpannedAttribute.{SpannedAttribute}
use Rattle.imap_body.specs.SpannedAttributes.{attribute_in}
use Rattle.imap_body.specs.AttributeValues.{AttributeValue, attribute_value}
use Rattle.imap_body.specs.Changed.{changed_attribute}
use Rattle.imap_proto.specs.declared.outcome.Outcome.{Outcome}
use Rattle.imap_proto.specs.declared.response.Response.{Response}
use Rattle.imap_proto.specs.declared.response.Response.TheVariants as variant

pub record OutcomeValue : Type 0 where
  pub code : Option CodeValue
  pub information : Option Text

pub data ResponseValue : Type 0 where
  Capabilities : List CapabilityValue → ResponseValue
  Continue : OutcomeValue → ResponseValue
  Done : Bytes → Status → OutcomeValue → ResponseValue
  Data : Status → OutcomeValue → ResponseValue
  Expunge : ℕ → ResponseValue
  Vanished : Bool → List Range → ResponseValue
  Fetch : ℕ → List AttributeValue → ResponseValue
  MailboxData : DatumValue → ResponseValue
  Quota : QuotaValue → ResponseValue
  QuotaRoot : QuotaRootValue → ResponseValue
  Id : Option IdValue → ResponseValue
  Acl : AclValue → ResponseValue
  ListRights : ListRightsValue → ResponseValue
  MyRights : MyRightsValue → ResponseValue

-- ---- of the code's values

abbrev pub outcome_value : Outcome → OutcomeValue
outcome_value o =
    record {
      code = option_map code_value o.code;
      information = option_map text_of o.information;
    }

abbrev pub response_value : Response → ResponseValue
response_value (variant.Capabilities capabilities) =
    Capabilities (map capability_value capabilities.items)
response_value (variant.Continue o) = Continue (outcome_value o)
response_value (variant.Done tag status o) = Done (string_bytes tag.0) status (outcome_value o)
response_value (variant.«Data» status o) = Data status (outcome_value o)
response_value (variant.Expunge n) = Expunge n
response_value (variant.Vanished earlier uids) = Vanished earlier (map (λ r. range_of r) uids.items)
response_value (variant.Fetch n attributes) = Fetch n (map attribute_value attributes.items)
response_value (variant.MailboxData datum) = MailboxData (datum_value datum)
response_value (variant.Quota quota) = Quota (quota_value quota)
response_value (variant.QuotaRoot root) = QuotaRoot (quota_root_value root)
response_value (variant.Id map) = Id (option_map id_value map)
response_value (variant.Acl acl) = Acl (acl_value acl)
response_value (variant.ListRights rights) = ListRights (list_rights_value rights)
response_value (variant.MyRights rights) = MyRights (my_rights_value rights)

abbrev pub IsFetch : ResponseValue → Type 0
IsFetch (Fetch n attributes) = Unit {0}
IsFetch other = ⊥

-- a number and attributes whose spans name them in m
abbrev pub fetch_in : Bytes → ℕ × Vec (SpannedAttribute SpannedText Span) Global → ResponseValue
fetch_in m x = Fetch x.0 (map (attribute_in m) x.1.items)

-- what stands before the rest ends in CRLF
abbrev pub EndsLine : Bytes → Bytes → Type 0
EndsLine m rest = (front : Bytes) × (m ≡ front ++ (carriage_return ∷ line_feed ∷ rest))

-- ---- with each text changed by h, but a tag's, which is owned always

abbrev pub changed_outcome : (Text → Text) → OutcomeValue → OutcomeValue
changed_outcome h o =
    record {
      code = option_map (changed_code h) o.code;
      information = option_map h o.information;
    }

abbrev pub changed_response : (Text → Text) → ResponseValue → ResponseValue
changed_response h (Capabilities capabilities) =
    Capabilities (map (changed_capability h) capabilities)
changed_response h (Continue o) = Continue (changed_outcome h o)
changed_response h (Done tag status o) = Done tag status (changed_outcome h o)
changed_response h (Data status o) = Data status (changed_outcome h o)
changed_response h (Expunge n) = Expunge n
changed_response h (Vanished earlier uids) = Vanished earlier uids
changed_response h (Fetch n attributes) = Fetch n (map (changed_attribute h) attributes)
changed_response h (MailboxData datum) = MailboxData (changed_datum h datum)
changed_response h (Quota quota) = Quota (changed_quota h quota)
changed_response h (QuotaRoot root) = QuotaRoot (changed_quota_root h root)
changed_response h (Id map) = Id (option_map (changed_id h) map)
changed_response h (Acl acl) = Acl (changed_acl h acl)
changed_response h (ListRights rights) = ListRights (changed_list_rights h rights)
changed_response h (MyRights rights) = MyRights (changed_my_rights h rights)

-- ---- with all texts borrowed: two values say the same where these are equal

abbrev pub lent_outcome : OutcomeValue → OutcomeValue
lent_outcome = changed_outcome lent_text

abbrev pub lent_response : ResponseValue → ResponseValue
lent_response = changed_response lent_text
