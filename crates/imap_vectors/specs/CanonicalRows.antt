-- The values of the rows of canonical texts.
use Rattle.std.specs.Prelude.{false, true, List, Option, None, Some, [], ◌∷◌, codes}
use Prim.Native.String.{String}
use Rattle.imap_grammar.specs.Text.{Text, as_text}
use Rattle.imap_grammar.specs.Ranges.{fresh}
use Rattle.imap_shared.specs.Capabilities.{Atom as AtomCapability}
use Rattle.imap_shared.specs.Capabilities.{Auth, Imap4rev1}
use Rattle.imap_shared.specs.declared.types.statuses.Status.TheVariants.{Ok, No, Bad, PreAuth, Bye}
use Rattle.imap_shared.specs.UidSets as member
use Rattle.imap_shared.specs.declared.types.rights.AclRight.{AclRight}
use Rattle.imap_shared.specs.declared.types.rights.AclRight.TheVariants as right
use Rattle.imap_data.specs.Codes as code
use Rattle.imap_data.specs.Codes.{CodeValue}
use Rattle.imap_data.specs.DatumValues as datum
use Rattle.imap_data.specs.declared.types.counts.StatusAttribute.TheVariants as item
use Rattle.imap_data.specs.Names.{Extension}
use Rattle.imap_data.specs.DatumValues.{Listed}
use Rattle.imap_extensions.specs.Quotas.{Atom, Storage}
use Rattle.imap_extensions.specs.Ids.{map_of_pairs}
use Rattle.imap_body_types.specs.declared.shapes.fields.ContentEncoding.TheVariants.{SevenBit, EightBit, Other}
use Rattle.imap_body_types.specs.FieldValues.{EncodingValue}
use Rattle.imap_body_types.specs.ExtensionValues.{DispositionValue, Num, Str, Listed as ListOf, no_extensions, one_extension}
use Rattle.imap_body_types.specs.EnvelopeValues.{AddressValue, EnvelopeValue}
use Rattle.imap_body_types.specs.BodyValues.{BodyValue, CommonValue, SingleValue, Basic, TextBody, Message, Multipart, no_bodies, one_body}
use Rattle.imap_body.specs.AttributeValues as attribute
use Rattle.imap_body.specs.AttributeValues.{Envelope, BodyStructure, GmailLabels, Uid, Unknown}
use Rattle.imap_sections.specs.SectionValues.{Part}
use Rattle.imap_sections.specs.declared.types.sections.MessageSection.TheVariants.{Mime}
use Rattle.imap_proto.specs.Responses.{OutcomeValue, ResponseValue, Continue, Done, Data, MailboxData, Quota, QuotaRoot, Capabilities, Fetch, Vanished, Id, Acl, ListRights, MyRights}

abbrev lent : String → Text
lent k = as_text (codes k)

-- ---- status lines

abbrev outcome : Option CodeValue → Option Text → OutcomeValue
outcome code information = record { code = code; information = information }

abbrev pub an_answer : ResponseValue
an_answer = Done (codes "a1") No (outcome (Some code.ReadOnly) (Some (lent "x")))

abbrev pub a_short_answer : ResponseValue
a_short_answer = Done (codes "a1") Bad (outcome None None)

abbrev pub a_greeting : ResponseValue
a_greeting = Data PreAuth (outcome None (Some (lent "hi")))

abbrev pub a_farewell : ResponseValue
a_farewell = Data Bye (outcome None None)

abbrev pub an_invitation : ResponseValue
an_invitation = Continue (outcome None (Some (lent "idling")))

abbrev pub a_bare_invitation : ResponseValue
a_bare_invitation = Continue (outcome None None)

-- an untagged OK with this code alone
abbrev pub with_code : CodeValue → ResponseValue
with_code code = Data Ok (outcome (Some code) None)

abbrev pub charsets : CodeValue
charsets = code.BadCharset (Some (lent "a" ∷ lent "b" ∷ []))

abbrev pub capable : CodeValue
capable = code.Capabilities (Imap4rev1 ∷ Auth (lent "PLAIN") ∷ [])

abbrev pub flags_to_change : CodeValue
flags_to_change = code.PermanentFlags (lent "\\Seen" ∷ lent "\\*" ∷ [])

abbrev pub appended : CodeValue
appended = code.AppendUid 1 (member.Uid 9 ∷ member.UidRange (fresh 3 4) ∷ [])

abbrev pub copied : CodeValue
copied = code.CopyUid 1 (member.Uid 2 ∷ []) (member.UidRange (fresh 3 4) ∷ [])

-- ---- ID

abbrev pub no_list : ResponseValue
no_list = Id None

abbrev pub no_field : ResponseValue
no_field = Id (Some (map_of_pairs []))

-- a field whose name comes twice
abbrev pub a_field : ResponseValue
a_field = Id (Some (map_of_pairs ((lent "a", Some (lent "1")) ∷ (lent "a", Some (lent "2")) ∷ [])))

-- ---- mailboxes

abbrev pub flags : ResponseValue
flags = MailboxData (datum.Flags (lent "\\Answered" ∷ lent "\\*" ∷ []))

abbrev pub a_status : ResponseValue
a_status =
    MailboxData
    (datum.Status (lent "x")
    (item.HighestModSeq 1
    ∷ item.Messages 2
    ∷ item.Recent 3
    ∷ item.UidNext 4
    ∷ item.UidValidity 5
    ∷ item.Unseen 6
    ∷ []))

abbrev pub annotations : ResponseValue
annotations =
    MailboxData
    (datum.MetadataSolicited (lent "x")
    (record { entry = codes "/shared/admin"; value = Some (codes "a") }
    ∷ record { entry = codes "/shared/comment"; value = None }
    ∷ []))

abbrev pub changed_annotations : ResponseValue
changed_annotations =
    MailboxData
    (datum.MetadataUnsolicited (lent "x") (lent "/shared/admin" ∷ lent "/shared/comment" ∷ []))

-- ---- rights

abbrev pub a_list_of_rights : ResponseValue
a_list_of_rights =
    Acl (record {
      mailbox = lent "INBOX";
      acls =
          record { identifier = lent "Fred"; rights = right.Lookup ∷ right.Custom 122 ∷ [] }
          ∷ record { identifier = lent "b"; rights = right.Read ∷ [] }
          ∷ [];
    })

abbrev possible : List AclRight → ResponseValue
possible optional =
    ListRights (record {
      mailbox = lent "INBOX";
      identifier = lent "smith";
      required = right.Lookup ∷ right.Administer ∷ [];
      optional = optional;
    })

abbrev pub possible_rights : ResponseValue
possible_rights = possible (right.Read ∷ right.Seen ∷ right.Write ∷ [])

abbrev pub no_further_rights : ResponseValue
no_further_rights = possible []

abbrev pub own_rights : ResponseValue
own_rights = MyRights (record { mailbox = lent "x"; rights = right.Write ∷ right.Lookup ∷ [] })

-- ---- names of mailboxes, and quotas

abbrev pub a_quota_root : ResponseValue
a_quota_root =
    QuotaRoot (record {
      mailbox_name = lent "x";
      quota_root_names = lent "" ∷ lent "user" ∷ [];
    })

abbrev pub a_name : ResponseValue
a_name =
    MailboxData (Listed (record {
      name_attributes = Extension (lent "\\HasNoChildren") ∷ [];
      delimiter = Some (lent "/");
      name = lent "INBOX";
    }))

abbrev pub a_quota_of_any_name : ResponseValue
a_quota_of_any_name =
    Quota (record {
      root_name = lent "";
      resources = record { name = Atom (lent "STORAGE"); usage = 1; limit = 2 } ∷ [];
    })

abbrev pub a_quota : ResponseValue
a_quota =
    Quota (record {
      root_name = lent "";
      resources = record { name = Storage; usage = 1; limit = 2 } ∷ [];
    })

abbrev pub enabled : ResponseValue
enabled = Capabilities (AtomCapability (lent "IMAP4rev1x") ∷ [])

-- information that begins as a code does
abbrev pub a_bracket : ResponseValue
a_bracket = Data Ok (record { code = None; information = Some (lent "[BADCHARSET ({5}") })

abbrev pub gone_earlier : ResponseValue
gone_earlier = Vanished true (fresh 41 41 ∷ fresh 43 116 ∷ [])

abbrev pub gone : ResponseValue
gone = Vanished false (fresh 4 2 ∷ [])

-- ---- FETCH

abbrev pub a_label : ResponseValue
a_label = Fetch 1 (GmailLabels (lent "\\\\" ∷ []) ∷ [])

abbrev pub unknown : ResponseValue
unknown = Fetch 1 (Unknown ∷ Uid 4 ∷ [])

abbrev pub numbers : ResponseValue
numbers =
    Fetch 1
    (attribute.Flags (lent "\\Seen" ∷ lent "a" ∷ [])
    ∷ attribute.ModSeq 5
    ∷ attribute.Rfc822Size 7
    ∷ attribute.GmailMsgId 8
    ∷ attribute.GmailThrId 9
    ∷ [])

abbrev pub texts : ResponseValue
texts =
    Fetch 1
    (attribute.InternalDate (lent "d")
    ∷ attribute.Rfc822 (Some (lent "a"))
    ∷ attribute.Rfc822Header None
    ∷ attribute.Rfc822Text (Some (lent "b"))
    ∷ attribute.EmailId (lent "M1")
    ∷ attribute.ThreadId (Some (lent "T6"))
    ∷ attribute.ThreadId None
    ∷ [])

abbrev pub a_save_date : ResponseValue
a_save_date = Fetch 1 (attribute.SaveDate (Some (lent "x")) ∷ [])

abbrev pub no_save_date : ResponseValue
no_save_date = Fetch 1 (Unknown ∷ attribute.SaveDate None ∷ [])

abbrev pub a_section : ResponseValue
a_section =
    Fetch 1
    (attribute.BodySection (Some (Part (1 ∷ 2 ∷ []) (Some Mime))) (Some 0) (Some (lent "a"))
    ∷ attribute.BodySection None None None
    ∷ [])

abbrev gray : AddressValue
gray =
    record {
      name = Some (lent "T");
      adl = None;
      mailbox = Some (lent "gray");
      host = Some (lent "cac");
    }

abbrev sent : EnvelopeValue
sent = record {
  date = Some (lent "d");
  subject = Some (lent "s");
  from = Some (gray ∷ []);
  sender = None;
  reply_to = None;
  to = None;
  cc = None;
  bcc = None;
  in_reply_to = None;
  message_id = Some (lent "<i>");
}

abbrev pub an_envelope : ResponseValue
an_envelope = Fetch 12 (Envelope sent ∷ [])

abbrev text_of_type : String → Option DispositionValue → CommonValue
text_of_type subtype disposition =
    record {
      ty = record { ty = lent "TEXT"; subtype = lent subtype; params = None };
      disposition = disposition;
      language = None;
      location = None;
    }

abbrev five_octets : EncodingValue → SingleValue
five_octets encoding =
    record {
      id = None;
      md5 = None;
      description = None;
      transfer_encoding = encoding;
      octets = 5;
    }

abbrev inline : DispositionValue
inline = record { ty = lent "inline"; params = None }

abbrev a_text_body : BodyValue
a_text_body = TextBody (text_of_type "plain" (Some inline)) (five_octets SevenBit) 1 None

abbrev pub a_text : ResponseValue
a_text = Fetch 1 (BodyStructure a_text_body ∷ [])

-- a basic body, though its type says otherwise
abbrev a_basic_body : BodyValue
a_basic_body = Basic (text_of_type "PLAIN" None) (five_octets (Other (lent "7BIT"))) None

abbrev pub a_basic : ResponseValue
a_basic = Fetch 1 (BodyStructure a_basic_body ∷ [])

-- ---- bodies of several kinds

abbrev attached : DispositionValue
attached = record { ty = lent "attachment"; params = Some ((lent "f", lent "g") ∷ []) }

abbrev with_all_fields : String → String → CommonValue
with_all_fields ty subtype =
    record {
      ty = record { ty = lent ty; subtype = lent subtype; params = Some ((lent "p", lent "q") ∷ []) };
      disposition = Some attached;
      language = Some (lent "en" ∷ lent "de" ∷ []);
      location = Some (lent "l");
    }

abbrev nine_octets : SingleValue
nine_octets =
    record {
      id = Some (lent "i");
      md5 = Some (lent "m");
      description = Some (lent "d");
      transfer_encoding = EightBit;
      octets = 9;
    }

abbrev nobody : EnvelopeValue
nobody = record {
  date = None;
  subject = None;
  from = None;
  sender = None;
  reply_to = None;
  to = None;
  cc = None;
  bcc = None;
  in_reply_to = None;
  message_id = None;
}

abbrev a_message_body : BodyValue
a_message_body =
    Message (with_all_fields "MESSAGE" "RFC822") nine_octets nobody a_text_body 2 (Some (Num 3))

abbrev pub a_message : ResponseValue
a_message = Fetch 1 (BodyStructure a_message_body ∷ [])

abbrev a_multipart_body : BodyValue
a_multipart_body =
    Multipart (with_all_fields "MULTIPART" "MIXED")
    (one_body a_text_body (one_body a_basic_body no_bodies))
    (Some (ListOf (one_extension (Str None) (one_extension (Str (Some (lent "e"))) no_extensions))))

abbrev pub a_multipart : ResponseValue
a_multipart = Fetch 1 (BodyStructure a_multipart_body ∷ [])
