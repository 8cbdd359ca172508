-- Attributes of a message, responses, and skipped lines.
use Rattle.std.proofs.Common.{◌≡◌, [], ◌∷◌, refl, ap, codes}
use Rattle.imap_grammar.specs.Text.{Bytes, as_text}
use Rattle.imap_body.specs.AttributeValues.{AttributeValue}
use Rattle.imap_body.specs.AttributeValues as attribute
use Rattle.imap_body.specs.Changed.{lent_attribute}
use Rattle.imap_proto.specs.Responses.{ResponseValue, lent_outcome, lent_response}
use Rattle.imap_proto.specs.Responses as response
use Rattle.imap_json.specs.Forms.{string_json, number_json, option_json, object_json, variant_json}
use Rattle.imap_json.specs.Statuses.{status_json}
use Rattle.imap_json.specs.Sections.{path_json}
use Rattle.imap_json.specs.Attributes.{attribute_json}
use Rattle.imap_json.specs.Responses.{outcome_json, kind_json, json_of}
use Rattle.imap_json.specs.Skipped.{skipped_json}
use Rattle.imap_json.specs.Laws.{IsFaithful}
use Rattle.imap_json.proofs.Faithful.{names_apart, inner, part, numbers, flags, strings, lists, plain_lists, plain_options}
use Rattle.imap_json.proofs.FaithfulTexts.{texts, ntexts, byte_strings, ranges}
use Rattle.imap_json.proofs.FaithfulItems.{statuses, capabilities, paths}
use Rattle.imap_json.proofs.FaithfulData.{response_codes, mailbox_data}
use Rattle.imap_json.proofs.FaithfulLines.{quotas, quota_roots, optional_ids, acls, list_rights, my_rights}
use Rattle.imap_json.proofs.FaithfulBodies.{nbytes, envelopes, bodies}

-- ---- attributes

attributes_apart : (a b : AttributeValue) → attribute_json a ≡ attribute_json b → lent_attribute a ≡ lent_attribute b
attributes_apart (attribute.BodySection s n c) (attribute.BodySection t m d) h =
    let p = paths.apart s t (ap (λ x. part 0 (inner x)) h) in
    let q = (plain_options numbers (λ k. refl)).apart n m (ap (λ x. part 1 (inner x)) h) in
    let r = nbytes.apart c d (ap (λ x. part 2 (inner x)) h) in
    λ i. attribute.BodySection (p i) (q i) (r i)
attributes_apart (attribute.BodyStructure x) (attribute.BodyStructure y) h = ap attribute.BodyStructure (bodies.apart x y (ap inner h))
attributes_apart (attribute.Envelope x) (attribute.Envelope y) h = ap attribute.Envelope (envelopes.apart x y (ap inner h))
attributes_apart (attribute.Flags x) (attribute.Flags y) h = ap attribute.Flags ((lists texts).apart x y (ap inner h))
attributes_apart (attribute.InternalDate x) (attribute.InternalDate y) h = ap attribute.InternalDate (texts.apart x y (ap inner h))
attributes_apart (attribute.ModSeq x) (attribute.ModSeq y) h = ap attribute.ModSeq (numbers.apart x y (ap inner h))
attributes_apart (attribute.Rfc822 x) (attribute.Rfc822 y) h = ap attribute.Rfc822 (nbytes.apart x y (ap inner h))
attributes_apart (attribute.Rfc822Header x) (attribute.Rfc822Header y) h = ap attribute.Rfc822Header (nbytes.apart x y (ap inner h))
attributes_apart (attribute.Rfc822Size x) (attribute.Rfc822Size y) h = ap attribute.Rfc822Size (numbers.apart x y (ap inner h))
attributes_apart (attribute.Rfc822Text x) (attribute.Rfc822Text y) h = ap attribute.Rfc822Text (nbytes.apart x y (ap inner h))
attributes_apart (attribute.Uid x) (attribute.Uid y) h = ap attribute.Uid (numbers.apart x y (ap inner h))
attributes_apart (attribute.GmailLabels x) (attribute.GmailLabels y) h = ap attribute.GmailLabels ((lists texts).apart x y (ap inner h))
attributes_apart (attribute.GmailMsgId x) (attribute.GmailMsgId y) h = ap attribute.GmailMsgId (numbers.apart x y (ap inner h))
attributes_apart (attribute.GmailThrId x) (attribute.GmailThrId y) h = ap attribute.GmailThrId (numbers.apart x y (ap inner h))
attributes_apart (attribute.EmailId x) (attribute.EmailId y) h = ap attribute.EmailId (texts.apart x y (ap inner h))
attributes_apart (attribute.ThreadId x) (attribute.ThreadId y) h = ap attribute.ThreadId (ntexts.apart x y (ap inner h))
attributes_apart (attribute.SaveDate x) (attribute.SaveDate y) h = ap attribute.SaveDate (ntexts.apart x y (ap inner h))
attributes_apart attribute.Unknown attribute.Unknown h = refl
attributes_apart a b h = absurd (names_apart _ _ refl h)

attributes_alike : (a : AttributeValue) → attribute_json (lent_attribute a) ≡ attribute_json a
attributes_alike (attribute.BodySection s n c) =
    let r = nbytes.alike c in
    λ i. variant_json (codes "BodySection") (object_json ((codes "section", option_json path_json s) ∷ (codes "index", option_json number_json n) ∷ (codes "contents", r i) ∷ []))
attributes_alike (attribute.BodyStructure x) = ap (variant_json (codes "BodyStructure")) (bodies.alike x)
attributes_alike (attribute.Envelope x) = ap (variant_json (codes "Envelope")) (envelopes.alike x)
attributes_alike (attribute.Flags x) = ap (variant_json (codes "Flags")) ((lists texts).alike x)
attributes_alike (attribute.Rfc822 x) = ap (variant_json (codes "Rfc822")) (nbytes.alike x)
attributes_alike (attribute.Rfc822Header x) = ap (variant_json (codes "Rfc822Header")) (nbytes.alike x)
attributes_alike (attribute.Rfc822Text x) = ap (variant_json (codes "Rfc822Text")) (nbytes.alike x)
attributes_alike (attribute.GmailLabels x) = ap (variant_json (codes "GmailLabels")) ((lists texts).alike x)
attributes_alike (attribute.ThreadId x) = ap (variant_json (codes "ThreadId")) (ntexts.alike x)
attributes_alike (attribute.SaveDate x) = ap (variant_json (codes "SaveDate")) (ntexts.alike x)
attributes_alike other = refl

attributes : IsFaithful attribute_json lent_attribute
attributes = record { apart = attributes_apart; alike = attributes_alike }

-- ---- responses

outcomes : IsFaithful outcome_json lent_outcome
outcomes = record {
  apart = λ a b h.
      let p = response_codes.apart a.code b.code (ap (part 0) h) in
      let q = ntexts.apart a.information b.information (ap (part 1) h) in
      λ i. record { code = p i; information = q i };
  alike = λ a.
      let p = response_codes.alike a.code in
      let q = ntexts.alike a.information in
      λ i. object_json ((codes "code", p i) ∷ (codes "information", q i) ∷ []);
}

pub responses_apart : (a b : ResponseValue) → json_of a ≡ json_of b → lent_response a ≡ lent_response b
responses_apart (response.Capabilities x) (response.Capabilities y) h = ap response.Capabilities ((lists capabilities).apart x y (ap (part 1) h))
responses_apart (response.Continue x) (response.Continue y) h = ap response.Continue (outcomes.apart x y (ap (part 1) h))
responses_apart (response.Done s k x) (response.Done t l y) h =
    let p = strings.apart s t (ap (part 1) h) in
    let q = statuses.apart k l (ap (part 2) h) in
    let r = outcomes.apart x y (ap (part 3) h) in
    λ i. response.Done (p i) (q i) (r i)
responses_apart (response.«Data» k x) (response.«Data» l y) h =
    let q = statuses.apart k l (ap (part 1) h) in
    let r = outcomes.apart x y (ap (part 2) h) in
    λ i. response.«Data» (q i) (r i)
responses_apart (response.Expunge x) (response.Expunge y) h = ap response.Expunge (numbers.apart x y (ap (part 1) h))
responses_apart (response.Vanished e x) (response.Vanished f y) h =
    let p = flags.apart e f (ap (part 1) h) in
    let q = (plain_lists ranges).apart x y (ap (part 2) h) in
    λ i. response.Vanished (p i) (q i)
responses_apart (response.Fetch n x) (response.Fetch m y) h =
    let p = numbers.apart n m (ap (part 1) h) in
    let q = (lists attributes).apart x y (ap (part 2) h) in
    λ i. response.Fetch (p i) (q i)
responses_apart (response.MailboxData x) (response.MailboxData y) h = ap response.MailboxData (mailbox_data.apart x y (ap (part 1) h))
responses_apart (response.Quota x) (response.Quota y) h = ap response.Quota (quotas.apart x y (ap (part 1) h))
responses_apart (response.QuotaRoot x) (response.QuotaRoot y) h = ap response.QuotaRoot (quota_roots.apart x y (ap (part 1) h))
responses_apart (response.Id x) (response.Id y) h = ap response.Id (optional_ids.apart x y (ap (part 1) h))
responses_apart (response.Acl x) (response.Acl y) h = ap response.Acl (acls.apart x y (ap (part 1) h))
responses_apart (response.ListRights x) (response.ListRights y) h = ap response.ListRights (list_rights.apart x y (ap (part 1) h))
responses_apart (response.MyRights x) (response.MyRights y) h = ap response.MyRights (my_rights.apart x y (ap (part 1) h))
responses_apart a b h = absurd (names_apart _ _ refl (ap (part 0) h))

responses_alike : (a : ResponseValue) → json_of (lent_response a) ≡ json_of a
responses_alike (response.Capabilities x) = let p = (lists capabilities).alike x in λ i. kind_json (codes "capabilities") ((codes "capabilities", p i) ∷ [])
responses_alike (response.Continue x) = let p = outcomes.alike x in λ i. kind_json (codes "continue") ((codes "outcome", p i) ∷ [])
responses_alike (response.Done t k x) = let p = outcomes.alike x in λ i. kind_json (codes "done") ((codes "tag", string_json t) ∷ (codes "status", status_json k) ∷ (codes "outcome", p i) ∷ [])
responses_alike (response.«Data» k x) = let p = outcomes.alike x in λ i. kind_json (codes "data") ((codes "status", status_json k) ∷ (codes "outcome", p i) ∷ [])
responses_alike (response.Fetch n x) = let p = (lists attributes).alike x in λ i. kind_json (codes "fetch") ((codes "number", number_json n) ∷ (codes "attributes", p i) ∷ [])
responses_alike (response.MailboxData x) = let p = mailbox_data.alike x in λ i. kind_json (codes "mailboxdata") ((codes "datum", p i) ∷ [])
responses_alike (response.Quota x) = let p = quotas.alike x in λ i. kind_json (codes "quota") ((codes "quota", p i) ∷ [])
responses_alike (response.QuotaRoot x) = let p = quota_roots.alike x in λ i. kind_json (codes "quotaroot") ((codes "quota_root", p i) ∷ [])
responses_alike (response.Id x) = let p = optional_ids.alike x in λ i. kind_json (codes "id") ((codes "id", p i) ∷ [])
responses_alike (response.Acl x) = let p = acls.alike x in λ i. kind_json (codes "acl") ((codes "acl", p i) ∷ [])
responses_alike (response.ListRights x) = let p = list_rights.alike x in λ i. kind_json (codes "listrights") ((codes "list_rights", p i) ∷ [])
responses_alike (response.MyRights x) = let p = my_rights.alike x in λ i. kind_json (codes "myrights") ((codes "my_rights", p i) ∷ [])
responses_alike other = refl

pub responses : IsFaithful json_of lent_response
responses = record { apart = responses_apart; alike = responses_alike }

-- ---- skipped lines

pub skipped_apart : (a b : Bytes) → skipped_json a ≡ skipped_json b → a ≡ b
skipped_apart a b h = ap (λ t. t.bytes) (byte_strings.apart (as_text a) (as_text b) (ap (part 1) h))
