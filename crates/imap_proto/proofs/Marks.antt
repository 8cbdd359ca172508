-- A text's mark is whether it is borrowed. Where all texts of a response are marked alike twice, the later mark stays.
use Rattle.std.proofs.Common.{◌≡◌, Bool, true, false, ap, refl}
use Rattle.imap_shared.specs.Capabilities.{changed_capability}
use Rattle.imap_grammar.proofs.Marks.{LaterStays, lists, options, ntext}
use Rattle.imap_shared.proofs.Marks.{capability}
use Rattle.imap_extensions.specs.Ids.{changed_id}
use Rattle.imap_extensions.proofs.Marks.{quota, quota_root, id_map, acl}
use Rattle.imap_data.specs.Codes.{changed_code}
use Rattle.imap_data.proofs.Marks.{code, datum}
use Rattle.imap_body.specs.Changed.{changed_attribute}
use Rattle.imap_body.proofs.Marks.{attribute}
use Rattle.imap_proto.specs.Responses.{OutcomeValue, ResponseValue, changed_outcome, changed_response, lent_outcome, lent_response}
use Rattle.imap_proto.specs.Responses as said
use Rattle.imap_proto.specs.LineTexts.{Same}
use Rattle.imap_proto.specs.Owned.{owned_outcome, owned_response}

-- marked with b, and then with a
module _ (a b : Bool) where
  outcome : LaterStays a b changed_outcome
  outcome o = rw (options a b changed_code (code a b) o.code, ntext a b o.information) refl

  response : LaterStays a b changed_response
  response (said.Capabilities cs) = ap (λ x. said.Capabilities x) (lists a b changed_capability (capability a b) cs)
  response (said.Continue o) = ap (λ x. said.Continue x) (outcome o)
  response (said.Done tag status o) = ap (λ x. said.Done tag status x) (outcome o)
  response (said.Data status o) = ap (λ x. said.Data status x) (outcome o)
  response (said.Fetch n attributes) = ap (λ x. said.Fetch n x) (lists a b changed_attribute (attribute a b) attributes)
  response (said.MailboxData d) = ap (λ x. said.MailboxData x) (datum a b d)
  response (said.Quota q) = ap (λ x. said.Quota x) (quota a b q)
  response (said.QuotaRoot q) = ap (λ x. said.QuotaRoot x) (quota_root a b q)
  response (said.Id m) = ap (λ x. said.Id x) (options a b changed_id (id_map a b) m)
  response (said.Acl list) = ap (λ x. said.Acl x) (acl a b list)
  response other = refl

-- a response with its texts borrowed is the same response, and so is an owned one
pub lent_is_same : (r : ResponseValue) → Same (lent_response r) r
lent_is_same = response true true

pub owned_is_same : (r : ResponseValue) → Same (owned_response r) r
owned_is_same = response true false

-- to borrow all texts and then own them is to own them
pub owned_lent_outcome : (o : OutcomeValue) → owned_outcome (lent_outcome o) ≡ owned_outcome o
owned_lent_outcome = outcome false true

pub owned_lent_response : (r : ResponseValue) → owned_response (lent_response r) ≡ owned_response r
owned_lent_response = response false true
