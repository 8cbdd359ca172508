-- What `==` tells of outcomes and responses, and of what stands in a stream.
use Rattle.std.proofs.Common.{rules, ◌≡◌, ℕ, refl, ap, true, map, nat_eq, Bool, ◌&&◌, Global, Vec}
use Rattle.std.specs.Bool.{beq}
use Rattle.std.specs.Option.{option_map, option_eq}
use Rattle.std.specs.Cow.{cow_str_bytes}
use Rattle.std.specs.String.{string_bytes}
use Rattle.std.specs.Cmp.Lexicographic.{pointwise}
use Rattle.std.specs.declared.borrow.CowStr.{CowStr}
use Rattle.std.specs.declared.borrow.CowSlice.{CowSlice}
use Rattle.std.specs.declared.ops.RangeInclusive.{RangeInclusive}
use Rattle.imap_grammar.specs.Ranges.{range_of}
use Rattle.std.proofs.lemmas.Bool.{and_parts, and_from}
use Rattle.imap_grammar.specs.Text.{text_of, lent_text}
use Rattle.imap_grammar.specs.Equality.{Tells}
use Rattle.imap_grammar.proofs.Seen.{unequal, kinds_apart, numbers_tell, text_tells, texts_tell, items_tell, lists_tell, options_tell}
use Rattle.imap_shared.specs.Capabilities.{capability_value, lent_capability}
use Rattle.imap_shared.proofs.Capabilities.{capability_tells}
use Rattle.imap_shared.specs.contracts.types.statuses.StatusPartialEq.TheImpl as status_eq
use Rattle.imap_shared.specs.contracts.types.capabilities.CapabilityPartialEq.TheImpl as capability_eq
use Rattle.imap_extensions.specs.Ids.{id_value, lent_id}
use Rattle.imap_extensions.proofs.Ids.{tables_tell}
use Rattle.imap_extensions.proofs.Quotas.{quotas_tell, roots_tell}
use Rattle.imap_extensions.proofs.Acls.{acl_tells, list_rights_tell, my_rights_tell}
use Rattle.imap_body.specs.AttributeValues.{attribute_value}
use Rattle.imap_body.specs.Changed.{lent_attribute}
use Rattle.imap_data.specs.Codes.{code_value, lent_code}
use Rattle.imap_data.proofs.Codes.{code_tells}
use Rattle.imap_data.specs.contracts.types.codes.ResponseCodePartialEq.TheImpl as code_eq
use Rattle.imap_data.proofs.MailboxData.{data_tell}
use Rattle.imap_body_types.proofs.Equality.{both_tell, named_tell, field}
use Rattle.imap_body_types.specs.declared.shapes.bodies.BodyStructure.{BodyStructure}
use Rattle.imap_body.specs.declared.attributes.AttributeParts.{AttributeParts}
use Rattle.imap_proto.specs.Responses.{ResponseValue, outcome_value, response_value, lent_outcome, lent_response}
use Rattle.imap_proto.specs.Responses as said
use Rattle.imap_proto.specs.Feeds.{lent_whole}
use Rattle.imap_proto.specs.declared.response.Response.{Response}
use Rattle.imap_proto.specs.declared.response.Response.TheVariants as variant
use Rattle.imap_proto.specs.declared.whole.Whole.{Whole}
use Rattle.imap_proto.specs.contracts.outcome.OutcomePartialEq.TheImpl as outcome_eq
use Rattle.imap_proto.specs.contracts.response.RequestIdPartialEq.TheImpl as tag_eq
use Rattle.imap_proto.specs.contracts.response.ResponsePartialEq.TheImpl as response_eq
use Rattle.imap_proto.specs.contracts.stream.EndPartialEq.TheImpl as end_eq

-- ---- outcomes

codes_tell : Tells (option_eq (code_eq.eq-value).it) (λ c. option_map lent_code (option_map code_value c))
codes_tell = options_tell (code_eq.eq-value).it code_value lent_code code_tells

information_tells : Tells (option_eq (λ (x y : CowStr Global). pointwise nat_eq (cow_str_bytes x) (cow_str_bytes y))) (λ t. option_map lent_text (option_map text_of t))
information_tells = options_tell (λ x y. pointwise nat_eq (cow_str_bytes x) (cow_str_bytes y)) text_of lent_text texts_tell

pub outcome_tells : Tells (outcome_eq.eq-value).it (λ o. lent_outcome (outcome_value o))
outcome_tells = named_tell (both_tell (field (λ o. o.code) codes_tell) (field (λ o. o.information) information_tells)) (λ v. record { code = v.0; information = v.1 }) (λ o. (o.code, o.information)) (λ v. refl)

-- ---- responses

tags_tell : Tells (tag_eq.eq-value).it (λ tag. string_bytes tag.0)
tags_tell = search rules

statuses_tell : Tells (status_eq.eq-value).it (λ s. s)
statuses_tell = search rules

capabilities_tell : Tells (pointwise (capability_eq.eq-value).it) (λ xs. map lent_capability (map capability_value xs))
capabilities_tell = lists_tell (capability_eq.eq-value).it capability_value lent_capability capability_tells

flags_tell : Tells beq (λ b. b)
flags_tell = search rules

ranges_tell : Tells (λ (x y : RangeInclusive ℕ). nat_eq x.start y.start && (nat_eq x.end y.end && beq x.exhausted y.exhausted)) range_of
ranges_tell = search rules

-- attributes of a message: where `==` tells one by what it says
abbrev Attribute : Type 0
Attribute = AttributeParts (CowStr Global) (CowSlice ℕ Global) (BodyStructure (CowStr Global) (CowSlice ℕ Global))

abbrev fetch : ℕ × Vec Attribute Global → Response
fetch p = variant.Fetch p.0 p.1

abbrev pub FetchesTold : Type 0
FetchesTold = Tells (λ p q. (response_eq.eq-value).it (fetch p) (fetch q)) (λ p. lent_response (response_value (fetch p)))

pub fetches_tell : (eq : Attribute → Attribute → Bool) → Tells eq (λ x. lent_attribute (attribute_value x))
    → Tells (λ (p q : ℕ × Vec Attribute Global). nat_eq p.0 q.0 && pointwise eq p.1.items q.1.items) (λ p. lent_response (response_value (fetch p)))
fetches_tell eq t = record {
  same = λ p q h. let parts = and_parts _ _ h in (λ i. said.Fetch (numbers_tell.same p.0 q.0 parts.0 i) ((lists_tell eq attribute_value lent_attribute t).same p.1.items q.1.items parts.1 i));
  equal = λ p q h. and_from _ _ (numbers_tell.equal p.0 q.0 cc) ((lists_tell eq attribute_value lent_attribute t).equal p.1.items q.1.items cc);
}

ends_tell : Tells (end_eq.eq-value).it (λ e. e)
ends_tell = search rules

-- the number of its kind
abbrev kind_of : ResponseValue → ℕ
kind_of (said.Capabilities _) = 0
kind_of (said.Continue _) = 1
kind_of (said.Done _ _ _) = 2
kind_of (said.Data _ _) = 3
kind_of (said.Expunge _) = 4
kind_of (said.Vanished _ _) = 5
kind_of (said.Fetch _ _) = 6
kind_of (said.MailboxData _) = 7
kind_of (said.Quota _) = 8
kind_of (said.QuotaRoot _) = 9
kind_of (said.Id _) = 10
kind_of (said.Acl _) = 11
kind_of (said.ListRights _) = 12
kind_of (said.MyRights _) = 13

module _ (fetches : FetchesTold) where
  response_same : (x y : Response) → (response_eq.eq-value).it x y ≡ true → lent_response (response_value x) ≡ lent_response (response_value y)
  response_same (variant.Capabilities x) (variant.Capabilities y) h = ap said.Capabilities (capabilities_tell.same x.items y.items h)
  response_same (variant.Continue x) (variant.Continue y) h = ap said.Continue (outcome_tells.same x y h)
  response_same (variant.Done tag status x) (variant.Done other kind y) h =
      let parts = and_parts _ _ h in
      let more = and_parts _ _ parts.1 in
      (λ i. said.Done (tags_tell.same tag other parts.0 i) (statuses_tell.same status kind more.0 i) (outcome_tells.same x y more.1 i))
  response_same (variant.«Data» status x) (variant.«Data» kind y) h = let parts = and_parts _ _ h in (λ i. said.Data (statuses_tell.same status kind parts.0 i) (outcome_tells.same x y parts.1 i))
  response_same (variant.Expunge x) (variant.Expunge y) h = ap said.Expunge (numbers_tell.same x y h)
  response_same (variant.Vanished e x) (variant.Vanished f y) h =
      let parts = and_parts _ _ h in (λ i. said.Vanished (flags_tell.same e f parts.0 i) ((items_tell _ range_of ranges_tell).same x.items y.items parts.1 i))
  response_same (variant.Fetch m x) (variant.Fetch n y) h = fetches.same (m, x) (n, y) h
  response_same (variant.MailboxData x) (variant.MailboxData y) h = ap said.MailboxData (data_tell.same x y h)
  response_same (variant.Quota x) (variant.Quota y) h = ap said.Quota (quotas_tell.same x y h)
  response_same (variant.QuotaRoot x) (variant.QuotaRoot y) h = ap said.QuotaRoot (roots_tell.same x y h)
  response_same (variant.Id x) (variant.Id y) h = ap said.Id ((options_tell _ id_value lent_id tables_tell).same x y h)
  response_same (variant.Acl x) (variant.Acl y) h = ap said.Acl (acl_tells.same x y h)
  response_same (variant.ListRights x) (variant.ListRights y) h = ap said.ListRights (list_rights_tell.same x y h)
  response_same (variant.MyRights x) (variant.MyRights y) h = ap said.MyRights (my_rights_tell.same x y h)
  response_same x y h = absurd (unequal h)

  response_equal : (x y : Response) → lent_response (response_value x) ≡ lent_response (response_value y) → (response_eq.eq-value).it x y ≡ true
  response_equal (variant.Capabilities x) (variant.Capabilities y) h = capabilities_tell.equal x.items y.items cc
  response_equal (variant.Continue x) (variant.Continue y) h = outcome_tells.equal x y cc
  response_equal (variant.Done tag status x) (variant.Done other kind y) h = and_from _ _ (tags_tell.equal tag other cc) (and_from _ _ (statuses_tell.equal status kind cc) (outcome_tells.equal x y cc))
  response_equal (variant.«Data» status x) (variant.«Data» kind y) h = and_from _ _ (statuses_tell.equal status kind cc) (outcome_tells.equal x y cc)
  response_equal (variant.Expunge x) (variant.Expunge y) h = numbers_tell.equal x y cc
  response_equal (variant.Vanished e x) (variant.Vanished f y) h = and_from _ _ (flags_tell.equal e f cc) ((items_tell _ range_of ranges_tell).equal x.items y.items cc)
  response_equal (variant.Fetch m x) (variant.Fetch n y) h = fetches.equal (m, x) (n, y) h
  response_equal (variant.MailboxData x) (variant.MailboxData y) h = data_tell.equal x y cc
  response_equal (variant.Quota x) (variant.Quota y) h = quotas_tell.equal x y cc
  response_equal (variant.QuotaRoot x) (variant.QuotaRoot y) h = roots_tell.equal x y cc
  response_equal (variant.Id x) (variant.Id y) h = (options_tell _ id_value lent_id tables_tell).equal x y cc
  response_equal (variant.Acl x) (variant.Acl y) h = acl_tells.equal x y cc
  response_equal (variant.ListRights x) (variant.ListRights y) h = list_rights_tell.equal x y cc
  response_equal (variant.MyRights x) (variant.MyRights y) h = my_rights_tell.equal x y cc
  response_equal x y h = absurd (kinds_apart kind_of _ _ refl h)

  pub response_tells : Tells (response_eq.eq-value).it (λ r. lent_response (response_value r))
  response_tells = record { same = response_same; equal = response_equal }

  responses_tell : Tells (pointwise (response_eq.eq-value).it) (λ xs. map lent_response (map response_value xs))
  responses_tell = lists_tell (response_eq.eq-value).it response_value lent_response response_tells

  abbrev whole_same : Whole Response → Whole Response → Bool
  whole_same w x = pointwise (response_eq.eq-value).it w.responses.items x.responses.items && (pointwise nat_eq w.rest.items x.rest.items && (end_eq.eq-value).it w.end x.end)

  pub whole_tells : Tells whole_same lent_whole
  whole_tells = both_tell (field (λ w. w.responses.items) responses_tell) (both_tell (field (λ w. w.rest.items) text_tells) (field (λ w. w.end) ends_tell))
