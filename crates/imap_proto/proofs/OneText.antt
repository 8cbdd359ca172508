-- Responses that say the same have one canonical text, whichever of their texts are borrowed, and are of the two kinds
-- that are not read back alike.
use Rattle.std.proofs.Common.{◌≡◌, None, Some, refl, sym, ap, subst, ◌∙◌, ◌++◌}
use Rattle.std.specs.List.{list_any}
use Rattle.std.specs.Option.{option_map}
use Rattle.imap_grammar.specs.Rule.{meaning}
use Rattle.imap_grammar.specs.Text.{lent_text}
use Rattle.imap_grammar.specs.Pieces.{Pieces, ◌then◌, words, raw, space, number_text, plain, written}
use Rattle.imap_grammar.proofs.OneText.{Keeps, one_text}
use Rattle.imap_shared.specs.StatusTexts.{canonical_status}
use Rattle.imap_data.specs.Codes.{lent_code}
use Rattle.imap_data.proofs.OneText.{response_code, capabilities, datum, quota, quota_root, id, acl}
use Rattle.imap_body.proofs.OneText.{attributes}
use Rattle.imap_proto.specs.Lines.{response as rule}
use Rattle.imap_proto.specs.Responses.{OutcomeValue, ResponseValue, lent_outcome, lent_response}
use Rattle.imap_proto.specs.Responses as said
use Rattle.imap_proto.specs.OutcomeTexts.{canonical_parts, canonical_outcome, canonical_spaced_parts, canonical_spaced, is_like_code, is_bracketed}
use Rattle.imap_proto.specs.LineTexts.{line_end, canonical_response, canonical_bytes, has_bracket, is_too_long, SaidAlike, SameReadsBack}
use Rattle.imap_proto.proofs.LineTexts.{canonical_reads_back}

-- ---- outcomes

outcome : Keeps lent_outcome canonical_outcome
outcome o = go o.code o.information
  where
    go : (c : _) (t : _) → canonical_parts (option_map lent_code c) (option_map lent_text t) ≡ canonical_parts c t
    go None None = refl
    go None (Some t) = refl
    go (Some c) None = response_code c
    go (Some c) (Some t) = ap (λ x. x then space then plain t) (response_code c)

spaced : Keeps lent_outcome canonical_spaced
spaced o = go o.code o.information
  where
    go : (c : _) (t : _) → canonical_spaced_parts (option_map lent_code c) (option_map lent_text t) ≡ canonical_spaced_parts c t
    go None None = refl
    go None (Some t) = refl
    go (Some c) None = ap (λ x. space then x) (response_code c)
    go (Some c) (Some t) = ap (λ x. space then x then space then plain t) (response_code c)

bracket : (o : OutcomeValue) → is_bracketed (lent_outcome o) ≡ is_bracketed o
bracket o = go o.code o.information
  where
    go : (c : _) (t : _) → is_like_code (option_map lent_code c) (option_map lent_text t) ≡ is_like_code c t
    go None None = refl
    go None (Some t) = refl
    go (Some c) t = refl

-- ---- responses

-- behind `* ` and before the end of the line
in_line : Pieces → Pieces
in_line x = words "* " then x then line_end

response : Keeps lent_response canonical_response
unfolding in_line
response (said.Continue o) = ap (λ x. words "+" then space then x then line_end) (outcome o)
response (said.Done tag status o) = ap (λ x. raw tag then space then canonical_status status then x then line_end) (spaced o)
response (said.Data status o) = ap (λ x. in_line (canonical_status status then x)) (spaced o)
response (said.MailboxData d) = ap in_line (datum d)
response (said.Fetch n vs) = ap (λ x. in_line (number_text n then words " FETCH " then x)) (attributes vs)
response (said.Capabilities cs) = ap in_line (capabilities cs)
response (said.Quota q) = ap in_line (quota q)
response (said.QuotaRoot q) = ap in_line (quota_root q)
response (said.Id ps) = ap in_line (id ps)
response (said.Acl a) = ap in_line (acl a)
response other = refl

brackets : (r : ResponseValue) → has_bracket (lent_response r) ≡ has_bracket r
brackets (said.Continue o) = bracket o
brackets (said.Done tag status o) = bracket o
brackets (said.Data status o) = bracket o
brackets (said.MailboxData d) = refl
brackets other = refl

pub said_alike : SaidAlike
said_alike r s same =
    let text = one_text lent_response canonical_response response r s same in
    (text, sym (brackets r) ∙ ap has_bracket same ∙ brackets s, ap (list_any is_too_long) text)

pub same_reads_back : SameReadsBack
same_reads_back m r rest reads s same bracket long t =
    let alike = said_alike s r same in
    let back = canonical_reads_back m r rest reads (sym alike.1 ∙ bracket) (sym alike.2 ∙ long) t in
    subst (λ v. (meaning rule).yields (canonical_bytes s ++ t) v t) (sym same) (subst (λ x. (meaning rule).yields (written x ++ t) (lent_response r) t) (sym alike.0) back)
