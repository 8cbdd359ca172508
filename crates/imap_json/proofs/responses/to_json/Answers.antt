use Rattle.std.proofs.Common.{◌++◌, ap, ◌∙◌}
use Rattle.json.specs.Print.{print}
use Rattle.json.specs.Tree.{json_tokens}
use Rattle.serde_json.specs.Written.{outline}
use Rattle.serde_json.proofs.Texts.{print-outline}
use Rattle.imap_proto.specs.Responses.{response_value}
use Rattle.imap_json.specs.Responses.{json_of}
use Rattle.imap_json.proofs.OneLine.{line_of_text}
use Rattle.imap_json.proofs.responses.to_json.Goals as goal

pub returns-clause-text : goal.returns-clause-text
returns-clause-text c =
    let d = json_of (response_value c.args.response.now) in
    c.into_text.ensures ∙ ap print (c.in_ok-write.ensures.tokens ∙ ap (λ ts. ts ++ json_tokens (outline d)) c.new-out.ensures.tokens) ∙ print-outline d

pub returns-clause-one_line : goal.returns-clause-one_line
returns-clause-one_line c = line_of_text _ _ (returns-clause-text c)
