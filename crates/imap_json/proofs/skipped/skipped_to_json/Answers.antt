use Rattle.std.proofs.Common.{◌++◌, ap, ◌∙◌}
use Rattle.json.specs.Print.{print}
use Rattle.json.specs.Tree.{json_tokens}
use Rattle.serde_json.specs.Written.{outline}
use Rattle.serde_json.proofs.Texts.{print-outline}
use Rattle.imap_json.specs.Skipped.{skipped_json}
use Rattle.imap_json.proofs.OneLine.{line_of_text}
use Rattle.imap_json.proofs.skipped.skipped_to_json.Goals as goal

pub returns-clause-text : goal.returns-clause-text
returns-clause-text c =
    let d = skipped_json c.args.line.now in
    c.into_text.ensures ∙ ap print (c.in_ok-write_skipped.ensures.tokens ∙ ap (λ ts. ts ++ json_tokens (outline d)) c.new-out.ensures.tokens) ∙ print-outline d

pub returns-clause-one_line : goal.returns-clause-one_line
returns-clause-one_line c = line_of_text _ (skipped_json c.args.line.now) (returns-clause-text c)
