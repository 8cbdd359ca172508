use Rattle.std.proofs.Common.{◌≡◌, ◌∙◌, false, sym, ap}
use Rattle.std.proofs.lemmas.Str.{IsUtf8-from_is_utf8}
use Rattle.imap_grammar.specs.Positions.{named_in}
use Rattle.imap_grammar.specs.Text.{decoded}
use Rattle.imap_body.specs.Unescaped.{is_escaped, unescaped_string}
use Rattle.imap_body.proofs.Escapes.{stands}
use Rattle.imap_body.proofs.unescaped.unescaped_text.Goals as goal

pub returns-clause-memory : goal.returns-clause-memory
returns-clause-memory c =
    let n = named_in c.args.m.now in
    let not_escaped : is_escaped n c.args.span ≡ false = sym c.is_escaped.ensures ∙ c.if-is_escaped.false in
    let same : unescaped_string decoded n c.args.span ≡ decoded (n c.args.span) = stands (is_escaped n c.args.span) _ _ not_escaped in
    λ h. c.decode.ensures.memory (IsUtf8-from_is_utf8 _ (rw c.part-content.ensures (ap (λ t. t.borrowed) (sym same) ∙ h)))
