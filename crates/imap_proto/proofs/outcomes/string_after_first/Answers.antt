use Rattle.std.proofs.Common.{◌∙◌, sym, rules}
use Rattle.std.specs.String.{string_bytes, string_len}
use Rattle.std.proofs.lemmas.Bool.{eqb-true}
use Rattle.std.proofs.lemmas.Str.{IsUtf8-string_bytes}
use Rattle.imap_proto.proofs.FirstCharacter.{behind_first, behind_none}
use Rattle.imap_proto.proofs.outcomes.string_after_first.Goals as goal

pub returns-then-is_empty : goal.returns-then-is_empty
returns-then-is_empty c = behind_none (string_bytes c.args.text) (search (rules, eqb-true (string_len c.args.text) 0 (sym c.is_empty.ensures ∙ c.if-is_empty.true)))

pub returns : goal.returns
returns c =
    let cut = c.remove.ensures.bytes in
    cut.2 ∙ behind_first _ cut.0 c.remove.result (IsUtf8-string_bytes c.args.text) cut.1
