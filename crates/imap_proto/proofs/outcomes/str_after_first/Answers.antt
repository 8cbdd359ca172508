use Rattle.std.proofs.Common.{sym, ap, subst, ◌∙◌, IsUtf8}
use Rattle.imap_proto.specs.Outcomes.{bytes_after_first}
use Rattle.imap_proto.proofs.FirstCharacter.{next_leaves}
use Rattle.imap_proto.proofs.outcomes.str_after_first.Goals as goal

pub returns : goal.returns
returns c =
    let all = c.chars-characters.ensures.rest in
    c.as_str.ensures
    ∙ next_leaves c.chars-characters.result c.next.new.self c.next.result (subst IsUtf8 (sym all) c.utf8.text) c.next.ensures.steps
    ∙ ap bytes_after_first all
