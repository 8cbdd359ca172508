use Rattle.std.proofs.Common.{refl, arith}
use Rattle.imap_command.proofs.fetching.FetchCommand+Modifiers.changed_since.Goals as goal

pub returns : goal.returns
returns c = record {
  in_range = omega arith;
  leads = refl;
  text = λ calls at was. rw (c.with_text.ensures, c.in_ok-push_changed_since.ensures, at, c.self.view_is, was) refl;
}
