use Rattle.std.proofs.Common.{append-nil, ◌∙◌, sym, subst}
use Rattle.imap_command.specs.Calls.{Ends}
use Rattle.imap_command.proofs.NextStates.{selects}
use Rattle.imap_command.proofs.selecting.CommandFromSelectCommandNoParams.from.Goals as goal

pub returns : goal.returns
returns c calls s e = record {
  ends = subst Ends (sym s) tt;
  text = rw (s, append-nil) (c.selecting.ensures.text ∙ (c.select.view_is ∙ e));
  next_state = c.selecting.ensures.next_state ∙ sym (selects calls s);
}
