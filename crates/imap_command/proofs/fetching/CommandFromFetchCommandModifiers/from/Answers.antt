use Rattle.std.proofs.Common.{append-nil, ◌∙◌, sym, subst}
use Rattle.imap_command.specs.Calls.{Ends}
use Rattle.imap_command.proofs.NextStates.{fetches_modified}
use Rattle.imap_command.proofs.fetching.CommandFromFetchCommandModifiers.from.Goals as goal

pub returns : goal.returns
returns c calls s e = record {
  ends = subst Ends (sym s) tt;
  text = rw (s, append-nil) (c.fetch.view_is ∙ e);
  next_state = sym (fetches_modified calls s);
}
