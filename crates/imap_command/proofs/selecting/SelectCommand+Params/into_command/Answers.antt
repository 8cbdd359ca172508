use Rattle.std.proofs.Common.{refl, subst, sym}
use Rattle.imap_command.specs.Calls.{Ends}
use Rattle.imap_command.proofs.NextStates.{selects_with_params}
use Rattle.imap_command.proofs.selecting.SelectCommand+Params.into_command.Goals as goal

pub returns : goal.returns
returns c calls at was =
    record {
      ends = subst Ends (sym at) tt;
      text = rw (c.selecting.ensures.text, c.in_ok-push.ensures.items, at, c.self.view_is, was) refl;
      next_state = rw (c.selecting.ensures.next_state, selects_with_params calls at) refl;
    }
