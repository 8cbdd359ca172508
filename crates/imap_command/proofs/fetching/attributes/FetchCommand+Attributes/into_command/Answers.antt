use Rattle.std.proofs.Common.{refl, subst, sym}
use Rattle.imap_command.specs.Calls.{Ends}
use Rattle.imap_command.proofs.NextStates.{fetches_attributes}
use Rattle.imap_command.proofs.fetching.attributes.FetchCommand+Attributes.into_command.Goals as goal

pub returns : goal.returns
returns c calls at was =
    record {
      ends = subst Ends (sym at) tt;
      text = rw (c.in_ok-args.ensures, at, was) refl;
      next_state = rw (fetches_attributes calls at) refl;
    }
