-- The machine that a session is seen as.
use Rattle.std.specs.Prelude.{option_map}
use Rattle.imap_session.specs.declared.pending.Pending.{Pending as Kept}
use Rattle.imap_session.specs.declared.session.Stop.{Stop as Noted}
use Rattle.imap_session.specs.declared.session.Stop.TheVariants as noted
use Rattle.imap_session.specs.declared.session.Session.TheInside.{Inside}
use Rattle.imap_session.specs.Machine.{Pending, Machine}
use Rattle.imap_session.specs.States.{Stop, Denied, StrangeTag}
use Rattle.imap_session.specs.Tags.{tag}

abbrev pub pending_of : Kept → Pending
pending_of p = record { tag = tag p.number; next_state = p.next_state }

abbrev pub stop_of : Noted → Stop
stop_of noted.Denied = Denied
stop_of noted.StrangeTag = StrangeTag

abbrev pub machine : Inside → Machine
machine s =
    record {
      state = s.state;
      pending = option_map pending_of s.pending;
      last = s.last;
      begun = s.begun;
      stopped = option_map stop_of s.stopped;
      held = s.feed;
    }
