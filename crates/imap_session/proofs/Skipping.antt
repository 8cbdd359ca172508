-- What `skip_line` answers, by what the feed dropped.
use Rattle.std.proofs.Common.{◌≡◌, ℕ, true, Option, None, Some, refl}
use Rattle.std.specs.Prelude.{option_map, is_some}
use Rattle.imap_grammar.specs.Text.{Bytes}
use Rattle.imap_proto.specs.Skipping.{Dropped}
use Rattle.imap_session.specs.declared.session.Stop.{Stop as Noted}
use Rattle.imap_session.specs.Answers.{AnswersSkip}
use Rattle.imap_session.specs.Machine.{Machine, went_on}
use Rattle.imap_session.specs.Seen.{stop_of}

-- of a machine that has stopped
pub line_skipped : (stop : Option Noted) (a : Machine) (h : Bytes) (n : ℕ) → a.stopped ≡ option_map stop_of stop → is_some stop ≡ true → Dropped a.held (Some n) h → AnswersSkip a (Some n) (went_on h a)
line_skipped None a h n s stopped d = absurd cc
line_skipped (Some why) a h n s stopped d = (stop_of why, d.0, (h, s, d.2, refl), d.1)
