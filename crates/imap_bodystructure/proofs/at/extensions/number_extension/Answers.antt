use Rattle.std.proofs.Common.{refl}
use Rattle.imap_bodystructure.specs.Extensions.{number_extension}
use Rattle.imap_bodystructure.proofs.Seeing.{number_seen, number_rests}
use Rattle.imap_grammar.specs.Positions.{named_in}
use Rattle.imap_bodystructure.proofs.at.extensions.number_extension.Goals as goal

pub returns : goal.returns
unfolding number_extension
returns g c = record {
  steps = rw (c.in_ok-p.ensures.steps, number_seen (g.K.Keep.text_said (named_in c.args.m.now)) c.in_ok-p.n) refl;
  ahead = c.in_ok-p.ensures.ahead;
  rests = number_rests g.K.Keep.text_said _ _;
}
