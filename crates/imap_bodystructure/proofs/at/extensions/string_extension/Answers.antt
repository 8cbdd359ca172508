use Rattle.std.proofs.Common.{refl}
use Rattle.imap_grammar.specs.Positions.{named_in}
use Rattle.imap_envelopes.proofs.Keeping.{kept_rests}
use Rattle.imap_bodystructure.specs.Extensions.{string_extension}
use Rattle.imap_bodystructure.proofs.Seeing.{string_seen, string_rests}
use Rattle.imap_bodystructure.proofs.at.extensions.string_extension.Goals as goal

pub returns : goal.returns
unfolding string_extension
returns g c =
    let read = rw c.input.view_is at c.in_ok-p.ensures in
    record {
      steps = rw (read.steps, string_seen (g.K.Keep.text_said (named_in c.args.input.now)) c.in_ok-kept_text.field-0, c.in_ok-kept_text.ensures.is) refl;
      ahead = read.ahead;
      rests = string_rests g.K.Keep.text_said _ _ (kept_rests _ _ _ _ _ _ c.in_ok-kept_text.ensures read.rests);
    }
