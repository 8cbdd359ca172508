use Rattle.std.proofs.Common.{refl}
use Rattle.imap_body_types.specs.ExtensionValues.{extension_seen}
use Rattle.imap_body_types.proofs.Places.{something_rests}
use Rattle.imap_bodystructure.specs.Extensions.{last_extension, body_extension}
use Rattle.imap_bodystructure.proofs.at.extensions.last_extension.Goals as goal

pub returns-in-Ok-maybe : goal.returns-in-Ok-maybe
unfolding last_extension body_extension
returns-in-Ok-maybe g c =
    let read = c.in-Ok-maybe.ensures in
    record {
      steps = rw (read.steps) refl;
      ahead = read.ahead;
      rests = something_rests (λ n x. extension_seen (g.K.Keep.text_said n) x) _ _ read.rests;
    }
