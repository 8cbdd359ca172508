use Rattle.std.proofs.Common.{refl, ap}
use Rattle.imap_envelopes.proofs.kept.kept_pair.Goals as goal

pub returns : goal.returns
returns g c =
    let name = c.in_ok-name.ensures in
    let value = c.in_ok-value.ensures in
    record {
      is = rw (name.is, value.is) refl;
      rests = λ n k same. rw (name.rests n k (ap (λ p. p.0) same), value.rests n k (ap (λ p. p.1) same)) refl;
    }
