use Rattle.std.proofs.Common.{refl}
use Rattle.imap_envelopes.proofs.kept.kept_encoding.Goals as goal
use Rattle.imap_envelopes.proofs.kept.kept_encoding.Goals.{in-SevenBit, in-EightBit, in-Binary, in-Base64, in-QuotedPrintable, in-Other+in_ok-text-in-Other}

pub returns : goal.returns
returns g c = elim c.match-encoding.branch [
  | in-SevenBit w ↦ rw (w.in-SevenBit.is, w.result-is) record { is = refl; rests = λ n k same. refl }
  | in-EightBit w ↦ rw (w.in-EightBit.is, w.result-is) record { is = refl; rests = λ n k same. refl }
  | in-Binary w ↦ rw (w.in-Binary.is, w.result-is) record { is = refl; rests = λ n k same. refl }
  | in-Base64 w ↦ rw (w.in-Base64.is, w.result-is) record { is = refl; rests = λ n k same. refl }
  | in-QuotedPrintable w ↦ rw (w.in-QuotedPrintable.is, w.result-is) record { is = refl; rests = λ n k same. refl }
  | in-Other+in_ok-text-in-Other w ↦
      let text = w.in_ok-text-in-Other.ensures in
      rw (w.in-Other.is, w.result-is) record { is = rw text.is refl; rests = λ n k same. rw (text.rests n k cc) refl }
]
