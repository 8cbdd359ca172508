use Rattle.std.proofs.Common.{◌≡◌, Result, Ok, Err, refl}
use Rattle.std.specs.Prelude.{IfOk}
use Rattle.imap_grammar.specs.Text.{Bytes, Text, text_of}
use Rattle.imap_grammar.specs.Positions.{named_in}
use Rattle.imap_body_types.specs.declared.spans.SpannedText.{SpannedText}
use Rattle.imap_body_types.specs.Spans.{text_in}
use Rattle.imap_envelopes.specs.Keeping.{IsKeptOf}
use Rattle.imap_envelopes.proofs.keep.ValuesKeep.text.Goals as goal

-- a text that is kept as what its span names in the message rests on no other bytes
kept_as_named : {B E : Type 0} (says : B → Text) (m : Bytes) (x : SpannedText) (r : Result B E) → IfOk r (λ y. says y ≡ text_in (named_in m) x) → IfOk r (IsKeptOf text_in (λ n. says) m x)
kept_as_named says m x (Ok y) is = record { is = is; rests = λ n k same. refl }
kept_as_named says m x (Err e) is = tt

pub returns : goal.returns
returns c = kept_as_named text_of c.args._m.now c.args.text c.named_in.result (rw c.requires at c.named_in.ensures.is)
