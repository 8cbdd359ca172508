-- A text's mark is whether it is borrowed. Where all texts of an attribute are marked alike twice, the later mark stays.
use Rattle.std.proofs.Common.{Bool, ap, refl}
use Rattle.imap_grammar.proofs.Marks.{LaterStays, texts, ntext}
use Rattle.imap_body_types.proofs.Marks.{envelope, body}
use Rattle.imap_body.specs.AttributeValues as said
use Rattle.imap_body.specs.Changed.{changed_attribute}

-- marked with b, and then with a
module _ (a b : Bool) where
  pub attribute : LaterStays a b changed_attribute
  attribute (said.BodySection path origin contents) = ap (λ x. said.BodySection path origin x) (ntext a b contents)
  attribute (said.BodyStructure m) = ap (λ x. said.BodyStructure x) (body a b m)
  attribute (said.Envelope e) = ap (λ x. said.Envelope x) (envelope a b e)
  attribute (said.Flags fs) = ap (λ x. said.Flags x) (texts a b fs)
  attribute (said.InternalDate t) = refl
  attribute (said.ModSeq n) = refl
  attribute (said.Rfc822 t) = ap (λ x. said.Rfc822 x) (ntext a b t)
  attribute (said.Rfc822Header t) = ap (λ x. said.Rfc822Header x) (ntext a b t)
  attribute (said.Rfc822Size n) = refl
  attribute (said.Rfc822Text t) = ap (λ x. said.Rfc822Text x) (ntext a b t)
  attribute (said.Uid n) = refl
  attribute (said.GmailLabels ts) = ap (λ x. said.GmailLabels x) (texts a b ts)
  attribute (said.GmailMsgId n) = refl
  attribute (said.GmailThrId n) = refl
  attribute (said.EmailId t) = refl
  attribute (said.ThreadId t) = ap (λ x. said.ThreadId x) (ntext a b t)
  attribute (said.SaveDate t) = ap (λ x. said.SaveDate x) (ntext a b t)
  attribute said.Unknown = refl
