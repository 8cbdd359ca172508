-- A text's mark is whether it is borrowed. Where all texts of a value are marked alike twice, the later mark stays.
use Rattle.std.proofs.Common.{Bool, map, refl, ap}
use Rattle.imap_shared.specs.Capabilities.{changed_capability}
use Rattle.imap_grammar.proofs.Marks.{marked, LaterStays, lists, options, texts, ntext}
use Rattle.imap_shared.proofs.Marks.{capability}
use Rattle.imap_data.specs.Codes.{BadCharset, Capabilities, PermanentFlags, changed_code}
use Rattle.imap_data.specs.Names.{Extension, changed_name_attribute, changed_list}
use Rattle.imap_data.specs.DatumValues.{Flags, Listed, MetadataUnsolicited, GmailLabels, changed_datum}

-- marked with b, and then with a
module _ (a b : Bool) where
  pub code : LaterStays a b changed_code
  code (BadCharset c) = ap (λ x. BadCharset x) (options a b (λ h. map h) (texts a b) c)
  code (Capabilities cs) = ap (λ x. Capabilities x) (lists a b changed_capability (capability a b) cs)
  code (PermanentFlags fs) = ap (λ x. PermanentFlags x) (texts a b fs)
  code other = cc

  pub name_attribute : LaterStays a b changed_name_attribute
  name_attribute (Extension t) = refl
  name_attribute other = cc

  pub list_data : LaterStays a b changed_list
  list_data l = rw (lists a b changed_name_attribute name_attribute l.name_attributes, ntext a b l.delimiter) refl

  pub datum : LaterStays a b changed_datum
  datum (Flags fs) = ap (λ x. Flags x) (texts a b fs)
  datum (Listed l) = ap (λ x. Listed x) (list_data l)
  datum (MetadataUnsolicited box values) = ap (λ x. MetadataUnsolicited (marked a box) x) (texts a b values)
  datum (GmailLabels labels) = ap (λ x. GmailLabels x) (texts a b labels)
  datum other = cc
