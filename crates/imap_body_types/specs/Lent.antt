-- The same values with all texts borrowed: two values say the same where these are equal.
use Rattle.std.specs.Prelude.{List, Option}
use Rattle.imap_grammar.specs.Text.{Text, lent_text}
use Rattle.imap_body_types.specs.Changed.{changed_ntext, changed_address, changed_addresses, changed_envelope, changed_pair, changed_params, changed_encoding, changed_fields, changed_disposition, changed_languages, changed_extension, changed_extensions, changed_ext_1part, changed_ext_mpart, changed_type, changed_common, changed_single, changed_last, changed_body, changed_bodies}
use Rattle.imap_body_types.specs.EnvelopeValues.{AddressValue, EnvelopeValue}
use Rattle.imap_body_types.specs.FieldValues.{ParamsValue, EncodingValue, FieldsValue}
use Rattle.imap_body_types.specs.ExtensionValues.{DispositionValue, ExtensionValue, Extensions, Ext1PartValue, ExtMPartValue}
use Rattle.imap_body_types.specs.BodyValues.{TypeValue, CommonValue, SingleValue, BodyValue, Bodies}

-- ---- envelopes

abbrev pub lent_ntext : Option Text → Option Text
lent_ntext = changed_ntext lent_text

abbrev pub lent_address : AddressValue → AddressValue
lent_address = changed_address lent_text

abbrev pub lent_addresses : Option (List AddressValue) → Option (List AddressValue)
lent_addresses = changed_addresses lent_text

abbrev pub lent_envelope : EnvelopeValue → EnvelopeValue
lent_envelope = changed_envelope lent_text

-- ---- fields

abbrev pub lent_pair : Text × Text → Text × Text
lent_pair = changed_pair lent_text

abbrev pub lent_params : ParamsValue → ParamsValue
lent_params = changed_params lent_text

abbrev pub lent_encoding : EncodingValue → EncodingValue
lent_encoding = changed_encoding lent_text

abbrev pub lent_fields : FieldsValue → FieldsValue
lent_fields = changed_fields lent_text

-- ---- extension data

abbrev pub lent_disposition : DispositionValue → DispositionValue
lent_disposition = changed_disposition lent_text

abbrev pub lent_languages : Option (List Text) → Option (List Text)
lent_languages = changed_languages lent_text

abbrev pub lent_extension : ExtensionValue → ExtensionValue
lent_extension = changed_extension lent_text

abbrev pub lent_extensions : Extensions → Extensions
lent_extensions = changed_extensions lent_text

abbrev pub lent_ext_1part : Ext1PartValue → Ext1PartValue
lent_ext_1part = changed_ext_1part lent_text

abbrev pub lent_ext_mpart : ExtMPartValue → ExtMPartValue
lent_ext_mpart = changed_ext_mpart lent_text

-- ---- structures of bodies

abbrev pub lent_type : TypeValue → TypeValue
lent_type = changed_type lent_text

abbrev pub lent_common : CommonValue → CommonValue
lent_common = changed_common lent_text

abbrev pub lent_single : SingleValue → SingleValue
lent_single = changed_single lent_text

abbrev pub lent_last : Option ExtensionValue → Option ExtensionValue
lent_last = changed_last lent_text

abbrev pub lent_body : BodyValue → BodyValue
lent_body = changed_body lent_text

abbrev pub lent_bodies : Bodies → Bodies
lent_bodies = changed_bodies lent_text
