use Rattle.std.proofs.Common.{map}
use Rattle.std.specs.Option.{option_map}
use Rattle.imap_grammar.proofs.OneText.{one_text}
use Rattle.imap_body_types.specs.Lent.{lent_address, lent_addresses, lent_envelope, lent_params, lent_encoding, lent_fields, lent_disposition, lent_languages, lent_extension, lent_ext_1part, lent_ext_mpart, lent_body}
use Rattle.imap_envelopes.specs.EnvelopeTexts.{canonical_address, canonical_addresses, canonical_envelope}
use Rattle.imap_bodystructure.specs.FieldTexts.{canonical_params, canonical_encoding, canonical_fields}
use Rattle.imap_bodystructure.specs.ExtensionTexts.{canonical_disposition, canonical_languages, canonical_extension, canonical_ext_1part, canonical_ext_mpart}
use Rattle.imap_bodystructure.specs.BodyTexts.{canonical_body}
use Rattle.imap_body.specs.Changed.{lent_attribute}
use Rattle.imap_body.specs.AttributeTexts.{canonical_attribute, canonical_attributes}
use Rattle.imap_body.proofs.OneText.{address, addresses, envelope, params, encoding, fields, disposition, languages, extension, ext_1part, ext_mpart, body, attribute, attributes}
use Rattle.imap_body.proofs.laws.one_text.Goals as goal

pub returns-clause-address : goal.returns-clause-address
returns-clause-address c = one_text lent_address canonical_address address

pub returns-clause-addresses : goal.returns-clause-addresses
returns-clause-addresses c = one_text lent_addresses canonical_addresses addresses

pub returns-clause-envelope : goal.returns-clause-envelope
returns-clause-envelope c = one_text lent_envelope canonical_envelope envelope

pub returns-clause-body_fld_param : goal.returns-clause-body_fld_param
returns-clause-body_fld_param c = one_text lent_params canonical_params params

pub returns-clause-body_fld_enc : goal.returns-clause-body_fld_enc
returns-clause-body_fld_enc c = one_text lent_encoding canonical_encoding encoding

pub returns-clause-body_fields : goal.returns-clause-body_fields
returns-clause-body_fields c = one_text lent_fields canonical_fields fields

pub returns-clause-body_fld_dsp : goal.returns-clause-body_fld_dsp
returns-clause-body_fld_dsp c = one_text (option_map lent_disposition) canonical_disposition disposition

pub returns-clause-body_fld_lang : goal.returns-clause-body_fld_lang
returns-clause-body_fld_lang c = one_text lent_languages canonical_languages languages

pub returns-clause-body_extension : goal.returns-clause-body_extension
returns-clause-body_extension c = one_text lent_extension canonical_extension extension

pub returns-clause-body_ext_1part : goal.returns-clause-body_ext_1part
returns-clause-body_ext_1part c = one_text lent_ext_1part canonical_ext_1part ext_1part

pub returns-clause-body_ext_mpart : goal.returns-clause-body_ext_mpart
returns-clause-body_ext_mpart c = one_text lent_ext_mpart canonical_ext_mpart ext_mpart

pub returns-clause-body : goal.returns-clause-body
returns-clause-body c = one_text lent_body canonical_body body

pub returns-clause-attribute : goal.returns-clause-attribute
returns-clause-attribute c = one_text lent_attribute canonical_attribute attribute

pub returns-clause-attribute_list : goal.returns-clause-attribute_list
returns-clause-attribute_list c = one_text (map lent_attribute) canonical_attributes attributes
