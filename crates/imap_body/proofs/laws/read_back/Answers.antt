use Rattle.std.proofs.Common.{refl}
use Rattle.imap_grammar.proofs.Reading.{closes-in}
use Rattle.imap_grammar.proofs.Keeping.{keeps-anywhere, keeps-follow}
use Rattle.imap_bytes.proofs.ReadingTexts.{not_digit}
use Rattle.imap_envelopes.proofs.EnvelopeTexts.{keeps_address, keeps_addresses, keeps_envelope}
use Rattle.imap_bodystructure.proofs.FieldTexts.{keeps_params, keeps_encoding, keeps_fields}
use Rattle.imap_bodystructure.proofs.ExtensionTexts.{keeps_disposition, keeps_language, keeps_extension, keeps_ext_1part, keeps_ext_mpart}
use Rattle.imap_bodystructure.specs.Extensions.{body_extension}
use Rattle.imap_bodystructure.proofs.BodyTexts.{keeps_body, keeps_body_structure}
use Rattle.imap_sections.proofs.SectionTexts.{keeps_section_msgtext, keeps_section_text, keeps_section_part, keeps_section_spec, keeps_section, closes_section, ends_part}
use Rattle.imap_body.proofs.AttributeTexts as attribute_texts
use Rattle.imap_body.proofs.laws.read_back.Goals as goal

pub returns-clause-section_msgtext : goal.returns-clause-section_msgtext
returns-clause-section_msgtext c = keeps-follow keeps_section_msgtext closes_section

pub returns-clause-section_text : goal.returns-clause-section_text
returns-clause-section_text c = keeps-follow keeps_section_text closes_section

pub returns-clause-section_part : goal.returns-clause-section_part
returns-clause-section_part c = keeps-follow keeps_section_part (λ t g. ends_part t (closes_section t g))

pub returns-clause-section_spec : goal.returns-clause-section_spec
returns-clause-section_spec c = keeps-follow keeps_section_spec closes_section

pub returns-clause-section : goal.returns-clause-section
returns-clause-section c = keeps-anywhere keeps_section

pub returns-clause-address : goal.returns-clause-address
returns-clause-address c = keeps-anywhere keeps_address

pub returns-clause-addresses : goal.returns-clause-addresses
returns-clause-addresses c = keeps-anywhere keeps_addresses

pub returns-clause-envelope : goal.returns-clause-envelope
returns-clause-envelope c = keeps-anywhere keeps_envelope

pub returns-clause-body_fld_param : goal.returns-clause-body_fld_param
returns-clause-body_fld_param c = keeps-anywhere keeps_params

pub returns-clause-body_fld_enc : goal.returns-clause-body_fld_enc
returns-clause-body_fld_enc c = keeps-anywhere keeps_encoding

pub returns-clause-body_fields : goal.returns-clause-body_fields
returns-clause-body_fields c = keeps-follow keeps_fields (closes-in not_digit refl refl)

pub returns-clause-body_fld_dsp : goal.returns-clause-body_fld_dsp
returns-clause-body_fld_dsp c = keeps-anywhere keeps_disposition

pub returns-clause-body_fld_lang : goal.returns-clause-body_fld_lang
returns-clause-body_fld_lang c = keeps-anywhere keeps_language

pub returns-clause-extension : goal.returns-clause-extension
returns-clause-extension c level = keeps-follow (keeps_extension level) (closes-in not_digit refl refl)

pub returns-clause-body_extension : goal.returns-clause-body_extension
unfolding body_extension
returns-clause-body_extension c = keeps-follow (keeps_extension 100) (closes-in not_digit refl refl)

pub returns-clause-body_ext_1part : goal.returns-clause-body_ext_1part
returns-clause-body_ext_1part c = keeps_ext_1part

pub returns-clause-body_ext_mpart : goal.returns-clause-body_ext_mpart
returns-clause-body_ext_mpart c = keeps_ext_mpart

pub returns-clause-body : goal.returns-clause-body
returns-clause-body c level = keeps-anywhere (keeps_body level)

pub returns-clause-body_structure : goal.returns-clause-body_structure
returns-clause-body_structure c = keeps-anywhere keeps_body_structure

pub returns-clause-msg_att_body_section : goal.returns-clause-msg_att_body_section
returns-clause-msg_att_body_section c = attribute_texts.keeps_body_section

pub returns-clause-attribute : goal.returns-clause-attribute
returns-clause-attribute c = attribute_texts.keeps_attribute

pub returns-clause-attribute_list : goal.returns-clause-attribute_list
returns-clause-attribute_list c = keeps-anywhere attribute_texts.keeps_attribute_list
