use Rattle.imap_grammar.specs.Text.{text_of}
use Rattle.imap_grammar.proofs.Seen.{texts_tell}
use Rattle.imap_body_types.specs.Spans.{bytes_of}
use Rattle.imap_body_types.specs.BodyValues.{body_seen}
use Rattle.imap_body_types.proofs.Equality.{both_tell, field}
use Rattle.imap_sections.proofs.Equality.{sections_tell, paths_tell}
use Rattle.imap_body.proofs.Equality.{slices_tell, spans_tell}
use Rattle.imap_body.proofs.laws.equality.Goals as goal

pub returns-clause-message_section : goal.returns-clause-message_section
returns-clause-message_section c = sections_tell

pub returns-clause-section_path : goal.returns-clause-section_path
returns-clause-section_path c = paths_tell

pub returns-clause-address : goal.returns-clause-address
returns-clause-address c = c.equality.ensures.address bytes_of slices_tell

pub returns-clause-envelope : goal.returns-clause-envelope
returns-clause-envelope c = c.equality.ensures.envelope bytes_of slices_tell

pub returns-clause-body_params : goal.returns-clause-body_params
returns-clause-body_params c = c.equality.ensures.body_params text_of texts_tell

pub returns-clause-content_encoding : goal.returns-clause-content_encoding
returns-clause-content_encoding c = c.equality.ensures.content_encoding text_of texts_tell

pub returns-clause-content_disposition : goal.returns-clause-content_disposition
returns-clause-content_disposition c = c.equality.ensures.content_disposition text_of texts_tell

pub returns-clause-body_extension : goal.returns-clause-body_extension
returns-clause-body_extension c = c.equality.ensures.body_extension text_of texts_tell

pub returns-clause-content_type : goal.returns-clause-content_type
returns-clause-content_type c = c.equality.ensures.content_type text_of texts_tell

pub returns-clause-content_common : goal.returns-clause-content_common
returns-clause-content_common c = c.equality.ensures.content_common text_of texts_tell

pub returns-clause-content_single_part : goal.returns-clause-content_single_part
returns-clause-content_single_part c = c.equality.ensures.content_single_part text_of texts_tell

pub returns-clause-body_structure : goal.returns-clause-body_structure
returns-clause-body_structure c = c.equality.ensures.body_structure text_of bytes_of texts_tell slices_tell

pub returns-clause-attribute : goal.returns-clause-attribute
returns-clause-attribute c =
    c.attributes_equality.ensures text_of bytes_of (body_seen text_of bytes_of) texts_tell slices_tell (c.equality.ensures.body_structure text_of bytes_of texts_tell slices_tell)

pub returns-clause-spanned_body_structure : goal.returns-clause-spanned_body_structure
returns-clause-spanned_body_structure c = c.spans_equality.ensures.body_structure

pub returns-clause-spanned_attribute : goal.returns-clause-spanned_attribute
returns-clause-spanned_attribute c = both_tell (field (λ x. x.span) spans_tell) (field (λ x. x.parts) c.spans_equality.ensures.attribute)
