use Rattle.std.proofs.Common.{true, false}
use Rattle.imap_grammar.specs.Text.{owned_text}
use Rattle.imap_body_types.specs.EnvelopeValues.{address_seen, envelope_seen}
use Rattle.imap_body_types.specs.FieldValues.{encoding_seen, fields_seen}
use Rattle.imap_body_types.specs.ExtensionValues.{disposition_seen, extension_seen, ext_1part_seen, ext_mpart_seen}
use Rattle.imap_body_types.specs.BodyValues.{type_seen, common_seen, single_seen, body_seen}
use Rattle.imap_body_types.specs.Changed.{changed_address, changed_envelope, changed_encoding, changed_fields, changed_disposition, changed_extension, changed_ext_1part, changed_ext_mpart, changed_type, changed_common, changed_single, changed_body}
use Rattle.imap_body_types.specs.Owned.{owned_by}
use Rattle.imap_body_types.proofs.Changed.{address_changed, envelope_changed, encoding_changed, fields_changed, disposition_changed, extension_changed, ext_1part_changed, ext_mpart_changed, type_changed, common_changed, single_changed, body_changed}
use Rattle.imap_body_types.proofs.Marks.{address, envelope, encoding, fields, disposition, extension, ext_1part, ext_mpart, type, common, single, body}
use Rattle.imap_body_types.proofs.Owning.{alike}
use Rattle.imap_body_types.proofs.laws.lending.Goals as goal

pub returns-clause-address : goal.returns-clause-address
returns-clause-address g c f = alike changed_address (address_seen (owned_by f)) (address_seen f) (address_changed f owned_text) (address false true)

pub returns-clause-envelope : goal.returns-clause-envelope
returns-clause-envelope g c f = alike changed_envelope (envelope_seen (owned_by f)) (envelope_seen f) (envelope_changed f owned_text) (envelope false true)

pub returns-clause-content_encoding : goal.returns-clause-content_encoding
returns-clause-content_encoding g c f = alike changed_encoding (encoding_seen (owned_by f)) (encoding_seen f) (encoding_changed f owned_text) (encoding false true)

pub returns-clause-body_fields : goal.returns-clause-body_fields
returns-clause-body_fields g c f = alike changed_fields (fields_seen (owned_by f)) (fields_seen f) (fields_changed f owned_text) (fields false true)

pub returns-clause-content_disposition : goal.returns-clause-content_disposition
returns-clause-content_disposition g c f = alike changed_disposition (disposition_seen (owned_by f)) (disposition_seen f) (disposition_changed f owned_text) (disposition false true)

pub returns-clause-body_extension : goal.returns-clause-body_extension
returns-clause-body_extension g c f = alike changed_extension (extension_seen (owned_by f)) (extension_seen f) (extension_changed f owned_text) (extension false true)

pub returns-clause-body_ext_1part : goal.returns-clause-body_ext_1part
returns-clause-body_ext_1part g c f = alike changed_ext_1part (ext_1part_seen (owned_by f)) (ext_1part_seen f) (ext_1part_changed f owned_text) (ext_1part false true)

pub returns-clause-body_ext_mpart : goal.returns-clause-body_ext_mpart
returns-clause-body_ext_mpart g c f = alike changed_ext_mpart (ext_mpart_seen (owned_by f)) (ext_mpart_seen f) (ext_mpart_changed f owned_text) (ext_mpart false true)

pub returns-clause-content_type : goal.returns-clause-content_type
returns-clause-content_type g c f = alike changed_type (type_seen (owned_by f)) (type_seen f) (type_changed f owned_text) (type false true)

pub returns-clause-content_common : goal.returns-clause-content_common
returns-clause-content_common g c f = alike changed_common (common_seen (owned_by f)) (common_seen f) (common_changed f owned_text) (common false true)

pub returns-clause-content_single_part : goal.returns-clause-content_single_part
returns-clause-content_single_part g c f = alike changed_single (single_seen (owned_by f)) (single_seen f) (single_changed f owned_text) (single false true)

pub returns-clause-body_structure : goal.returns-clause-body_structure
returns-clause-body_structure g c f h = alike changed_body (body_seen (owned_by f) (owned_by h)) (body_seen f h) (body_changed f h owned_text) (body false true)
