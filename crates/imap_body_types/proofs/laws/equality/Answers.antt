use Rattle.imap_body_types.proofs.Equality.{address_tells, envelope_tells, params_tell, encoding_tells, disposition_tells, type_tells, common_tells, single_tells}
use Rattle.imap_body_types.proofs.EqualTrees.{extension_tells}
use Rattle.imap_body_types.proofs.EqualBodies.{body_tells}
use Rattle.imap_body_types.proofs.laws.equality.Goals as goal

pub returns-clause-address : goal.returns-clause-address
returns-clause-address g c f t = address_tells g.row.B g.B.PartialEq g.B.PartialEq-dict f t

pub returns-clause-envelope : goal.returns-clause-envelope
returns-clause-envelope g c f t = envelope_tells g.row.B g.B.PartialEq g.B.PartialEq-dict f t

pub returns-clause-body_params : goal.returns-clause-body_params
returns-clause-body_params g c f t = params_tell g.row.S g.S.PartialEq g.S.PartialEq-dict f t

pub returns-clause-content_encoding : goal.returns-clause-content_encoding
returns-clause-content_encoding g c f t = encoding_tells g.row.S g.S.PartialEq g.S.PartialEq-dict f t

pub returns-clause-content_disposition : goal.returns-clause-content_disposition
returns-clause-content_disposition g c f t = disposition_tells g.row.S g.S.PartialEq g.S.PartialEq-dict f t

pub returns-clause-content_type : goal.returns-clause-content_type
returns-clause-content_type g c f t = type_tells g.row.S g.S.PartialEq g.S.PartialEq-dict f t

pub returns-clause-content_common : goal.returns-clause-content_common
returns-clause-content_common g c f t = common_tells g.row.S g.S.PartialEq g.S.PartialEq-dict f t

pub returns-clause-content_single_part : goal.returns-clause-content_single_part
returns-clause-content_single_part g c f t = single_tells g.row.S g.S.PartialEq g.S.PartialEq-dict f t

pub returns-clause-body_extension : goal.returns-clause-body_extension
returns-clause-body_extension g c f t = extension_tells g.row.S g.S.PartialEq g.S.PartialEq-dict (record { laws = g.met.S.PartialEq.laws }) f t

pub returns-clause-body_structure : goal.returns-clause-body_structure
returns-clause-body_structure g c f h t u =
    body_tells g.row.S g.row.B g.S.PartialEq g.S.PartialEq-dict g.B.PartialEq g.B.PartialEq-dict (record { laws = g.met.S.PartialEq.laws }) (record { laws = g.met.B.PartialEq.laws }) f h t u
