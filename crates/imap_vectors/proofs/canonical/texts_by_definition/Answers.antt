use Rattle.std.proofs.Common.{refl, ap, ◌++◌, codes}
use Rattle.std.specs.Fmt.{digits}
use Rattle.std.specs.Str.{is_utf8, chars}
use lib.Utf8.{encode}
use Rattle.imap_grammar.specs.Text.{as_text}
use Rattle.imap_grammar.specs.Pieces.{written, ◌then◌}
use Rattle.imap_extensions.specs.IdTexts.{canonical_fields}
use Rattle.imap_proto.specs.LineTexts.{line_end}
use Rattle.imap_vectors.proofs.Entries.{no_entry, last_entry}
use Rattle.imap_vectors.proofs.canonical.texts_by_definition.Goals as goal

pub returns-clause-no_field : goal.returns-clause-no_field
unfolding digits
returns-clause-no_field c = ap (λ es. codes "* ID " ++ written (canonical_fields es then line_end)) no_entry

pub returns-clause-a_field : goal.returns-clause-a_field
unfolding digits
returns-clause-a_field c = ap (λ es. codes "* ID " ++ written (canonical_fields es then line_end)) (last_entry (as_text (codes "1")) (as_text (codes "2")))

pub returns-clause-no_list : goal.returns-clause-no_list
unfolding digits
returns-clause-no_list c = refl

pub returns-clause-a_name : goal.returns-clause-a_name
unfolding digits
returns-clause-a_name c = refl

pub returns-clause-a_quota_of_any_name : goal.returns-clause-a_quota_of_any_name
unfolding digits
returns-clause-a_quota_of_any_name c = refl

pub returns-clause-a_quota : goal.returns-clause-a_quota
unfolding digits
returns-clause-a_quota c = refl

pub returns-clause-a_label : goal.returns-clause-a_label
unfolding digits is_utf8 chars encode
returns-clause-a_label c = refl

pub returns-clause-enabled : goal.returns-clause-enabled
unfolding digits
returns-clause-enabled c = refl

pub returns-clause-a_basic : goal.returns-clause-a_basic
unfolding digits
returns-clause-a_basic c = refl

pub returns-clause-an_envelope : goal.returns-clause-an_envelope
unfolding digits
returns-clause-an_envelope c = refl

pub returns-clause-a_text : goal.returns-clause-a_text
unfolding digits
returns-clause-a_text c = refl

pub returns-clause-gone : goal.returns-clause-gone
unfolding digits
returns-clause-gone c = refl

pub returns-clause-unknown : goal.returns-clause-unknown
unfolding digits
returns-clause-unknown c = refl
