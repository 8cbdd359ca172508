use Rattle.std.proofs.Common.{refl}
use Rattle.std.specs.Fmt.{digits}
use Rattle.imap_vectors.proofs.canonical.texts_of_status_lines.Goals as goal

pub returns-clause-an_answer : goal.returns-clause-an_answer
unfolding digits
returns-clause-an_answer c = refl

pub returns-clause-a_short_answer : goal.returns-clause-a_short_answer
unfolding digits
returns-clause-a_short_answer c = refl

pub returns-clause-a_greeting : goal.returns-clause-a_greeting
unfolding digits
returns-clause-a_greeting c = refl

pub returns-clause-a_farewell : goal.returns-clause-a_farewell
unfolding digits
returns-clause-a_farewell c = refl

pub returns-clause-an_invitation : goal.returns-clause-an_invitation
unfolding digits
returns-clause-an_invitation c = refl

pub returns-clause-a_bare_invitation : goal.returns-clause-a_bare_invitation
unfolding digits
returns-clause-a_bare_invitation c = refl

pub returns-clause-alert : goal.returns-clause-alert
unfolding digits
returns-clause-alert c = refl

pub returns-clause-bad_charset : goal.returns-clause-bad_charset
unfolding digits
returns-clause-bad_charset c = refl

pub returns-clause-charsets : goal.returns-clause-charsets
unfolding digits
returns-clause-charsets c = refl

pub returns-clause-capable : goal.returns-clause-capable
unfolding digits
returns-clause-capable c = refl

pub returns-clause-parse : goal.returns-clause-parse
unfolding digits
returns-clause-parse c = refl

pub returns-clause-flags_to_change : goal.returns-clause-flags_to_change
unfolding digits
returns-clause-flags_to_change c = refl

pub returns-clause-read_only : goal.returns-clause-read_only
unfolding digits
returns-clause-read_only c = refl

pub returns-clause-read_write : goal.returns-clause-read_write
unfolding digits
returns-clause-read_write c = refl

pub returns-clause-try_create : goal.returns-clause-try_create
unfolding digits
returns-clause-try_create c = refl

pub returns-clause-uid_next : goal.returns-clause-uid_next
unfolding digits
returns-clause-uid_next c = refl

pub returns-clause-uid_validity : goal.returns-clause-uid_validity
unfolding digits
returns-clause-uid_validity c = refl

pub returns-clause-unseen : goal.returns-clause-unseen
unfolding digits
returns-clause-unseen c = refl

pub returns-clause-highest_mod_seq : goal.returns-clause-highest_mod_seq
unfolding digits
returns-clause-highest_mod_seq c = refl

pub returns-clause-appended : goal.returns-clause-appended
unfolding digits
returns-clause-appended c = refl

pub returns-clause-copied : goal.returns-clause-copied
unfolding digits
returns-clause-copied c = refl

pub returns-clause-uid_not_sticky : goal.returns-clause-uid_not_sticky
unfolding digits
returns-clause-uid_not_sticky c = refl

pub returns-clause-long_entries : goal.returns-clause-long_entries
unfolding digits
returns-clause-long_entries c = refl

pub returns-clause-max_size : goal.returns-clause-max_size
unfolding digits
returns-clause-max_size c = refl

pub returns-clause-too_many : goal.returns-clause-too_many
unfolding digits
returns-clause-too_many c = refl

pub returns-clause-no_private : goal.returns-clause-no_private
unfolding digits
returns-clause-no_private c = refl
