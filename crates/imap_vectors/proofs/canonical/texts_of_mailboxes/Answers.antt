use Rattle.std.proofs.Common.{refl}
use Rattle.std.specs.Fmt.{digits}
use Rattle.imap_vectors.proofs.canonical.texts_of_mailboxes.Goals as goal

pub returns-clause-exists : goal.returns-clause-exists
unfolding digits
returns-clause-exists c = refl

pub returns-clause-recent : goal.returns-clause-recent
unfolding digits
returns-clause-recent c = refl

pub returns-clause-expunge : goal.returns-clause-expunge
unfolding digits
returns-clause-expunge c = refl

pub returns-clause-flags : goal.returns-clause-flags
unfolding digits
returns-clause-flags c = refl

pub returns-clause-a_status : goal.returns-clause-a_status
unfolding digits
returns-clause-a_status c = refl

pub returns-clause-search : goal.returns-clause-search
unfolding digits
returns-clause-search c = refl

pub returns-clause-nothing_found : goal.returns-clause-nothing_found
unfolding digits
returns-clause-nothing_found c = refl

pub returns-clause-sort : goal.returns-clause-sort
unfolding digits
returns-clause-sort c = refl

pub returns-clause-message_identifier : goal.returns-clause-message_identifier
unfolding digits
returns-clause-message_identifier c = refl

pub returns-clause-thread_identifier : goal.returns-clause-thread_identifier
unfolding digits
returns-clause-thread_identifier c = refl

pub returns-clause-annotations : goal.returns-clause-annotations
unfolding digits
returns-clause-annotations c = refl

pub returns-clause-changed_annotations : goal.returns-clause-changed_annotations
unfolding digits
returns-clause-changed_annotations c = refl
