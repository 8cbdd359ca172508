use Rattle.std.proofs.Common.{refl}
use Rattle.std.specs.Fmt.{digits}
use Rattle.imap_vectors.proofs.canonical.texts_of_attributes.Goals as goal

pub returns-clause-numbers : goal.returns-clause-numbers
unfolding digits
returns-clause-numbers c = refl

pub returns-clause-texts : goal.returns-clause-texts
unfolding digits
returns-clause-texts c = refl

pub returns-clause-a_save_date : goal.returns-clause-a_save_date
unfolding digits
returns-clause-a_save_date c = refl

pub returns-clause-no_save_date : goal.returns-clause-no_save_date
unfolding digits
returns-clause-no_save_date c = refl

pub returns-clause-a_section : goal.returns-clause-a_section
unfolding digits
returns-clause-a_section c = refl

pub returns-clause-a_message : goal.returns-clause-a_message
unfolding digits
returns-clause-a_message c = refl

pub returns-clause-a_multipart : goal.returns-clause-a_multipart
unfolding digits
returns-clause-a_multipart c = refl
