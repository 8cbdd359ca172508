use Rattle.imap_c.proofs.Moving.{fits_more, fits_less}
use Rattle.imap_c.proofs.laws.cursors.Goals as goal

pub returns-clause-more : goal.returns-clause-more
returns-clause-more c = fits_more

pub returns-clause-less : goal.returns-clause-less
returns-clause-less c = fits_less
