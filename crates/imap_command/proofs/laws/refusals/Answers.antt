use Rattle.std.proofs.Common.{refl}
use Rattle.imap_command.specs.Ascii.{nul, line_feed, carriage_return}
use Rattle.imap_command.specs.declared.errors.BuildError.TheVariants.{CarriageReturn, LineFeed, Nul}
use Rattle.imap_command.proofs.Refusals.{accepted, refused_as}
use Rattle.imap_command.proofs.laws.refusals.Goals as goal

pub returns-clause-accepted : goal.returns-clause-accepted
returns-clause-accepted c = accepted

pub returns-clause-carriage_return : goal.returns-clause-carriage_return
returns-clause-carriage_return c = refused_as carriage_return CarriageReturn refl

pub returns-clause-line_feed : goal.returns-clause-line_feed
returns-clause-line_feed c = refused_as line_feed LineFeed refl

pub returns-clause-nul : goal.returns-clause-nul
returns-clause-nul c = refused_as nul Nul refl
