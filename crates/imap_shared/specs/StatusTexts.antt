-- The text of a status.
use Rattle.imap_grammar.specs.Pieces.{Pieces, words}
use Rattle.imap_grammar.specs.ReadBack.{Texts}
use Rattle.imap_grammar.specs.Spelling.{in_any_case}
use Rattle.imap_shared.specs.declared.types.statuses.Status.{Status}
use Rattle.imap_shared.specs.declared.types.statuses.Status.TheVariants.{Ok, No, Bad, PreAuth, Bye}

abbrev pub canonical_status : Status → Pieces
canonical_status Ok = words "OK"
canonical_status No = words "NO"
canonical_status Bad = words "BAD"
canonical_status PreAuth = words "PREAUTH"
canonical_status Bye = words "BYE"

abbrev pub spells_status : Status → Texts
spells_status Ok = in_any_case "OK"
spells_status No = in_any_case "NO"
spells_status Bad = in_any_case "BAD"
spells_status PreAuth = in_any_case "PREAUTH"
spells_status Bye = in_any_case "BYE"
