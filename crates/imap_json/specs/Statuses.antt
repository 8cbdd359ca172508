-- Statuses.
use Rattle.std.specs.Prelude.{codes}
use Rattle.imap_grammar.specs.Text.{Bytes}
use Rattle.serde_json.specs.Data.{Data}
use Rattle.imap_shared.specs.declared.types.statuses.Status.{Status}
use Rattle.imap_shared.specs.declared.types.statuses.Status.TheVariants.{Ok, No, Bad, PreAuth, Bye}
use Rattle.imap_json.specs.Forms.{string_json}

abbrev pub status_name : Status → Bytes
status_name Ok = codes "Ok"
status_name No = codes "No"
status_name Bad = codes "Bad"
status_name PreAuth = codes "PreAuth"
status_name Bye = codes "Bye"

abbrev pub status_json : Status → Data
status_json s = string_json (status_name s)
