-- Lines that were skipped.
use Rattle.std.specs.Prelude.{[], ◌∷◌, codes}
use Rattle.serde_json.specs.Data.{Data}
use Rattle.imap_grammar.specs.Text.{Bytes}
use Rattle.imap_json.specs.Responses.{kind_json}
use Rattle.imap_json.specs.Texts.{raw_json}

abbrev pub skipped_json : Bytes → Data
skipped_json line = kind_json (codes "skipped") ((codes "bytes", raw_json line) ∷ [])
