-- What an implementation says of itself: an object with its keys in the order of their bytes.
use Rattle.std.specs.Prelude.{List, map}
use Rattle.std.specs.Borrow.{Bor}
use Rattle.std.specs.FinMap.{entries}
use Rattle.std.specs.BTreeMap.{BTreeMap}
use Rattle.std.specs.declared.alloc.Global.{Global}
use Rattle.std.specs.declared.borrow.CowStr.{CowStr}
use Rattle.serde_json.specs.Data.{Data}
use Rattle.imap_grammar.specs.Text.{Bytes, Text, text_of}
use Rattle.imap_extensions.specs.Ids.{IdValue}
use Rattle.imap_json.specs.Forms.{Field, object_json}
use Rattle.imap_json.specs.Texts.{text_json}

abbrev pub entry_field : Bytes × Text → Field
entry_field e = (e.0, text_json e.1)

abbrev pub id_fields : IdValue → List Field
id_fields m = map entry_field (entries m)

abbrev pub id_json : IdValue → Data
id_json m = object_json (id_fields m)

-- ---- the same of a table that is in order

abbrev pub shown_entry : Bor Bytes × Bor (CowStr Global) → Bytes × Text
shown_entry e = (e.0.now, text_of e.1.now)

abbrev pub table_fields : BTreeMap (Bor Bytes) (Bor (CowStr Global)) → List Field
table_fields table = map (λ e. entry_field (shown_entry e)) table.entries
