use Rattle.std.proofs.Common.{map, take}
use Rattle.imap_grammar.specs.Text.{text_of}
use Rattle.imap_body_types.specs.ExtensionValues.{extension_seen}
use Rattle.imap_json.specs.Forms.{Appends, items_front}
use Rattle.imap_json.specs.Extensions.{extension_json}
use Rattle.imap_json.proofs.extensions.+extension.Given as goal

abbrev pub invariant-write_extensions-loop-extension : goal.invariant-write_extensions-loop-extension
invariant-write_extensions-loop-extension l = Appends l.initial.out l.out (items_front (map extension_json (map (extension_seen text_of) (take l.extension-index l.extension-items))))
