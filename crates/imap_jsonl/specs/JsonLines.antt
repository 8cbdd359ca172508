-- Reports whose lines are JSON.
use Rattle.std.specs.Prelude.{ℕ, ◌++◌, codes}
use Rattle.std.specs.Fmt.{decimal}
use Rattle.serde_json.specs.Written.{compact_text}
use Rattle.imap_grammar.specs.Text.{Bytes}
use Rattle.imap_proto.specs.Skipping.{Item, Taken, Skipped}
use Rattle.imap_report.specs.declared.outcome.Finish.{Finish}
use Rattle.imap_report.specs.declared.outcome.Finish.TheVariants.{End, Waiting, Denied}
use Rattle.imap_report.specs.declared.wording.OnDenied.{OnDenied}
use Rattle.imap_report.specs.Report.{Words}
use Rattle.imap_json.specs.Responses.{json_of}
use Rattle.imap_json.specs.Skipped.{skipped_json}

-- of a response, or of a line that was skipped
abbrev pub json_item : Item → ℕ → Bytes
json_item (Taken r) n = compact_text (json_of r)
json_item (Skipped line) n = compact_text (skipped_json line)

abbrev pub end_name : Finish → Bytes
end_name End = codes "end"
end_name Waiting = codes "waits"
end_name Denied = codes "denied"

-- {"end":"waits","left":12}
abbrev pub end_text : Finish → ℕ → Bytes
end_text f n =
    codes "{\"end\":\"" ++ end_name f ++ codes "\",\"left\":" ++ decimal n ++ codes "}"

abbrev pub json_lines : OnDenied → Words
json_lines d = record { on_denied = d; of_item = json_item; of_end = end_text }
