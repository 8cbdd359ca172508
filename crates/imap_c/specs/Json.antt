-- The response at the front of some bytes, as a line of JSON that is put into a caller's buffer.
use Rattle.std.specs.Prelude.{◌≡◌, ℕ, ◌⊎◌, Result, Ok, Err}
use Rattle.std.specs.String.{string_bytes}
use Rattle.std.specs.declared.string.String.{String}
use Rattle.std.specs.declared.alloc.AllocError.{AllocError}
use Rattle.std.specs.declared.alloc.Global.{Global}
use Rattle.serde_json.specs.Written.{compact_text}
use Rattle.imap_grammar.specs.declared.answer.Err.{Err as Fault}
use Rattle.imap_grammar.specs.Answer.{Refuses}
use Rattle.imap_grammar.specs.Rule.{meaning}
use Rattle.imap_grammar.specs.Text.{Bytes}
use Rattle.imap_proto.specs.Responses.{ResponseValue}
use Rattle.imap_proto.specs.Lines.{response}
use Rattle.imap_json.specs.Responses.{json_of}
use Rattle.imap_c.specs.declared.texts.TextAnswer.{TextAnswer}
use Rattle.imap_c.specs.Answers.{fault_answer}
use Rattle.imap_c.specs.Numbers.{out_of_memory}
use Rattle.imap_c.specs.Texts.{Puts, PutsNone}

-- what was made was put into the buffer; or memory ran out
abbrev pub PutsText : Result (String Global) AllocError → Bytes → Bytes → TextAnswer → Type 0
PutsText (Ok text) old new answer = Puts (string_bytes text) old new answer
PutsText (Err e) old new answer = PutsNone out_of_memory old new answer

-- a response stands at the front of m
abbrev pub BeginsWithOne : Bytes → Type 0
BeginsWithOne m = (v : ResponseValue) × (rest : Bytes) × (meaning response).yields m v rest

-- The response at the front of m was put out as JSON, or memory ran out; or it is told why there is none.
abbrev pub PutsJson : Bytes → Bytes → Bytes → TextAnswer → Type 0
PutsJson m old new answer =
    ((v : ResponseValue)
    × (rest : Bytes)
    × (meaning response).yields m v rest
    × (Puts (compact_text (json_of v)) old new answer ⊎ PutsNone out_of_memory old new answer))
    ⊎ ((e : Fault)
    × Refuses (meaning response) m e
    × PutsNone (fault_answer e).outcome old new answer)
