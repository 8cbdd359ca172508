-- What C is answered of some bytes, in numbers.
use Rattle.std.specs.Prelude.{◌≡◌, ℕ, ◌-◌, ◌⊎◌, length}
use Rattle.imap_grammar.specs.declared.answer.Err.{Err as Fault}
use Rattle.imap_grammar.specs.declared.answer.Err.TheVariants.{Incomplete, Error, Failure}
use Rattle.imap_grammar.specs.declared.answer.Needed.{Needed}
use Rattle.imap_grammar.specs.declared.answer.Needed.TheVariants.{Unknown, Size}
use Rattle.imap_grammar.specs.Answer.{Refuses}
use Rattle.imap_grammar.specs.Rule.{meaning}
use Rattle.imap_grammar.specs.Text.{Bytes}
use Rattle.imap_proto.specs.Responses.{ResponseValue}
use Rattle.imap_proto.specs.Lines.{response}
use Rattle.imap_proto.specs.LogicalLines.{logical_line}
use Rattle.imap_c.specs.declared.answers.Answer.{Answer}
use Rattle.imap_c.specs.declared.answers.LineAnswer.{LineAnswer}
use Rattle.imap_c.specs.Numbers.{found, waits, denied, out_of_memory, kind_number, status_of, number_of}

-- a response that has so many bytes
abbrev pub response_answer : ResponseValue → ℕ → Answer
response_answer v n =
    record {
      outcome = found;
      kind = kind_number v;
      status = status_of v;
      number = number_of v;
      consumed = n;
      missing = 0;
    }

-- no response, and why; so many bytes are missing
abbrev pub no_response : ℕ → ℕ → Answer
no_response why n =
    record { outcome = why; kind = 0; status = 0; number = 0; consumed = 0; missing = n }

-- how many bytes are missing, or 0 where that is not known
abbrev pub missing_bytes : Needed → ℕ
missing_bytes Unknown = 0
missing_bytes (Size n) = n

abbrev pub fault_answer : Fault → Answer
fault_answer (Incomplete n) = no_response waits (missing_bytes n)
fault_answer Error = no_response denied 0
fault_answer Failure = no_response out_of_memory 0

-- What stands at the front of m: a response, and how many bytes it has; or why there is none.
abbrev pub Tells : Bytes → Answer → Type 0
Tells m answer =
    ((v : ResponseValue)
    × (rest : Bytes)
    × (meaning response).yields m v rest
    × (answer ≡ response_answer v (length m - length rest)))
    ⊎ ((e : Fault) × Refuses (meaning response) m e × (answer ≡ fault_answer e))

-- The logical line at the front of m, and how many bytes it has; or that it isn't whole.
abbrev pub TellsLine : Bytes → LineAnswer → Type 0
TellsLine m answer =
    ((line : Bytes)
    × (rest : Bytes)
    × (meaning logical_line).yields m line rest
    × (answer ≡ record { consumed = length line; missing = 0 }))
    ⊎ ((n : Needed)
    × Refuses (meaning logical_line) m (Incomplete n)
    × (answer ≡ record { consumed = 0; missing = missing_bytes n }))
