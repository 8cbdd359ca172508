-- Fronts: what a feed gives where a FETCH is kept with its bytes.
use Rattle.std.specs.Prelude.{◌≡◌, ℕ, List, [], ◌∷◌, ◌++◌, length, Option, None, Some, Result, Ok, Err}
use Rattle.imap_grammar.specs.declared.answer.Err.{Err as Fault}
use Rattle.imap_grammar.specs.Answer.{Stops}
use Rattle.imap_grammar.specs.Memory.{StartsWith}
use Rattle.imap_grammar.specs.Rule.{meaning, ◌▹◌}
use Rattle.imap_grammar.specs.Step.{step}
use Rattle.imap_grammar.specs.Tags.{tag, word}
use Rattle.imap_grammar.specs.Text.{Bytes}
use Rattle.imap_bytes.specs.Numbers.{number}
use Rattle.imap_proto.specs.declared.kept.Front.{Front}
use Rattle.imap_proto.specs.declared.kept.Front.TheVariants as front
use Rattle.imap_proto.specs.Responses.{ResponseValue, Fetch, IsFetch, response_value}
use Rattle.imap_proto.specs.Owned.{owned_response}
use Rattle.imap_proto.specs.Kept.{message_number, consumed_bytes, attributes_of}
use Rattle.imap_proto.specs.Lines.{response}
use Rattle.imap_proto.specs.Streams.{Waiting, Fed}
use Rattle.imap_proto.specs.Skipping.{Item, Taken, Passed}

-- what is given for a response at the front of what is held: a FETCH is kept with the bytes before the rest, and of any
-- other response all texts are owned
abbrev pub FrontSays : Bytes → Front → ResponseValue → Bytes → Type 0
FrontSays held (front.Fetch k) v rest =
    (v ≡ Fetch (message_number k) (attributes_of k)) × (held ≡ consumed_bytes k ++ rest)
FrontSays held (front.Other r) v rest = (response_value r ≡ owned_response v) × (¬ (IsFetch v))

-- what stands at the front of m, as the grammar answers, and how many bytes are behind it; or why there is none
abbrev pub IsKeptFront : Bytes → Result (ℕ × Front) Fault → Type 0
IsKeptFront m (Ok x) =
    (v : ResponseValue)
    × (rest : Bytes)
    × (step response m ≡ Ok (rest, v))
    × (x.0 ≡ length rest)
    × FrontSays m x.1 v rest
IsKeptFront m (Err e) = Stops e (step response m)

-- what a feed gave of what it held, and what it holds then; or none, where what it holds waits
abbrev pub GaveFront : Bytes → Option Front → Bytes → Type 0
GaveFront held (Some x) left =
    (v : ResponseValue) × (meaning response).yields held v left × FrontSays held x v left
GaveFront held None left = Waiting held × (left ≡ held)

-- whatever pieces a feed was fed, and whatever it has given: it has given one response more, this one
abbrev pub HasGivenFront : Bytes → Front → Bytes → Type 0
HasGivenFront held x left =
    (pieces : List Bytes) (vs : List ResponseValue) →
    Fed pieces vs held →
    (v : ResponseValue) × FrontSays held x v left × Fed pieces (vs ++ v ∷ []) left

-- and so where lines were skipped
abbrev pub PassesFront : Bytes → Front → Bytes → Type 0
PassesFront held x left =
    (pieces : List Bytes) (items : List Item) →
    Passed pieces items held →
    (v : ResponseValue) × FrontSays held x v left × Passed pieces (items ++ Taken v ∷ []) left

-- `* `, a number and ` FETCH ` stand in front
abbrev pub BeginsFetch : Bytes → Type 0
BeginsFetch m = StartsWith (tag "* " ▹ number ▹ word " FETCH ") m
