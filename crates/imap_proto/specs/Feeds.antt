-- Feeds: what a call gives of the bytes that are held, and what stands in all the pieces of a stream.
use Rattle.std.specs.Prelude.{◌≡◌, ◌⊎◌, ℕ, ◌<◌, ◌≤◌, ◌-◌, List, [], ◌∷◌, ◌++◌, length, drop, map, Option, None, Some, Result, Ok, Err}
use Rattle.imap_grammar.specs.declared.answer.Err.{Err as Fault}
use Rattle.imap_grammar.specs.declared.answer.Err.TheVariants.{Incomplete, Error, Failure}
use Rattle.imap_grammar.specs.Answer.{Stops}
use Rattle.imap_grammar.specs.Meaning.{Denies}
use Rattle.imap_grammar.specs.Memory.{StartsWith}
use Rattle.imap_grammar.specs.Rule.{meaning}
use Rattle.imap_grammar.specs.Step.{step}
use Rattle.imap_grammar.specs.Text.{Bytes}
use Rattle.imap_proto.specs.declared.response.Response.{Response}
use Rattle.imap_proto.specs.declared.stream.End.{End}
use Rattle.imap_proto.specs.declared.stream.End.TheVariants as ends
use Rattle.imap_proto.specs.declared.stream.FeedError.{FeedError}
use Rattle.imap_proto.specs.declared.stream.FeedError.TheVariants.{Denied, OutOfMemory}
use Rattle.imap_proto.specs.declared.whole.Whole.{Whole}
use Rattle.imap_proto.specs.Responses.{ResponseValue, response_value, lent_response}
use Rattle.imap_proto.specs.Memory.{MayWantMemory, TakesNone}
use Rattle.imap_proto.specs.Owned.{owned_response, IsMovedWhole}
use Rattle.imap_proto.specs.Lines.{response}
use Rattle.imap_proto.specs.Streams.{Waiting, Splits, Fed}

-- what is held waits until so many bytes were put behind it
abbrev pub WaitsFor : Bytes → ℕ → Type 0
WaitsFor held n = (more : Bytes) → length more < n → Waiting (held ++ more)

-- what stands at the front of m, as the grammar answers: a response, with all its texts owned, and how many bytes are
-- behind it; or why there is none
abbrev pub IsOwnedFront : Bytes → Result (ℕ × Response) Fault → Type 0
IsOwnedFront m (Ok x) =
    (v : ResponseValue)
    × (rest : Bytes)
    × (step response m ≡ Ok (rest, v))
    × (x.0 ≡ length rest)
    × (response_value x.1 ≡ owned_response v)
IsOwnedFront m (Err e) = Stops e (step response m)

-- of an answer at the front of m, whatever it gives: bytes of m are behind that, or the grammar stops so
abbrev pub IsFront : {R : Type 0} → Bytes → Result (ℕ × R) Fault → Type 0
IsFront m (Ok x) = x.0 ≤ length m
IsFront m (Err e) = Stops e (step response m)

-- what a feed that held this answers then, and what it holds
abbrev pub Settles : {R : Type 0} → Bytes → Result (ℕ × R) Fault → Result (Option R) FeedError → Bytes → Type 0
Settles held (Ok x) answer left =
    (answer ≡ Ok (Some x.1)) × (left ≡ drop (length held - x.0) held)
Settles held (Err (Incomplete n)) answer left = (answer ≡ Ok None) × (left ≡ held)
Settles held (Err Error) answer left = (answer ≡ Err Denied) × (left ≡ held)
Settles held (Err Failure) answer left = (answer ≡ Err OutOfMemory) × (left ≡ held)

-- what was given is put behind the others; or it is told why none was
abbrev pub Puts : {R : Type 0} → List R → Result (Option R) FeedError → Option End → List R → Type 0
Puts before (Ok (Some r)) end after = (end ≡ None) × (after ≡ before ++ r ∷ [])
Puts before (Ok None) end after = (end ≡ Some ends.Waits) × (after ≡ before)
Puts before (Err Denied) end after = (end ≡ Some ends.Denied) × (after ≡ before)
Puts before (Err OutOfMemory) end after = ⊥

-- What a feed gave of what it held, and what it holds then: the response at the front, with all its texts owned, and
-- what is behind it; or none, where what it holds waits.
abbrev pub Gave : Bytes → Option Response → Bytes → Type 0
Gave held (Some r) left =
    (v : ResponseValue)
    × (meaning response).yields held v left
    × (response_value r ≡ owned_response v)
Gave held None left = Waiting held × (left ≡ held)

-- whatever pieces a feed was fed, and whatever it has given: it was fed one piece more
abbrev pub IsFedMore : Bytes → Bytes → Bytes → Type 0
IsFedMore held piece left =
    (pieces : List Bytes) (vs : List ResponseValue) →
    Fed pieces vs held →
    Fed (pieces ++ piece ∷ []) vs left

-- and it has given one response more, this one, with all its texts owned
abbrev pub HasGivenMore : Bytes → Response → Bytes → Type 0
HasGivenMore held r left =
    (pieces : List Bytes) (vs : List ResponseValue) →
    Fed pieces vs held →
    (v : ResponseValue)
    × (response_value r ≡ owned_response v)
    × Fed pieces (vs ++ v ∷ []) left

-- The response in front is read without memory, and moved whole into its owned form: as EXPUNGE and EXISTS are.
abbrev pub IsGivenFreely : Bytes → Type 0
IsGivenFreely held =
    (v : ResponseValue)
    × (rest : Bytes)
    × (step response held ≡ Ok (rest, v))
    × TakesNone v
    × IsMovedWhole v

-- where memory may be wanted: to read a response, or to own the one that stands in front
abbrev pub FeedMayWant : Bytes → Type 0
FeedMayWant held = (MayWantMemory held ⊎ StartsWith response held) × (¬ (IsGivenFreely held))

-- It is denied only where no response begins with what is held, whatever is put behind it. Memory ran out only where it
-- may be wanted.
abbrev pub RefusesAs : Bytes → FeedError → Type 0
RefusesAs held Denied = Denies (meaning response) held
RefusesAs held OutOfMemory = FeedMayWant held

-- all responses of the split of what was held were put behind the others, with their texts owned
abbrev pub TakesAll : Bytes → List Response → Bytes → List Response → End → Type 0
TakesAll held before left after end =
    (vs : List ResponseValue)
    × (map response_value after ≡ map response_value before ++ map owned_response vs)
    × Splits held vs left end

-- the split of m, the texts of its responses owned
abbrev pub IsWhole : Bytes → Whole Response → Type 0
IsWhole m w =
    (vs : List ResponseValue)
    × (map response_value w.responses.items ≡ map owned_response vs)
    × Splits m vs w.rest.items w.end

-- what it says, with all texts borrowed: two wholes say the same where these are equal
abbrev pub lent_whole : Whole Response → List ResponseValue × (Bytes × End)
lent_whole w = (map lent_response (map response_value w.responses.items), (w.rest.items, w.end))

-- ---- law

-- the bytes alone tell the whole, and not where they were cut
abbrev pub OneWhole : Type 0
OneWhole =
    (m : Bytes) (w x : Whole Response) →
    IsWhole m w →
    IsWhole m x →
    (map response_value w.responses.items ≡ map response_value x.responses.items)
    × (w.rest.items ≡ x.rest.items)
    × (w.end ≡ x.end)
