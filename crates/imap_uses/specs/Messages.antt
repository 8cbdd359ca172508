-- Which UID a response tells of a message.
use Rattle.std.specs.Prelude.{◌≡◌, ℕ, List, [], ◌∷◌, Option, None, Some}
use Rattle.std.specs.Option.{option_or}
use Rattle.imap_grammar.specs.Rule.{meaning}
use Rattle.imap_grammar.specs.Text.{Bytes}
use Rattle.imap_body.specs.AttributeValues.{AttributeValue, Uid}
use Rattle.imap_proto.specs.Lines.{response}
use Rattle.imap_proto.specs.Responses.{ResponseValue, Fetch}

-- the UID that an attribute is
abbrev pub uid_told : AttributeValue → Option ℕ
uid_told (Uid n) = Some n
uid_told other = None

-- the first UID among attributes
abbrev pub first_uid : List AttributeValue → Option ℕ
first_uid [] = None
first_uid (attribute ∷ others) = option_or (uid_told attribute) (first_uid others)

-- the UID in a FETCH
abbrev pub told_uid : ResponseValue → Option ℕ
told_uid (Fetch n attributes) = first_uid attributes
told_uid other = None

-- a response stands at the front of m that tells this UID
abbrev pub BeginsTelling : Bytes → Option ℕ → Type 0
BeginsTelling m uid =
    (v : ResponseValue) × (rest : Bytes) × (meaning response).yields m v rest × (uid ≡ told_uid v)
