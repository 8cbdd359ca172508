-- The forms of JSON in which values are told, and what is written for them. An object's members stand in the order that
-- is said here.
use Rattle.std.specs.Prelude.{◌≡◌, ℕ, Bool, List, [], ◌∷◌, ◌++◌, Option, None, Some, map}
use Rattle.json.specs.Token.{Token, key}
use Rattle.json.specs.Tree.{json_tokens}
use Rattle.serde_json.specs.Data.{Data, null, boolean, number, string, array, object, unsigned, Members, no_members, member}
use Rattle.serde_json.specs.View.{items_of}
use Rattle.serde_json.specs.Written.{outline}
use Rattle.imap_grammar.specs.Text.{Bytes}
use Rattle.imap_json.specs.declared.output.Output.{Output}

-- ---- values

abbrev pub number_json : ℕ → Data
number_json n = number (unsigned n)

abbrev pub flag_json : Bool → Data
flag_json b = boolean b

abbrev pub string_json : Bytes → Data
string_json s = string s

-- null where there is none
abbrev pub option_json : {A : Type 0} → (A → Data) → Option A → Data
option_json f None = null
option_json f (Some x) = f x

abbrev pub list_json : {A : Type 0} → (A → Data) → List A → Data
list_json f xs = array (items_of (map f xs))

abbrev pub pair_json : {A B : Type 0} → (A → Data) → (B → Data) → A × B → Data
pair_json f g p = array (items_of (f p.0 ∷ g p.1 ∷ []))

abbrev pub triple_json :
    {A B C : Type 0} → (A → Data) → (B → Data) → (C → Data) → A × B × C → Data
triple_json f g h p = array (items_of (f p.0 ∷ g p.1 ∷ h p.2 ∷ []))

-- ---- objects

abbrev pub Field : Type 0
Field = Bytes × Data

abbrev pub members_of : List Field → Members
members_of [] = no_members
members_of (f ∷ fs) = member f.0 f.1 (members_of fs)

abbrev pub object_json : List Field → Data
object_json fields = object (members_of fields)

-- a variant without fields is its name, and one with fields an object of one member
abbrev pub variant_json : Bytes → Data → Data
variant_json name d = object_json ((name, d) ∷ [])

-- ---- what is written

-- these tokens, behind what stood there
pub record Appends (old new : Output) (ts : List Token) : Type 0 where
  pub tokens : new.writer.tokens ≡ old.writer.tokens ++ ts
  pub before : new.writer.before ≡ old.writer.before

-- a value
abbrev pub Tells : Output → Output → Data → Type 0
Tells old new d = Appends old new (json_tokens (outline d))

abbrev pub field_tokens : Bytes → Data → List Token
field_tokens name d = key name ∷ json_tokens (outline d)

abbrev pub items_front : List Data → List Token
items_front [] = []
items_front (d ∷ ds) = json_tokens (outline d) ++ items_front ds

abbrev pub fields_front : List Field → List Token
fields_front [] = []
fields_front (f ∷ fs) = field_tokens f.0 f.1 ++ fields_front fs
