-- A section of a message's body that is to be fetched: which is refused, and its text (RFC 3501, section 9: fetch-att,
-- section).
use Rattle.std.specs.Prelude.{ℕ, ◌<◌, ◌^◌, Bool, true, false, ◌==◌, ◌&&◌, not, List, [], ◌∷◌, ◌++◌, All, map, if◌then◌else◌, codes, decimal, Option, None, Some}
use Rattle.std.specs.List.{list_all, flat_map}
use Rattle.imap_command.specs.Arguments.{refusal, quoted}
use Rattle.imap_command.specs.OtherWords.{first_refusal, bracketed}
use Rattle.imap_command.specs.declared.errors.BuildError.{BuildError}
use Rattle.imap_command.specs.declared.errors.BuildError.TheVariants.{BadSection}
use Rattle.imap_command.specs.declared.sections.Partial.{Partial}
use Rattle.imap_command.specs.declared.sections.Section as declared
use Rattle.imap_command.specs.declared.sections.SectionText as declared_text
use Rattle.imap_command.specs.declared.sections.SectionText.TheVariants as given

-- what of a message or of a part, with the names of header fields where it has some
pub data Text : Type 0 where
  header : Text
  fields : List (List ℕ) → Text
  fields_not : List (List ℕ) → Text
  mime : Text
  text : Text

pub record Section : Type 0 where
  pub part : List ℕ
  pub text : Option Text
  pub peek : Bool
  pub partial : Option Partial

-- what is said by a section of the code, whose names stand behind references
abbrev pub said_text : declared_text.SectionText → Text
said_text given.Header = header
said_text (given.Fields names) = fields (map (λ name. name.now) names.now)
said_text (given.FieldsNot names) = fields_not (map (λ name. name.now) names.now)
said_text given.Mime = mime
said_text given.Text = text

abbrev pub said_maybe : Option declared_text.SectionText → Option Text
said_maybe None = None
said_maybe (Some what) = Some (said_text what)

abbrev pub said : declared.Section → Section
said section =
    record { part = section.part.now; text = said_maybe section.text; peek = section.peek; partial = section.partial }

-- the numbers fit the types of the code
abbrev pub PartialInRange : Option Partial → Type 0
PartialInRange None = Unit {0}
PartialInRange (Some partial) = (partial.start < 2 ^ 32) × (partial.count < 2 ^ 32)

pub record SectionInRange (section : Section) : Type 0 where
  pub part : All (λ n. n < 2 ^ 32) section.part
  pub partial : PartialInRange section.partial

-- ---- refusals

-- a part's numbers are nz-numbers
abbrev pub is_part : List ℕ → Bool
is_part part = list_all (λ n. not (n == 0)) part

-- MIME stands behind a part alone, and a header-list has one name or more
abbrev pub stands_behind : List ℕ → Option Text → Bool
stands_behind part (Some (fields [])) = false
stands_behind part (Some (fields_not [])) = false
stands_behind [] (Some mime) = false
stands_behind part what = true

-- the count is an nz-number
abbrev pub is_partial : Option Partial → Bool
is_partial None = true
is_partial (Some partial) = not (partial.count == 0)

abbrev pub is_section : Section → Bool
is_section section =
    is_part section.part && (is_partial section.partial && stands_behind section.part section.text)

-- the names of header fields, where the section lists them
abbrev pub section_names : Option Text → Option (List (List ℕ))
section_names (Some (fields names)) = Some names
section_names (Some (fields_not names)) = Some names
section_names what = None

abbrev pub names_refusal : Option (List (List ℕ)) → Option BuildError
names_refusal None = None
names_refusal (Some names) = first_refusal refusal names

-- why a section is refused, if it is; each of its names has to be a quoted string
abbrev pub section_refusal : Section → Option BuildError
section_refusal section =
    if is_section section then names_refusal (section_names section.text) else Some BadSection

-- ---- text

-- section-part: nz-number *("." nz-number)
abbrev pub behind_dot : ℕ → List ℕ
behind_dot n = codes "." ++ decimal n

abbrev pub dotted : List ℕ → List ℕ
dotted [] = []
dotted (first ∷ others) = decimal first ++ flat_map behind_dot others

-- section-text / section-msgtext, without header-list
abbrev pub text_word : Text → List ℕ
text_word header = codes "HEADER"
text_word (fields names) = codes "HEADER.FIELDS"
text_word (fields_not names) = codes "HEADER.FIELDS.NOT"
text_word mime = codes "MIME"
text_word text = codes "TEXT"

-- section-spec: section-msgtext / (section-part ["." section-text])
abbrev pub spec_word : List ℕ → Option Text → List ℕ
spec_word part None = dotted part
spec_word [] (Some what) = text_word what
spec_word part (Some what) = dotted part ++ (codes "." ++ text_word what)

-- [SP header-list]: "(" header-fld-name *(SP header-fld-name) ")"
abbrev pub names_text : Option (List (List ℕ)) → List ℕ
names_text None = []
names_text (Some names) = codes " " ++ bracketed (map quoted names)

abbrev pub body_word : Bool → List ℕ
body_word true = codes "BODY.PEEK"
body_word false = codes "BODY"

-- ["<" number "." nz-number ">"]
abbrev pub partial_text : Option Partial → List ℕ
partial_text None = []
partial_text (Some partial) = codes "<" ++ (decimal partial.start ++ (codes "." ++ (decimal partial.count ++ codes ">")))

-- what stands before the names of header fields and behind them, as `BODY.PEEK[1.HEADER.FIELDS` and `]<0.2048>`
abbrev pub before_names : Section → List ℕ
before_names section = body_word section.peek ++ (codes "[" ++ spec_word section.part section.text)

abbrev pub behind_names : Section → List ℕ
behind_names section = codes "]" ++ partial_text section.partial

-- ("BODY" / "BODY.PEEK") "[" [section-spec] "]" ["<" number "." nz-number ">"]
abbrev pub section_text : Section → List ℕ
section_text section =
    before_names section ++ (names_text (section_names section.text) ++ behind_names section)
