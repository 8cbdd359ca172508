-- The text of extension data of a body.
use Rattle.std.specs.Prelude.{◌≡◌, ◌⊎◌, List, [], ◌∷◌, Option, None, Some}
use Rattle.imap_grammar.specs.Text.{Text}
use Rattle.imap_grammar.specs.Pieces.{Pieces, ◌then◌, words, space, number_text, literal_text, ntext, list_text}
use Rattle.imap_grammar.specs.ReadBack.{Texts}
use Rattle.imap_grammar.specs.Spelling.{this, exactly, ◌and◌, blanks, nil_or, spells_some_list, spells_number, spells_string_text, spells_ntext}
use Rattle.imap_body_types.specs.ExtensionValues.{DispositionValue, ExtensionValue, Num, Str, Listed, Extensions, no_extensions, one_extension, Ext1PartValue, ExtMPartValue}
use Rattle.imap_envelopes.specs.EnvelopeTexts.{behind_space}
use Rattle.imap_bodystructure.specs.FieldTexts.{canonical_params, spells_params}

-- ---- canonical text

abbrev pub canonical_disposition : Option DispositionValue → Pieces
canonical_disposition None = words "NIL"
canonical_disposition (Some d) =
    words "(" then literal_text d.ty then space then canonical_params d.params then words ")"

-- always a list, also of one language
abbrev pub canonical_languages : Option (List Text) → Pieces
canonical_languages None = words "NIL"
canonical_languages (Some languages) = list_text literal_text languages

abbrev mutual
  pub canonical_extension : ExtensionValue → Pieces
  canonical_extension (Num n) = number_text n
  canonical_extension (Str text) = ntext text
  canonical_extension (Listed members) = words "(" then canonical_members members then words ")"

  pub canonical_members : Extensions → Pieces
  canonical_members no_extensions = []
  canonical_members (one_extension e es) = canonical_extension e then canonical_further es

  pub canonical_further : Extensions → Pieces
  canonical_further no_extensions = []
  canonical_further (one_extension e es) =
      space then canonical_extension e then canonical_further es

abbrev pub canonical_last : Option ExtensionValue → Pieces
canonical_last None = []
canonical_last (Some e) = space then canonical_extension e

-- all four fields, then the extension if there is one
abbrev pub canonical_ext_1part : Ext1PartValue → Pieces
canonical_ext_1part e =
    space
    then ntext e.md5
    then space
    then canonical_disposition e.disposition
    then space
    then canonical_languages e.language
    then space
    then ntext e.location
    then canonical_last e.extension

abbrev pub canonical_ext_mpart : ExtMPartValue → Pieces
canonical_ext_mpart e =
    space
    then canonical_params e.param
    then space
    then canonical_disposition e.disposition
    then space
    then canonical_languages e.language
    then space
    then ntext e.location
    then canonical_last e.extension

-- ---- spelling

abbrev pub spells_some_disposition : DispositionValue → Texts
spells_some_disposition d =
    exactly "("
    and spells_string_text d.ty
    and behind_space (spells_params d.params)
    and exactly ")"

abbrev pub spells_disposition : Option DispositionValue → Texts
spells_disposition = nil_or spells_some_disposition

-- one language may stand without brackets
abbrev pub spells_some_languages : List Text → Texts
spells_some_languages languages c =
    spells_some_list spells_string_text languages c
    ⊎ ((t : Text) × (languages ≡ t ∷ []) × spells_string_text t c)

abbrev pub spells_languages : Option (List Text) → Texts
spells_languages = nil_or spells_some_languages

abbrev mutual
  pub spells_extension : ExtensionValue → Texts
  spells_extension (Num n) = spells_number n
  spells_extension (Str text) = spells_ntext text
  spells_extension (Listed members) =
      exactly "(" and spells_members members and blanks and exactly ")"

  pub spells_members : Extensions → Texts
  spells_members no_extensions = λ c. ⊥
  spells_members (one_extension e es) = spells_extension e and spells_further es

  pub spells_further : Extensions → Texts
  spells_further no_extensions = this []
  spells_further (one_extension e es) = behind_space (spells_extension e) and spells_further es

-- a field and its space: both may be absent where there is no value
abbrev pub spells_field : {A : Type 0} → (Option A → Texts) → Option A → Texts
spells_field P None c = (c ≡ []) ⊎ behind_space (P None) c
spells_field P (Some x) c = behind_space (P (Some x)) c

abbrev pub spells_last : Option ExtensionValue → Texts
spells_last None = this []
spells_last (Some e) = behind_space (spells_extension e)

abbrev pub spells_ext_1part : Ext1PartValue → Texts
spells_ext_1part e =
    spells_field spells_ntext e.md5
    and spells_field spells_disposition e.disposition
    and spells_field spells_languages e.language
    and spells_field spells_ntext e.location
    and spells_last e.extension

abbrev pub spells_ext_mpart : ExtMPartValue → Texts
spells_ext_mpart e =
    spells_field spells_params e.param
    and spells_field spells_disposition e.disposition
    and spells_field spells_languages e.language
    and spells_field spells_ntext e.location
    and spells_last e.extension
