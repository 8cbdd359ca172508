-- Extension data of bodies (RFC 3501, section 9: body-ext-1part, body-ext-mpart, body-fld-dsp, body-fld-lang,
-- body-extension).
use Rattle.std.specs.Prelude.{ℕ, zero, suc, List, [], ◌∷◌, Option, Some}
use Rattle.std.specs.Option.{option_map}
use Rattle.imap_grammar.specs.Text.{Text}
use Rattle.imap_grammar.specs.Rule.{Rule, gives, never, opt, list1, ◌⨾◌, ◌▹◌, ◌◃◌, ◌or◌}
use Rattle.imap_grammar.specs.Tags.{tag, sp, blanks0}
use Rattle.imap_grammar.specs.Lists.{opt_opt_of}
use Rattle.imap_bytes.specs.Numbers.{number}
use Rattle.imap_bytes.specs.Strings.{nil_or}
use Rattle.imap_bytes.specs.Texts.{string_utf8, nstring_utf8}
use Rattle.imap_body_types.specs.FieldValues.{ParamsValue}
use Rattle.imap_body_types.specs.ExtensionValues.{DispositionValue, disposition_seen, languages_seen, ExtensionValue, Num, Str, Listed, extensions_of, extension_seen, Ext1PartValue, ExtMPartValue}
use Rattle.imap_envelopes.specs.Envelopes.{spaced}
use Rattle.imap_bodystructure.specs.Fields.{body_fld_param}
use Rattle.imap_bodystructure.specs.declared.at.extensions.SharedFields.{SharedFields}

-- ---- disposition and language

abbrev pub disposition_of : Text × ParamsValue → DispositionValue
disposition_of (ty, params) = record { ty = ty; params = params }

-- body-fld-dsp = "(" string SP body-fld-param ")" / nil
unfoldable pub body_fld_dsp : Rule (Option DispositionValue)
body_fld_dsp =
    nil_or (gives disposition_of (tag "(" ▹ string_utf8 ⨾ spaced body_fld_param ◃ tag ")"))

-- string *(SP string)
unfoldable pub some_languages : Rule (List Text)
some_languages = list1 sp string_utf8

-- a single language is a list of one
abbrev pub one_language : Option Text → Option (List Text)
one_language t = option_map (λ x. x ∷ []) t

-- "(" string *(SP string) ")", where blanks may stand before the `)`
unfoldable pub language_list : Rule (Option (List Text))
language_list = gives Some (tag "(" ▹ some_languages ◃ blanks0 ⨾ tag ")")

-- body-fld-lang = nstring / "(" string *(SP string) ")", with blanks as above
unfoldable pub body_fld_lang : Rule (Option (List Text))
body_fld_lang = gives one_language nstring_utf8 or language_list

-- ---- extensions, down to a level

-- number / nstring / a list
unfoldable pub extension_over : Rule ExtensionValue → Rule ExtensionValue
extension_over lists = gives Num number or gives Str nstring_utf8 or lists

-- ---- no further rules: those alternatives that may start with one byte, as the reader tries them, but for lists

unfoldable pub number_extension : Rule ExtensionValue
number_extension = gives Num number

unfoldable pub string_extension : Rule ExtensionValue
string_extension = gives Str nstring_utf8

-- body-extension *(SP body-extension), where lists inside are those
unfoldable pub some_extensions : Rule ExtensionValue → Rule (List ExtensionValue)
some_extensions lists = list1 sp (extension_over lists)

abbrev pub list_of_extensions : List ExtensionValue → ExtensionValue
list_of_extensions es = Listed (extensions_of es)

-- "(" body-extension *(SP body-extension) ")", where lists inside are those, and blanks may stand before the `)`
unfoldable pub bracketed_extensions : Rule ExtensionValue → Rule ExtensionValue
bracketed_extensions lists =
    gives list_of_extensions (tag "(" ▹ some_extensions lists ◃ blanks0 ⨾ tag ")")

-- a list, with lists inside up to the level below; at level 0 it denies without looking
unfoldable pub extension_list : ℕ → Rule ExtensionValue
extension_list zero = never
extension_list (suc level) = bracketed_extensions (extension_list level)

-- body-extension = nstring / number / "(" body-extension *(SP body-extension) ")", up to so many lists inside one
--     another
abbrev pub extension : ℕ → Rule ExtensionValue
extension level = extension_over (extension_list level)

-- body-extension, up to 100 lists inside one another
unfoldable pub body_extension : Rule ExtensionValue
body_extension = extension 100

-- ---- what stands behind the fields

-- SP A, or nothing, not even the space, where A is denied
abbrev pub maybe_spaced : {A : Type 0} → Rule (Option A) → Rule (Option A)
maybe_spaced a = opt_opt_of (spaced a)

-- SP body-extension, maybe
unfoldable pub last_extension : Rule (Option ExtensionValue)
last_extension = opt (spaced body_extension)

-- what both kinds of extension data end with: disposition, language, location and extension
abbrev pub SharedValue : Type 0
SharedValue = Option DispositionValue × (Option (List Text) × (Option Text × Option ExtensionValue))

abbrev pub Ext : Type 0 → Type 0
Ext A = A × SharedValue

abbrev pub ext_1part_of : Ext (Option Text) → Ext1PartValue
ext_1part_of (md5, (disposition, (language, (location, extension)))) =
    record {
      md5 = md5;
      disposition = disposition;
      language = language;
      location = location;
      extension = extension;
    }

-- body-ext-1part = body-fld-md5 [SP body-fld-dsp [SP body-fld-lang [SP body-fld-loc *(SP body-extension)]]],
-- each after its space, any of them missing, and one body-extension at most
unfoldable pub body_ext_1part : Rule Ext1PartValue
body_ext_1part =
    gives ext_1part_of
    (maybe_spaced nstring_utf8
    ⨾ maybe_spaced body_fld_dsp
    ⨾ maybe_spaced body_fld_lang
    ⨾ maybe_spaced nstring_utf8
    ⨾ last_extension)

abbrev pub ext_mpart_of : Ext ParamsValue → ExtMPartValue
ext_mpart_of (param, (disposition, (language, (location, extension)))) =
    record {
      param = param;
      disposition = disposition;
      language = language;
      location = location;
      extension = extension;
    }

-- body-ext-mpart = body-fld-param [SP body-fld-dsp [SP body-fld-lang [SP body-fld-loc *(SP body-extension)]]], in
--     the same way
unfoldable pub body_ext_mpart : Rule ExtMPartValue
body_ext_mpart =
    gives ext_mpart_of
    (maybe_spaced body_fld_param
    ⨾ maybe_spaced body_fld_dsp
    ⨾ maybe_spaced body_fld_lang
    ⨾ maybe_spaced nstring_utf8
    ⨾ last_extension)

-- The end of both, which has a reader of its own: [SP body-fld-dsp [SP body-fld-lang [SP body-fld-loc
--     *(SP body-extension)]]]
abbrev pub shared_fields : Rule SharedValue
shared_fields =
    maybe_spaced body_fld_dsp
    ⨾ maybe_spaced body_fld_lang
    ⨾ maybe_spaced nstring_utf8
    ⨾ last_extension

-- What these fields say, where f is what a text says.
unfoldable pub shared_fields_seen : {S : Type 0} → (S → Text) → SharedFields S → SharedValue
shared_fields_seen f x = (
  option_map (disposition_seen f) x.disposition,
  (languages_seen f x.language, (option_map f x.location, option_map (extension_seen f) x.extension)),
)
