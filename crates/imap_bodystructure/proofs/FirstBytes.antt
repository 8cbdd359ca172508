-- Which alternatives answer, by the first byte.
use Rattle.std.proofs.Common.{◌≡◌, ℕ, zero, suc, List, None, Err, refl}
use Rattle.std.specs.Prelude.{slice_get}
use Rattle.imap_grammar.specs.declared.answer.Err.TheVariants.{Incomplete}
use Rattle.imap_grammar.specs.declared.answer.Needed.TheVariants.{Unknown}
use Rattle.imap_grammar.specs.Rule.{never}
use Rattle.imap_grammar.specs.Step.{step}
use Rattle.imap_grammar.proofs.Starts.{AtAny, AtDigit, AtOther, AtOtherThanDigits, waits_without, by_any, by_digit, by_other, by_other_than_digits}
use Rattle.imap_bytes.specs.Strings.{nil, quoted, literal, literal_header, string}
use Rattle.imap_bytes.specs.Numbers.{digits, number}
use Rattle.imap_bytes.specs.Texts.{string_utf8, nstring_utf8}
use Rattle.imap_bodystructure.specs.Fields.{encoding_name, seven_bit, eight_bit, binary_or_base64, quoted_printable, body_fld_enc, nil_encoding, quoted_encoding, other_encoding, encoding_in_quotes}
use Rattle.imap_bodystructure.specs.Extensions.{extension_over, number_extension, string_extension, extension_list, bracketed_extensions}
use Rattle.imap_bodystructure.specs.Bodies.{body, bracketed_body, body_type, quoted_type, body_type_text, body_type_msg, message_word, body_type_basic, body_type_mpart, some_bodies}

-- ---- names of encodings

pub name_none : (m : List ℕ) → slice_get m 0 ≡ None → step encoding_name m ≡ Err (Incomplete Unknown)
unfolding encoding_name
name_none m is = waits_without encoding_name m is refl

pub name_is_seven_bit : AtAny "7" encoding_name seven_bit
unfolding encoding_name seven_bit
name_is_seven_bit = by_any "7" encoding_name seven_bit (λ m. refl)

pub name_is_eight_bit : AtAny "8" encoding_name eight_bit
unfolding encoding_name eight_bit
name_is_eight_bit = by_any "8" encoding_name eight_bit (λ m. refl)

pub name_is_binary_or_base64 : AtAny "bB" encoding_name binary_or_base64
unfolding encoding_name binary_or_base64
name_is_binary_or_base64 = by_any "bB" encoding_name binary_or_base64 (λ m. refl)

pub name_is_quoted_printable : AtAny "qQ" encoding_name quoted_printable
unfolding encoding_name quoted_printable
name_is_quoted_printable = by_any "qQ" encoding_name quoted_printable (λ m. refl)

pub name_other : AtOther "78bBqQ" encoding_name never
unfolding encoding_name
name_other = by_other "78bBqQ" encoding_name never (λ m. refl)

-- ---- encodings

pub encoding_none : (m : List ℕ) → slice_get m 0 ≡ None → step body_fld_enc m ≡ Err (Incomplete Unknown)
unfolding body_fld_enc nil
encoding_none m is = waits_without body_fld_enc m is refl

pub encoding_is_in_quotes : AtAny "\"" body_fld_enc encoding_in_quotes
unfolding body_fld_enc nil quoted_encoding string_utf8 string quoted literal literal_header other_encoding encoding_in_quotes
encoding_is_in_quotes = by_any "\"" body_fld_enc encoding_in_quotes (λ m. refl)

pub encoding_is_literal : AtAny "{" body_fld_enc other_encoding
unfolding body_fld_enc nil quoted_encoding string_utf8 string quoted literal literal_header other_encoding
encoding_is_literal = by_any "{" body_fld_enc other_encoding (λ m. refl)

pub encoding_is_nil : AtAny "nN" body_fld_enc nil_encoding
unfolding body_fld_enc nil quoted_encoding string_utf8 string quoted literal literal_header nil_encoding
encoding_is_nil = by_any "nN" body_fld_enc nil_encoding (λ m. refl)

pub encoding_other : AtOther "\"{nN" body_fld_enc never
unfolding body_fld_enc nil quoted_encoding string_utf8 string quoted literal literal_header
encoding_other = by_other "\"{nN" body_fld_enc never (λ m. refl)

-- ---- extensions, with lists of any level

pub extension_none : (level : ℕ) (m : List ℕ) → slice_get m 0 ≡ None → step (extension_over (extension_list level)) m ≡ Err (Incomplete Unknown)
unfolding extension_over number digits
extension_none level m is = waits_without (extension_over (extension_list level)) m is refl

pub extension_is_string : (level : ℕ) → AtAny "\"{nN" (extension_over (extension_list level)) string_extension
unfolding extension_over extension_list bracketed_extensions number digits nstring_utf8 nil string_utf8 string quoted literal literal_header string_extension
extension_is_string zero = by_any "\"{nN" (extension_over (extension_list zero)) string_extension (λ m. refl)
extension_is_string (suc n) = by_any "\"{nN" (extension_over (extension_list (suc n))) string_extension (λ m. refl)

pub extension_is_list : (level : ℕ) → AtAny "(" (extension_over (extension_list level)) (extension_list level)
unfolding extension_over extension_list bracketed_extensions number digits nstring_utf8 nil string_utf8 string quoted literal literal_header
extension_is_list zero = by_any "(" (extension_over (extension_list zero)) (extension_list zero) (λ m. refl)
extension_is_list (suc n) = by_any "(" (extension_over (extension_list (suc n))) (extension_list (suc n)) (λ m. refl)

pub extension_is_number : (level : ℕ) → AtDigit (extension_over (extension_list level)) number_extension
unfolding extension_over extension_list bracketed_extensions number digits nstring_utf8 nil string_utf8 string quoted literal literal_header number_extension
extension_is_number zero = by_digit (extension_over (extension_list zero)) number_extension (λ m. refl)
extension_is_number (suc n) = by_digit (extension_over (extension_list (suc n))) number_extension (λ m. refl)

pub extension_other : (level : ℕ) → AtOtherThanDigits "\"{nN(" (extension_over (extension_list level)) never
unfolding extension_over extension_list bracketed_extensions number digits nstring_utf8 nil string_utf8 string quoted literal literal_header
extension_other zero = by_other_than_digits "\"{nN(" (extension_over (extension_list zero)) never (λ m. refl)
extension_other (suc n) = by_other_than_digits "\"{nN(" (extension_over (extension_list (suc n))) never (λ m. refl)

-- ---- types of bodies, with bodies inside of any level

pub type_none : (level : ℕ) (m : List ℕ) → slice_get m 0 ≡ None → step (body_type (body level)) m ≡ Err (Incomplete Unknown)
unfolding body_type body_type_text
type_none level m is = waits_without (body_type (body level)) m is refl

pub type_is_quoted : (level : ℕ) → AtAny "\"" (body_type (body level)) (quoted_type (body level))
unfolding body_type body_type_text body_type_msg message_word body_type_basic body_type_mpart some_bodies body bracketed_body string_utf8 string quoted literal literal_header quoted_type
type_is_quoted zero = by_any "\"" (body_type (body zero)) (quoted_type (body zero)) (λ m. refl)
type_is_quoted (suc n) = by_any "\"" (body_type (body (suc n))) (quoted_type (body (suc n))) (λ m. refl)

pub type_is_literal : (level : ℕ) → AtAny "{" (body_type (body level)) body_type_basic
unfolding body_type body_type_text body_type_msg message_word body_type_basic body_type_mpart some_bodies body bracketed_body string_utf8 string quoted literal literal_header
type_is_literal zero = by_any "{" (body_type (body zero)) body_type_basic (λ m. refl)
type_is_literal (suc n) = by_any "{" (body_type (body (suc n))) body_type_basic (λ m. refl)

pub type_is_mpart : (level : ℕ) → AtAny "(" (body_type (body level)) (body_type_mpart (body level))
unfolding body_type body_type_text body_type_msg message_word body_type_basic body_type_mpart some_bodies body bracketed_body string_utf8 string quoted literal literal_header
type_is_mpart zero = by_any "(" (body_type (body zero)) (body_type_mpart (body zero)) (λ m. refl)
type_is_mpart (suc n) = by_any "(" (body_type (body (suc n))) (body_type_mpart (body (suc n))) (λ m. refl)

pub type_other : (level : ℕ) → AtOther "\"{(" (body_type (body level)) never
unfolding body_type body_type_text body_type_msg message_word body_type_basic body_type_mpart some_bodies body bracketed_body string_utf8 string quoted literal literal_header
type_other zero = by_other "\"{(" (body_type (body zero)) never (λ m. refl)
type_other (suc n) = by_other "\"{(" (body_type (body (suc n))) never (λ m. refl)

pub ruleset name_arms = (name_none, name_is_seven_bit, name_is_eight_bit, name_is_binary_or_base64, name_is_quoted_printable, name_other)

pub ruleset encoding_arms = (encoding_none, encoding_is_in_quotes, encoding_is_literal, encoding_is_nil, encoding_other)
