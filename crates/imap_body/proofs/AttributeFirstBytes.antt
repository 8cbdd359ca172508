-- Which alternatives answer, by the first byte; what begins alike is read once.
use Rattle.std.proofs.Common.{◌≡◌, ℕ, List, None, Err, refl, codes, ◌∙◌}
use Prim.Native.String.{String}
use Rattle.std.specs.Prelude.{⊤, slice_get}
use Rattle.imap_grammar.specs.declared.answer.Err.TheVariants.{Incomplete}
use Rattle.imap_grammar.specs.declared.answer.Needed.TheVariants.{Unknown}
use Rattle.imap_grammar.specs.Rule.{Rule, gives, ◌▹◌, ◌or◌}
use Rattle.imap_grammar.specs.Starts.{SameSteps}
use Rattle.imap_grammar.specs.Step.{step}
use Rattle.imap_grammar.specs.Tags.{same_letter, word, maybe_space}
use Rattle.imap_grammar.proofs.Starts.{AtAny, AtOther, waits_without, by_any, by_other}
use Rattle.imap_bytes.specs.Numbers.{number}
use Rattle.imap_bytes.specs.Strings.{atom}
use Rattle.imap_shared.specs.Gmail.{gmail_label_list, gmail_msgid, gmail_thrid}
use Rattle.imap_envelopes.specs.Envelopes.{byte_string}
use Rattle.imap_bodystructure.specs.Bodies.{body_structure}
use Rattle.imap_body.specs.AttributeValues.{AttributeValue, BodyStructure, Rfc822, Rfc822Header, Rfc822Size, Rfc822Text}
use Rattle.imap_body.specs.Attributes.{attribute, section_contents, structure, body_attribute, whole_message, message_header, message_size, message_text, message_part, message_attribute, msg_att_body_section, msg_att_body_structure, msg_att_envelope, msg_att_internal_date, msg_att_flags, msg_att_mod_seq, msg_att_rfc822, msg_att_rfc822_header, msg_att_rfc822_size, msg_att_rfc822_text, msg_att_uid, msg_att_gmail_labels, msg_att_gmail_msgid, msg_att_gmail_thrid, msg_att_email_id, msg_att_thread_id, msg_att_save_date, msg_att_unknown, attribute_of_b, attribute_of_e, attribute_of_f, attribute_of_i, attribute_of_m, attribute_of_r, attribute_of_s, attribute_of_t, attribute_of_u, attribute_of_x}
use Rattle.imap_body.proofs.Factoring.{same_or, itself, same_behind, front_once, front_once3, grouped, word_parts}

-- ---- what begins alike

-- `STRUCTURE` behind `BODY`, and `HEADER`, `SIZE`, `TEXT` behind `RFC822.`

structure_apart : SameSteps msg_att_body_structure (word "BODY" ▹ structure)
unfolding msg_att_body_structure structure
structure_apart m = word_parts same_letter (codes "BODY") (codes "STRUCTURE ") (gives BodyStructure body_structure) m

body_once : SameSteps (msg_att_body_section or msg_att_body_structure) body_attribute
unfolding msg_att_body_section body_attribute
body_once m =
    same_or msg_att_body_section msg_att_body_section msg_att_body_structure (word "BODY" ▹ structure) (itself msg_att_body_section) structure_apart m
    ∙ front_once (word "BODY") section_contents structure m

abbrev of_part : Rule AttributeValue → Rule AttributeValue
of_part a = word "RFC822" ▹ word "." ▹ a

header_apart : SameSteps msg_att_rfc822_header (of_part message_header)
unfolding msg_att_rfc822_header message_header
header_apart m =
    word_parts same_letter (codes "RFC822") (codes ".HEADER ") (maybe_space ▹ gives Rfc822Header byte_string) m
    ∙ same_behind (word "RFC822") (word ".HEADER " ▹ maybe_space ▹ gives Rfc822Header byte_string) (word "." ▹ message_header) (word_parts same_letter (codes ".") (codes "HEADER ") (maybe_space ▹ gives Rfc822Header byte_string)) m

size_apart : SameSteps msg_att_rfc822_size (of_part message_size)
unfolding msg_att_rfc822_size message_size
size_apart m =
    word_parts same_letter (codes "RFC822") (codes ".SIZE ") (gives Rfc822Size number) m
    ∙ same_behind (word "RFC822") (word ".SIZE " ▹ gives Rfc822Size number) (word "." ▹ message_size) (word_parts same_letter (codes ".") (codes "SIZE ") (gives Rfc822Size number)) m

text_apart : SameSteps msg_att_rfc822_text (of_part message_text)
unfolding msg_att_rfc822_text message_text
text_apart m =
    word_parts same_letter (codes "RFC822") (codes ".TEXT ") (gives Rfc822Text byte_string) m
    ∙ same_behind (word "RFC822") (word ".TEXT " ▹ gives Rfc822Text byte_string) (word "." ▹ message_text) (word_parts same_letter (codes ".") (codes "TEXT ") (gives Rfc822Text byte_string)) m

part_once : SameSteps (msg_att_rfc822_header or msg_att_rfc822_size or msg_att_rfc822_text) (word "RFC822" ▹ message_part)
unfolding message_part
part_once m =
    same_or msg_att_rfc822_header (of_part message_header) (msg_att_rfc822_size or msg_att_rfc822_text) (of_part message_size or of_part message_text) header_apart
    (same_or msg_att_rfc822_size (of_part message_size) msg_att_rfc822_text (of_part message_text) size_apart text_apart) m
    ∙ front_once3 (word "RFC822") (word "." ▹ message_header) (word "." ▹ message_size) (word "." ▹ message_text) m
    ∙ same_behind (word "RFC822") ((word "." ▹ message_header) or (word "." ▹ message_size) or (word "." ▹ message_text)) message_part (front_once3 (word ".") message_header message_size message_text) m

whole_apart : SameSteps msg_att_rfc822 (word "RFC822" ▹ whole_message)
unfolding msg_att_rfc822 whole_message
whole_apart m = word_parts same_letter (codes "RFC822") (codes " ") (gives Rfc822 byte_string) m

message_once : SameSteps (msg_att_rfc822 or msg_att_rfc822_header or msg_att_rfc822_size or msg_att_rfc822_text) message_attribute
unfolding message_attribute
message_once m =
    same_or msg_att_rfc822 (word "RFC822" ▹ whole_message) (msg_att_rfc822_header or msg_att_rfc822_size or msg_att_rfc822_text) (word "RFC822" ▹ message_part) whole_apart part_once m
    ∙ front_once (word "RFC822") whole_message message_part m

-- the last of five alternatives apart
last_apart : (a b c d e : Rule AttributeValue) → SameSteps (a or b or c or d or e) ((a or b or c or d) or e)
last_apart a b c d e m =
    same_or a a (b or c or d or e) (b or ((c or d) or e)) (itself a) (same_or b b (c or d or e) ((c or d) or e) (itself b) (grouped c d e)) m
    ∙ same_or a a (b or ((c or d) or e)) ((b or c or d) or e) (itself a) (grouped b (c or d) e) m
    ∙ grouped a (b or c or d) e m

-- ---- arms

-- Where this is unfolded, the choice is, and each rule of an attribute that is one word and a value.
unfoldable pub worded_rules : ⊤
unfolding attribute msg_att_envelope msg_att_internal_date msg_att_flags msg_att_mod_seq msg_att_rfc822 msg_att_rfc822_size msg_att_rfc822_text msg_att_uid msg_att_gmail_labels gmail_label_list msg_att_gmail_msgid gmail_msgid msg_att_gmail_thrid gmail_thrid msg_att_email_id msg_att_thread_id msg_att_save_date
worded_rules = tt

-- Where this is unfolded, the choice is, and each rule of an attribute as far as its first byte.
unfoldable pub attribute_rules : ⊤
unfolding worded_rules msg_att_body_section msg_att_body_structure msg_att_rfc822_header msg_att_unknown atom
attribute_rules = tt

pub attribute_none : (m : List ℕ) → slice_get m 0 ≡ None → step attribute m ≡ Err (Incomplete Unknown)
unfolding attribute msg_att_body_section
attribute_none m is = waits_without attribute m is refl

of_body : AtAny "bB" attribute (msg_att_body_section or msg_att_body_structure or msg_att_unknown)
unfolding attribute_rules
of_body = by_any "bB" attribute (msg_att_body_section or msg_att_body_structure or msg_att_unknown) (λ m. refl)

attribute_at_b : AtAny "bB" attribute attribute_of_b
unfolding attribute_of_b
attribute_at_b m h = of_body m h ∙ grouped msg_att_body_section msg_att_body_structure msg_att_unknown m ∙ same_or (msg_att_body_section or msg_att_body_structure) body_attribute msg_att_unknown msg_att_unknown body_once (itself msg_att_unknown) m

pub of_message : AtAny "rR" attribute (msg_att_rfc822 or msg_att_rfc822_header or msg_att_rfc822_size or msg_att_rfc822_text or msg_att_unknown)
unfolding attribute_rules
of_message = by_any "rR" attribute (msg_att_rfc822 or msg_att_rfc822_header or msg_att_rfc822_size or msg_att_rfc822_text or msg_att_unknown) (λ m. refl)

attribute_at_r : AtAny "rR" attribute attribute_of_r
unfolding attribute_of_r
attribute_at_r m h = of_message m h ∙ last_apart msg_att_rfc822 msg_att_rfc822_header msg_att_rfc822_size msg_att_rfc822_text msg_att_unknown m ∙ same_or (msg_att_rfc822 or msg_att_rfc822_header or msg_att_rfc822_size or msg_att_rfc822_text) message_attribute msg_att_unknown msg_att_unknown message_once (itself msg_att_unknown) m

-- The arms of the choice: the rule that is read where one of these letters begins an attribute. As a relation, and of
-- rules that have a name, it lets `search` find the letters by the rule that was read.
pub data Arm : String → Rule AttributeValue → Type 1 where
  arm_b : Arm "bB" attribute_of_b
  arm_e : Arm "eE" attribute_of_e
  arm_f : Arm "fF" attribute_of_f
  arm_i : Arm "iI" attribute_of_i
  arm_m : Arm "mM" attribute_of_m
  arm_r : Arm "rR" attribute_of_r
  arm_s : Arm "sS" attribute_of_s
  arm_t : Arm "tT" attribute_of_t
  arm_u : Arm "uU" attribute_of_u
  arm_x : Arm "xX" attribute_of_x

pub attribute_in_arm : (k : String) (r : Rule AttributeValue) → Arm k r → AtAny k attribute r
unfolding attribute_rules attribute_of_e attribute_of_f attribute_of_i attribute_of_m attribute_of_s attribute_of_t attribute_of_u attribute_of_x
attribute_in_arm k r arm_b = attribute_at_b
attribute_in_arm k r arm_e = by_any "eE" attribute attribute_of_e (λ m. refl)
attribute_in_arm k r arm_f = by_any "fF" attribute attribute_of_f (λ m. refl)
attribute_in_arm k r arm_i = by_any "iI" attribute attribute_of_i (λ m. refl)
attribute_in_arm k r arm_m = by_any "mM" attribute attribute_of_m (λ m. refl)
attribute_in_arm k r arm_r = attribute_at_r
attribute_in_arm k r arm_s = by_any "sS" attribute attribute_of_s (λ m. refl)
attribute_in_arm k r arm_t = by_any "tT" attribute attribute_of_t (λ m. refl)
attribute_in_arm k r arm_u = by_any "uU" attribute attribute_of_u (λ m. refl)
attribute_in_arm k r arm_x = by_any "xX" attribute attribute_of_x (λ m. refl)

pub attribute_other : AtOther "bBeEfFiImMrRsStTuUxX" attribute msg_att_unknown
unfolding attribute_rules
attribute_other = by_other "bBeEfFiImMrRsStTuUxX" attribute msg_att_unknown (λ m. refl)

pub ruleset arms = (
  attribute_none,
  attribute_in_arm,
  arm_b,
  arm_e,
  arm_f,
  arm_i,
  arm_m,
  arm_r,
  arm_s,
  arm_t,
  arm_u,
  arm_x,
  attribute_other,
)
