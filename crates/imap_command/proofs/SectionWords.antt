-- What stands before and behind the names of a section is a word each, and a section that is not refused has names that
-- are not refused.
use Rattle.std.proofs.Common.{◌≡◌, ℕ, List, [], ◌∷◌, ◌++◌, Bool, true, false, cond, Option, None, Some, refl}
use Rattle.std.specs.Prelude.{codes, decimal}
use Rattle.std.specs.List.{list_all, flat_map}
use Rattle.imap_command.specs.OtherWords.{is_word_byte, is_word}
use Rattle.imap_command.specs.Sections.{Text, header, fields, fields_not, mime, text, Section, is_section, section_names, names_refusal, section_refusal, behind_dot, dotted, text_word, spec_word, body_word, partial_text, before_names, behind_names}
use Rattle.imap_command.specs.declared.errors.BuildError.TheVariants.{BadSection}
use Rattle.imap_command.specs.declared.sections.Partial.{Partial}
use Rattle.imap_command.proofs.WordBytes.{bytes-append, decimal_bytes}

behind_dot_bytes : (ns : List ℕ) → list_all is_word_byte (flat_map behind_dot ns) ≡ true
behind_dot_bytes [] = refl
behind_dot_bytes (n ∷ ns) = bytes-append (decimal n) (flat_map behind_dot ns) (decimal_bytes n) (behind_dot_bytes ns)

dotted_bytes : (ns : List ℕ) → list_all is_word_byte (dotted ns) ≡ true
dotted_bytes [] = refl
dotted_bytes (first ∷ others) =
    bytes-append (decimal first) (flat_map behind_dot others) (decimal_bytes first) (behind_dot_bytes others)

text_bytes : (what : Text) → list_all is_word_byte (text_word what) ≡ true
text_bytes header = refl
text_bytes (fields names) = refl
text_bytes (fields_not names) = refl
text_bytes mime = refl
text_bytes text = refl

spec_bytes : (part : List ℕ) (what : Option Text) → list_all is_word_byte (spec_word part what) ≡ true
spec_bytes part None = dotted_bytes part
spec_bytes [] (Some what) = text_bytes what
spec_bytes (n ∷ ns) (Some what) =
    bytes-append (dotted (n ∷ ns)) (codes "." ++ text_word what) (dotted_bytes (n ∷ ns)) (text_bytes what)

-- `BODY[` or `BODY.PEEK[`
body_is_word : (peek : Bool) (spec : List ℕ) → list_all is_word_byte spec ≡ true → is_word (body_word peek ++ (codes "[" ++ spec)) ≡ true
body_is_word true spec h = h
body_is_word false spec h = h

pub before_word : (asked : Section) → is_word (before_names asked) ≡ true
before_word asked =
    body_is_word asked.peek (spec_word asked.part asked.text) (spec_bytes asked.part asked.text)

partial_bytes : (partial : Option Partial) → list_all is_word_byte (partial_text partial) ≡ true
partial_bytes None = refl
partial_bytes (Some partial) =
    bytes-append (decimal partial.start) (codes "." ++ (decimal partial.count ++ codes ">")) (decimal_bytes partial.start)
    (bytes-append (decimal partial.count) (codes ">") (decimal_bytes partial.count) refl)

pub behind_word : (asked : Section) → is_word (behind_names asked) ≡ true
behind_word asked = partial_bytes asked.partial

pub accepted_names : (asked : Section) → section_refusal asked ≡ None → names_refusal (section_names asked.text) ≡ None
accepted_names asked h =
    elim (is_section asked) as (λ v. cond v (names_refusal (section_names asked.text)) (Some BadSection) ≡ None → names_refusal (section_names asked.text) ≡ None) [
      | true ↦ λ accepted. accepted
      | false ↦ λ accepted. cc
    ] h
