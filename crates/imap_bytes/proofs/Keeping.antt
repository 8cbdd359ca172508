-- Both laws of numbers and of strings at once.
use Rattle.std.proofs.Common.{◌≡◌, ◌++◌, IsTrue, Option, None, Some, codes}
use Rattle.std.specs.Option.{option_map}
use Rattle.imap_grammar.specs.Meaning.{differs}
use Rattle.imap_grammar.specs.Rule.{Rule}
use Rattle.imap_grammar.specs.Text.{Bytes, lent_text}
use Rattle.imap_grammar.specs.Tags.{same_letter}
use Rattle.imap_grammar.specs.Pieces.{Pieces, words, written, number_text, literal_text, quoted_text, ntext}
use Rattle.imap_grammar.specs.ReadBack.{Texts, SpellsAndReadsBack, Any, BeginsWith, as_is}
use Rattle.imap_grammar.specs.Spelling.{nil_or, spells_number, spells_string_text, spells_quoted_text, spells_astring_text, spells_ntext}
use Rattle.imap_bytes.specs.Numbers.{number, number_64}
use Rattle.imap_bytes.specs.Strings.{nil_or as nil_or_rule}
use Rattle.imap_bytes.specs.Texts.{string_utf8, quoted_utf8, astring_utf8, nstring_utf8}
use Rattle.imap_bytes.proofs.ReadingTexts.{not_digit, reads-number, reads-number_64, reads-string_utf8, reads-astring_utf8, reads-nstring_utf8, reads-nil_or}
use Rattle.imap_bytes.proofs.ReadingQuoted.{reads-quoted_utf8}
use Rattle.imap_bytes.proofs.SpellingTexts.{spells-number, spells-number_64, spells-string_utf8, spells-quoted_utf8, spells-astring_utf8, spells-nstring_utf8, spells-nil_or}

pub keeps-number : SpellsAndReadsBack number as_is number_text spells_number (BeginsWith not_digit)
keeps-number = record { spelled = spells-number; back = reads-number }

pub keeps-number_64 : SpellsAndReadsBack number_64 as_is number_text spells_number (BeginsWith not_digit)
keeps-number_64 = record { spelled = spells-number_64; back = reads-number_64 }

pub keeps-string_utf8 : SpellsAndReadsBack string_utf8 lent_text literal_text spells_string_text Any
keeps-string_utf8 = record { spelled = spells-string_utf8; back = reads-string_utf8 }

pub keeps-quoted_utf8 : SpellsAndReadsBack quoted_utf8 lent_text quoted_text spells_quoted_text Any
keeps-quoted_utf8 = record { spelled = spells-quoted_utf8; back = reads-quoted_utf8 }

pub keeps-astring_utf8 : SpellsAndReadsBack astring_utf8 lent_text literal_text spells_astring_text Any
keeps-astring_utf8 = record { spelled = spells-astring_utf8; back = reads-astring_utf8 }

pub keeps-nstring_utf8 : SpellsAndReadsBack nstring_utf8 (option_map lent_text) ntext spells_ntext Any
keeps-nstring_utf8 = record { spelled = spells-nstring_utf8; back = reads-nstring_utf8 }

module _ {A : Type 0} {a : Rule A} {la : A → A} {l : Option A → Option A} {c : Option A → Pieces} {S : A → Texts} {F : Texts} where
  -- `NIL`, or what begins with no letter of it
  pub keeps-nil_or : c None ≡ words "NIL" → SpellsAndReadsBack a la (λ x. c (Some x)) S F
      → ((x : A) (t : Bytes) → F t → IsTrue (differs same_letter (codes "NIL") (written (c (Some x)) ++ t))) → l None ≡ None → ((x : A) → Some (la x) ≡ l (Some x))
      → SpellsAndReadsBack (nil_or_rule a) l c (nil_or S) F
  keeps-nil_or e h apart none some = record { spelled = spells-nil_or h.spelled; back = reads-nil_or e h.back apart none some }
