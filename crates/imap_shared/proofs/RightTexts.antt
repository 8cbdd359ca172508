-- Rights read back.
use Rattle.std.proofs.Common.{◌≡◌, ℕ, List, [], ◌∷◌, sym, ◌∙◌, ap, ap₂, refl, map, encode_utf8_all, chars, IsUtf8, rules}
use Rattle.std.proofs.lemmas.Str.{encodes-chars}
use Rattle.imap_grammar.specs.Text.{Bytes, Text}
use Rattle.imap_grammar.specs.Pieces.{lit}
use Rattle.imap_grammar.specs.ReadBack.{SpellsAndReadsBack, Any, as_is}
use Rattle.imap_grammar.proofs.Yields.{Yields}
use Rattle.imap_grammar.proofs.Reading.{reads-gives, reads-where}
use Rattle.imap_grammar.proofs.Spelling.{spells-gives, spells-where}
use Rattle.imap_bytes.specs.Texts.{astring_utf8}
use Rattle.imap_bytes.proofs.ReadingTexts.{reads-astring_utf8, utf8_yields}
use Rattle.imap_bytes.proofs.SpellingTexts.{spells-astring_utf8}
use Rattle.imap_shared.specs.Rights.{right_of, letter_of, rights_of, rights_in, rights}
use Rattle.imap_shared.specs.RightTexts.{letters_of, canonical_rights, spells_rights}

letter_kept : (c : ℕ) → letter_of (right_of c) ≡ c
letter_kept c = search rules

pub letters_kept : (cs : List ℕ) → map letter_of (map right_of cs) ≡ cs
letters_kept [] = refl
letters_kept (c ∷ cs) = ap₂ (λ (d : ℕ) (ds : List ℕ). d ∷ ds) (letter_kept c) (letters_kept cs)

-- the letters of the rights of a text are the text
pub text_kept : (b : Bytes) → IsUtf8 b → letters_of (rights_of b) ≡ b
text_kept b u = ap encode_utf8_all (letters_kept (chars b)) ∙ encodes-chars b u

astrings_yield : Yields (λ (t : Text). IsUtf8 t.bytes) astring_utf8
unfolding astring_utf8
astrings_yield = utf8_yields

pub keeps_rights : SpellsAndReadsBack rights as_is canonical_rights spells_rights Any
unfolding rights
keeps_rights = record {
  spelled = spells-gives rights_in (spells-where astrings_yield spells-astring_utf8 (λ t c u h. (ap rights_of (text_kept t.bytes u), (h.0, h.1, h.2 ∙ sym (text_kept t.bytes u)))));
  back = reads-gives rights_in (reads-where astrings_yield reads-astring_utf8 (λ t u. ap lit (sym (text_kept t.bytes u)))) (λ x. refl);
}
