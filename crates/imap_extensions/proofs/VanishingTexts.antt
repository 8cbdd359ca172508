-- VANISHED reads back.
use Rattle.std.proofs.Common.{Bool, true, false, [], ◌∷◌, ◌++◌, refl, codes, inl, inr, arith}
use Rattle.std.proofs.lemmas.Bool.{false≢true}
use Rattle.imap_grammar.specs.Classes.{is_digit, is_blank}
use Rattle.imap_grammar.specs.Meaning.{Denies, outside}
use Rattle.imap_grammar.specs.Rule.{meaning, nothing}
use Rattle.imap_grammar.specs.Text.{Bytes}
use Rattle.imap_grammar.specs.Tags.{word, names, blanks1, same_letter}
use Rattle.imap_grammar.specs.Pieces.{written, ranges_text}
use Rattle.imap_grammar.specs.ReadBack.{Texts, ReadsBack, Spells, SpellsAndReadsBack, BeginsWith, Closes, as_is}
use Rattle.imap_grammar.specs.Spelling.{in_any_case, ◌and◌, some_blanks}
use Rattle.imap_grammar.proofs.Yields.{right_yields}
use Rattle.imap_grammar.proofs.Reading.{reads-seq_where, reads-after_where, reads-follow, after-on, tag-on, closes-in, starts, ◌▹ʳ◌}
use Rattle.imap_grammar.proofs.ReadingLists.{takes-word, takes-blanks}
use Rattle.imap_grammar.proofs.Spelling.{◌⨾ˢ◌, ◌▹ˢ◌, ◌orˢ◌, spells-names, spells-wider, spells-nothing, spells-word, spells-blanks1}
use Rattle.imap_bytes.proofs.ReadingSets.{in_set, reads-sequence_set}
use Rattle.imap_bytes.proofs.ReadingCounts.{sets_yield, digit_no_blank, word_no_number}
use Rattle.imap_bytes.proofs.SpellingTexts.{spells-sequence_set}
use Rattle.imap_extensions.specs.Vanishings.{earlier_word, earlier, vanished}
use Rattle.imap_extensions.specs.VanishingTexts.{canonical_earlier, canonical_vanished, spells_earlier, spells_vanished}

earlier_on : (v : Bool) (t : Bytes) → Denies (meaning earlier_word) t → (meaning earlier).yields (written (canonical_earlier v) ++ t) v t
unfolding meaning earlier
earlier_on true t d = inl (
    after-on blanks1 (names "(EARLIER)" true) (32 ∷ (codes "(EARLIER)" ++ t)) (32 ∷ []) (codes "(EARLIER)" ++ t) true t ((refl, refl, refl), omega arith)
    (after-on (word "(EARLIER)") (nothing true) (codes "(EARLIER)" ++ t) (codes "(EARLIER)") t true t (tag-on same_letter (codes "(EARLIER)") (codes "(EARLIER)") t refl) (refl, refl))
    )
earlier_on false t d = inr (d, (refl, refl))

reads_earlier : ReadsBack earlier as_is canonical_earlier (λ t. Denies (meaning earlier_word) t)
reads_earlier = record { again = λ m v rest y f t g. earlier_on v t g }

-- a set is no such word
not_earlier : (m : Bytes) → BeginsWith is_digit m → Denies (meaning earlier_word) (32 ∷ m)
unfolding meaning
not_earlier [] d = absurd (false≢true d)
not_earlier (b ∷ m) d = inr (32 ∷ [], b ∷ m, ((refl, refl, digit_no_blank b d), omega arith), inl (word_no_number 40 (codes "EARLIER)") refl b m d))

pub reads_vanished : ReadsBack vanished as_is canonical_vanished (BeginsWith (outside in_set))
unfolding vanished
reads_vanished =
    takes-word "VANISHED" "VANISHED" refl ▹ʳ
    reads-seq_where (right_yields sets_yield) reads_earlier (reads-after_where takes-blanks sets_yield reads-sequence_set (λ y t digit g. starts is_digit (outside is_blank) digit_no_blank (written (ranges_text y) ++ t) (digit t)))
    (λ y t digit g. not_earlier (written (ranges_text y) ++ t) (digit t))

abbrev said : Bool → Texts
said true = in_any_case "(EARLIER)"
said false = λ c. ⊥

said_earlier : (v : Bool) (c : Bytes) → (some_blanks and said v) c → spells_earlier v c
said_earlier true c h = h
said_earlier false c h = absurd h.4

word_spells : Spells (names "(EARLIER)" true) said
word_spells = spells-names true (spells-word "(EARLIER)")

earlier_spells : Spells earlier spells_earlier
unfolding earlier
earlier_spells = spells-wider (spells-blanks1 ▹ˢ word_spells) said_earlier orˢ spells-nothing false refl

vanished_spells : Spells vanished spells_vanished
unfolding vanished
vanished_spells = spells-word "VANISHED" ▹ˢ earlier_spells ⨾ˢ spells-blanks1 ▹ˢ spells-sequence_set

pub keeps_vanished : SpellsAndReadsBack vanished as_is canonical_vanished spells_vanished Closes
keeps_vanished = record { spelled = vanished_spells; back = reads-follow reads_vanished (closes-in (outside in_set) refl refl) }
