-- Envelopes: what their rules take spells them, and their canonical texts read back.
use Rattle.std.proofs.Common.{◌≡◌, Option, None, Some, refl}
use Rattle.std.specs.Option.{option_map}
use Rattle.imap_grammar.specs.Meaning.{Denies}
use Rattle.imap_grammar.specs.Rule.{Rule, meaning}
use Rattle.imap_grammar.specs.Text.{Bytes, as_text}
use Rattle.imap_grammar.specs.Tags.{sp}
use Rattle.imap_grammar.specs.Pieces.{Pieces, ◌then◌, space, nstring_text, ntext}
use Rattle.imap_grammar.specs.ReadBack.{Texts, ReadsBack, SpellsAndReadsBack, Any}
use Rattle.imap_grammar.specs.Spelling.{spells_nstring}
use Rattle.imap_grammar.proofs.Reading.{reads-gives, reads-same, reads-before, reads-some1, reads-before_absent, denies-gives, denies-before, denies-after, denies-tag, Begins, begun, ◌▹ʳ◌}
use Rattle.imap_grammar.proofs.ReadingLists.{takes-text}
use Rattle.imap_grammar.proofs.Spelling.{◌▹ˢ◌, ◌◃ˢ◌, spells-gives, spells-wider, spells-tag, spells-maybe_space, spells-some1}
use Rattle.imap_grammar.proofs.Keeping.{keeps-gives, keeps-tag, keeps-before, ◌⨾ᵏ◌}
use Rattle.imap_bytes.proofs.ReadingTexts.{reads-nstring}
use Rattle.imap_bytes.proofs.SpellingTexts.{spells-nstring}
use Rattle.imap_bytes.proofs.Keeping.{keeps-nil_or}
use Rattle.imap_body_types.specs.Lent.{lent_ntext, lent_address, lent_addresses, lent_envelope}
use Rattle.imap_envelopes.specs.Envelopes.{spaced, byte_string, address_of, address, listed_address, some_addresses, addresses, envelope_of, envelope}
use Rattle.imap_envelopes.specs.EnvelopeTexts.{canonical_address, canonical_addresses, canonical_envelope, behind_space, spells_bytes, spells_address, spells_addresses, spells_envelope}

-- behind a space
module _ {A : Type 0} {a : Rule A} {l : A → A} {c : A → Pieces} {T : A → Texts} {F : Texts} where
  pub keeps_spaced : SpellsAndReadsBack a l c T F → SpellsAndReadsBack (spaced a) l (λ v. space then c v) (λ v. behind_space (T v)) F
  keeps_spaced h = keeps-tag " " h

-- ---- byte strings

same_text : (b : Option Bytes) → nstring_text b ≡ ntext (option_map as_text b)
same_text None = refl
same_text (Some b) = refl

lent_already : (b : Option Bytes) → option_map as_text b ≡ lent_ntext (option_map as_text b)
lent_already None = refl
lent_already (Some b) = refl

same_bytes : (b : Option Bytes) (c : Bytes) → spells_nstring b c → spells_bytes (option_map as_text b) c
same_bytes None c h = h
same_bytes (Some b) c h = h

pub keeps_byte_string : SpellsAndReadsBack byte_string lent_ntext ntext spells_bytes Any
unfolding byte_string
keeps_byte_string = record {
  spelled = spells-gives (option_map as_text) (spells-wider spells-nstring same_bytes);
  back = reads-gives (option_map as_text) (reads-same reads-nstring same_text) lent_already;
}

-- ---- addresses

pub keeps_address : SpellsAndReadsBack address lent_address canonical_address spells_address Any
unfolding address
keeps_address =
    let text = keeps_spaced keeps_byte_string in
    keeps-gives address_of (keeps-tag "(" (keeps_byte_string ⨾ᵏ text ⨾ᵏ text ⨾ᵏ keeps-before ")" text (λ t. tt))) (λ x. refl)

-- no space stands behind an address, and another begins or the list ends
no_space : (t : Bytes) → Begins 41 t → Denies (meaning sp) t
no_space = begun _ (λ u. denies-tag _ _ _ refl)

no_address : (t : Bytes) → Begins 41 t → Denies (meaning listed_address) t
unfolding listed_address address
no_address = begun _ (λ u. denies-before _ _ _ (denies-gives _ _ _ (denies-after _ _ _ (denies-tag _ _ _ refl))))

reads_listed_address : ReadsBack listed_address lent_address canonical_address (λ t. Denies (meaning sp) t)
unfolding listed_address
reads_listed_address = reads-before_absent _ keeps_address.back (λ t g. tt) (λ t g. g)

pub keeps_addresses : SpellsAndReadsBack addresses lent_addresses canonical_addresses spells_addresses Any
unfolding addresses some_addresses listed_address
keeps_addresses =
    keeps-nil_or refl
    (record {
      spelled = spells-tag "(" ▹ˢ spells-some1 (keeps_address.spelled ◃ˢ spells-maybe_space) ◃ˢ spells-tag ")";
      back = takes-text "(" ▹ʳ reads-before (reads-some1 reads_listed_address (λ y t. denies-tag _ _ _ refl) no_space no_address) (takes-text ")") (λ t g. (t, refl));
    })
    (λ x t g. refl) refl (λ x. refl)

pub keeps_envelope : SpellsAndReadsBack envelope lent_envelope canonical_envelope spells_envelope Any
unfolding envelope
keeps_envelope =
    let text = keeps_spaced keeps_byte_string in
    let list = keeps_spaced keeps_addresses in
    keeps-gives envelope_of
    (keeps-tag "(" (keeps_byte_string ⨾ᵏ text ⨾ᵏ list ⨾ᵏ list ⨾ᵏ list ⨾ᵏ list ⨾ᵏ list ⨾ᵏ list ⨾ᵏ text ⨾ᵏ keeps-before ")" text (λ t. tt)))
    (λ x. refl)
