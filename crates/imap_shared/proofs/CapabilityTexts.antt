-- Capabilities read back.
use Rattle.std.proofs.Common.{◌≡◌, ℕ, Bool, true, false, ◌||◌, ◌==◌, List, [], ◌∷◌, ◌++◌, IsTrue, sym, ◌∙◌, ap, subst, refl, codes, append_assoc, map, inl, inr, cond}
use Rattle.std.proofs.lemmas.Bool.{false≢true}
use Rattle.std.proofs.lemmas.List.Elements.{All-head, All-tail}
use Rattle.std.specs.List.{list_all, list_any, All}
use Rattle.imap_grammar.specs.Classes.{is_atom_char}
use Rattle.imap_grammar.specs.Meaning.{Denies, differs, outside}
use Rattle.imap_grammar.specs.Rule.{Rule, meaning, ◌▹◌}
use Rattle.imap_grammar.specs.Text.{Bytes}
use Rattle.imap_grammar.specs.Tags.{word, names, sp, same_letter}
use Rattle.imap_grammar.specs.Pieces.{written, words, ◌then◌}
use Rattle.imap_grammar.specs.ReadBack.{ReadsBack, Spells, SpellsAndReadsBack, Apart, BeginsWith, Closes}
use Rattle.imap_grammar.proofs.Yields.{Yields, right_yields, many_yield, made_yields}
use Rattle.imap_grammar.proofs.Reading.{raw_on, run1-has, test-has, denies-after, denies-tag, reads-gives, reads-test, reads-word, reads-many, reads-where, first, apart-alt, apart_forms, names-denied, tag-denied, takes-tag, closes-in, ◌▹ʳ◌}
use Rattle.imap_grammar.proofs.ReadingWords.{differs-again, word_in_class, same_run}
use Rattle.imap_grammar.proofs.ReadingLists.{takes-text, takes-word}
use Rattle.imap_grammar.proofs.Spelling.{◌▹ˢ◌, ◌orˢ◌, spells-gives, spells-tested, spells-names, spells-word, spells-tag, spells-utf8, spells-many}
use Rattle.imap_bytes.specs.Strings.{atom}
use Rattle.imap_bytes.proofs.LossyTwice.{all-append}
use Rattle.imap_bytes.proofs.ReadingSets.{reads-atom}
use Rattle.imap_shared.specs.Capabilities.{CapabilityValue, Imap4rev1, Auth, Atom, lent_capability, auth_of, atom_of, auth, name, capability, is_revision, spaced_capability, spaced_capabilities, capability_data, spaced_name, spaced_names, enabled_data}
use Rattle.imap_shared.specs.CapabilityTexts.{canonical_capability, canonical_each, canonical_capabilities, spells_atom, spells_capability, spells_capability_data, spells_enabled_data}

abbrev pub AtomEnds : Bytes → Type 0
AtomEnds = BeginsWith (outside is_atom_char)

atom-has : (m w rest : Bytes) → (meaning atom).yields m w rest → (m ≡ w ++ rest) × IsTrue (list_all is_atom_char w) × AtomEnds rest
unfolding atom
atom-has m w rest y =
    let run = run1-has _ m w rest (test-has _ _ m w rest y).0 in
    (run.0, run.1, run.2)

rev1-apart : (m w rest t : Bytes) → Denies (meaning (names "IMAP4rev1" Imap4rev1)) m → (meaning atom).yields m w rest → AtomEnds t → Denies (meaning (names "IMAP4rev1" Imap4rev1)) (w ++ t)
rev1-apart m w rest t d y e =
    let no_ = tag-denied same_letter (codes "IMAP4rev1") m (names-denied (word "IMAP4rev1") Imap4rev1 m d) in
    denies-after _ _ _ (denies-tag _ _ _ (differs-again is_atom_char (codes "IMAP4rev1") w rest t refl (subst (λ l. differs same_letter (codes "IMAP4rev1") l ≡ true) (atom-has m w rest y).0 no_) e))

auth-apart : (m w rest t : Bytes) → Denies (meaning (word "AUTH=" ▹ atom)) m → (meaning atom).yields m w rest → AtomEnds t → Denies (meaning (word "AUTH=" ▹ atom)) (w ++ t)
unfolding meaning atom
auth-apart m w rest t (inl d) y e =
    inl (differs-again is_atom_char (codes "AUTH=") w rest t refl (subst (λ l. differs same_letter (codes "AUTH=") l ≡ true) (atom-has m w rest y).0 d) e)
auth-apart m w rest t (inr d) y e = behind d.0 d.1 d.2 d.3
  where
    has : (m ≡ w ++ rest) × IsTrue (list_all is_atom_char w) × AtomEnds rest
    has = atom-has m w rest y

    behind : (x mid : Bytes) → (meaning (word "AUTH=")).yields m x mid → Denies (meaning atom) mid → Denies (meaning (word "AUTH=" ▹ atom)) (w ++ t)
    behind x mid h (inl out) =
        let one = same_run is_atom_char w x rest mid has.1 (word_in_class is_atom_char (codes "AUTH=") x refl h.1) has.2 out (sym has.0 ∙ h.0) in
        inr (x, t, (ap (λ l. l ++ t) one.0, h.1), inl e)
    behind x mid h (inr bad) =
        let run = bad.3 in
        let one = same_run is_atom_char w (x ++ bad.1) rest bad.2 has.1 (all-append is_atom_char x bad.1 (word_in_class is_atom_char (codes "AUTH=") x refl h.1) run.0.1) has.2 run.0.2
        (sym has.0 ∙ h.0 ∙ ap (λ l. x ++ l) run.0.0 ∙ sym (append_assoc x bad.1 bad.2)) in
        inr (x, bad.1 ++ t, (ap (λ l. l ++ t) one.0 ∙ append_assoc x bad.1 t, h.1), inr (refl, bad.1, t, ((refl, run.0.1, e), run.1), bad.4))

given-apart : (m w rest t : Bytes) → Denies (meaning auth) m → (meaning atom).yields m w rest → AtomEnds t → Denies (meaning auth) (w ++ t)
unfolding meaning
given-apart m w rest t d y e = auth-apart m w rest t d y e

-- what an earlier alternative denied, and an atom is
atom-apart : (a : Rule CapabilityValue) → ((m w rest t : Bytes) → Denies (meaning a) m → (meaning atom).yields m w rest → AtomEnds t → Denies (meaning a) (w ++ t)) → Apart a name canonical_capability AtomEnds
unfolding meaning
atom-apart a h = record {
  denied = λ m v rest d y f t e.
      subst (λ c. Denies (meaning a) (written (canonical_capability c) ++ t)) y.2 (subst (λ l. Denies (meaning a) l) (sym (raw_on y.0 t)) (h m y.0 rest t d y.1 e));
}

pub reads_capability : ReadsBack capability lent_capability canonical_capability AtomEnds
unfolding capability
reads_capability =
    first (reads-word _ _ Imap4rev1 (codes "IMAP4rev1") refl refl refl) (apart-alt _ _ (search apart_forms depth 20) (atom-apart _ rev1-apart))
    (first (reads-gives auth_of (takes-tag _ _ (codes "AUTH=") refl ▹ʳ reads-atom) (λ x. refl)) (atom-apart auth given-apart)
    (reads-gives atom_of reads-atom (λ x. refl)))

-- ---- lists of them

module _ {G : Bytes → Type 0} where
  pub reads_spaced : ((t : Bytes) → G t → AtomEnds t) → ((t : Bytes) → G t → Denies (meaning sp) t) → ReadsBack spaced_capabilities (map lent_capability) canonical_each G
  unfolding spaced_capability
  reads_spaced end stop = reads-many (takes-text " " ▹ʳ reads_capability) (λ y t. refl) end (λ t g. denies-after _ _ _ (stop t g))

  pub reads_names : ((t : Bytes) → G t → AtomEnds t) → ((t : Bytes) → G t → Denies (meaning sp) t) → ReadsBack spaced_names (map lent_capability) canonical_each G
  unfolding spaced_name
  reads_names end stop = reads-many (takes-text " " ▹ʳ reads-gives atom_of reads-atom (λ x. refl)) (λ y t. refl) end (λ t g. denies-after _ _ _ (stop t g))

any_revision : (cs : List CapabilityValue) → list_any is_revision cs ≡ list_any is_revision (map lent_capability cs)
any_revision [] = refl
any_revision (Imap4rev1 ∷ cs) = refl
any_revision (Auth t ∷ cs) = any_revision cs
any_revision (Atom t ∷ cs) = any_revision cs

-- behind its word
module _ {G : Bytes → Type 0} where
  pub reads_offered : ((t : Bytes) → G t → AtomEnds t) → ((t : Bytes) → G t → Denies (meaning sp) t) → ReadsBack capability_data (map lent_capability) (λ cs. words "CAPABILITY" then canonical_each cs) G
  unfolding capability_data
  reads_offered end stop = reads-test _ (takes-word "CAPABILITY" "CAPABILITY" refl ▹ʳ reads_spaced end stop) (λ cs e. sym (any_revision cs) ∙ e)

pub offered_yields : Yields (λ cs. list_any is_revision cs ≡ true) capability_data
unfolding capability_data
offered_yields = record { each = λ m v rest y. (test-has _ _ m v rest y).1 }

abbrev IsName : CapabilityValue → Type 0
IsName c = is_revision c ≡ false

none : (cs : List CapabilityValue) → All IsName cs → list_any is_revision cs ≡ false
none [] h = refl
none (c ∷ cs) h = no_one (is_revision c) (list_any is_revision cs) (All-head IsName c cs h) (none cs (All-tail IsName c cs h))
  where
    no_one : (a b : Bool) → a ≡ false → b ≡ false → (a || b) ≡ false
    no_one true b h k = absurd (false≢true (sym h))
    no_one false b h k = k

names_yield : Yields (All IsName) enabled_data
unfolding enabled_data spaced_name
names_yield = right_yields (many_yield {P = IsName} (right_yields (made_yields {P = IsName} atom_of (λ x. refl))))

pub enabled_yields : Yields (λ cs. list_any is_revision cs ≡ false) enabled_data
enabled_yields = record { each = λ m v rest y. none v (names_yield.each m v rest y) }

stop_space : (t : Bytes) → Closes t → Denies (meaning sp) t
stop_space [] g = absurd (false≢true g)
stop_space (b ∷ t) g = denies-tag _ _ _ (closes-in (λ x. not_space x) refl refl (b ∷ t) g)
  where
    not_space : ℕ → Bool
    not_space x = differs ◌==◌ (32 ∷ []) (x ∷ t)

pub reads_capability_data : ReadsBack capability_data (map lent_capability) canonical_capabilities Closes
reads_capability_data = reads-where offered_yields (reads_offered (closes-in (outside is_atom_char) refl refl) stop_space) (λ cs e. ap (λ b. cond b (words "CAPABILITY") (words "ENABLED") then canonical_each cs) (sym e))

enabled_words : ReadsBack enabled_data (map lent_capability) (λ cs. words "ENABLED" then canonical_each cs) Closes
unfolding enabled_data
enabled_words = takes-word "ENABLED" "ENABLED" refl ▹ʳ reads_names (closes-in (outside is_atom_char) refl refl) stop_space

pub reads_enabled_data : ReadsBack enabled_data (map lent_capability) canonical_capabilities Closes
reads_enabled_data = reads-where enabled_yields enabled_words (λ cs e. ap (λ b. cond b (words "CAPABILITY") (words "ENABLED") then canonical_each cs) (sym e))

-- ---- spelling

atom_spells : Spells atom spells_atom
unfolding atom
atom_spells = spells-utf8 is_atom_char

pub capability_spells : Spells capability spells_capability
unfolding capability
capability_spells = spells-names Imap4rev1 (spells-word "IMAP4rev1") orˢ spells-gives auth_of (spells-word "AUTH=" ▹ˢ atom_spells) orˢ spells-gives atom_of atom_spells

pub keeps_capability_data : SpellsAndReadsBack capability_data (map lent_capability) canonical_capabilities spells_capability_data Closes
unfolding capability_data spaced_capability
keeps_capability_data = record {
  spelled = spells-tested (list_any is_revision) (spells-word "CAPABILITY" ▹ˢ spells-many (spells-tag " " ▹ˢ capability_spells));
  back = reads_capability_data;
}

pub keeps_enabled_data : SpellsAndReadsBack enabled_data (map lent_capability) canonical_capabilities spells_enabled_data Closes
unfolding enabled_data spaced_name
keeps_enabled_data = record {
  spelled = spells-word "ENABLED" ▹ˢ spells-many (spells-tag " " ▹ˢ spells-gives atom_of atom_spells);
  back = reads_enabled_data;
}
