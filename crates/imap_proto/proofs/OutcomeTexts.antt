-- Outcomes read back.
use Rattle.std.proofs.Common.{◌≡◌, ℕ, ◌<◌, Bool, true, false, not, ◌==◌, List, [], ◌∷◌, ◌++◌, length, Option, None, Some, sym, ◌∙◌, ap, subst, refl, inl, inr, append-nil, arith, IsUtf8, drop, chars, encode_utf8, encode_utf8_all}
use lib.Utf8.{scalar, scalars}
use Rattle.std.specs.List.{list_all}
use Rattle.std.specs.Option.{option_map}
use Rattle.std.specs.Str.Lossy.{utf8_lossy}
use Rattle.std.proofs.lemmas.Bool.{or_left, and_parts, not_from_false}
use Rattle.std.proofs.lemmas.Str.{IsUtf8-nil, scalars-chars, encodes-chars}
use Rattle.imap_grammar.specs.Classes.{is_text_char}
use Rattle.imap_grammar.specs.Meaning.{Denies, differs, outside}
use Rattle.imap_grammar.specs.Rule.{meaning, opt}
use Rattle.imap_grammar.specs.Text.{Bytes, Text, as_text}
use Rattle.imap_grammar.specs.Tags.{sp}
use Rattle.imap_grammar.specs.Pieces.{Pieces, written, Fits, ◌then◌, space, plain}
use Rattle.imap_grammar.specs.ReadBack.{Texts, ReadsBack, ReadsBackIf, Spells, BeginsWith}
use Rattle.imap_grammar.specs.Spelling.{this, exactly, ◌and◌, spells_line_text}
use Rattle.imap_grammar.proofs.Reading.{written_on, raw_on, fits-parts, reads-opt, reads-follow, denies-after, denies-tag, after-has, after-on, begun}
use Rattle.imap_grammar.proofs.Spelling.{◌⨾ˢ◌, ◌▹ˢ◌, ◌orˢ◌, spells-gives, spells-wider, spells-nothing, spells-tag}
use Rattle.imap_bytes.specs.Texts.{text}
use Rattle.imap_bytes.proofs.ReadingTexts.{decoded_utf8}
use Rattle.imap_bytes.proofs.LossyTwice.{IsUtf8-lossy, all-lossy, without_first-has, IsUtf8-space, without_first-space}
use Rattle.imap_bytes.proofs.ReadingQuoted.{lossy_some}
use Rattle.imap_bytes.proofs.SpellingTexts.{spells-text}
use Rattle.imap_data.specs.Codes.{CodeValue, lent_code, response_code}
use Rattle.imap_data.specs.CodeTexts.{canonical_response_code, spells_response_code}
use Rattle.imap_data.proofs.CodeTexts.{keeps_response_code}
use Rattle.imap_proto.specs.Responses.{OutcomeValue, lent_outcome}
use Rattle.imap_proto.specs.Outcomes.{bytes_after_first, outcome_of, outcome, no_outcome, spaced_outcome}
use Rattle.imap_proto.specs.OutcomeTexts.{canonical_outcome, canonical_spaced, is_bracketed, IsPlain, Ends, spells_outcome, spells_spaced}

-- no code, or one in brackets
abbrev canonical_maybe_code : Option CodeValue → Pieces
canonical_maybe_code None = []
canonical_maybe_code (Some c) = canonical_response_code c

reads_maybe_code : ReadsBack (opt response_code) (option_map lent_code) canonical_maybe_code (λ t. Denies (meaning response_code) t)
reads_maybe_code = reads-opt refl (reads-follow keeps_response_code.back (λ t g. tt)) (λ t g. g) (λ x. refl) refl

no_bracket : (t : Bytes) → differs ◌==◌ (91 ∷ []) t ≡ true → Denies (meaning response_code) t
unfolding response_code
no_bracket t d = denies-after _ _ t (denies-tag _ _ t d)

no_code : (t : Bytes) → Ends t → Denies (meaning response_code) t
no_code = begun _ (λ u. no_bracket (13 ∷ u) refl)

-- text of text-chars reads as itself
text_on : (u t : Bytes) → IsUtf8 u → list_all is_text_char u ≡ true → Ends t → (meaning text).yields (u ++ t) (as_text u) t
unfolding meaning text
text_on u t utf8 all e = (u, (refl, all, begun (BeginsWith (outside is_text_char)) (λ v. refl) t e), decoded_utf8 u utf8)

text-has : (m : Bytes) (u : Text) (rest : Bytes) → (meaning text).yields m u rest → IsUtf8 u.bytes × (list_all is_text_char u.bytes ≡ true)
unfolding meaning text
text-has m u rest y =
    let same : utf8_lossy y.0 ≡ u.bytes = ap (λ (x : Text). x.bytes) y.2 in
    (subst IsUtf8 same (IsUtf8-lossy y.0), subst (λ l. list_all is_text_char l ≡ true) same (all-lossy is_text_char y.0 refl y.1.1))

-- from the parts
outcome_on : (k : Option CodeValue) (w t : Bytes) → Fits (canonical_maybe_code k) → Denies (meaning response_code) (w ++ t) → (m mid : Bytes) → (meaning (opt response_code)).yields m k mid
    → (meaning text).yields (w ++ t) (as_text w) t → (meaning outcome).yields (written (canonical_maybe_code k) ++ (w ++ t)) (outcome_of (option_map lent_code k, as_text w)) t
unfolding meaning outcome
outcome_on k w t fits d m mid y read = ((option_map lent_code k, as_text w), (w ++ t, reads_maybe_code.again m k mid y fits (w ++ t) d, read), refl)

abbrev outcome_with : CodeValue → Bytes → OutcomeValue
outcome_with c i = record { code = Some c; information = Some (as_text i) }

behind_code : (c : CodeValue) (i t : Bytes) → written (canonical_response_code c then space then plain (as_text i)) ++ t ≡ written (canonical_response_code c) ++ ((32 ∷ i) ++ t)
behind_code c i t = written_on (canonical_response_code c) (space then plain (as_text i)) t ∙ ap (λ l. written (canonical_response_code c) ++ (32 ∷ (l ++ t))) (append-nil i)

abbrev read_as : Option CodeValue → Bytes → Bool → OutcomeValue
read_as k u b = outcome_of (k, record { bytes = u; borrowed = b })

at : (k : Option CodeValue) (u : Bytes) (b : Bool) (m mid rest : Bytes) → (meaning (opt response_code)).yields m k mid → (meaning text).yields mid (record { bytes = u; borrowed = b }) rest
    → is_bracketed (read_as k u b) ≡ false → Fits (canonical_outcome (read_as k u b))
    → (t : Bytes) → Ends t → (meaning outcome).yields (written (canonical_outcome (read_as k u b)) ++ t) (lent_outcome (read_as k u b)) t
at None [] b m mid rest y z p f t e = outcome_on None [] t tt (no_code t e) m mid y (text_on [] t IsUtf8-nil refl e)
at None (x ∷ u) b m mid rest y z p f t e =
    let has = text-has mid _ rest z in
    subst (λ l. (meaning outcome).yields l (outcome_of (None, as_text (x ∷ u))) t) (sym (raw_on (x ∷ u) t))
    (outcome_on None (x ∷ u) t tt (no_bracket _ (or_left (not (91 == x)) _ (not_from_false (91 == x) p))) m mid y (text_on (x ∷ u) t has.0 has.1 e))
at (Some c) [] b m mid rest y z p f t e = outcome_on (Some c) [] t f (no_code t e) m mid y (text_on [] t IsUtf8-nil refl e)
at (Some c) (x ∷ u) b m mid rest y z p f t e =
    let has = text-has mid _ rest z in
    let i = bytes_after_first (x ∷ u) in
    let info = without_first-has is_text_char (x ∷ u) has.0 has.1 in
    subst (λ o. (meaning outcome).yields (written (canonical_outcome (outcome_with c i)) ++ t) o t)
    (ap (λ (j : Bytes). outcome_with (lent_code c) j) (without_first-space i info.0))
    (subst (λ l. (meaning outcome).yields l (outcome_of (Some (lent_code c), as_text (32 ∷ i))) t) (sym (behind_code c i t))
    (outcome_on (Some c) (32 ∷ i) t (fits-parts (canonical_response_code c) (space then plain (as_text i)) f).0 (no_bracket ((32 ∷ i) ++ t) refl) m mid y (text_on (32 ∷ i) t (IsUtf8-space i info.0) info.1 e)))

pub reads_outcome : ReadsBackIf IsPlain outcome lent_outcome canonical_outcome Ends
unfolding meaning outcome
reads_outcome = record {
  again = λ m v rest y p f t e.
      subst (λ o. (meaning outcome).yields (written (canonical_outcome o) ++ t) (lent_outcome o) t) y.2
      (at y.0.0 y.0.1.bytes y.0.1.borrowed m y.1.0 rest y.1.1 y.1.2 (subst IsPlain (sym y.2) p) (subst (λ o. Fits (canonical_outcome o)) (sym y.2) f) t e);
}

-- ---- behind a space

after_space : (o : OutcomeValue) (m rest : Bytes) → (no_outcome ≡ o → ⊥) → (meaning spaced_outcome).yields m o rest → IsPlain o → Fits (canonical_outcome o) → (t : Bytes) → Ends t
    → (meaning spaced_outcome).yields (written (space then canonical_outcome o) ++ t) (lent_outcome o) t
unfolding meaning spaced_outcome
after_space o m rest some (inl y) p f t e =
    let inner = after-has sp outcome m o rest y in
    inl (after-on sp outcome _ (32 ∷ []) (written (canonical_outcome o) ++ t) (lent_outcome o) t (refl, refl) (reads_outcome.again inner.0 o rest inner.1 p f t e))
after_space o m rest some (inr y) p f t e = absurd (some y.1.0)

nothing_spaced : (t : Bytes) → Ends t → (meaning spaced_outcome).yields t no_outcome t
unfolding meaning spaced_outcome
nothing_spaced t e = inr (inl (subst (λ l. differs ◌==◌ (32 ∷ []) l ≡ true) (sym e.1) refl), (refl, refl))

abbrev both : Option CodeValue → Option Text → OutcomeValue
both k i = record { code = k; information = i }

spaced_on : (k : Option CodeValue) (i : Option Text) (m rest : Bytes) → (meaning spaced_outcome).yields m (both k i) rest → IsPlain (both k i) → Fits (canonical_spaced (both k i)) → (t : Bytes) → Ends t
    → (meaning spaced_outcome).yields (written (canonical_spaced (both k i)) ++ t) (lent_outcome (both k i)) t
spaced_on None None m rest y p f t e = nothing_spaced t e
spaced_on None (Some i) m rest y p f t e = after_space _ m rest (λ s. let i' : None ≡ Some i = ap (λ (o : OutcomeValue). o.information) s in cc) y p f t e
spaced_on (Some c) i m rest y p f t e = after_space _ m rest (λ s. let c' : None ≡ Some c = ap (λ (o : OutcomeValue). o.code) s in cc) y p f t e

pub reads_spaced : ReadsBackIf IsPlain spaced_outcome lent_outcome canonical_spaced Ends
reads_spaced = record { again = λ m v rest y p f t e. spaced_on v.code v.information m rest y p f t e }

-- ---- spelling

abbrev spells_maybe_code : Option CodeValue → Texts
spells_maybe_code None = this []
spells_maybe_code (Some c) = spells_response_code c

maybe_code_spells : Spells (opt response_code) spells_maybe_code
maybe_code_spells = spells-gives Some keeps_response_code.spelled orˢ spells-nothing None refl

empty : (b : Bytes) → utf8_lossy b ≡ [] → b ≡ []
empty [] e = refl
empty (x ∷ b) e = absurd (omega (arith, lossy_some (x ∷ b) (omega arith), ap length e))

-- a text is its first character and the text without it
first_and_rest : (cs : List ℕ) (u : Bytes) → encode_utf8_all cs ≡ u → 0 < length u → scalars cs ≡ true → (first : ℕ) × (scalar first ≡ true) × (u ≡ encode_utf8 first ++ encode_utf8_all (drop 1 cs))
first_and_rest [] [] e some all = absurd (omega arith)
first_and_rest [] (b ∷ u) e some all = absurd cc
first_and_rest (c ∷ cs) u e some all = (c, (and_parts _ _ all).0, sym e)

behind : (u b : Bytes) → utf8_lossy b ≡ u → 0 < length u → (first : ℕ) × (scalar first ≡ true) × (utf8_lossy b ≡ encode_utf8 first ++ bytes_after_first u)
behind u b e some =
    let utf8 = subst IsUtf8 e (IsUtf8-lossy b) in
    let parts = first_and_rest (chars u) u (encodes-chars u utf8) some (scalars-chars u utf8) in
    (parts.0, parts.1, e ∙ parts.2)

parts : (k : Option CodeValue) (u : Bytes) (b : Bool) (c : Bytes) → (spells_maybe_code k and spells_line_text (record { bytes = u; borrowed = b })) c → spells_outcome (outcome_of (k, record { bytes = u; borrowed = b })) c
parts None [] t c (a, b, cut, ha, hb) = cut ∙ ap (λ l. l ++ b) ha ∙ hb.1.0 ∙ empty hb.0 hb.2
parts None (x ∷ u) t c (a, b, cut, ha, hb) = subst (spells_line_text (record { bytes = x ∷ u; borrowed = t })) (sym (cut ∙ ap (λ l. l ++ b) ha)) hb
parts (Some k) [] t c (a, b, cut, ha, hb) = subst (spells_response_code k) (sym (cut ∙ ap (λ l. a ++ l) (hb.1.0 ∙ empty hb.0 hb.2) ∙ append-nil a)) ha
parts (Some k) (x ∷ u) t c (a, b, cut, ha, hb) =
    (a, b, cut, ha, (subst (λ l. list_all is_text_char l ≡ true) (sym hb.1.0) hb.1.1, subst (λ l. (first : ℕ) × (scalar first ≡ true) × (utf8_lossy l ≡ encode_utf8 first ++ bytes_after_first (x ∷ u))) (sym hb.1.0) (behind (x ∷ u) hb.0 hb.2 (omega arith))))

pub outcome_spells : Spells outcome spells_outcome
unfolding outcome
outcome_spells = spells-gives outcome_of (spells-wider (maybe_code_spells ⨾ˢ spells-text) (λ v. parts v.0 v.1.bytes v.1.borrowed))

with_space : (k : Option CodeValue) (i : Option Text) (c : Bytes) → (exactly " " and spells_outcome (both k i)) c → spells_spaced (both k i) c
with_space None None c (a, b, cut, ha, hb) = inr (cut ∙ ap (λ l. a ++ l) hb ∙ append-nil a ∙ ha)
with_space None (Some i) c h = h
with_space (Some k) i c h = h

pub spaced_spells : Spells spaced_outcome spells_spaced
unfolding spaced_outcome
spaced_spells = spells-wider (spells-tag " " ▹ˢ outcome_spells) (λ o. with_space o.code o.information) orˢ spells-nothing no_outcome (inl refl)
