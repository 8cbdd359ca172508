-- What `==` tells of annotations; the word before a mailbox; what stands behind a word, by what `strip_prefix` says.
use Rattle.std.proofs.Common.{rules, ◌≡◌, Ok, Err, ℕ, ◌+◌, List, [], ◌∷◌, length, take, drop, Bool, true, false, ◌&&◌, ◌≢◌, inl, inr, eqb, Option, Some, None, refl, sym, ap, subst, ◌∙◌}
use Rattle.std.specs.Option.{option_map, MatchOption}
use Rattle.std.specs.Bool.{if◌then◌else◌}
use Rattle.std.specs.Borrow.{Bor}
use Rattle.std.specs.Global.{Vec}
use Rattle.std.specs.Cmp.Lexicographic.{pointwise}
use Rattle.imap_grammar.specs.Equality.{Tells}
use Rattle.imap_grammar.specs.declared.answer.Err.{Err as Fault}
use Rattle.imap_grammar.specs.declared.answer.Err.TheVariants.{Incomplete, Error, Failure}
use Rattle.imap_grammar.specs.Text.{Bytes, Text, IsOwned}
use Rattle.imap_grammar.specs.Memory.{BeginsWord, StartsWith, FailsOnlyIf}
use Rattle.imap_grammar.specs.Answer.{Returned, Stops}
use Rattle.imap_grammar.specs.Tags.{word}
use Rattle.imap_grammar.specs.Rule.{Rule, meaning, ◌or◌}
use Rattle.imap_grammar.specs.Lists.{Follows, or_memory_behind, list1_means, separator}
use Rattle.imap_grammar.specs.declared.lists.Separator.{Separator}
use Rattle.imap_grammar.specs.Step.{step}
use Rattle.imap_grammar.proofs.Agreement.{reads}
use Rattle.imap_bytes.specs.Texts.{quoted_utf8, FailsForOwned}
use Rattle.imap_data.specs.Annotations.{entry, entry_utf8, metadata_mailbox, quoted_mailbox, behind}
use Rattle.imap_data.specs.AnnotationValues.{metadata_value}
use Rattle.imap_data.specs.contracts.types.annotations.MetadataPartialEq.TheImpl as metadata_eq

pub metadata_tell : Tells (metadata_eq.eq-value).it metadata_value
metadata_tell = search rules

-- where the front of METADATA was read, its word stands
pub begins_metadata : (m rest : Bytes) (v : Text) → step metadata_mailbox m ≡ Ok (rest, v) → BeginsWord "METADATA " m
unfolding metadata_mailbox meaning
begins_metadata m rest v is = let y = reads metadata_mailbox m rest v is in (y.0.0, y.1.0, y.1.1.0, y.1.1.1)

-- the front of METADATA has its word, and a text of it that is owned stands behind that
pub owned_mailbox_begins : {A : Type 0} (m : Bytes) (result : Returned A) → FailsForOwned IsOwned quoted_mailbox m result → FailsOnlyIf (BeginsWord "METADATA " m) result
unfolding meaning
owned_mailbox_begins m (Ok x) h = tt
owned_mailbox_begins m (Err e) h = λ q. let g = h q in let y = reads quoted_mailbox m g.1 g.0 g.2 in (y.0.0, y.1.0, y.1.1.0, y.1.1.1)

-- where the mailbox's text failed
pub mailbox_fails : {A B : Type 0} (m mid v : Bytes) (e : Fault) (part : Returned A) (result : Returned B) → result ≡ Err e → part ≡ Err e → step (word "METADATA ") m ≡ Ok (mid, v) → FailsForOwned IsOwned quoted_utf8 mid part → FailsForOwned IsOwned quoted_mailbox m result
mailbox_fails {A} {B} m mid v e part result is was front h = subst (FailsForOwned IsOwned quoted_mailbox m) (sym is) (λ q. let g = handed q in (g.0, g.1, rw (front, g.2) refl, g.3))
  where
    handed : (e ≡ Failure) → (t : Text) × (rest : Bytes) × (step quoted_utf8 mid ≡ Ok (rest, t)) × IsOwned t
    handed q = (subst (FailsForOwned IsOwned quoted_utf8 mid) was h) q

-- where an entry's name is read as text, one stands
pub entry_starts : (m rest : Bytes) (v : Text) → step entry_utf8 m ≡ Ok (rest, v) → StartsWith entry m
unfolding entry_utf8 meaning
entry_starts m rest v is = let y = reads entry_utf8 m rest v is in (y.0, rest, y.1)

-- A list of one or more takes memory only where P holds of its bytes, if its item is read, or fails for memory, only
-- there.
pub separated_behind : {O : Type 0} {answers : List ℕ → Returned O → Type 0} {m : List ℕ} (between : Separator) (P : List ℕ → Type 0) (result : Returned (Vec O))
    → Follows (λ a. or_memory_behind a (list1_means (meaning (separator between)) a)) answers (λ x. x.items) m result
    → ((n : List ℕ) (left : Bor (List ℕ)) (x : O) → answers n (Ok (left, x)) → P n)
    → ((n : List ℕ) (e : Fault) → answers n (Err e) → e ≡ Failure → P n)
    → FailsOnlyIf (P m) result
separated_behind between P (Ok x) h read failed = tt
separated_behind {m = m} between P (Err e) h read failed = λ q. elim h.met [
  | inl f ↦ elim f [ inl first ↦ failed m e first q | inr later ↦ read m later.2.0 later.0 later.2.2 ]
  | inr g ↦ read m g.3.0 g.1 g.3.2
]

-- a list that may be missing, where the list failed
pub alt_stops : {V : Type 0} (a b : Rule V) (m : List ℕ) (e : Fault) → e ≢ Error → Stops e (step a m) → Stops e (step (a or b) m)
alt_stops a b m Error other h = absurd (other refl)
alt_stops a b m (Incomplete n) other h = rw h refl
alt_stops a b m Failure other h = tt

-- ---- words in front

-- whether the bytes begin with the word
abbrev pub begins_with : List ℕ → List ℕ → Bool
begins_with word m = pointwise eqb (take (length word) m) word

both_pass : (first others : Bool) (r s : Option Bytes) → (first && others) ≡ true → (others ≡ true → r ≡ s) → r ≡ (if first then s else None)
both_pass true others r s h then_same = then_same h
both_pass false others r s h then_same = cc

one_fails : (first others : Bool) (s : Option Bytes) → (first && others) ≡ false → (others ≡ false → None ≡ s) → None ≡ (if first then s else None)
one_fails true others s h then_none = then_none h
one_fails false others s h then_none = refl

behind_cut : (word m : List ℕ) → begins_with word m ≡ true → Some (drop (length word) m) ≡ behind word m
behind_cut [] m h = refl
behind_cut (x ∷ word) [] h = cc
behind_cut (x ∷ word) (b ∷ m) h = both_pass (eqb b x) (begins_with word m) _ (behind word m) h (behind_cut word m)

behind_none : (word m : List ℕ) → begins_with word m ≡ false → None ≡ behind word m
behind_none [] m h = cc
behind_none (x ∷ word) [] h = refl
behind_none (x ∷ word) (b ∷ m) h = one_fails (eqb b x) (begins_with word m) (behind word m) h (behind_none word m)

pub behind_told : (word m : List ℕ) (r : Option (Bor (List ℕ)))
    → MatchOption r (begins_with word m ≡ false) (λ x. (begins_with word m ≡ true) × (x.now ≡ drop (length word) m) × (length x.now + length word ≡ length m))
    → option_map (λ x. x.now) r ≡ behind word m
behind_told word m None h = behind_none word m h
behind_told word m (Some x) h = ap Some h.1 ∙ behind_cut word m h.0
