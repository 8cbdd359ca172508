-- Both laws of each form at once: what it takes spells the value, and the canonical text gives the value again.
use Rattle.std.proofs.Common.{◌≡◌, true, [], ◌∷◌, ◌++◌, Option, None, Some, codes, map, refl}
use Prim.Native.String.{String}
use Rattle.std.proofs.lemmas.Bool.{eq-eqb, and_from}
use Rattle.imap_grammar.specs.Meaning.{Denies, is_word, outside}
use Rattle.imap_grammar.specs.Rule.{Rule, alt, gives, nothing, opt, meaning, ◌⨾◌, ◌▹◌, ◌◃◌}
use Rattle.imap_grammar.specs.Text.{Bytes}
use Rattle.imap_grammar.specs.Classes.{is_blank}
use Rattle.imap_grammar.specs.Tags.{same_letter, tag, word, blanks1}
use Rattle.imap_grammar.specs.Lists.{list_of, nonempty_list_of}
use Rattle.imap_grammar.specs.Pieces.{Pieces, ◌then◌, words, space, written, list_text}
use Rattle.imap_grammar.specs.ReadBack.{Texts, SpellsAndReadsBack, Apart, Any, BeginsWith}
use Rattle.imap_grammar.specs.Spelling.{exactly, in_any_case, ◌and◌, some_blanks, spells_list, spells_some_list}
use Rattle.imap_grammar.proofs.Reading.{first, reads-seq, reads-after, reads-gives, reads-follow, reads-before, reads-names, reads-opt, ◌▹ʳ◌}
use Rattle.imap_grammar.proofs.ReadingLists.{takes-text, takes-word, takes-blanks, reads-list_of, reads-nonempty_list_of}
use Rattle.imap_grammar.proofs.Spelling.{◌⨾ˢ◌, ◌▹ˢ◌, ◌◃ˢ◌, ◌orˢ◌, spells-gives, spells-names, spells-nothing, spells-wider, spells-word, spells-tag, spells-blanks1, spells-list_of, spells-nonempty_list_of}

word_itself : (k : Bytes) → is_word same_letter k k ≡ true
word_itself [] = refl
word_itself (b ∷ bs) = and_from _ _ (eq-eqb _ _ refl) (word_itself bs)

-- ---- a word

module _ {A : Type 0} {l : A → A} {c : A → Pieces} {T : A → Texts} {F : Texts} where
  -- that stands for a value
  pub keeps-names : (k : String) (x : A) → c x ≡ words k → l x ≡ x → ((b : Bytes) → in_any_case k b → T x b) → SpellsAndReadsBack (word k ▹ nothing x) l c T F
  keeps-names k x canonical kept spelled = record {
    spelled = spells-names x (spells-wider (spells-word k) (λ v b h. spelled b h));
    back = reads-names x (takes-word k k (word_itself (codes k))) canonical kept;
  }

-- in front, as the canonical text has it
module _ {A : Type 0} {a : Rule A} {l : A → A} {c : A → Pieces} {T : A → Texts} {F : Texts} where
  pub keeps-word : (k : String) → SpellsAndReadsBack a l c T F → SpellsAndReadsBack (word k ▹ a) l (λ v. words k then c v) (λ v. in_any_case k and T v) F
  keeps-word k h = record { spelled = spells-word k ▹ˢ h.spelled; back = takes-word k k (word_itself (codes k)) ▹ʳ h.back }

  pub keeps-tag : (k : String) → SpellsAndReadsBack a l c T F → SpellsAndReadsBack (tag k ▹ a) l (λ v. words k then c v) (λ v. exactly k and T v) F
  keeps-tag k h = record { spelled = spells-tag k ▹ˢ h.spelled; back = takes-text k ▹ʳ h.back }

  -- behind blanks, of which the canonical text has one space
  pub keeps-blanks : SpellsAndReadsBack a l c T F → ((v : A) (t : Bytes) → BeginsWith (outside is_blank) (written (c v) ++ t)) → SpellsAndReadsBack (blanks1 ▹ a) l (λ v. space then c v) (λ v. some_blanks and T v) F
  keeps-blanks h begins = record { spelled = spells-blanks1 ▹ˢ h.spelled; back = reads-after takes-blanks h.back (λ v t g. begins v t) }

  -- a tag behind it, where that may follow
  pub keeps-before : (k : String) → SpellsAndReadsBack a l c T F → ((t : Bytes) → F (written (words k) ++ t)) → SpellsAndReadsBack (a ◃ tag k) l (λ v. c v then words k) (λ v. T v and exactly k) Any
  keeps-before k h follows = record { spelled = h.spelled ◃ˢ spells-tag k; back = reads-before h.back (takes-text k) (λ t g. follows t) }

-- ---- joined rules

module _ {A B : Type 0} {a : Rule A} {b : Rule B} {la : A → A} {lb : B → B} {ca : A → Pieces} {cb : B → Pieces} {S : A → Texts} {T : B → Texts} {F G : Texts} where
  pub keeps-seq : SpellsAndReadsBack a la ca S F → SpellsAndReadsBack b lb cb T G → ((y : B) (t : Bytes) → G t → F (written (cb y) ++ t))
      → SpellsAndReadsBack (a ⨾ b) (λ v. (la v.0, lb v.1)) (λ v. ca v.0 then cb v.1) (λ v. S v.0 and T v.1) G
  keeps-seq h k follow = record { spelled = h.spelled ⨾ˢ k.spelled; back = reads-seq h.back k.back follow }

module _ {A B : Type 0} {a : Rule A} {b : Rule B} {la : A → A} {lb : B → B} {ca : A → Pieces} {cb : B → Pieces} {S : A → Texts} {T : B → Texts} {G : Texts} where
  infixr 25 ◌⨾ᵏ◌
  -- where anything may follow the first
  pub ◌⨾ᵏ◌ : SpellsAndReadsBack a la ca S Any → SpellsAndReadsBack b lb cb T G → SpellsAndReadsBack (a ⨾ b) (λ v. (la v.0, lb v.1)) (λ v. ca v.0 then cb v.1) (λ v. S v.0 and T v.1) G
  h ⨾ᵏ k = keeps-seq h k (λ y t g. tt)

module _ {A B : Type 0} {a : Rule A} {la : A → A} {lb : B → B} {c : B → Pieces} {T : B → Texts} {F : Texts} where
  pub keeps-gives : (f : A → B) → SpellsAndReadsBack a la (λ x. c (f x)) (λ x. T (f x)) F → ((x : A) → f (la x) ≡ lb (f x)) → SpellsAndReadsBack (gives f a) lb c T F
  keeps-gives f h law = record { spelled = spells-gives f h.spelled; back = reads-gives f h.back law }

module _ {A : Type 0} {a : Rule A} {l : A → A} {c : A → Pieces} {T : A → Texts} {F : Texts} where
  pub keeps-follow : {G : Texts} → SpellsAndReadsBack a l c T F → ((t : Bytes) → G t → F t) → SpellsAndReadsBack a l c T G
  keeps-follow h k = record { spelled = h.spelled; back = reads-follow h.back k }

  -- what reads back before any bytes, reads back before some
  pub keeps-anywhere : SpellsAndReadsBack a l c T Any → SpellsAndReadsBack a l c T F
  keeps-anywhere h = record { spelled = h.spelled; back = reads-follow h.back (λ t g. tt) }

  pub keeps-wider : {U : A → Texts} → SpellsAndReadsBack a l c T F → ((v : A) (b : Bytes) → T v b → U v b) → SpellsAndReadsBack a l c U F
  keeps-wider h k = record { spelled = spells-wider h.spelled k; back = h.back }

-- ---- choices and lists

module _ {A : Type 0} {a b : Rule A} {l : A → A} {c : A → Pieces} {T : A → Texts} {F : Texts} where
  -- one alternative after another
  pub keeps-first : SpellsAndReadsBack a l c T F → Apart a b c F → SpellsAndReadsBack b l c T F → SpellsAndReadsBack (alt a b) l c T F
  keeps-first h apart k = record { spelled = h.spelled orˢ k.spelled; back = first h.back apart k.back }

module _ {A : Type 0} {a : Rule A} {la : A → A} {l : Option A → Option A} {c : Option A → Pieces} {T : Option A → Texts} {F : Texts} where
  -- maybe nothing, where what follows is denied
  pub keeps-opt : c None ≡ [] → T None [] → SpellsAndReadsBack a la (λ x. c (Some x)) (λ x. T (Some x)) F → ((t : Bytes) → F t → Denies (meaning a) t)
      → ((x : A) → Some (la x) ≡ l (Some x)) → None ≡ l None → SpellsAndReadsBack (opt a) l c T F
  keeps-opt none absent h denied some empty = record {
    spelled = spells-gives Some h.spelled orˢ spells-nothing None absent;
    back = reads-opt none h.back denied some empty;
  }

module _ {A : Type 0} {a : Rule A} {l : A → A} {c : A → Pieces} {T : A → Texts} {F : Texts} where
  pub keeps-list_of : SpellsAndReadsBack a l c T F → ((t : Bytes) → F (32 ∷ t)) → ((t : Bytes) → F (41 ∷ t)) → ((t : Bytes) → Denies (meaning a) (41 ∷ t)) → SpellsAndReadsBack (list_of a) (map l) (list_text c) (spells_list T) Any
  keeps-list_of h gap bracket none = record { spelled = spells-list_of h.spelled; back = reads-list_of h.back gap bracket none }

  pub keeps-nonempty_list_of : SpellsAndReadsBack a l c T F → ((t : Bytes) → F (32 ∷ t)) → ((t : Bytes) → F (41 ∷ t)) → SpellsAndReadsBack (nonempty_list_of a) (map l) (list_text c) (spells_some_list T) Any
  keeps-nonempty_list_of h gap bracket = record { spelled = spells-nonempty_list_of h.spelled; back = reads-nonempty_list_of h.back gap bracket }
