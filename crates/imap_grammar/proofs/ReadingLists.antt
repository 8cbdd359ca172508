-- Words, blanks and lists in brackets read back.
use Rattle.std.proofs.Common.{◌≡◌, ℕ, Bool, true, ◌==◌, [], ◌∷◌, inl, refl, arith, codes, map}
use Prim.Native.String.{String}
use Rattle.std.proofs.lemmas.Bool.{eq-eqb, and_from}
use Rattle.imap_grammar.specs.Meaning.{Denies, is_word, outside}
use Rattle.imap_grammar.specs.Rule.{Rule, run0, list1, meaning}
use Rattle.imap_grammar.specs.Text.{Bytes}
use Rattle.imap_grammar.specs.Classes.{is_blank}
use Rattle.imap_grammar.specs.Tags.{same_letter, sp, tag, word, blanks1}
use Rattle.imap_grammar.specs.Lists.{list_of, nonempty_list_of}
use Rattle.imap_grammar.specs.Pieces.{Pieces, words, space, list_text}
use Rattle.imap_grammar.specs.ReadBack.{ReadsBack, Takes, Any, BeginsWith}
use Rattle.imap_grammar.proofs.Reading.{denies-tag, takes-tag, takes-seq, reads-before, reads-list1, reads-list0, takes-absent, ◌▹ʳ◌, Begins, begun}

-- ---- words and blanks

pub takes-text : (k : String) → Takes (tag k) (words k) Any
takes-text k = takes-tag ◌==◌ (codes k) (codes k) (agrees_itself (codes k))
  where
    agrees_itself : (k : Bytes) → is_word ◌==◌ k k ≡ true
    agrees_itself [] = refl
    agrees_itself (b ∷ bs) = and_from _ _ (eq-eqb b b refl) (agrees_itself bs)

-- a word as the canonical text has it
pub takes-word : (k text : String) → is_word same_letter (codes k) (codes text) ≡ true → Takes (word k) (words text) Any
takes-word k text h = takes-tag same_letter (codes k) (codes text) h

pub takes-none : {F : Bytes → Type 0} (p : ℕ → Bool) → ((t : Bytes) → F t → BeginsWith (outside p) t) → Takes (run0 p) [] F
unfolding meaning
takes-none p h = record { taken = λ f t g. ([], (refl, refl, h t g)) }

-- one space, where no blank follows
pub takes-blanks : Takes blanks1 space (BeginsWith (outside is_blank))
unfolding meaning
takes-blanks = record { taken = λ f t g. (32 ∷ [], ((refl, refl, g), omega arith)) }

-- ---- lists in brackets

module _ {A : Type 0} {a : Rule A} {l : A → A} {c : A → Pieces} {F : Bytes → Type 0} where
  pub reads-list_of : ReadsBack a l c F → ((t : Bytes) → F (32 ∷ t)) → ((t : Bytes) → F (41 ∷ t)) → ((t : Bytes) → Denies (meaning a) (41 ∷ t)) → ReadsBack (list_of a) (map l) (list_text c) Any
  reads-list_of h gap bracket none =
      takes-text "(" ▹ʳ
      reads-before
      (reads-list0 {G = Begins 41} (takes-text " ") h (λ y t. tt) gap (begun _ bracket) (begun _ (λ t. denies-tag _ _ _ refl)) (begun _ none))
      (takes-seq (takes-absent _ {F = Begins 41} (begun _ (λ t. denies-tag _ _ _ refl))) (takes-text ")") (λ t g. (t, refl)))
      (λ t g. (t, refl))

  pub reads-nonempty_list_of : ReadsBack a l c F → ((t : Bytes) → F (32 ∷ t)) → ((t : Bytes) → F (41 ∷ t)) → ReadsBack (nonempty_list_of a) (map l) (list_text c) Any
  reads-nonempty_list_of h gap bracket =
      takes-text "(" ▹ʳ
      reads-before
      (reads-list1 {G = Begins 41} (takes-text " ") h (λ y t. tt) gap (begun _ bracket) (begun _ (λ t. denies-tag _ _ _ refl)))
      (takes-seq (takes-none {F = Begins 41} is_blank (begun _ (λ t. refl))) (takes-text ")") (λ t g. (t, refl)))
      (λ t g. (t, refl))

-- a list of one
pub list_on_one : {A : Type 0} (a : Rule A) (m : Bytes) (x : A) (t : Bytes) → (meaning a).yields m x (41 ∷ t) → (meaning (nonempty_list_of a)).yields (40 ∷ m) (x ∷ []) t
unfolding meaning
list_on_one a m x t y =
    let one : (meaning (list1 sp a)).yields m (x ∷ []) (41 ∷ t) = ((x, []), (41 ∷ t, y, (refl, inl refl)), refl) in
    ((40 ∷ [], x ∷ []), (m, (refl, refl), ((x ∷ [], ([], 41 ∷ [])), (41 ∷ t, one, (41 ∷ t, (refl, refl, refl), (refl, refl))), refl)), refl)
