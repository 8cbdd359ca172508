-- Numbers in front of words, behind blanks, and in lists, read back.
use Rattle.std.proofs.Common.{◌≡◌, ℕ, ◌<◌, ◌^◌, ◌&&◌, ◌==◌, Bool, true, not, List, [], ◌∷◌, ◌++◌, decimal, codes, sym, ap, subst, refl, append_assoc, arith, inr}
use Prim.Native.String.{String}
use Rattle.std.proofs.lemmas.Bool.{false≢true}
use Rattle.std.proofs.lemmas.Bool.Decides.{nat_tests}
use Rattle.std.proofs.lemmas.List.{map-id}
use Rattle.std.specs.Char.{to_ascii_lowercase, to_ascii_uppercase}
use Rattle.imap_grammar.specs.Meaning.{Denies, differs, outside}
use Rattle.imap_grammar.specs.Rule.{Rule, tag_by, meaning, gives, many, ◌▹◌, ◌◃◌}
use Rattle.imap_grammar.specs.Text.{Bytes}
use Rattle.imap_grammar.specs.Ranges.{Range}
use Rattle.imap_grammar.specs.Classes.{is_digit, is_blank}
use Rattle.imap_grammar.specs.Tags.{same_letter, word, sp, blanks1}
use Rattle.imap_grammar.specs.Pieces.{Pieces, written, words, space, number_text, range_text, ranges_text, each, ◌then◌}
use Rattle.imap_grammar.specs.ReadBack.{ReadsBack, Apart, Takes, BeginsWith, Closes, as_is}
use Rattle.imap_grammar.proofs.Yields.{Yields, either_yields, given_yields}
use Rattle.imap_grammar.proofs.Reading.{test-has, reads-gives, reads-same, reads-before, reads-many, reads-after_where, reads-as, first_yields, denies-gives, denies-test, denies-run1, denies-tag, denies-after, closes-in, ◌▹ʳ◌}
use Rattle.imap_grammar.proofs.ReadingWords.{first-apart}
use Rattle.imap_grammar.proofs.ReadingLists.{takes-text, takes-blanks}
use Rattle.imap_bytes.specs.Numbers.{digits, number, number_64}
use Rattle.imap_bytes.specs.Sets.{range_of_one, sequence_item, sequence_set}
use Rattle.imap_bytes.proofs.ReadingTexts.{not_digit, number_on, number_first, reads-number}
use Rattle.imap_bytes.proofs.ReadingSets.{number_bound, range_bounds}
use Rattle.std.proofs.lemmas.Bool.{ltb-true}

-- ---- what a number begins with

pub number_starts : (p : ℕ → Bool) → ((b : ℕ) → is_digit b ≡ true → p b ≡ true) → (n : ℕ) → n < 2 ^ 64 → (q : Pieces) (t : Bytes) → BeginsWith p (written (number_text n then q) ++ t)
number_starts p h n small q t =
    let one = number_first n small in
    subst (λ ds. BeginsWith p ((ds ++ written q) ++ t)) (sym one.2) (h one.0 one.3)

pub digit_no_blank : (b : ℕ) → is_digit b ≡ true → outside is_blank b ≡ true
digit_no_blank b h = grind (arith, nat_tests)

pub number_no_blank : (n : ℕ) → n < 2 ^ 64 → (q : Pieces) (t : Bytes) → BeginsWith (outside is_blank) (written (number_text n then q) ++ t)
number_no_blank = number_starts (outside is_blank) digit_no_blank

pub numbers_yield : Yields (λ n. n < 2 ^ 64) number
numbers_yield = record { each = λ m n rest y. let short = number_bound m n rest y in omega (arith, short) }

pub numbers_64_yield : Yields (λ n. n < 2 ^ 64) number_64
unfolding number_64
numbers_64_yield = record { each = λ m n rest y. ltb-true n (2 ^ 64) (test-has _ _ m n rest y).1 }

-- a word that begins with no digit differs from a number
pub word_no_number : (x : ℕ) (k : Bytes) → (not_digit (to_ascii_lowercase x) && not_digit (to_ascii_uppercase (to_ascii_lowercase x))) ≡ true → (b : ℕ) (t : Bytes) → is_digit b ≡ true → differs same_letter (x ∷ k) (b ∷ t) ≡ true
word_no_number x k h b t d = first-apart not_digit x k b t h (ap not d)

pub denies-number : (m : Bytes) → BeginsWith not_digit m → Denies (meaning number) m
unfolding number digits
denies-number m s = denies-test _ _ _ (denies-gives _ _ _ (denies-run1 _ _ s))

-- a word that begins with no digit, on what does
pub denies-word_at_digit : (x : ℕ) (k : Bytes) → (not_digit (to_ascii_lowercase x) && not_digit (to_ascii_uppercase (to_ascii_lowercase x))) ≡ true → (m : Bytes) → BeginsWith is_digit m → Denies (meaning (tag_by same_letter (x ∷ k))) m
denies-word_at_digit x k h [] g = absurd (false≢true g)
denies-word_at_digit x k h (b ∷ m) g = denies-tag _ _ _ (word_no_number x k h b m g)

-- ---- a number and a word

module _ {V : Type 0} {c : V → Pieces} {F : Bytes → Type 0} where
  pub reads-counted : {l : V → V} (f : ℕ → V) (k text : String) → Takes (word k) (words text) F → ((n : ℕ) → c (f n) ≡ (number_text n then words text)) → ((t : Bytes) → BeginsWith not_digit (written (words text) ++ t))
      → ((n : ℕ) → f n ≡ l (f n)) → ReadsBack (gives f (number ◃ word k)) l c F
  reads-counted f k text takes same starts_ kept = reads-gives f (reads-same (reads-before reads-number takes (λ t g. starts_ t)) (λ n. sym (same n))) kept

  -- what begins with no digit is apart from it
  pub counted_apart : (a : Rule V) (f : ℕ → V) (k text : String) → ((n : ℕ) → c (f n) ≡ (number_text n then words text)) → ((b : ℕ) (t : Bytes) → is_digit b ≡ true → Denies (meaning a) (b ∷ t))
      → Apart a (gives f (number ◃ word k)) c F
  unfolding meaning
  counted_apart a f k text same h = record {
    denied = λ m v rest d y fits t g.
        let n = y.0 in
        let read = subst (λ x. (meaning number).yields m x y.1.1.0) y.1.2 y.1.1.1 in
        let one = number_first n (numbers_yield.each m n y.1.1.0 read) in
        subst (λ w. Denies (meaning a) (written (c w) ++ t)) y.2
        (subst (λ q. Denies (meaning a) (written q ++ t)) (sym (same n)) (subst (λ ds. Denies (meaning a) ((ds ++ written (words text)) ++ t)) (sym one.2) (h one.0 _ one.3)));
  }

  -- the same number before another word
  pub counted_other : (e f : ℕ → V) (j k text : String) → ((n : ℕ) → c (f n) ≡ (number_text n then words text)) → ((t : Bytes) → differs same_letter (codes j) (written (words text) ++ t) ≡ true)
      → ((t : Bytes) → BeginsWith not_digit (written (words text) ++ t)) → Apart (gives e (number ◃ word j)) (gives f (number ◃ word k)) c F
  unfolding meaning number
  counted_other e f j k text same other ends = record {
    denied = λ m v rest d y fits t g.
        let n = y.0 in
        let read = subst (λ x. (meaning number).yields m x y.1.1.0) y.1.2 y.1.1.1 in
        let path : written (number_text n then words text) ++ t ≡ decimal n ++ (written (words text) ++ t) = append_assoc (decimal n) (written (words text)) t in
        let again = number_on (2 ^ 32) n (omega arith) (number_bound m n y.1.1.0 read) (written (words text) ++ t) (ends t) in
        subst (λ w. Denies (meaning (gives e (number ◃ word j))) (written (c w) ++ t)) y.2
        (subst (λ q. Denies (meaning (gives e (number ◃ word j))) (written q ++ t)) (sym (same n))
        (inr (n, written (words text) ++ t, subst (λ m. (meaning number).yields m n (written (words text) ++ t)) (sym path) again, other t)));
  }

-- ---- numbers behind blanks, and each behind a space

module _ {G : Bytes → Type 0} where
  pub blank_number : {a : Rule ℕ} → Yields (λ n. n < 2 ^ 64) a → ReadsBack a as_is number_text G → ReadsBack (blanks1 ▹ a) as_is (λ n. space then number_text n) G
  blank_number known h = reads-after_where takes-blanks known h (λ n t small g. number_no_blank n small [] t)

pub closes_space : (t : Bytes) → Closes t → Denies (meaning sp) t
closes_space [] g = absurd (false≢true g)
closes_space (b ∷ t) g = denies-tag _ _ _ (closes-in (λ x. differs ◌==◌ (32 ∷ []) (x ∷ t)) refl refl (b ∷ t) g)

pub reads-spaced_numbers : ReadsBack (many (sp ▹ number)) as_is (each (λ n. space then number_text n)) Closes
reads-spaced_numbers = reads-as (reads-many (takes-text " " ▹ʳ reads-number) (λ y t. refl) (closes-in not_digit refl refl) (λ t g. denies-after _ _ _ (closes_space t g))) map-id

pub closes_blanks : (t : Bytes) → Closes t → Denies (meaning blanks1) t
closes_blanks t g = denies-run1 is_blank t (closes-in (outside is_blank) refl refl t g)

-- ---- a set begins with a digit

abbrev pub StartsWithDigit : List Range → Type 0
StartsWithDigit rs = (t : Bytes) → BeginsWith is_digit (written (ranges_text rs) ++ t)

items_yield : Yields (λ r. r.start < 2 ^ 64) sequence_item
unfolding sequence_item
items_yield = either_yields
    (record { each = λ m r rest y. let short = (range_bounds m r rest y).1 in omega (arith, short) })
    (given_yields range_of_one numbers_yield (λ n h. h))

pub sets_yield : Yields StartsWithDigit sequence_set
unfolding sequence_set
sets_yield = given_yields (λ (v : Range × List Range). v.0 ∷ v.1) (first_yields items_yield)
    (λ v small t. number_starts is_digit (λ b h. h) v.0.start small (words ":" then number_text v.0.end then each (λ r. words "," then range_text r) v.1) t)
