-- Where the content of a string lies, by the steps of its reader and by its first byte.
use Rattle.std.proofs.Common.{◌≡◌, ℕ, ◌==◌, ◌+◌, ◌-◌, ◌≤◌, ◌<◌, List, [], ◌∷◌, ◌++◌, length, drop, Bool, true, false, Ok, Err, IfOk, refl, ap, ◌∙◌, arith}
use Rattle.std.specs.Prelude.{not}
use Rattle.std.specs.List.{list_all}
use Rattle.std.proofs.lemmas.Bool.{and_parts}
use Rattle.std.proofs.lemmas.List.{length-drop, length-take, length-append}
use Rattle.imap_grammar.specs.declared.answer.Err.TheVariants.{Error}
use Rattle.imap_grammar.specs.declared.at.span.Span.{Span}
use Rattle.imap_grammar.specs.Ascii.{quote}
use Rattle.imap_grammar.specs.Classes.{is_astring_char}
use Rattle.imap_grammar.specs.Meaning.{begins, outside}
use Rattle.imap_grammar.specs.Positions.{Reached, Lies, Inside, named_in, StepsExactlyAt}
use Rattle.imap_grammar.specs.Rule.{meaning, run0, run1, tag_by}
use Rattle.imap_grammar.specs.Step.{step}
use Rattle.imap_grammar.proofs.Agreement.{agrees, exact_answer_at}
use Rattle.imap_grammar.proofs.ReadingWords.{exact}
use Rattle.imap_bytes.specs.Places.{IsRunPlace, IsQuotedPlace, IsLiteralPlace, IsStringPlace, IsAstringPlace}

-- ---- all that was read

-- what is left tells how much was taken, so a span of so many bytes between the two places is all of it
is_all : (m : List ℕ) (p q : ℕ) (s : Span) → drop p m ≡ named_in m s ++ drop q m → Lies p s q → q ≤ length m → IsRunPlace p (q, s)
is_all m p q s e lies within =
    let named = length-take (s.end - s.start) (drop s.start m) in
    let long : length (drop p m) ≡ length (named_in m s) + length (drop q m) = ap length e ∙ length-append (named_in m s) (drop q m) in
    (omega (arith, long, named, length-drop s.start m, length-drop p m, length-drop q m, lies, within), omega (arith, long, named, length-drop s.start m, length-drop p m, length-drop q m, lies, within))

pub run0_place : (class : ℕ → Bool) (m : List ℕ) (p : ℕ) (r : Reached Span) → StepsExactlyAt (run0 class) (named_in m) m p r → Inside m p r → IfOk r (IsRunPlace p)
unfolding meaning
run0_place class m p (Ok x) steps inside = is_all m p x.0 x.1 ((agrees (run0 class) (drop p m)).yielded (named_in m x.1) (drop x.0 m) steps).0 inside.0 inside.1
run0_place class m p (Err e) steps inside = record {}

pub run1_place : (class : ℕ → Bool) (m : List ℕ) (p : ℕ) (r : Reached Span) → StepsExactlyAt (run1 class) (named_in m) m p r → Inside m p r → IfOk r (IsRunPlace p)
unfolding meaning
run1_place class m p (Ok x) steps inside = is_all m p x.0 x.1 ((agrees (run1 class) (drop p m)).yielded (named_in m x.1) (drop x.0 m) steps).0.0 inside.0 inside.1
run1_place class m p (Err e) steps inside = record {}

pub word_place : (same : ℕ → ℕ → Bool) (text m : List ℕ) (p : ℕ) (r : Reached Span) → StepsExactlyAt (tag_by same text) (named_in m) m p r → Inside m p r → IfOk r (IsRunPlace p)
unfolding meaning
word_place same text m p (Ok x) steps inside = is_all m p x.0 x.1 ((agrees (tag_by same text) (drop p m)).yielded (named_in m x.1) (drop x.0 m) steps).0 inside.0 inside.1
word_place same text m p (Err e) steps inside = record {}

pub ruleset word_answers = (exact_answer_at, word_place)

-- ---- a run's first byte

begins_by : (class : ℕ → Bool) (v i : List ℕ) → 0 < length v → list_all class v ≡ true → begins class (v ++ i) ≡ true
begins_by class [] i some all = absurd (omega (arith, some))
begins_by class (b ∷ v) i some all = (and_parts (class b) (list_all class v) all).0

-- a run that was read begins with a byte of its class
run1_begins : (class : ℕ → Bool) (i rest v : List ℕ) → step (run1 class) i ≡ Ok (rest, v) → begins class i ≡ true
unfolding meaning
run1_begins class i rest v reads =
    let y = (agrees (run1 class) i).yielded v rest reads in
    ap (begins class) y.0.0 ∙ begins_by class v rest y.1 y.0.1

not_outside : (class : ℕ → Bool) (i : List ℕ) → begins (outside class) i ≡ true → begins class i ≡ false
not_outside class [] h = refl
not_outside class (b ∷ i) h = by (class b) h
  where
    by : (x : Bool) → not x ≡ true → x ≡ false
    by true h = absurd cc
    by false h = refl

-- where one is denied, another byte stands, or none
run1_denied : (class : ℕ → Bool) (i : List ℕ) → step (run1 class) i ≡ Err Error → begins class i ≡ false
unfolding meaning
run1_denied class i denies = not_outside class i ((agrees (run1 class) i).failed Error denies)

-- ---- behind a byte

-- a word of one byte ends at the next place
pub behind_byte : (b : ℕ) (m v : List ℕ) (p q : ℕ) → step (tag_by ◌==◌ (b ∷ [])) (drop p m) ≡ Ok (drop q m, v) → q ≤ length m → q ≡ p + 1
unfolding meaning
behind_byte b m v p q reads within =
    let y = (agrees (tag_by ◌==◌ (b ∷ [])) (drop p m)).yielded v (drop q m) reads in
    let one : 1 ≡ length v = ap length (exact (b ∷ []) v y.1) in
    omega (arith, one, ap length y.0, length-append v (drop q m), length-drop p m, length-drop q m, within)

-- ---- which string it is

pub quoted_there : (m : List ℕ) (p : ℕ) (r : Reached Span) → begins (λ b. b == quote) (drop p m) ≡ true → IfOk r (IsQuotedPlace p) → IfOk r (IsStringPlace m p)
quoted_there m p (Ok x) is h = rw is h
quoted_there m p (Err e) is h = h

pub literal_there : (m : List ℕ) (p : ℕ) (r : Reached Span) → begins (λ b. b == quote) (drop p m) ≡ false → IfOk r IsLiteralPlace → IfOk r (IsStringPlace m p)
literal_there m p (Ok x) is h = rw is h
literal_there m p (Err e) is h = h

pub run_there : (m : List ℕ) (p : ℕ) (r : Reached Span) → StepsExactlyAt (run1 is_astring_char) (named_in m) m p r → IfOk r (IsRunPlace p) → IfOk r (IsAstringPlace m p)
run_there m p (Ok x) steps h = rw (run1_begins is_astring_char (drop p m) (drop x.0 m) (named_in m x.1) steps) h
run_there m p (Err e) steps h = h

pub string_there : (m : List ℕ) (p : ℕ) (r : Reached Span) → step (run1 is_astring_char) (drop p m) ≡ Err Error → IfOk r (IsStringPlace m p) → IfOk r (IsAstringPlace m p)
string_there m p (Ok x) denies h = rw (run1_denied is_astring_char (drop p m) denies) h
string_there m p (Err e) denies h = h
