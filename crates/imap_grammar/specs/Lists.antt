-- Lists and brackets, over rules and over readers that are passed.
use Rattle.std.specs.Prelude.{◌≡◌, ℕ, ◌<◌, ◌⊎◌, List, [], ◌∷◌, ◌++◌, length, Option, None, Some, Result, Ok, Err}
use Rattle.std.specs.Borrow.{Bor}
use Rattle.imap_grammar.specs.declared.answer.Err.{Err as Fault}
use Rattle.imap_grammar.specs.declared.answer.Err.TheVariants.{Incomplete, Error, Failure}
use Rattle.imap_grammar.specs.declared.lists.Separator.{Separator}
use Rattle.imap_grammar.specs.declared.lists.Separator.TheVariants.{Space, Comma, Blanks}
use Rattle.imap_grammar.specs.Text.{Bytes}
use Rattle.imap_grammar.specs.Meaning.{Meaning, seq_means, alt_means, gives_means, nothing_means, many_means}
use Rattle.imap_grammar.specs.Rule.{Rule, meaning, gives, opt, list0, list1, ◌⨾◌, ◌▹◌, ◌◃◌}
use Rattle.imap_grammar.specs.Answer.{Returned}
use Rattle.imap_grammar.specs.Tags.{tag, sp, blanks0, blanks1}

-- ---- rules

-- `(`, A by one SP, maybe none, maybe a SP, `)`
abbrev pub list_of : {A : Type 0} → Rule A → Rule (List A)
list_of a = tag "(" ▹ list0 sp a ◃ opt sp ⨾ tag ")"

-- `(`, one or more A by one SP, blanks, `)`
abbrev pub nonempty_list_of : {A : Type 0} → Rule A → Rule (List A)
nonempty_list_of a = tag "(" ▹ list1 sp a ◃ blanks0 ⨾ tag ")"

-- `(`, A
abbrev pub opened : {A : Type 0} → Rule A → Rule A
opened a = tag "(" ▹ a

-- `(`, A, `)`
abbrev pub delimited : {A : Type 0} → Rule A → Rule A
delimited a = tag "(" ▹ a ◃ tag ")"

abbrev pub flat : {A : Type 0} → Option (Option A) → Option A
flat None = None
flat (Some x) = x

-- A that may have no value, or nothing where it is denied
abbrev pub opt_opt_of : {A : Type 0} → Rule (Option A) → Rule (Option A)
opt_opt_of a = gives flat (opt a)

-- what stands between the elements of a list
abbrev pub separator : Separator → Rule Bytes
separator Space = sp
separator Comma = tag ","
separator Blanks = blanks1

-- ---- the same forms over any meaning

abbrev pub behind_means : {S A : Type 0} → Meaning S → Meaning A → Meaning A
behind_means {S} {A} s a = gives_means (λ (v : S × A). v.1) (seq_means s a)

abbrev pub list1_means : {S A : Type 0} → Meaning S → Meaning A → Meaning (List A)
list1_means {S} {A} s a =
    gives_means (λ (v : A × List A). v.0 ∷ v.1) (seq_means a (many_means (behind_means s a)))

abbrev pub list0_means : {S A : Type 0} → Meaning S → Meaning A → Meaning (List A)
list0_means s a = alt_means (list1_means s a) (nothing_means [])

abbrev pub opt_means : {A : Type 0} → Meaning A → Meaning (Option A)
opt_means {A} a = alt_means (gives_means Some a) (nothing_means None)

abbrev pub opened_means : {A : Type 0} → Meaning A → Meaning A
opened_means a = behind_means (meaning (tag "(")) a

-- `(`, A, and what closes it
abbrev pub enclosed_means : {A C : Type 0} → Rule C → Meaning A → Meaning A
enclosed_means {A} {C} close a =
    opened_means (gives_means (λ (v : A × C). v.0) (seq_means a (meaning close)))

abbrev pub list_means : {A : Type 0} → Meaning A → Meaning (List A)
list_means a = enclosed_means (opt sp ⨾ tag ")") (list0_means (meaning sp) a)

abbrev pub nonempty_list_means : {A : Type 0} → Meaning A → Meaning (List A)
nonempty_list_means a = enclosed_means (blanks0 ⨾ tag ")") (list1_means (meaning sp) a)

abbrev pub delimited_means : {A : Type 0} → Meaning A → Meaning A
delimited_means a = enclosed_means (tag ")") a

abbrev pub opt_opt_means : {A : Type 0} → Meaning (Option A) → Meaning (Option A)
opt_opt_means a = gives_means flat (opt_means a)

-- ---- a reader that is passed

-- what the calls of a reader may answer, as a meaning
abbrev pub called : {O : Type 0} → (List ℕ → Returned O → Type 0) → Meaning O
called {O} answers =
    record {
      yields = λ m v rest. (left : Bor (List ℕ)) × (rest ≡ left.now) × answers m (Ok (left, v));
      fails = λ m e. answers m (Err e);
    }

-- each rest that a call hands back is shorter than what it was given
pub record Shortens {O : Type 0} (answers : List ℕ → Returned O → Type 0) : Type 0 where
  pub shorter :
      (m : List ℕ) (left : Bor (List ℕ)) (v : O) → answers m (Ok (left, v)) →
      length left.now < length m

-- each rest that a call hands back is an end of what it was given
pub record Ends {O : Type 0} (answers : List ℕ → Returned O → Type 0) : Type 0 where
  pub cut :
      (m : List ℕ) (left : Bor (List ℕ)) (v : O) → answers m (Ok (left, v)) →
      (front : List ℕ) × (m ≡ front ++ left.now)

-- the same answers, where memory may run out as well, but only behind what the first meaning yields
abbrev pub or_memory_behind : {O A : Type 0} → Meaning O → Meaning A → Meaning A
or_memory_behind {O} first a =
    record {
      yields = a.yields;
      fails =
          λ m e.
          a.fails m e ⊎ ((e ≡ Failure) × (x : O) × (rest : List ℕ) × first.yields m x rest);
    }

-- an answer of a meaning, each fault as it is
abbrev pub Allows : {A V : Type 0} → Meaning V → (A → V) → List ℕ → Returned A → Type 0
Allows r view m (Ok x) = r.yields m (view x.1) x.0.now
Allows r view m (Err e) = r.fails m e

-- A reader of this form answers on m as the form says, of the answers that the passed reader may give.
pub record Follows {O V A : Type 0}
    (form : Meaning O → Meaning V) (answers : List ℕ → Returned O → Type 0) (view : A → V)
    (m : List ℕ) (result : Returned A) :
    Type 0 where
  pub met : Allows (form (called answers)) view m result

-- an answer, where a denial is `None`
abbrev pub tried_of : {A : Type 0} → Result A Fault → Result (Option A) Fault
tried_of (Ok x) = Ok (Some x)
tried_of (Err Error) = Ok None
tried_of (Err (Incomplete n)) = Err (Incomplete n)
tried_of (Err Failure) = Err Failure
