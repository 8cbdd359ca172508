-- What stands behind the number of a numbered line: a FETCH where the second byte is an F, and else one of the others.
use Rattle.std.proofs.Common.{◌≡◌, ◌≢◌, ◌⊎◌, ℕ, Bool, true, false, List, [], ◌∷◌, Some, Ok, Err, refl, sym, ap, ◌∙◌, inl, inr, codes}
use Rattle.std.specs.Prelude.{slice_get}
use Rattle.imap_grammar.specs.declared.answer.Err.{Err as Fault}
use Rattle.imap_grammar.specs.declared.answer.Err.TheVariants.{Incomplete, Error, Failure}
use Rattle.imap_grammar.specs.Step.{Step, step}
use Rattle.imap_grammar.specs.Tags.{same_letter, word}
use Rattle.imap_grammar.proofs.ReadingWords.{letter}
use Rattle.imap_bytes.specs.Numbers.{number}
use Rattle.imap_data.specs.MailboxData.{exists, recent}
use Rattle.imap_proto.specs.Lines.{expunge, fetched, fetch, numbered_line, count_line, fetched_line}
use Rattle.imap_proto.proofs.Fetching.{word_denied, word_waits, no_letter}

-- ---- the second byte

abbrev pub IsF : List ℕ → Type 0
IsF k = (slice_get k 1 ≡ Some 102) ⊎ (slice_get k 1 ≡ Some 70)

abbrev pub IsNoF : List ℕ → Type 0
IsNoF k = (slice_get k 1 ≢ Some 102) × (slice_get k 1 ≢ Some 70)

not_f : (c d : ℕ) (k : List ℕ) → IsNoF (c ∷ d ∷ k) → same_letter 70 d ≡ true → ⊥
not_f c d k other f = elim (letter 70 d f) [ inl e ↦ other.0 (ap (λ x. Some x) e) | inr e ↦ other.1 (ap (λ x. Some x) e) ]

-- where EXISTS is denied and the second byte is no F, FETCH is denied
no_fetch : (k : List ℕ) → IsNoF k → step (word " EXISTS") k ≡ Err Error → step (word " FETCH ") k ≡ Err Error
no_fetch [] other e = absurd (let w = sym (word_waits (codes " EXISTS") [] refl) ∙ e in cc)
no_fetch (c ∷ []) other e = go (same_letter 32 c) refl
  where
    go : (t : Bool) → same_letter 32 c ≡ t → step (word " FETCH ") (c ∷ []) ≡ Err Error
    go true space = absurd (let w = sym (word_waits (codes " EXISTS") (c ∷ []) (rw space refl)) ∙ e in cc)
    go false space = word_denied (codes " FETCH ") (c ∷ []) (rw space refl)
no_fetch (c ∷ d ∷ k) other e = go (same_letter 32 c) (same_letter 70 d) refl refl
  where
    go : (t s : Bool) → same_letter 32 c ≡ t → same_letter 70 d ≡ s → step (word " FETCH ") (c ∷ d ∷ k) ≡ Err Error
    go false s space f = word_denied (codes " FETCH ") (c ∷ d ∷ k) (rw space refl)
    go true false space f = word_denied (codes " FETCH ") (c ∷ d ∷ k) (rw (space, f) refl)
    go true true space f = absurd (not_f c d k other f)

abbrev NoOther : List ℕ → Type 0
NoOther k = (step (word " EXISTS") k ≡ Err Error) × (step (word " RECENT") k ≡ Err Error) × (step (word " EXPUNGE") k ≡ Err Error)

denied_by : (c d : ℕ) (k : List ℕ) (t : Bool) → same_letter 32 c ≡ t → same_letter 70 d ≡ true → NoOther (c ∷ d ∷ k)
denied_by c d k false space f = (word_denied (codes " EXISTS") (c ∷ d ∷ k) (rw space refl), word_denied (codes " RECENT") (c ∷ d ∷ k) (rw space refl), word_denied (codes " EXPUNGE") (c ∷ d ∷ k) (rw space refl))
denied_by c d k true space f =
    let e : same_letter 69 d ≡ false = no_letter 69 d f refl in
    let r : same_letter 82 d ≡ false = no_letter 82 d f refl in
    (word_denied (codes " EXISTS") (c ∷ d ∷ k) (rw (space, e) refl), word_denied (codes " RECENT") (c ∷ d ∷ k) (rw (space, r) refl), word_denied (codes " EXPUNGE") (c ∷ d ∷ k) (rw (space, e) refl))

no_other : (k : List ℕ) → IsF k → NoOther k
no_other [] (inl e) = absurd cc
no_other [] (inr e) = absurd cc
no_other (c ∷ []) (inl e) = absurd cc
no_other (c ∷ []) (inr e) = absurd cc
no_other (c ∷ d ∷ k) (inl e) = let is : d ≡ 102 = cc in denied_by c d k (same_letter 32 c) refl (ap (same_letter 70) is)
no_other (c ∷ d ∷ k) (inr e) = let is : d ≡ 70 = cc in denied_by c d k (same_letter 32 c) refl (ap (same_letter 70) is)

-- ---- the line

pub number_stopped : (m : List ℕ) (e : Fault) → step number m ≡ Err e → step numbered_line m ≡ Err e
unfolding numbered_line exists recent expunge fetch
number_stopped m Error a = rw a refl
number_stopped m (Incomplete n) a = rw a refl
number_stopped m Failure a = rw a refl

pub number_and_fetch : (m j : List ℕ) (n : ℕ) → step number m ≡ Ok (j, n) → IsF j → step numbered_line m ≡ step (fetched_line n) j
unfolding numbered_line exists recent expunge fetch fetched_line
number_and_fetch m j n a f = let o = no_other j f in rw (a, o.0, o.1, o.2) refl

pub number_and_count : (m j : List ℕ) (n : ℕ) → step number m ≡ Ok (j, n) → IsNoF j → step numbered_line m ≡ step (count_line n) j
unfolding numbered_line exists recent expunge fetch fetched count_line
number_and_count m j n a other = one (step (word " EXISTS") j) refl
  where
    Same : Type 0
    Same = step numbered_line m ≡ step (count_line n) j

    three : (s : Step (List ℕ)) → step (word " EXISTS") j ≡ Err Error → step (word " RECENT") j ≡ Err Error → step (word " EXPUNGE") j ≡ s → Same
    three (Ok x) e r f = rw (a, e, r, f) refl
    three (Err Error) e r f = rw (a, e, r, f, no_fetch j other e) refl
    three (Err (Incomplete k)) e r f = rw (a, e, r, f) refl
    three (Err Failure) e r f = rw (a, e, r, f) refl

    two : (s : Step (List ℕ)) → step (word " EXISTS") j ≡ Err Error → step (word " RECENT") j ≡ s → Same
    two (Ok x) e r = rw (a, e, r) refl
    two (Err Error) e r = three (step (word " EXPUNGE") j) e r refl
    two (Err (Incomplete k)) e r = rw (a, e, r) refl
    two (Err Failure) e r = rw (a, e, r) refl

    one : (s : Step (List ℕ)) → step (word " EXISTS") j ≡ s → Same
    one (Ok x) e = rw (a, e) refl
    one (Err Error) e = two (step (word " RECENT") j) e refl
    one (Err (Incomplete k)) e = rw (a, e) refl
    one (Err Failure) e = rw (a, e) refl
