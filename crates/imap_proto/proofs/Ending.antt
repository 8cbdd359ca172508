-- What a response consumed ends in CRLF.
use Rattle.std.proofs.Common.{◌≡◌, ℕ, List, [], ◌∷◌, ◌++◌, Ok, Err, refl, sym, ap, ◌∙◌, append_assoc, inl, inr, true, false}
use Rattle.std.specs.Prelude.{IfOk, ◌==◌}
use Rattle.std.proofs.lemmas.Bool.{eqb-true, and_parts, false≢true}
use Rattle.imap_grammar.specs.Meaning.{is_word}
use Rattle.imap_grammar.specs.Rule.{Rule, meaning, ◌⨾◌, ◌▹◌, ◌◃◌}
use Rattle.imap_grammar.specs.Step.{step}
use Rattle.imap_grammar.specs.Answer.{Returned, Gives}
use Rattle.imap_grammar.specs.Tags.{tag, sp, maybe_space, crlf}
use Rattle.imap_grammar.proofs.Agreement.{agrees, shrinks}
use Rattle.imap_shared.specs.Statuses.{status}
use Rattle.imap_proto.specs.Responses.{ResponseValue, EndsLine}
use Rattle.imap_proto.specs.Outcomes.{outcome, spaced_outcome}
use Rattle.imap_proto.specs.Lines.{continuation, datum, spaces, ended_datum, data_line, request_tag, tagged, response}

is_crlf : (v : List ℕ) → is_word ◌==◌ (13 ∷ 10 ∷ []) v ≡ true → v ≡ 13 ∷ 10 ∷ []
is_crlf [] h = absurd (false≢true h)
is_crlf (a ∷ []) h = absurd (false≢true (and_parts (13 == a) false h).1)
is_crlf (a ∷ b ∷ []) h =
    let first = and_parts (13 == a) _ h in
    let second = and_parts (10 == b) true first.1 in
    let one : a ≡ 13 = sym (eqb-true 13 a first.0) in
    let two : b ≡ 10 = sym (eqb-true 10 b second.0) in
    rw (one, two) refl
is_crlf (a ∷ b ∷ c ∷ v) h = absurd (false≢true (and_parts (10 == b) false (and_parts (13 == a) _ h).1).1)

crlf_ends : (m : List ℕ) (v rest : List ℕ) → (meaning crlf).yields m v rest → EndsLine m rest
unfolding meaning
crlf_ends m v rest h = ([], h.0 ∙ ap (λ (k : List ℕ). k ++ rest) (is_crlf v h.1))

-- behind what any rule takes
after : {A : Type 0} (a : Rule A) (m mid rest : List ℕ) (v : A) → (meaning a).yields m v mid → EndsLine mid rest → EndsLine m rest
after a m mid rest v y h =
    let p = shrinks a m v mid y in
    (p.0 ++ h.0, p.1 ∙ ap (λ (k : List ℕ). p.0 ++ k) h.1 ∙ sym (append_assoc p.0 h.0 (13 ∷ 10 ∷ rest)))

-- each form that ends in a rule which ends a line
seq_ends : {A B : Type 0} (a : Rule A) (b : Rule B) → ((m : List ℕ) (v : B) (rest : List ℕ) → (meaning b).yields m v rest → EndsLine m rest) → (m : List ℕ) (v : A × B) (rest : List ℕ) → (meaning (a ⨾ b)).yields m v rest → EndsLine m rest
unfolding meaning
seq_ends a b ends m v rest h = after a m h.0 rest v.0 h.1 (ends h.0 v.1 rest h.2)

right_ends : {A B : Type 0} (a : Rule A) (b : Rule B) → ((m : List ℕ) (v : B) (rest : List ℕ) → (meaning b).yields m v rest → EndsLine m rest) → (m : List ℕ) (v : B) (rest : List ℕ) → (meaning (a ▹ b)).yields m v rest → EndsLine m rest
unfolding meaning
right_ends a b ends m v rest h = after a m h.1.0 rest h.0.0 h.1.1 (ends h.1.0 h.0.1 rest h.1.2)

left_ends : {A B : Type 0} (a : Rule A) (b : Rule B) → ((m : List ℕ) (v : B) (rest : List ℕ) → (meaning b).yields m v rest → EndsLine m rest) → (m : List ℕ) (v : A) (rest : List ℕ) → (meaning (a ◃ b)).yields m v rest → EndsLine m rest
unfolding meaning
left_ends a b ends m v rest h = after a m h.1.0 rest h.0.0 h.1.1 (ends h.1.0 h.0.1 rest h.1.2)

continuation_ends : (m : List ℕ) (v : ResponseValue) (rest : List ℕ) → (meaning continuation).yields m v rest → EndsLine m rest
unfolding continuation meaning
continuation_ends m v rest h = right_ends (tag "+") (maybe_space ▹ outcome ◃ crlf) (right_ends maybe_space (outcome ◃ crlf) (left_ends outcome crlf crlf_ends)) m h.0 rest h.1

data_ends : (m : List ℕ) (v : ResponseValue) (rest : List ℕ) → (meaning data_line).yields m v rest → EndsLine m rest
unfolding data_line ended_datum
data_ends = right_ends (tag "* ") (datum ◃ spaces ⨾ crlf) (left_ends datum (spaces ⨾ crlf) (seq_ends spaces crlf crlf_ends))

tagged_ends : (m : List ℕ) (v : ResponseValue) (rest : List ℕ) → (meaning tagged).yields m v rest → EndsLine m rest
unfolding tagged meaning
tagged_ends m v rest h =
    seq_ends request_tag (sp ▹ status ⨾ spaced_outcome ◃ crlf)
    (right_ends sp (status ⨾ spaced_outcome ◃ crlf) (seq_ends status (spaced_outcome ◃ crlf) (left_ends spaced_outcome crlf crlf_ends))) m h.0 rest h.1

pub response_ends : (m : List ℕ) (v : ResponseValue) (rest : List ℕ) → (meaning response).yields m v rest → EndsLine m rest
unfolding response meaning
response_ends m v rest h = elim h [
  | inl y ↦ continuation_ends m v rest y
  | inr y ↦ elim (y.1) [ inl d ↦ data_ends m v rest d | inr d ↦ tagged_ends m v rest d.1 ]
]

pub line_ends : {A : Type 0} (view : A → ResponseValue) (m : List ℕ) (result : Returned A) → Gives view result (step response m) → IfOk result (λ x. EndsLine m x.0.now)
line_ends view m (Ok x) g = response_ends m (view x.1) x.0.now ((agrees response m).yielded (view x.1) x.0.now g)
line_ends view m (Err e) g = tt
