-- What stands in front of the held bytes, and whether it is expected.
use Rattle.std.proofs.Common.{◌≡◌, ◌≢◌, ℕ, ◌<◌, Bool, true, false, not, [], ◌∷◌, ◌++◌, Option, Ok, Err, length, refl, sym, ap, subst, ◌∙◌, append_assoc, arith, inl, inr}
use Rattle.std.specs.Prelude.{IsTrue, ◌↔◌}
use Rattle.std.specs.List.{list_all}
use Rattle.std.proofs.lemmas.Bool.{false≢true, and_parts}
use Rattle.std.proofs.lemmas.Bool.Decides.{eqb_tells}
use Rattle.imap_grammar.specs.Ascii.{asterisk, plus}
use Rattle.imap_grammar.specs.declared.answer.Err.{Err as Fault}
use Rattle.imap_grammar.specs.declared.answer.Err.TheVariants.{Incomplete, Error, Failure}
use Rattle.imap_grammar.specs.Answer.{Stops}
use Rattle.imap_grammar.specs.Meaning.{begins}
use Rattle.imap_grammar.specs.Rule.{meaning}
use Rattle.imap_grammar.specs.Step.{step}
use Rattle.imap_grammar.specs.Text.{Bytes}
use Rattle.imap_grammar.proofs.Agreement.{agrees}
use Rattle.imap_shared.specs.declared.types.statuses.Status.{Status}
use Rattle.imap_proto.specs.Lines.{is_tag_char, response}
use Rattle.imap_proto.specs.Responses.{OutcomeValue, ResponseValue, Done}
use Rattle.imap_proto.proofs.LineTexts.{response_spells}
use Rattle.imap_proto.proofs.Streams.{stable}
use Rattle.imap_session.specs.Machine.{Pending, IsExpected}
use Rattle.imap_session.specs.Answers.{may_begin_tag, JudgesFront}

-- a response stands there, and it was judged
pub judged : (pending : Option Pending) (held rest : Bytes) (v : ResponseValue) (b : Bool) → step response held ≡ Ok (rest, v) → IsTrue b ↔ IsExpected pending v → JudgesFront pending held (not b)
judged pending held rest v true e i =
    λ w left y. subst (IsExpected pending) (stable.one_yield held v w rest left ((agrees response held).yielded v rest e) y).0 (i.0 refl)
judged pending held rest v false e i =
    (v, rest, (agrees response held).yielded v rest e, λ x. false≢true (i.1 x))

-- none stands there
none_there : (pending : Option Pending) (held : Bytes) (e : Fault) → step response held ≡ Err e → JudgesFront pending held false
none_there pending held e s = λ v left y. let f = sym s ∙ (agrees response held).yields v left y in absurd cc

pub none_judged : (pending : Option Pending) (held : Bytes) (e : Fault) → Stops e (step response held) → e ≢ Failure → JudgesFront pending held false
none_judged pending held Failure s f = absurd (f refl)
none_judged pending held Error s f = none_there pending held Error s
none_judged pending held (Incomplete n) s f = none_there pending held (Incomplete n) s

-- ---- where no tagged line begins

tag_may_begin : (b : ℕ) → is_tag_char b ≡ true → may_begin_tag b ≡ true
tag_may_begin b h =
    elim (eqb_tells b asterisk) [
      | inl e ↦ (absurd (false≢true (subst (λ k. is_tag_char k ≡ true) e.1 h)))
      | inr e ↦
          (elim (eqb_tells b plus) [
            | inl f ↦ (absurd (false≢true (subst (λ k. is_tag_char k ≡ true) f.1 h)))
            | inr f ↦ (rw (e.0, f.0) refl)
          ])
    ]

some_begin : (t more : Bytes) → IsTrue (list_all is_tag_char t) → 0 < length t → begins may_begin_tag (t ++ more) ≡ true
some_begin [] more all some = absurd (omega (arith, some))
some_begin (b ∷ t) more all some = tag_may_begin b (and_parts (is_tag_char b) (list_all is_tag_char t) all).0

-- a tagged line begins with its tag
tagged_begins : (m left t : Bytes) (s : Status) (o : OutcomeValue) → (meaning response).yields m (Done t s o) left → begins may_begin_tag m ≡ true
tagged_begins m left t s o y =
    let c = response_spells.consumed m (Done t s o) left y in
    let front = c.1 ∙ ap (λ (k : Bytes). k ++ left) (c.2.2 ∙ ap (λ (k : Bytes). k ++ c.2.1) c.2.3.0) ∙ append_assoc t c.2.1 left in
    ap (begins may_begin_tag) front ∙ some_begin t (c.2.1 ++ left) c.2.3.1.0.0 c.2.3.1.0.1

pub untagged : (pending : Option Pending) (held : Bytes) → begins may_begin_tag held ≡ false → JudgesFront pending held false
untagged pending held un = λ v left y. go v left y
  where
    go : (v : ResponseValue) (left : Bytes) → (meaning response).yields held v left → IsExpected pending v
    go (Done t s o) left y = absurd (false≢true (sym un ∙ tagged_begins held left t s o y))
    go other left y = tt
