-- Answers of bytes.
use Rattle.std.proofs.Common.{◌≡◌, Result, Ok, Err, refl, ap, subst, inl, inr, arith}
use Rattle.std.specs.Prelude.{◌⊎◌, IfOk}
use Rattle.std.specs.String.{string_bytes}
use Rattle.std.specs.declared.alloc.AllocError.{AllocError}
use Rattle.std.specs.declared.alloc.Global.{Global}
use Rattle.std.specs.declared.string.String.{String}
use Rattle.serde_json.specs.Written.{compact_text}
use Rattle.imap_grammar.specs.declared.answer.Err.{Err as Fault}
use Rattle.imap_grammar.specs.declared.answer.Err.TheVariants.{Incomplete, Error, Failure}
use Rattle.imap_grammar.specs.Text.{Bytes}
use Rattle.imap_proto.specs.Responses.{ResponseValue}
use Rattle.imap_json.specs.Responses.{json_of}
use Rattle.imap_c.specs.declared.answers.Answer.{Answer}
use Rattle.imap_c.specs.declared.texts.TextAnswer.{TextAnswer}
use Rattle.imap_c.specs.Numbers.{out_of_memory}
use Rattle.imap_c.specs.Answers.{fault_answer}
use Rattle.imap_c.specs.Json.{PutsText}
use Rattle.imap_c.specs.Texts.{Puts, PutsNone}

-- want of memory is told of no other fault
pub fails : (P : Type 0) (e : Fault) (answer : Answer) → answer ≡ fault_answer e → (e ≡ Failure → P) → answer.outcome ≡ out_of_memory → P
fails P (Incomplete n) answer is wants told = absurd (omega (arith, ap (λ (a : Answer). a.outcome) is, told))
fails P Error answer is wants told = absurd (omega (arith, ap (λ (a : Answer). a.outcome) is, told))
fails P Failure answer is wants told = wants refl

-- what was made of a response is put out
pub made_put : (v : ResponseValue) (made : Result (String Global) AllocError) (old new : Bytes) (answer : TextAnswer) → IfOk made (λ text. string_bytes text ≡ compact_text (json_of v)) → PutsText made old new answer
    → Puts (compact_text (json_of v)) old new answer ⊎ PutsNone out_of_memory old new answer
made_put v (Ok text) old new answer t p = inl (subst (λ k. Puts k old new answer) t p)
made_put v (Err e) old new answer t p = inr p
