-- A response has the same name with its texts owned.
use Rattle.std.proofs.Common.{◌≡◌, ℕ, Result, Ok, Err, refl, ap, ◌∙◌}
use Rattle.std.specs.Prelude.{IfOk}
use Rattle.std.specs.String.{string_bytes}
use Rattle.std.specs.declared.alloc.AllocError.{AllocError}
use Rattle.std.specs.declared.alloc.Global.{Global}
use Rattle.std.specs.declared.string.String.{String}
use Rattle.imap_grammar.specs.Text.{Bytes}
use Rattle.imap_proto.specs.Owned.{owned_response}
use Rattle.imap_proto.specs.Responses.{ResponseValue}
use Rattle.imap_proto.specs.Responses as said
use Rattle.imap_report.specs.Plain.{name_of, counted}

name_owned : (v : ResponseValue) → name_of (owned_response v) ≡ name_of v
name_owned (said.Continue o) = refl
name_owned other = refl

-- so its line is that of the response that it was made from
pub counted_alike : (owned : ResponseValue) (name : Bytes) (n : ℕ) (r : Result (String Global) AllocError) → name ≡ name_of owned → IfOk r (λ text. string_bytes text ≡ counted name n)
    → IfOk r (λ text. (v : ResponseValue) → owned ≡ owned_response v → string_bytes text ≡ counted (name_of v) n)
counted_alike owned name n (Ok text) named t = λ v is. t ∙ ap (λ k. counted k n) (named ∙ ap name_of is ∙ name_owned v)
counted_alike owned name n (Err e) named t = tt
