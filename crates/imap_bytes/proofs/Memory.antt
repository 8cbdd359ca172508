-- Where the readers of texts fail for want of memory.
use Rattle.std.proofs.Common.{◌≡◌, ℕ, Bool, true, false, List, Result, Ok, Err, refl, sym, ap, subst, ◌∙◌, IsUtf8}
use Rattle.std.specs.Str.{is_utf8}
use Rattle.std.proofs.lemmas.Bool.{false≢true}
use Rattle.std.proofs.lemmas.Str.{IsUtf8-from_is_utf8}
use Rattle.imap_grammar.specs.declared.answer.Err.{Err as Fault}
use Rattle.imap_grammar.specs.declared.answer.Err.TheVariants.{Failure}
use Rattle.imap_grammar.specs.Text.{decoded, IsOwned}
use Rattle.imap_grammar.specs.Step.{Step, step}
use Rattle.imap_grammar.specs.Rule.{Rule}
use Rattle.imap_grammar.proofs.Agreement.{agrees}
use Rattle.imap_bytes.specs.Texts.{utf8, FailsForOwned}

-- a part that takes no memory failed
pub not_memory : {W : Type 0} (part : Rule W) (m : List ℕ) (e : Fault) → step part m ≡ Err e → e ≡ Failure → ⊥
not_memory {W} part m e failed q = (agrees part m).never (failed ∙ ap bad q)
  where
    bad : Fault → Step W
    bad d = Err d

pub exact_memory : {A V W : Type 0} (owned : V → Type 0) (part : Rule W) (r : Rule V) (m : List ℕ) (e : Fault) (result : Result A Fault) → result ≡ Err e → step part m ≡ Err e → FailsForOwned owned r m result
exact_memory owned part r m e result is failed = subst (FailsForOwned owned r m) (sym is) (λ q. absurd (not_memory part m e failed q))

-- the decoding of bytes that are not UTF-8
pub decoding_memory : {A : Type 0} (a : Rule (List ℕ)) (m rest bytes : List ℕ) (result : Result A Fault) → step a m ≡ Ok (rest, bytes) → (IsUtf8 bytes → false ≡ true) → FailsForOwned IsOwned (utf8 a) m result
decoding_memory a m rest bytes (Ok x) read n = tt
decoding_memory a m rest bytes (Err e) read n = λ q. (decoded bytes, rest, rw read refl, not_utf8 (is_utf8 bytes) refl)
  where
    not_utf8 : (b : Bool) → is_utf8 bytes ≡ b → is_utf8 bytes ≡ false
    not_utf8 true q = absurd (false≢true (n (IsUtf8-from_is_utf8 bytes q)))
    not_utf8 false q = q
