-- What `==` tells of a right; where the reader of rights fails for want of memory.
use Rattle.std.proofs.Common.{◌≡◌, List, ℕ, Ok, Err, refl, sym, subst, rules}
use Rattle.imap_grammar.specs.declared.answer.Err.{Err as Fault}
use Rattle.imap_grammar.specs.Equality.{Tells}
use Rattle.imap_grammar.specs.Text.{Text, IsOwned}
use Rattle.imap_grammar.specs.Step.{step}
use Rattle.imap_grammar.specs.Answer.{Returned}
use Rattle.imap_grammar.specs.Memory.{StartsWith, FailsOnlyIf}
use Rattle.imap_grammar.proofs.Memory.{starts_with}
use Rattle.imap_bytes.specs.Texts.{astring_utf8, FailsForOwned}
use Rattle.imap_shared.specs.Rights.{rights, rights_in}
use Rattle.imap_shared.specs.contracts.types.rights.AclRightPartialEq.TheImpl as right_eq

pub right_tells : Tells (right_eq.eq-value).it (λ x. x)
right_tells = search rules

-- each astring gives rights
pub rights_start : (m rest : List ℕ) (text : Text) → step astring_utf8 m ≡ Ok (rest, text) → StartsWith rights m
unfolding rights
rights_start m rest text h = starts_with rights m rest (rights_in text) (rw h refl)

-- the text failed
pub text_failed : {A B : Type 0} (m : List ℕ) (e : Fault) (part : Returned A) (result : Returned B) → part ≡ Err e → result ≡ Err e → FailsForOwned IsOwned astring_utf8 m part → FailsOnlyIf (StartsWith rights m) result
text_failed m e part result was is h = subst (FailsOnlyIf (StartsWith rights m)) (sym is) (λ q. let y = (subst (FailsForOwned IsOwned astring_utf8 m) was h) q in rights_start m y.1 y.0 y.2)
