-- Lists and bodies above level 0.
use Rattle.std.proofs.Common.{◌≡◌, ◌≢◌, ℕ, zero, suc, ◌-◌, ◌<◌, true, List, refl, ap, arith}
use Rattle.imap_grammar.specs.Step.{step}
use Rattle.imap_grammar.proofs.Consumption.{consumes}
use Rattle.imap_bodystructure.specs.Extensions.{bracketed_extensions, extension_list}
use Rattle.imap_bodystructure.specs.Bodies.{bracketed_body, body}

pub above_none : (level : ℕ) → level ≢ 0 → 0 < level
above_none zero h = absurd (h refl)
above_none (suc n) h = omega arith

pub list_below : (level : ℕ) (m : List ℕ) → level ≢ 0 → step (extension_list level) m ≡ step (bracketed_extensions (extension_list (level - 1))) m
unfolding extension_list
list_below zero m h = absurd (h refl)
list_below (suc n) m h = let e : n ≡ suc n - 1 = omega arith in ap (λ k. step (bracketed_extensions (extension_list k)) m) e

pub body_below : (level : ℕ) (m : List ℕ) → level ≢ 0 → step (body level) m ≡ step (bracketed_body (body (level - 1))) m
unfolding body
body_below zero m h = absurd (h refl)
body_below (suc n) m h = let e : n ≡ suc n - 1 = omega arith in ap (λ k. step (bracketed_body (body k)) m) e

-- a body takes a byte
pub body_takes : (level : ℕ) → consumes (body level) ≡ true
unfolding body bracketed_body
body_takes zero = refl
body_takes (suc n) = refl
