use Rattle.std.proofs.Common.{◌≡◌, ◌-◌, ◌≤◌, length, arith, refl, sym, ap, subst, ◌∙◌, drop}
use Rattle.std.proofs.Common.{Err, rules}
use Rattle.imap_grammar.specs.declared.answer.Err.TheVariants.{Incomplete}
use Rattle.imap_grammar.specs.declared.answer.Needed.TheVariants.{Size, Unknown}
use Rattle.imap_grammar.specs.Step.{step}
use Rattle.imap_proto.specs.Lines.{response}
use Rattle.imap_proto.specs.Feeds.{WaitsFor}
use Rattle.imap_proto.proofs.Feeds.{waits_for_size, waits_for_some, last_within}
use Rattle.imap_proto.proofs.stream.Feed.settle.Goals as goal

pub invariant_of-self : goal.invariant_of-self
invariant_of-self g c = (c.compacted-self-inside.ensures.half, λ more lt. absurd (omega (arith, lt)))

pub invariant_of-self-in-Err-Incomplete-Size : goal.invariant_of-self-in-Err-Incomplete-Size
invariant_of-self-in-Err-Incomplete-Size g c =
    let e : step response c.args.self.now ≡ Err (Incomplete (Size c.in-Err-Incomplete-Size.n)) = search rules in
    (c.self.invariant.0, subst (λ k. WaitsFor k c.in-Err-Incomplete-Size.n) (sym c.self.view_is) (waits_for_size _ c.in-Err-Incomplete-Size.n e))

pub invariant_of-self-in-Err-Incomplete-Unknown : goal.invariant_of-self-in-Err-Incomplete-Unknown
invariant_of-self-in-Err-Incomplete-Unknown g c =
    let e : step response c.args.self.now ≡ Err (Incomplete Unknown) = search rules in
    (c.self.invariant.0, subst (λ k. WaitsFor k 1) (sym c.self.view_is) (waits_for_some _ e))

pub returns-in-Ok : goal.returns-in-Ok
returns-in-Ok g c =
    let bytes = c.self.inside.bytes.items in
    let within = rw c.in-Ok.is at c.requires in
    let all : c.len.result ≡ length bytes = omega (arith, c.len.ensures, c.self.inside.bytes.ok.0) in
    let left = c.compacted-self-inside.ensures.same ∙ ap (λ k. drop (k - c.in-Ok.left) bytes) all
    ∙ last_within bytes c.self.inside.start c.in-Ok.left (omega (arith, c.self.invariant.0)) (subst (λ k. c.in-Ok.left ≤ length k) (sym c.self.view_is) within) ∙ ap (λ k. drop (length k - c.in-Ok.left) k) c.self.view_is in
    rw c.in-Ok.is (refl, left)
