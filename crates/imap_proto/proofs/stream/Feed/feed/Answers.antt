use Rattle.std.proofs.Common.{rules, arith, [], ◌∷◌, ◌++◌, drop, sym, ap, subst, ◌∙◌}
use Rattle.std.proofs.lemmas.List.{drop-append-le}
use Rattle.imap_grammar.specs.Text.{Bytes}
use Rattle.imap_proto.specs.Streams.{Fed, fed}
use Rattle.imap_proto.specs.Skipping.{Passed, fed_piece}
use Rattle.imap_proto.proofs.stream.Feed.feed.Goals as goal

pub invariant_of-self : goal.invariant_of-self
invariant_of-self c = search rules depth 2

pub returns-clause-fed : goal.returns-clause-fed
returns-clause-fed c =
    let start = c.self.inside.start in
    let bytes = c.self.inside.bytes.items in
    ap (λ k. drop start k) c.in_ok-extend_from_slice.ensures.items ∙ drop-append-le start bytes c.args.piece.now (omega (arith, c.self.invariant.0)) ∙ ap (λ (k : Bytes). k ++ c.args.piece.now) c.self.view_is

pub returns-clause-goes_on : goal.returns-clause-goes_on
returns-clause-goes_on c = λ pieces vs f. subst (Fed (pieces ++ c.args.piece.now ∷ []) vs) (sym (returns-clause-fed c)) (fed pieces vs _ _ f)

pub returns-clause-passes : goal.returns-clause-passes
returns-clause-passes c = λ pieces items p. subst (Passed (pieces ++ c.args.piece.now ∷ []) items) (sym (returns-clause-fed c)) (fed_piece pieces items _ _ p)
