-- What a feed answers behind a piece.
use Rattle.std.proofs.Common.{◌≡◌, Option, Result, Ok, Err, subst, ◌∙◌}
use Rattle.std.specs.Prelude.{IfErr, OnErr}
use Rattle.imap_grammar.specs.Meaning.{Denies}
use Rattle.imap_grammar.specs.Rule.{meaning}
use Rattle.imap_grammar.specs.Text.{Bytes}
use Rattle.imap_proto.specs.declared.response.Response.{Response}
use Rattle.imap_proto.specs.declared.stream.FeedError.{FeedError}
use Rattle.imap_proto.specs.declared.stream.FeedError.TheVariants.{Denied, OutOfMemory}
use Rattle.imap_proto.specs.Feeds.{RefusesAs}
use Rattle.imap_proto.specs.Lines.{response}

module _ (held m left : Bytes) (is : held ≡ m) where
  pub denied : (r : Result (Option Response) FeedError) → IfErr r (RefusesAs held) → IfErr r (λ e. e ≡ Denied → Denies (meaning response) m)
  denied (Ok x) d = tt
  denied (Err Denied) d = λ q. subst (Denies (meaning response)) is d
  denied (Err OutOfMemory) d = λ q. absurd cc

  pub kept : (r : Result (Option Response) FeedError) → OnErr r (left ≡ held) → IfErr r (λ e. e ≡ Denied → left ≡ m)
  kept (Ok x) k = tt
  kept (Err e) k = λ q. k ∙ is
