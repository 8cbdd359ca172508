-- What `==` tells of events.
use Rattle.std.proofs.Common.{◌≡◌, true, ap, rules}
use Rattle.std.proofs.lemmas.Bool.{and_parts, and_from}
use Rattle.imap_grammar.specs.Equality.{Tells}
use Rattle.imap_grammar.proofs.Seen.{unequal}
use Rattle.imap_shared.specs.contracts.types.statuses.StatusPartialEq.TheImpl as status_eq
use Rattle.imap_proto.specs.Responses.{outcome_value, response_value, lent_outcome, lent_response}
use Rattle.imap_proto.specs.contracts.outcome.OutcomePartialEq.TheImpl as outcome_eq
use Rattle.imap_proto.specs.contracts.response.ResponsePartialEq.TheImpl as response_eq
use Rattle.imap_session.specs.declared.event.Event.{Event}
use Rattle.imap_session.specs.declared.event.Event.TheVariants as variant
use Rattle.imap_session.specs.contracts.event.EventPartialEq.TheImpl as event_eq
use Rattle.imap_session.specs.Answers.{EventValue, Response, Finished, event_value, lent_event}

statuses_tell : Tells (status_eq.eq-value).it (λ s. s)
statuses_tell = search rules

abbrev ResponsesTold : Type 0
ResponsesTold = Tells (response_eq.eq-value).it (λ r. lent_response (response_value r))

abbrev OutcomesTold : Type 0
OutcomesTold = Tells (outcome_eq.eq-value).it (λ o. lent_outcome (outcome_value o))

module _ (responses : ResponsesTold) (outcomes : OutcomesTold) where
  event_same : (x y : Event) → (event_eq.eq-value).it x y ≡ true → lent_event (event_value x) ≡ lent_event (event_value y)
  event_same (variant.Response x) (variant.Response y) h = ap Response (responses.same x y h)
  event_same (variant.Finished status x) (variant.Finished other y) h =
      let parts = and_parts _ _ h in (λ i. Finished (statuses_tell.same status other parts.0 i) (outcomes.same x y parts.1 i))
  event_same x y h = absurd (unequal h)

  event_equal : (x y : Event) → lent_event (event_value x) ≡ lent_event (event_value y) → (event_eq.eq-value).it x y ≡ true
  event_equal (variant.Response x) (variant.Response y) h = responses.equal x y cc
  event_equal (variant.Finished status x) (variant.Finished other y) h = and_from _ _ (statuses_tell.equal status other cc) (outcomes.equal x y cc)
  event_equal x y h = absurd cc

  pub event_tells : Tells (event_eq.eq-value).it (λ e. lent_event (event_value e))
  event_tells = record { same = event_same; equal = event_equal }
