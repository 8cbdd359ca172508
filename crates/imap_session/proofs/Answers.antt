-- What `next` answers, by what the feed gives.
use Rattle.std.proofs.Common.{◌≡◌, false, Option, None, Some, Result, Ok, Err, refl, ap, ◌∙◌, inr}
use Rattle.std.specs.Prelude.{IfOk, IfErr, OnErr}
use Rattle.imap_grammar.specs.Text.{Bytes}
use Rattle.imap_proto.specs.declared.response.Response.{Response as Given}
use Rattle.imap_proto.specs.declared.stream.FeedError.{FeedError}
use Rattle.imap_proto.specs.declared.stream.FeedError.TheVariants as fault
use Rattle.imap_proto.specs.Feeds.{Gave, RefusesAs}
use Rattle.imap_proto.specs.Owned.{owned_response}
use Rattle.imap_proto.specs.Responses.{ResponseValue, Done}
use Rattle.imap_session.specs.declared.event.Event.{Event}
use Rattle.imap_session.specs.declared.errors.SessionError.{SessionError}
use Rattle.imap_session.specs.declared.errors.SessionError.TheVariants as error
use Rattle.imap_session.specs.Machine.{Machine, took, stopped_for}
use Rattle.imap_session.specs.States.{Denied}
use Rattle.imap_session.specs.Answers.{AnswersNext, NextMayWant, JudgesFront, Settles, event_of}

-- owned texts move nothing else
took_owned : (v : ResponseValue) (left : Bytes) (a : Machine) → took (owned_response v) left a ≡ took v left a
took_owned (Done t s o) left a = refl
took_owned other left a = refl

abbrev with_held : Bytes → Machine → Machine
with_held h a = record a { held = h }

-- of a machine that has not stopped, and in front of which no strange line stands: the feed holds this behind its answer
pub answered : (a : Machine) (h : Bytes) (given : Result (Option Given) FeedError) (answer : Result (Option Event) SessionError) (b : Machine) → a.stopped ≡ None → JudgesFront a.pending a.held false → IfOk given (λ r. Gave a.held r h) → IfErr given (RefusesAs a.held) → OnErr given (h ≡ a.held) → Settles (with_held h a) given answer b → AnswersNext a answer b
answered a h (Ok (Some r)) answer b s j g d k t =
    let same = t.3 ∙ ap (λ v. took v h (with_held h a)) g.2 ∙ took_owned g.0 h (with_held h a) in
    rw t.1 (g.0, (h, s, g.1, j g.0 h g.1, same), t.2 ∙ ap event_of g.2)
answered a h (Ok None) answer b s j g d k t = rw t.0 (s, g.0, t.1 ∙ ap (λ (x : Bytes). with_held x a) g.1)
answered a h (Err fault.Denied) answer b s j g d k t =
    rw t.0 (inr (s, d, t.1 ∙ ap (λ (x : Bytes). stopped_for Denied (with_held x a)) k))
answered a h (Err fault.OutOfMemory) answer b s j g d k t = rw t.0 tt

-- it answers want of memory only where the feed does
pub settled_wants : (a m : Machine) (given : Result (Option Given) FeedError) (answer : Result (Option Event) SessionError) (b : Machine) → a.stopped ≡ None → IfErr given (RefusesAs a.held) → Settles m given answer b → IfErr answer (λ e. e ≡ error.OutOfMemory → NextMayWant a)
settled_wants a m (Ok (Some r)) answer b s d t = rw t.1 tt
settled_wants a m (Ok None) answer b s d t = rw t.0 tt
settled_wants a m (Err fault.Denied) answer b s d t = rw t.0 (λ e. absurd cc)
settled_wants a m (Err fault.OutOfMemory) answer b s d t = rw t.0 (λ e. (s, d))
