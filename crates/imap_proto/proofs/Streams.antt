-- Splits of streams.
use Rattle.std.proofs.Common.{◌≡◌, ◌<◌, true, List, [], ◌∷◌, ◌++◌, length, Ok, Err, refl, sym, ap, subst, ◌∙◌, append_assoc, arith}
use Rattle.std.proofs.lemmas.List.{length-append, append-nil}
use Rattle.imap_grammar.specs.declared.answer.Err.TheVariants.{Incomplete, Error, Failure}
use Rattle.imap_grammar.specs.declared.answer.Needed.TheVariants.{Unknown}
use Rattle.imap_grammar.specs.Meaning.{Cuts}
use Rattle.imap_grammar.specs.Rule.{meaning}
use Rattle.imap_grammar.specs.Stable.{Stable}
use Rattle.imap_grammar.specs.Step.{Step, step}
use Rattle.imap_grammar.specs.Text.{Bytes}
use Rattle.imap_grammar.proofs.Agreement.{agrees}
use Rattle.imap_grammar.proofs.Consumption.{consumes, takes}
use Rattle.imap_grammar.proofs.Stability.{is_stable}
use Rattle.imap_grammar.proofs.Starts.{waits_without}
use Rattle.imap_proto.specs.declared.stream.End.{End}
use Rattle.imap_proto.specs.declared.stream.End.TheVariants.{Waits, Denied}
use Rattle.imap_proto.specs.Responses.{ResponseValue}
use Rattle.imap_proto.specs.Lines.{continuation, data_line, request_tag, tagged, response}
use Rattle.imap_proto.specs.Streams.{Waiting, EndsAs, Splits, joined, Fed, empty, fed, gave, SomeSplit, OneSplit, BeginningsWait, SplitsGoOn, FeedsSplit, CuttingsAlike}
use Rattle.imap_proto.proofs.Cuts.{NoneAt, more_behind, both, one, same, all}

pub stable : Stable response
stable = is_stable response

pub response_takes : consumes response ≡ true
unfolding response continuation data_line tagged request_tag
response_takes = refl

pub shorter : (m rest : Bytes) (v : ResponseValue) → (meaning response).yields m v rest → length rest < length m
shorter m rest v y = takes response m v rest response_takes y

-- ---- where none stands

-- what gives none does not yield
none_yields : (m : Bytes) (end : End) → EndsAs m end → NoneAt response m
none_yields m Waits e v rest y = e.0 v rest y
none_yields m Denied e v rest y = stable.yields_not_denies m v rest y e

-- and where none stands, it is told why
pub some_end : (m : Bytes) → NoneAt response m → (end : End) × EndsAs m end
some_end m none = go (step response m) refl
  where
    go : (s : Step ResponseValue) → step response m ≡ s → (end : End) × EndsAs m end
    go (Ok x) e = absurd (none x.1 x.0 ((agrees response m).yielded x.1 x.0 e))
    go (Err Error) e = (Denied, (agrees response m).failed Error e)
    go (Err (Incomplete n)) e = (Waits, (none, λ d. let f = sym e ∙ (agrees response m).fails Error d in cc))
    go (Err Failure) e = absurd ((agrees response m).never e)

pub one_end : (m : Bytes) (end stop : End) → EndsAs m end → EndsAs m stop → end ≡ stop
one_end m Waits Waits e f = refl
one_end m Waits Denied e f = absurd (e.1 f)
one_end m Denied Waits e f = absurd (f.1 e)
one_end m Denied Denied e f = refl

-- where there are no bytes it waits
nothing_stops : step response [] ≡ Err (Incomplete Unknown)
unfolding response continuation
nothing_stops = waits_without response [] refl refl

pub nothing_waits : Waiting []
nothing_waits = (λ v rest y. let f = sym nothing_stops ∙ (agrees response []).yields v rest y in cc, λ d. let f = sym nothing_stops ∙ (agrees response []).fails Error d in cc)

-- ---- one split

pub one_split : OneSplit
one_split m vs ws left other end stop s t =
    let is = same response vs ws m left other s.responses (none_yields left end s.ends) t.responses (none_yields other stop t.ends) in
    (is.0, is.1, one_end left end stop s.ends (subst (λ k. EndsAs k stop) (sym is.1) t.ends))

pub some_split : SomeSplit
some_split m =
    let a = all response response_takes m in
    let end = some_end a.1 a.3 in
    (a.0, a.1, end.0, record { responses = a.2; ends = end.1 })

-- ---- more bytes

pub splits_go_on : SplitsGoOn
splits_go_on a b vs ws held left end stop s t = record { responses = both response (a ++ b) (held ++ b) left vs ws (more_behind response a b vs held s.responses) t.responses; ends = t.ends }

front_gone : (more rest t : Bytes) → rest ≡ t ++ (more ++ rest) → length more ≡ 0
front_gone more rest t e = omega (arith, ap length e, length-append t (more ++ rest), length-append more rest)

is_empty : (m : Bytes) → length m ≡ 0 → m ≡ []
is_empty [] e = refl
is_empty (b ∷ m) e = absurd (omega arith)

pub beginnings_wait : BeginningsWait
beginnings_wait front more rest v y some = (
  λ w k x. some (is_empty more (front_gone more rest k ((stable.one_yield (front ++ (more ++ rest)) v w rest (k ++ (more ++ rest)) y (stable.yields_more front w k (more ++ rest) x)).1))),
  λ d. stable.yields_not_denies (front ++ (more ++ rest)) v rest y (stable.denies_more front (more ++ rest) d),
)

-- ---- feeds

pub joined_last : (pieces : List Bytes) (piece : Bytes) → joined (pieces ++ piece ∷ []) ≡ joined pieces ++ piece
joined_last [] piece = append-nil piece
joined_last (p ∷ pieces) piece = ap (λ (k : Bytes). p ++ k) (joined_last pieces piece) ∙ sym (append_assoc p (joined pieces) piece)

fed_cuts : (pieces : List Bytes) (vs : List ResponseValue) (held : Bytes) → Fed pieces vs held → Cuts (meaning response) (joined pieces) vs held
fed_cuts pieces vs held empty = refl
fed_cuts pieces vs held (fed ps us h piece f) = subst (λ k. Cuts (meaning response) k us (h ++ piece)) (sym (joined_last ps piece)) (more_behind response (joined ps) piece us h (fed_cuts ps us h f))
fed_cuts pieces vs held (gave ps us h v rest f y) = both response (joined ps) h rest us (v ∷ []) (fed_cuts ps us h f) (one response h rest v y)

pub feeds_split : FeedsSplit
feeds_split pieces vs held end f e = record { responses = fed_cuts pieces vs held f; ends = e }

pub cuttings_alike : CuttingsAlike
cuttings_alike pieces others vs ws held kept end stop bytes f e g h =
    one_split (joined others) vs ws held kept end stop (subst (λ m. Splits m vs held end) bytes (feeds_split pieces vs held end f e)) (feeds_split others ws kept stop g h)
