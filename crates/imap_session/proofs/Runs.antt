-- Runs of the machine.
use Rattle.std.proofs.Common.{◌≡◌, Bool, not, List, [], ◌∷◌, ◌++◌, reverse, Option, None, Some, refl, sym, ap, subst, ◌∙◌, append_assoc, inl, inr}
use Rattle.std.proofs.lemmas.List.{append-nil, reverse-append}
use Rattle.imap_grammar.specs.Meaning.{Cuts}
use Rattle.imap_grammar.specs.Rule.{meaning}
use Rattle.imap_grammar.specs.Stable.{Stable}
use Rattle.imap_grammar.specs.Text.{Bytes}
use Rattle.imap_grammar.proofs.Stability.{is_stable}
use Rattle.imap_command.specs.declared.command.State.{State}
use Rattle.imap_proto.specs.Lines.{response}
use Rattle.imap_proto.specs.LogicalLines.{logical_line}
use Rattle.imap_proto.specs.Responses.{ResponseValue, Done}
use Rattle.imap_proto.specs.Skipping as item
use Rattle.imap_proto.proofs.Cuts.{both}
use Rattle.imap_proto.proofs.Streams.{stable}
use Rattle.imap_session.specs.Machine.{Pending, Machine, new, Sent, Busy, Exhausted, after_sending, Takes, Waits, Stops, StopsFor, IsExpected, left_pending, leads_to, took, Skips, Keeps, went_on}
use Rattle.imap_session.specs.Runs.{Step, Send, Feed, Next, Skip, Goes, Runs, all_fed, happened, IsTagged, IsStopping, Passes, SkipsNone, SkipsDenied, passed, AllIsPassed, NoneIsLost, OutcomeFollows, StateFollows, CuttingsAlike}
use Rattle.imap_session.specs.States.{Stop, Denied, StrangeTag, Happening, Accepted, Took, Skipped, is_first, led_to, moved, state_behind, after, taken, Mark, Command, Response, Line, outline}

-- ---- the steps

-- what a step makes happen, and which bytes it feeds
abbrev happens : Step → List Happening
happens s = happened (s ∷ [])

abbrev feeds : Step → Bytes
feeds s = all_fed (s ∷ [])

happened_first : (s : Step) (steps : List Step) → happened (s ∷ steps) ≡ happens s ++ happened steps
happened_first (Send args next (Sent line)) steps = refl
happened_first (Send args next Busy) steps = refl
happened_first (Send args next Exhausted) steps = refl
happened_first (Feed piece) steps = refl
happened_first (Next (Takes v)) steps = refl
happened_first (Next Waits) steps = refl
happened_first (Next (Stops why)) steps = refl
happened_first (Skip (Skips why line)) steps = refl
happened_first (Skip Keeps) steps = refl

fed_first : (s : Step) (steps : List Step) → all_fed (s ∷ steps) ≡ feeds s ++ all_fed steps
fed_first (Send args next answer) steps = refl
fed_first (Feed piece) steps = ap (λ (k : Bytes). k ++ all_fed steps) (sym (append-nil piece))
fed_first (Next answer) steps = refl
fed_first (Skip answer) steps = refl

-- ---- all is passed

stable_lines : Stable logical_line
stable_lines = is_stable logical_line

-- why it stopped stands in front
abbrev Stuck : Machine → Type 0
Stuck a = (why : Stop) → a.stopped ≡ Some why → IsStopping a.held why

stopping_more : (why : Stop) (m t : Bytes) → IsStopping m why → IsStopping (m ++ t) why
stopping_more Denied m t d = stable.denies_more m t d
stopping_more StrangeTag m t d = (d.0, d.1 ++ t, stable.yields_more m d.0 d.1 t d.2, d.3)

-- only a tagged line is not expected
unexpected_tagged : (v : ResponseValue) (pending : Option Pending) → ¬ (IsExpected pending v) → IsTagged v
unexpected_tagged (Done t s o) pending n = tt
unexpected_tagged other pending n = absurd (n tt)

stops_stuck : (why : Stop) (a : Machine) → StopsFor a why → IsStopping a.held why
stops_stuck Denied a d = d
stops_stuck StrangeTag a d = (d.0, d.1, d.2, unexpected_tagged d.0 a.pending d.3)

running : (a : Machine) → a.stopped ≡ None → Stuck a
running a none why e = let q = sym none ∙ e in absurd cc

some_why : (why other : Stop) → Some why ≡ Some other → why ≡ other
some_why why other e = cc

step_stuck : (s : Step) (a b : Machine) → Goes a s b → Stuck a → Stuck b
step_stuck (Send args next (Sent line)) a b g k = subst Stuck (sym g.1) k
step_stuck (Send args next Busy) a b g k = subst Stuck (sym g.1) k
step_stuck (Send args next Exhausted) a b g k = subst Stuck (sym g.1) k
step_stuck (Feed piece) a b g k = subst Stuck (sym g) (λ why e. stopping_more why a.held piece (k why e))
step_stuck (Next (Takes v)) a b g k = subst Stuck (sym g.4) (running (took v g.0 a) g.1)
step_stuck (Next Waits) a b g k = subst Stuck (sym g.2) k
step_stuck (Next (Stops why)) a b g k =
    elim g [
      | inl h ↦ subst Stuck (sym h.1) k
      | inr h ↦ subst Stuck (sym h.2) (λ other e. subst (IsStopping a.held) (some_why why other e) (stops_stuck why a h.1))
    ]
step_stuck (Skip (Skips why line)) a b g k = subst Stuck (sym g.3) (running (went_on g.0 a) refl)
step_stuck (Skip Keeps) a b g k = subst Stuck (sym g.1) k

passes_more : (hs : List Happening) (m t left : Bytes) → Passes m hs left → Passes (m ++ t) hs (left ++ t)
passes_more [] m t left c = ap (λ (k : Bytes). k ++ t) c
passes_more (Accepted next ∷ hs) m t left c = passes_more hs m t left c
passes_more (Took v ∷ hs) m t left c = (c.0 ++ t, stable.yields_more m v c.0 t c.1, passes_more hs c.0 t left c.2)
passes_more (Skipped why line ∷ hs) m t left c =
    (c.0 ++ t, stopping_more why m t c.1, stable_lines.yields_more m line c.0 t c.2, passes_more hs c.0 t left c.3)

passes_join : (hs is : List Happening) (m mid left : Bytes) → Passes m hs mid → Passes mid is left → Passes m (hs ++ is) left
passes_join [] is m mid left c d = subst (λ k. Passes k is left) (sym c) d
passes_join (Accepted next ∷ hs) is m mid left c d = passes_join hs is m mid left c d
passes_join (Took v ∷ hs) is m mid left c d = (c.0, c.1, passes_join hs is c.0 mid left c.2 d)
passes_join (Skipped why line ∷ hs) is m mid left c d = (c.0, c.1, c.2, passes_join hs is c.0 mid left c.3 d)

-- what a step passes stands at the front of what was held and of what it feeds
step_passes : (s : Step) (a b : Machine) → Goes a s b → Stuck a → Passes (a.held ++ feeds s) (happens s) b.held
step_passes (Send args next (Sent line)) a b g k = append-nil a.held ∙ sym (ap (λ (m : Machine). m.held) g.1)
step_passes (Send args next Busy) a b g k = append-nil a.held ∙ sym (ap (λ (m : Machine). m.held) g.1)
step_passes (Send args next Exhausted) a b g k = append-nil a.held ∙ sym (ap (λ (m : Machine). m.held) g.1)
step_passes (Feed piece) a b g k = ap (λ (k : Bytes). a.held ++ k) (append-nil piece) ∙ sym (ap (λ (m : Machine). m.held) g)
step_passes (Next (Takes v)) a b g k =
    subst (λ m. Passes m (Took v ∷ []) b.held) (sym (append-nil a.held)) (g.0, g.2, sym (ap (λ (m : Machine). m.held) g.4))
step_passes (Next Waits) a b g k = append-nil a.held ∙ sym (ap (λ (m : Machine). m.held) g.2)
step_passes (Next (Stops why)) a b g k =
    append-nil a.held ∙ sym (elim g [ inl h ↦ ap (λ (m : Machine). m.held) h.1 | inr h ↦ ap (λ (m : Machine). m.held) h.2 ])
step_passes (Skip (Skips why line)) a b g k =
    subst (λ m. Passes m (Skipped why line ∷ []) b.held) (sym (append-nil a.held)) (g.0, k why g.1, g.2, sym (ap (λ (m : Machine). m.held) g.3))
step_passes (Skip Keeps) a b g k = append-nil a.held ∙ sym (ap (λ (m : Machine). m.held) g.1)

run_passes : (steps : List Step) (a b : Machine) → Runs a steps b → Stuck a → Passes (a.held ++ all_fed steps) (happened steps) b.held
run_passes [] a b r k = append-nil a.held ∙ ap (λ (m : Machine). m.held) r
run_passes (s ∷ steps) a b r k =
    let first = passes_more (happens s) (a.held ++ feeds s) (all_fed steps) r.0.held (step_passes s a r.0 r.1 k) in
    let all = passes_join (happens s) (happened steps) ((a.held ++ feeds s) ++ all_fed steps) (r.0.held ++ all_fed steps) b.held first (run_passes steps r.0 b r.2 (step_stuck s a r.0 r.1 k)) in
    rw (fed_first s steps, happened_first s steps, sym (append_assoc a.held (feeds s) (all_fed steps))) all

pub all_is_passed : AllIsPassed
all_is_passed steps b r = run_passes steps new b r (running new refl)

-- ---- no response is lost

taken_cuts : (hs : List Happening) (m left : Bytes) → SkipsNone hs → Passes m hs left → Cuts (meaning response) m (taken hs) left
taken_cuts [] m left n c = c
taken_cuts (Accepted next ∷ hs) m left n c = taken_cuts hs m left n c
taken_cuts (Took v ∷ hs) m left n c = (c.0, c.1, taken_cuts hs c.0 left n c.2)
taken_cuts (Skipped why line ∷ hs) m left n c = absurd n

pub none_is_lost : NoneIsLost
none_is_lost steps b vs left end r n s =
    record { responses = both response (all_fed steps) b.held left (taken (happened steps)) vs (taken_cuts (happened steps) (all_fed steps) b.held n (all_is_passed steps b r)) s.responses; ends = s.ends }

passed_cuts : (hs : List Happening) (m left : Bytes) → SkipsDenied hs → Passes m hs left → Cuts (meaning item.item) m (passed hs) left
unfolding meaning item.item
passed_cuts [] m left n c = c
passed_cuts (Accepted next ∷ hs) m left n c = passed_cuts hs m left n c
passed_cuts (Took v ∷ hs) m left n c = (c.0, inl (v, c.1, refl), passed_cuts hs c.0 left n c.2)
passed_cuts (Skipped Denied line ∷ hs) m left n c = (c.0, inr (c.1, (line, c.2, refl)), passed_cuts hs c.0 left n c.3)
passed_cuts (Skipped StrangeTag line ∷ hs) m left n c = absurd n

pub outcome_follows : OutcomeFollows
outcome_follows steps b items left end r n s =
    record {
      passes = both item.item (all_fed steps) b.held left (passed (happened steps)) items (passed_cuts (happened steps) (all_fed steps) b.held n (all_is_passed steps b r)) s.passes;
      stops = s.stops;
      ends = s.ends;
    }

-- ---- the state

-- what a machine knows of all that happened, the newest in front
record Knows (hs : List Happening) (a : Machine) : Type 0 where
  state : a.state ≡ state_behind hs
  first : not a.begun ≡ is_first hs
  next : (p : Pending) → a.pending ≡ Some p → p.next_state ≡ led_to hs

-- of a response that is expected, the pending command is the newest one, if it matters at all
moved_alike : (v : ResponseValue) (first : Bool) (pending : Option Pending) (next : Option State) (state : State) → IsExpected pending v → ((p : Pending) → pending ≡ Some p → p.next_state ≡ next) → moved v first (leads_to pending) state ≡ moved v first next state
moved_alike (Done t s o) first None next state x h = absurd x
moved_alike (Done t s o) first (Some p) next state x h = ap (λ (n : Option State). moved (Done t s o) first n state) (h p refl)
moved_alike other first pending next state x h = refl

-- what is pending behind a response was pending before
still_pending : (v : ResponseValue) (pending : Option Pending) (p : Pending) → left_pending v pending ≡ Some p → pending ≡ Some p
still_pending (Done t s o) pending p e = cc
still_pending other pending p e = e

knows_sent : (args line : Bytes) (next : Option State) (hs : List Happening) (a : Machine) → Knows hs a → Knows (Accepted next ∷ hs) (after_sending (Sent line) next a)
knows_sent args line next hs a k = record { state = k.state; first = k.first; next = λ p e. cc }

knows_took : (v : ResponseValue) (left : Bytes) (hs : List Happening) (a : Machine) → IsExpected a.pending v → Knows hs a → Knows (Took v ∷ hs) (took v left a)
knows_took v left hs a x k =
    record {
      state = moved_alike v (not a.begun) a.pending (led_to hs) a.state x k.next ∙ rw (k.first, k.state) refl;
      first = refl;
      next = λ p e. k.next p (still_pending v a.pending p e);
    }

step_knows : (s : Step) (hs : List Happening) (a b : Machine) → Goes a s b → Knows hs a → Knows (reverse (happens s) ++ hs) b
step_knows (Send args next (Sent line)) hs a b g k = subst (Knows (Accepted next ∷ hs)) (sym g.1) (knows_sent args line next hs a k)
step_knows (Send args next Busy) hs a b g k = subst (Knows hs) (sym g.1) k
step_knows (Send args next Exhausted) hs a b g k = subst (Knows hs) (sym g.1) k
step_knows (Feed piece) hs a b g k = subst (Knows hs) (sym g) (record { state = k.state; first = k.first; next = k.next })
step_knows (Next (Takes v)) hs a b g k = subst (Knows (Took v ∷ hs)) (sym g.4) (knows_took v g.0 hs a g.3 k)
step_knows (Next Waits) hs a b g k = subst (Knows hs) (sym g.2) k
step_knows (Skip (Skips why line)) hs a b g k = subst (Knows (Skipped why line ∷ hs)) (sym g.3) (record { state = k.state; first = k.first; next = k.next })
step_knows (Skip Keeps) hs a b g k = subst (Knows hs) (sym g.1) k
step_knows (Next (Stops why)) hs a b g k =
    elim g [
      | inl h ↦ (subst (Knows hs) (sym h.1) k)
      | inr h ↦ (subst (Knows hs) (sym h.2) (record { state = k.state; first = k.first; next = k.next }))
    ]

run_knows : (steps : List Step) (hs : List Happening) (a b : Machine) → Runs a steps b → Knows hs a → Knows (reverse (happened steps) ++ hs) b
run_knows [] hs a b r k = subst (Knows hs) r k
run_knows (s ∷ steps) hs a b r k =
    let e = ap reverse (happened_first s steps) ∙ reverse-append (happens s) (happened steps) in
    let same = ap (λ (l : List Happening). l ++ hs) e ∙ append_assoc (reverse (happened steps)) (reverse (happens s)) hs in
    subst (λ l. Knows l b) (sym same) (run_knows steps (reverse (happens s) ++ hs) r.0 b r.2 (step_knows s hs a r.0 r.1 k))

knows_nothing : Knows [] new
knows_nothing = record { state = refl; first = refl; next = λ p e. cc }

pub state_follows : StateFollows
state_follows steps b r = (run_knows steps [] new b r knows_nothing).state ∙ ap state_behind (append-nil (reverse (happened steps)))

-- ---- two runs

one_why : (m : Bytes) (why other : Stop) → IsStopping m why → IsStopping m other → why ≡ other
one_why m Denied Denied d e = refl
one_why m Denied StrangeTag d e = absurd (stable.yields_not_denies m e.0 e.1 e.2 d)
one_why m StrangeTag Denied d e = absurd (stable.yields_not_denies m d.0 d.1 d.2 e)
one_why m StrangeTag StrangeTag d e = refl

first_marks : (x y : Mark) (xs ys : List Mark) → x ∷ xs ≡ y ∷ ys → (x ≡ y) × (xs ≡ ys)
first_marks x y xs ys e = (cc, cc)

next_is : (next other : Option State) → Command next ≡ Command other → next ≡ other
next_is next other e = cc

-- of the same bytes, with the same outline, it is the same that happened
same_passed : (hs is : List Happening) (m left other : Bytes) → outline hs ≡ outline is → Passes m hs left → Passes m is other → (hs ≡ is) × (left ≡ other)
same_passed [] [] m left other o c d = (refl, sym c ∙ d)
same_passed [] (i ∷ is) m left other o c d = absurd (no_mark i is o)
  where
    no_mark : (i : Happening) (is : List Happening) → ¬ ([] ≡ outline (i ∷ is))
    no_mark (Accepted next) is e = cc
    no_mark (Took v) is e = cc
    no_mark (Skipped why line) is e = cc
same_passed (Accepted next ∷ hs) (Accepted then ∷ is) m left other o c d =
    let mark = first_marks (Command next) (Command then) (outline hs) (outline is) o in
    let rest = same_passed hs is m left other mark.1 c d in
    (rw (next_is next then mark.0, rest.0) refl, rest.1)
same_passed (Took v ∷ hs) (Took w ∷ is) m left other o c d =
    let first = stable.one_yield m v w c.0 d.0 c.1 d.1 in
    let rest = same_passed hs is c.0 left other (first_marks Response Response (outline hs) (outline is) o).1 c.2 (subst (λ k. Passes k is other) (sym first.1) d.2) in
    (rw (first.0, rest.0) refl, rest.1)
same_passed (Skipped why line ∷ hs) (Skipped for more ∷ is) m left other o c d =
    let first = stable_lines.one_yield m line more c.0 d.0 c.2 d.2 in
    let rest = same_passed hs is c.0 left other (first_marks Line Line (outline hs) (outline is) o).1 c.3 (subst (λ k. Passes k is other) (sym first.1) d.3) in
    (rw (one_why m why for c.1 d.1, first.0, rest.0) refl, rest.1)
same_passed (h ∷ hs) is m left other o c d = absurd cc

pub cuttings_alike : CuttingsAlike
cuttings_alike steps others b c r q bytes alike =
    let same = same_passed (happened steps) (happened others) (all_fed others) b.held c.held alike (subst (λ m. Passes m (happened steps) b.held) bytes (all_is_passed steps b r)) (all_is_passed others c q) in
    (same.0, same.1, state_follows steps b r ∙ ap after same.0 ∙ sym (state_follows others c q))

pub ruleset laws = (all_is_passed, none_is_lost, outcome_follows, state_follows, cuttings_alike)
