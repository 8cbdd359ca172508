-- Streams in which denied lines are skipped.
use Rattle.std.proofs.Common.{◌≡◌, ℕ, ◌+◌, ◌-◌, ◌<◌, ◌≤◌, true, List, [], ◌∷◌, ◌++◌, length, drop, map, Option, None, Some, Result, Ok, Err, refl, sym, ap, subst, ◌∙◌, inl, inr, arith}
use Rattle.std.specs.Prelude.{IfOk, IfSome}
use Rattle.std.proofs.lemmas.List.{map-append, length-append}
use Rattle.std.proofs.lemmas.List.Prefix.{end_rest}
use Rattle.imap_grammar.specs.declared.answer.Err.{Err as Fault}
use Rattle.imap_grammar.specs.Ascii.{carriage_return, line_feed}
use Rattle.imap_grammar.specs.Meaning.{Denies, Cuts}
use Rattle.imap_grammar.specs.Rule.{meaning}
use Rattle.imap_grammar.specs.Step.{step}
use Rattle.imap_grammar.specs.Text.{Bytes}
use Rattle.imap_grammar.proofs.Agreement.{agrees}
use Rattle.imap_grammar.proofs.Consumption.{consumes, less}
use Rattle.imap_proto.specs.declared.response.Response.{Response}
use Rattle.imap_proto.specs.declared.stream.FeedError.{FeedError}
use Rattle.imap_proto.specs.Responses.{ResponseValue}
use Rattle.imap_proto.specs.Lines.{response}
use Rattle.imap_proto.specs.LogicalLines.{logical_line}
use Rattle.imap_proto.specs.Streams.{Waiting, EndsAs, empty, fed, gave, joined}
use Rattle.imap_proto.specs.Feeds.{Gave}
use Rattle.imap_proto.specs.Skipping.{Item, Taken, Skipped, item, SplitsPast, Passed, at_first, fed_piece, passed, PassesResponse, PassesLine, Dropped, SomePast, OnePast, PastGoesOn, PastBeginsSo, FedIsPassed, FeedsPast, PastCuttingsAlike}
use Rattle.imap_proto.proofs.Cuts.{NoneAt, more_behind, both, one, same, all}
use Rattle.imap_proto.proofs.LogicalLines.{line_takes, lines_end}
use Rattle.imap_proto.proofs.Streams.{response_takes, some_end, one_end, joined_last}

-- ---- items

pub item_takes : consumes item ≡ true
unfolding item
item_takes = rw (response_takes, line_takes) refl

pub taken : (m : Bytes) (v : ResponseValue) (rest : Bytes) → (meaning response).yields m v rest → (meaning item).yields m (Taken v) rest
unfolding meaning item
taken m v rest y = inl (v, y, refl)

no_response : (m : Bytes) → NoneAt item m → NoneAt response m
no_response m none v rest y = none (Taken v) rest (taken m v rest y)

-- what waits begins with none
pub waiting_stops : (m : Bytes) → Waiting m → NoneAt item m
unfolding meaning item
waiting_stops m w x rest y = elim y [ inl a ↦ w.0 a.0 rest a.1 | inr a ↦ w.1 a.0 ]

taken_cuts : (m : Bytes) (vs : List ResponseValue) (left : Bytes) → Cuts (meaning response) m vs left → Cuts (meaning item) m (map Taken vs) left
taken_cuts m [] left c = c
taken_cuts m (v ∷ vs) left c = (c.0, taken m v c.0 c.1, taken_cuts c.0 vs left c.2)

-- ---- one outcome

pub some_past : SomePast
some_past m =
    let a = all item item_takes m in
    let end = some_end a.1 (no_response a.1 a.3) in
    (a.0, a.1, end.0, record { passes = a.2; stops = a.3; ends = end.1 })

pub one_past : OnePast
one_past m items others left other end stop s t =
    let is = same item items others m left other s.passes s.stops t.passes t.stops in
    (is.0, is.1, one_end left end stop s.ends (subst (λ k. EndsAs k stop) (sym is.1) t.ends))

pub past_goes_on : PastGoesOn
past_goes_on a b items more held left end stop s t =
    record { passes = both item (a ++ b) (held ++ b) left items more (more_behind item a b items held s.passes) t.passes; stops = t.stops; ends = t.ends }

pub past_begins_so : PastBeginsSo
past_begins_so m vs items held left end stop s t = (
  record { passes = both item m held left (map Taken vs) items (taken_cuts m vs held s.responses) t.passes; stops = t.stops; ends = t.ends },
  λ is. same item items [] held left held t.passes t.stops refl (waiting_stops held (subst (EndsAs held) is s.ends)),
)

-- ---- feeds

pub fed_is_passed : FedIsPassed
fed_is_passed pieces vs held empty = at_first
fed_is_passed pieces vs held (fed ps us h piece f) = fed_piece ps (map Taken us) h piece (fed_is_passed ps us h f)
fed_is_passed pieces vs held (gave ps us h v rest f y) =
    subst (λ k. Passed ps k rest) (sym (map-append Taken us (v ∷ []))) (passed ps (map Taken us) h (Taken v) rest (fed_is_passed ps us h f) (taken h v rest y))

passed_cuts : (pieces : List Bytes) (items : List Item) (held : Bytes) → Passed pieces items held → Cuts (meaning item) (joined pieces) items held
passed_cuts pieces items held at_first = refl
passed_cuts pieces items held (fed_piece ps xs h piece p) =
    subst (λ k. Cuts (meaning item) k xs (h ++ piece)) (sym (joined_last ps piece)) (more_behind item (joined ps) piece xs h (passed_cuts ps xs h p))
passed_cuts pieces items held (passed ps xs h x rest p y) = both item (joined ps) h rest xs (x ∷ []) (passed_cuts ps xs h p) (one item h rest x y)

pub feeds_past : FeedsPast
feeds_past pieces items held end p s = record { passes = passed_cuts pieces items held p; stops = s.stops; ends = s.ends }

pub past_cuttings_alike : PastCuttingsAlike
past_cuttings_alike pieces others items more held kept end stop bytes p s q t =
    one_past (joined others) items more held kept end stop (subst (λ m. SplitsPast m items held end) bytes (feeds_past pieces items held end p s)) (feeds_past others more kept stop q t)

-- ---- what calls of a feed do

pub gave_passes : (held left : Bytes) (answer : Result (Option Response) FeedError) → IfOk answer (λ r. Gave held r left) → IfOk answer (λ r. IfSome r (λ x. PassesResponse held x left))
gave_passes held left (Ok (Some r)) g = λ pieces items p. (g.0, g.2, passed pieces items held (Taken g.0) left p (taken held g.0 left g.1))
gave_passes held left (Ok None) g = tt
gave_passes held left (Err e) g = tt

pub dropped_passes : (held left : Bytes) (answer : Option ℕ) → Dropped held answer left → Denies (meaning response) held → IfSome answer (λ n. PassesLine held n left)
unfolding meaning item
dropped_passes held left (Some n) d denied = λ pieces items p. (d.0, d.1, passed pieces items held (Skipped d.0) left p (inr (denied, (d.0, d.2, refl))))
dropped_passes held left None d denied = tt

-- the line that was read is dropped
pub line_dropped : (held rest line left : Bytes) (n k : ℕ) → step logical_line held ≡ Ok (rest, line) → n ≡ length rest → k ≡ length line → left ≡ drop (length held - n) held → Dropped held (Some k) left
line_dropped held rest line left n k is behind whole s =
    let y = (agrees logical_line held).yielded line rest is in
    let e : left ≡ rest = s ∙ ap (λ i. drop (length held - i) held) behind ∙ end_rest held rest line (lines_end held line rest y).2 in
    (line, whole, subst (λ l. (meaning logical_line).yields held line l) (sym e) y)

-- and where none is whole, nothing
pub none_dropped : (held : Bytes) (e : Fault) → step logical_line held ≡ Err e → Dropped held None held
none_dropped held e is = (λ line rest y. let both = sym is ∙ (agrees logical_line held).yields line rest y in cc, refl)

pub dropped_fewer : (held left : Bytes) (answer : Option ℕ) → Dropped held answer left → IfSome answer (λ n. (0 < n) × (length left + n ≡ length held))
dropped_fewer held left (Some n) d =
    let ends = lines_end held d.0 left d.2 in
    let whole = ap length ends.1 ∙ length-append ends.0 (carriage_return ∷ line_feed ∷ []) in
    (omega (arith, d.1, whole), omega (arith, d.1, ap length ends.2, length-append d.0 left))
dropped_fewer held left None d = tt

pub line_rest_fewer : (held rest line : Bytes) → step logical_line held ≡ Ok (rest, line) → length rest ≤ length held
line_rest_fewer held rest line is = omega (arith, less logical_line held rest line line_takes is)
