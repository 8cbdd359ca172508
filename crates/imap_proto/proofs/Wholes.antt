-- What stands in all the pieces of a stream.
use Rattle.std.proofs.Common.{◌≡◌, ◌==◌, true, false, suc, arith, ℕ, List, [], ◌∷◌, ◌++◌, map, Option, None, Some, Result, Ok, Err, refl, sym, ap, subst, ◌∙◌, append_assoc, length, drop, get_or, ◌<◌, ◌≤◌, ◌+◌}
use Rattle.std.proofs.lemmas.Bool.{false≢true, eqb-true}
use Rattle.std.proofs.lemmas.List.{append-nil, map-append, drop_more, at_drop_all}
use Rattle.std.specs.Borrow.{Bor}
use Rattle.imap_grammar.specs.Rule.{meaning}
use Rattle.imap_grammar.specs.Text.{Bytes}
use Rattle.imap_proto.specs.declared.response.Response.{Response}
use Rattle.std.specs.Prelude.{IfOk, IfErr, OnErr}
use Rattle.imap_proto.specs.declared.stream.FeedError.{FeedError}
use Rattle.imap_proto.specs.declared.stream.FeedError.TheVariants.{Denied as Refused, OutOfMemory}
use Rattle.imap_proto.specs.declared.stream.End.{End}
use Rattle.imap_proto.specs.declared.stream.End.TheVariants.{Waits, Denied}
use Rattle.imap_proto.specs.Responses.{ResponseValue, response_value}
use Rattle.imap_proto.specs.Owned.{owned_response}
use Rattle.imap_proto.specs.Lines.{response}
use Rattle.imap_proto.specs.Streams.{EndsAs, Splits, joined}
use Rattle.imap_proto.specs.Feeds.{Gave, RefusesAs, Puts, TakesAll, OneWhole}
use Rattle.imap_proto.proofs.Streams.{stable, nothing_waits, one_split, splits_go_on}

-- ---- the responses that a feed has

-- none is left
pub takes_none : (held : Bytes) (before : List Response) (end : End) → EndsAs held end → TakesAll held before held before end
takes_none held before end e = ([], sym (append-nil (map response_value before)), record { responses = refl; ends = e })

-- one is taken, and then the others
pub takes_one : (held mid left : Bytes) (before with_it after : List Response) (r : Response) (v : ResponseValue) (end : End) → (meaning response).yields held v mid → response_value r ≡ owned_response v → with_it ≡ before ++ r ∷ [] → TakesAll mid with_it left after end → TakesAll held before left after end
takes_one held mid left before with_it after r v end y is pushed t = (
  v ∷ t.0,
  t.1 ∙ ap (λ items. map response_value items ++ map owned_response t.0) pushed ∙ ap (λ k. k ++ map owned_response t.0) (map-append response_value before (r ∷ []))
      ∙ append_assoc (map response_value before) (response_value r ∷ []) (map owned_response t.0) ∙ ap (λ x. map response_value before ++ (x ∷ map owned_response t.0)) is,
  record { responses = (mid, y, t.2.responses); ends = t.2.ends },
)

-- what was put behind the others was given
pub put_one : (held left : Bytes) (before after : List Response) (given : Result (Option Response) FeedError) (end : Option End) → IfOk given (λ r. Gave held r left) → Puts before given end after → end ≡ None
    → (r : Response) × (v : ResponseValue) × (meaning response).yields held v left × (response_value r ≡ owned_response v) × (after ≡ before ++ r ∷ [])
put_one held left before after (Ok (Some r)) end g p is = (r, g.0, g.1, g.2, p.1)
put_one held left before after (Ok None) end g p is = let other = sym is ∙ p.0 in absurd cc
put_one held left before after (Err Refused) end g p is = let other = sym is ∙ p.0 in absurd cc
put_one held left before after (Err OutOfMemory) end g p is = absurd p

-- or all are taken
pub put_none : (held left : Bytes) (before after : List Response) (given : Result (Option Response) FeedError) (end : Option End) (why : End) → IfOk given (λ r. Gave held r left) → IfErr given (RefusesAs held) → OnErr given (left ≡ held) → Puts before given end after → end ≡ Some why → TakesAll held before left after why
put_none held left before after (Ok (Some r)) end why g d k p is = let other = sym is ∙ p.0 in absurd cc
put_none held left before after (Ok None) end why g d k p is =
    let same : why ≡ Waits = cc in
    rw (same, g.1, p.1) (takes_none held before Waits g.0)
put_none held left before after (Err Refused) end why g d k p is =
    let same : why ≡ Denied = cc in
    rw (same, k, p.1) (takes_none held before Denied d)
put_none held left before after (Err OutOfMemory) end why g d k p is = absurd p

-- ---- pieces in turn

-- of all bytes, some are read, and the split of these is known; the others come
pub record ReadSoFar (all coming held : Bytes) (responses : List Response) (end : End) : Type 0 where
  pub read : Bytes
  pub joins : read ++ coming ≡ all
  pub values : List ResponseValue
  pub owned : map response_value responses ≡ map owned_response values
  pub splits : Splits read values held end

pub read_nothing : (all : Bytes) → ReadSoFar all all [] [] Waits
read_nothing all = record { read = []; joins = refl; values = []; owned = refl; splits = record { responses = refl; ends = nothing_waits } }

pub joined_from : (pieces : List (Bor Bytes)) (i : ℕ) (piece : Bor Bytes) → i < length pieces → joined (map (λ p. p.now) (drop i pieces)) ≡ (get_or pieces i piece).now ++ joined (map (λ p. p.now) (drop (i + 1) pieces))
joined_from pieces i piece lt = ap (λ ps. joined (map (λ (p : Bor Bytes). p.now) ps)) (drop_more pieces i piece lt)

pub read_piece : (all coming piece held left : Bytes) (before after : List Response) (end stop : End) → ReadSoFar all (piece ++ coming) held before end → TakesAll (held ++ piece) before left after stop → ReadSoFar all coming left after stop
read_piece all coming piece held left before after end stop so_far t =
    record {
      read = so_far.read ++ piece;
      joins = append_assoc so_far.read piece coming ∙ so_far.joins;
      values = so_far.values ++ t.0;
      owned = t.1 ∙ ap (λ k. k ++ map owned_response t.0) so_far.owned ∙ sym (map-append owned_response so_far.values t.0);
      splits = splits_go_on so_far.read piece so_far.values t.0 held left end stop so_far.splits t.2;
    }

-- behind a denial no response comes
pub read_denied : (all coming piece held : Bytes) (responses : List Response) (end : End) → end ≡ Denied → ReadSoFar all (piece ++ coming) held responses end → ReadSoFar all coming (held ++ piece) responses end
read_denied all coming piece held responses end is so_far =
    let denied = subst (λ k. EndsAs held k) is so_far.splits.ends in
    read_piece all coming piece held (held ++ piece) responses responses end end so_far
    (takes_none (held ++ piece) responses end (subst (λ k. EndsAs (held ++ piece) k) (sym is) (stable.denies_more held piece denied)))

-- where no piece is left, all is read
pub all_read : (pieces : List (Bor Bytes)) (i : ℕ) (held rest : Bytes) (responses : List Response) (end : End) → length pieces ≤ i → ReadSoFar (joined (map (λ p. p.now) pieces)) (joined (map (λ p. p.now) (drop i pieces))) held responses end → rest ≡ held
    → (vs : List ResponseValue) × (map response_value responses ≡ map owned_response vs) × Splits (joined (map (λ p. p.now) pieces)) vs rest end
all_read pieces i held rest responses end over so_far is =
    let none : joined (map (λ (p : Bor Bytes). p.now) (drop i pieces)) ≡ [] = at_drop_all (λ ps. joined (map (λ (p : Bor Bytes). p.now) ps)) pieces i over in
    let all = sym (append-nil so_far.read) ∙ ap (λ k. so_far.read ++ k) (sym none) ∙ so_far.joins in
    (so_far.values, so_far.owned, subst (λ k. Splits (joined (map (λ (p : Bor Bytes). p.now) pieces)) so_far.values k end) (sym is) (subst (λ m. Splits m so_far.values held end) all so_far.splits))

-- where there is a piece, there are not none
pub some_pieces : (pieces : List (Bor Bytes)) → (length pieces == 0) ≡ false → pieces ≡ [] → ⊥
some_pieces [] h e = false≢true (sym h)
some_pieces (p ∷ pieces) h e = cc

-- of no pieces nothing is read
pub none_read : (pieces : List (Bor Bytes)) → (length pieces == 0) ≡ true → (vs : List ResponseValue) × (map response_value [] ≡ map owned_response vs) × Splits (joined (map (λ p. p.now) pieces)) vs [] Waits
none_read [] h = all_read [] 0 [] [] [] Waits (omega arith) (read_nothing _) refl
none_read (p ∷ pieces) h =
    let e : suc (length pieces) ≡ 0 = eqb-true (suc (length pieces)) 0 h in
    absurd (omega (arith, e))

-- ---- one whole

pub one_whole : OneWhole
one_whole m w x a b =
    let same = one_split m a.0 b.0 w.rest.items x.rest.items w.end x.end a.2 b.2 in
    (a.1 ∙ ap (λ vs. map owned_response vs) same.0 ∙ sym b.1, same.1, same.2)
