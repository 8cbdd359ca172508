-- Feeds.
use Rattle.std.proofs.Common.{◌≡◌, ℕ, ◌+◌, ◌-◌, ◌<◌, ◌≤◌, [], ◌∷◌, ◌++◌, length, take, drop, Option, None, Some, Result, Ok, Err, refl, sym, ap, subst, ◌∙◌, append_assoc, inl, inr, arith}
use Rattle.std.specs.Prelude.{IfOk, IfErr, IfSome, IsOk, OnErr, MatchResult}
use Rattle.std.proofs.lemmas.Bool.{false≢true}
use Rattle.std.proofs.lemmas.List.{append-nil, take-append-drop, length-drop, drop-drop}
use Rattle.std.proofs.lemmas.List.Prefix.{end_rest}
use Rattle.std.specs.declared.alloc.AllocError.{AllocError}
use Rattle.imap_grammar.specs.declared.answer.Err.{Err as Fault}
use Rattle.imap_grammar.specs.declared.answer.Err.TheVariants.{Incomplete, Error, Failure}
use Rattle.imap_grammar.specs.declared.answer.Needed.{Needed}
use Rattle.imap_grammar.specs.declared.answer.Needed.TheVariants.{Unknown, Size}
use Rattle.imap_grammar.specs.Meaning.{Lacks}
use Rattle.imap_grammar.specs.Answer.{Returned}
use Rattle.imap_grammar.specs.Memory.{FailsOnlyIf, SucceedsFor}
use Rattle.imap_grammar.specs.Rule.{meaning}
use Rattle.imap_grammar.specs.Step.{step}
use Rattle.imap_grammar.specs.Text.{Bytes}
use Rattle.imap_grammar.proofs.Agreement.{agrees}
use Rattle.imap_grammar.proofs.Memory.{starts_with}
use Rattle.imap_grammar.proofs.Steps.{ok_is}
use Rattle.imap_proto.specs.declared.response.Response.{Response}
use Rattle.imap_proto.specs.declared.stream.FeedError.{FeedError}
use Rattle.imap_proto.specs.Responses.{ResponseValue, response_value}
use Rattle.imap_proto.specs.Memory.{MayWantMemory, TakesNone}
use Rattle.imap_proto.specs.Owned.{owned_response, IsMovedWhole}
use Rattle.imap_proto.specs.Lines.{response}
use Rattle.imap_proto.specs.Streams.{Waiting, gave}
use Rattle.imap_proto.specs.Feeds.{WaitsFor, Gave, HasGivenMore, FeedMayWant, RefusesAs, IsOwnedFront, IsFront, Settles}
use Rattle.imap_proto.proofs.Streams.{stable, nothing_waits, shorter}

-- ---- waiting

-- a feed that holds nothing waits for a byte
pub nothing_waits_for : WaitsFor [] 1
nothing_waits_for [] lt = nothing_waits
nothing_waits_for (b ∷ more) lt = absurd (omega arith)

pub waiting : (m : Bytes) (w : Needed) → step response m ≡ Err (Incomplete w) → Waiting m
waiting m w e = (λ v rest y. let f = sym e ∙ (agrees response m).yields v rest y in cc, λ d. let f = sym e ∙ (agrees response m).fails Error d in cc)

lack_waits : (m : Bytes) (n : ℕ) → Lacks (meaning response) m n → Waiting m
lack_waits m n l = (λ v rest y. stable.yields_not_lacks m v rest n y l, λ d. stable.denies_not_lacks m n d l)

-- so many bytes are lacking
pub waits_for_size : (m : Bytes) (n : ℕ) → step response m ≡ Err (Incomplete (Size n)) → WaitsFor m n
waits_for_size m n e more lt = lack_waits (m ++ more) (n - length more) (stable.lacks_more m n more ((agrees response m).failed (Incomplete (Size n)) e) lt)

-- it is not known how many
pub waits_for_some : (m : Bytes) → step response m ≡ Err (Incomplete Unknown) → WaitsFor m 1
waits_for_some m e [] lt = subst Waiting (sym (append-nil m)) (waiting m Unknown e)
waits_for_some m e (b ∷ more) lt = absurd (omega arith)

-- ---- places

-- behind the response
pub left_behind : (bytes held rest : Bytes) (start : ℕ) (v : ResponseValue) → held ≡ drop start bytes → step response held ≡ Ok (rest, v) → drop (length bytes - length rest) bytes ≡ rest
left_behind bytes held rest start v at e =
    let front = stable.cut held v rest ((agrees response held).yielded v rest e) in
    end_rest bytes rest (take start bytes ++ front.0)
    (sym (take-append-drop start bytes) ∙ ap (λ (k : Bytes). take start bytes ++ k) (sym at ∙ front.1) ∙ sym (append_assoc (take start bytes) front.0 rest))

pub gave_front : (held now rest left : Bytes) (v : ResponseValue) (owned : Response) → held ≡ now → left ≡ rest → step response held ≡ Ok (rest, v) → response_value owned ≡ owned_response v → Gave now (Some owned) left
gave_front held now rest left v owned at behind e is = (v, rw (behind, sym at) ((agrees response held).yielded v rest e), is)

-- the last n bytes of what is held are the last of all
pub last_within : (bytes : Bytes) (start n : ℕ) → start ≤ length bytes → n ≤ length (drop start bytes) → drop (length bytes - n) bytes ≡ drop (length (drop start bytes) - n) (drop start bytes)
last_within bytes start n s w =
    let k : length bytes - n ≡ start + (length (drop start bytes) - n) = omega (arith, length-drop start bytes, s, w) in
    ap (λ i. drop i bytes) k ∙ sym (drop-drop (length (drop start bytes) - n) start bytes)

-- ---- what stands in front, owned

pub front_owned : (held rest : Bytes) (r : Response) (n : ℕ) (owned : Result Response AllocError) (front : Result (ℕ × Response) Fault) → step response held ≡ Ok (rest, response_value r) → n ≡ length rest → IfOk owned (λ x. response_value x ≡ owned_response (response_value r)) → MatchResult owned (λ x. front ≡ Ok (n, x)) (λ e. front ≡ Err Failure) → IsOwnedFront held front
front_owned held rest r n (Ok x) front e is same m = subst (IsOwnedFront held) (sym m) (response_value r, rest, e, is, same)
front_owned held rest r n (Err d) front e is same m = subst (IsOwnedFront held) (sym m) tt

pub front_within : (held : Bytes) (front : Result (ℕ × Response) Fault) → IsOwnedFront held front → IfOk front (λ x. x.0 ≤ length held)
front_within held (Ok x) f = let lt = shorter held f.1 f.0 ((agrees response held).yielded f.0 f.1 f.2) in omega (arith, f.3, lt)
front_within held (Err e) f = tt

-- ---- where memory may be wanted

-- the front was not read
pub unread_wants : {A : Type 0} (held : Bytes) (parsed : Returned A) (e : Fault) → parsed ≡ Err e → FailsOnlyIf (MayWantMemory held) parsed → SucceedsFor TakesNone response held parsed → e ≡ Failure → FeedMayWant held
unread_wants held (Ok x) e is failure memory q = absurd cc
unread_wants held (Err d) e is failure memory q =
    let same : d ≡ e = cc in
    (inl (failure (same ∙ q)), λ g. absurd (false≢true (memory g.0 g.1 g.2 g.3)))

-- it was read, and not owned
pub unowned_wants : (held rest : Bytes) (v : ResponseValue) (n : ℕ) (owned : Result Response AllocError) (front : Result (ℕ × Response) Fault) → step response held ≡ Ok (rest, v) → (IsMovedWhole v → IsOk owned) → MatchResult owned (λ x. front ≡ Ok (n, x)) (λ e. front ≡ Err Failure) → FailsOnlyIf (FeedMayWant held) front
unowned_wants held rest v n (Ok x) front is moved m = subst (FailsOnlyIf (FeedMayWant held)) (sym m) tt
unowned_wants held rest v n (Err d) front is moved m = subst (FailsOnlyIf (FeedMayWant held)) (sym m) (λ q. (
  inr (starts_with response held rest v is),
  λ g.
      let same : g.0 ≡ v = ap (λ p. p.1) (ok_is _ _ (sym g.2 ∙ is)) in
      absurd (false≢true (moved (subst IsMovedWhole same g.4))),
))

-- ---- what a call of next answers, by what stands in front

pub owned_is_front : (held : Bytes) (front : Result (ℕ × Response) Fault) → IsOwnedFront held front → IsFront held front
owned_is_front held (Ok x) f = front_within held (Ok x) f
owned_is_front held (Err e) f = f

pub settled_gives : (held left : Bytes) (front : Result (ℕ × Response) Fault) (answer : Result (Option Response) FeedError) → IsOwnedFront held front → Settles held front answer left → IfOk answer (λ r. Gave held r left)
settled_gives held left (Ok x) answer f s =
    let behind = s.1 ∙ ap (λ k. drop (length held - k) held) f.3 ∙ left_behind held held f.1 0 f.0 refl f.2 in
    subst (λ a. IfOk a (λ r. Gave held r left)) (sym s.0) (gave_front held held f.1 left f.0 x.1 refl behind f.2 f.4)
settled_gives held left (Err (Incomplete n)) answer f s = subst (λ a. IfOk a (λ r. Gave held r left)) (sym s.0) (waiting held n f, s.1)
settled_gives held left (Err Error) answer f s = subst (λ a. IfOk a (λ r. Gave held r left)) (sym s.0) tt
settled_gives held left (Err Failure) answer f s = subst (λ a. IfOk a (λ r. Gave held r left)) (sym s.0) tt

pub gave_more : (held left : Bytes) (answer : Result (Option Response) FeedError) → IfOk answer (λ r. Gave held r left) → IfOk answer (λ r. IfSome r (λ x. HasGivenMore held x left))
gave_more held left (Ok (Some r)) g = λ pieces vs f. (g.0, g.2, gave pieces vs held g.0 left f g.1)
gave_more held left (Ok None) g = tt
gave_more held left (Err e) g = tt

pub gave_fewer : (held left : Bytes) (answer : Result (Option Response) FeedError) → IfOk answer (λ r. Gave held r left) → IfOk answer (λ r. IfSome r (λ x. length left < length held))
gave_fewer held left (Ok (Some r)) g = shorter held left g.0 g.1
gave_fewer held left (Ok None) g = tt
gave_fewer held left (Err e) g = tt

pub settled_refuses : {R : Type 0} (held left : Bytes) (front : Result (ℕ × R) Fault) (answer : Result (Option R) FeedError) → IsFront held front → FailsOnlyIf (FeedMayWant held) front → Settles held front answer left → IfErr answer (RefusesAs held)
settled_refuses held left (Ok x) answer f h s = subst (λ a. IfErr a (RefusesAs held)) (sym s.0) tt
settled_refuses held left (Err (Incomplete n)) answer f h s = subst (λ a. IfErr a (RefusesAs held)) (sym s.0) tt
settled_refuses held left (Err Error) answer f h s = subst (λ a. IfErr a (RefusesAs held)) (sym s.0) ((agrees response held).failed Error f)
settled_refuses held left (Err Failure) answer f h s = subst (λ a. IfErr a (RefusesAs held)) (sym s.0) (h refl)

pub settled_keeps : {R : Type 0} (held left : Bytes) (front : Result (ℕ × R) Fault) (answer : Result (Option R) FeedError) → Settles held front answer left → OnErr answer (left ≡ held)
settled_keeps held left (Ok x) answer s = subst (λ a. OnErr a (left ≡ held)) (sym s.0) tt
settled_keeps held left (Err (Incomplete n)) answer s = subst (λ a. OnErr a (left ≡ held)) (sym s.0) tt
settled_keeps held left (Err Error) answer s = subst (λ a. OnErr a (left ≡ held)) (sym s.0) s.1
settled_keeps held left (Err Failure) answer s = subst (λ a. OnErr a (left ≡ held)) (sym s.0) s.1
