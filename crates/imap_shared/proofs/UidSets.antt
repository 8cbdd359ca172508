-- Sets of UIDs: each range that is read starts not above its end; what `==` tells of a member.
use Rattle.std.proofs.Common.{◌≡◌, rules, refl, ℕ, ◌≤◌, List, [], ◌∷◌, None, Some, map, Ok, Err, arith}
use Rattle.std.specs.Prelude.{IfOk}
use Rattle.std.specs.List.{All}
use Rattle.std.proofs.lemmas.List.Elements.{All-nil, All-cons, All-head, All-tail}
use Rattle.std.specs.Global.{Vec}
use Rattle.imap_grammar.specs.Equality.{Tells}
use Rattle.imap_grammar.specs.declared.answer.Err.TheVariants.{Incomplete, Error, Failure}
use Rattle.imap_grammar.specs.Rule.{gives, opt}
use Rattle.imap_grammar.specs.Step.{Step, step, ◌>>=◌, beside, and_then, or_else}
use Rattle.imap_grammar.specs.Ranges.{Range}
use Rattle.imap_grammar.specs.Answer.{Returned, Gives}
use Rattle.imap_grammar.proofs.Agreement.{reads}
use Rattle.imap_grammar.proofs.Yields.{Yields, either_yields, made_yields, list_yields}
use Rattle.imap_bytes.specs.Numbers.{number}
use Rattle.imap_shared.specs.UidSets.{MemberValue, UidRange, Uid, member_value, in_order, IsOrdered, uid_set, uid_set_member, maybe_range, member_of}
use Rattle.imap_shared.specs.declared.types.uid_sets.UidSetMember.{UidSetMember}
use Rattle.imap_shared.specs.declared.types.uid_sets.UidSetMember.TheVariants as member
use Rattle.imap_shared.specs.contracts.types.uid_sets.UidSetMemberPartialEq.TheImpl as member_eq
use Rattle.imap_bytes.specs.Sets.{from_to, range_end, sequence_range}

-- ---- a number in front of a colon is read once

member_of_step : (s : Step ℕ) → or_else ((and_then s (step range_end) >>= λ (v : List ℕ × (ℕ × ℕ)). Ok (v.0, from_to v.1)) >>= λ (v : List ℕ × Range). Ok (v.0, in_order v.1)) (s >>= λ v. Ok (v.0, Uid v.1)) ≡ (and_then s (step (opt range_end)) >>= λ v. Ok (v.0, member_of v.1))
member_of_step (Ok x) = behind (step range_end x.0)
  where
    behind : (t : Step ℕ) → or_else (((t >>= beside x.1) >>= λ (v : List ℕ × (ℕ × ℕ)). Ok (v.0, from_to v.1)) >>= λ (v : List ℕ × Range). Ok (v.0, in_order v.1)) (Ok (x.0, Uid x.1)) ≡ ((or_else (t >>= λ v. Ok (v.0, Some v.1)) (Ok (x.0, None)) >>= beside x.1) >>= λ v. Ok (v.0, member_of v.1))
    behind (Ok y) = refl
    behind (Err Error) = refl
    behind (Err Failure) = refl
    behind (Err (Incomplete n)) = refl
member_of_step (Err Error) = refl
member_of_step (Err Failure) = refl
member_of_step (Err (Incomplete n)) = refl

pub member_is : (m : List ℕ) → step uid_set_member m ≡ step (gives member_of maybe_range) m
unfolding uid_set_member maybe_range sequence_range
member_is m = member_of_step (step number m)

-- ---- order

-- the same of a member's value
abbrev pub IsOrderedValue : MemberValue → Type 0
IsOrderedValue (UidRange r) = r.start ≤ r.end
IsOrderedValue (Uid n) = Unit {0}

pub set_ordered : Yields (All IsOrderedValue) uid_set
unfolding uid_set uid_set_member
set_ordered = list_yields IsOrderedValue (either_yields (made_yields in_order (λ r. omega arith)) (made_yields Uid (λ n. tt)))

member_ordered : (x : UidSetMember) → IsOrderedValue (member_value x) → IsOrdered x
member_ordered (member.UidRange r) h = h
member_ordered (member.Uid n) h = tt

pub all_ordered : (xs : List UidSetMember) → All IsOrderedValue (map member_value xs) → All IsOrdered xs
all_ordered [] h = All-nil IsOrdered
all_ordered (x ∷ xs) h =
    All-cons IsOrdered x xs (member_ordered x (All-head IsOrderedValue (member_value x) (map member_value xs) h)) (all_ordered xs (All-tail IsOrderedValue (member_value x) (map member_value xs) h))

pub ordered_members : (result : Returned (Vec UidSetMember)) (m : List ℕ) → Gives (λ x. map member_value x.items) result (step uid_set m) → IfOk result (λ x. All IsOrdered x.1.items)
ordered_members (Ok x) m h = all_ordered x.1.items (set_ordered.each m (map member_value x.1.items) x.0.now (reads uid_set m x.0.now (map member_value x.1.items) h))
ordered_members (Err e) m h = tt

pub member_tells : Tells (member_eq.eq-value).it member_value
member_tells = search rules
