-- Cursors.
use Rattle.std.proofs.Common.{◌≡◌, ℕ, ◌+◌, ◌-◌, ◌<◌, ◌≤◌, ◌++◌, length, drop, sym, ap, subst, inl, inr, arith}
use Rattle.std.specs.Prelude.{◌⊎◌, ◌^◌}
use Rattle.std.proofs.lemmas.List.{length-append, length-drop, drop-append-le}
use Rattle.std.proofs.Math.Seq.{drop-append-add}
use Rattle.imap_grammar.specs.declared.answer.Err.TheVariants.{Incomplete, Error, Failure}
use Rattle.imap_grammar.specs.declared.answer.Needed.TheVariants.{Unknown, Size}
use Rattle.imap_grammar.specs.Meaning.{Lacks}
use Rattle.imap_grammar.specs.Rule.{meaning}
use Rattle.imap_grammar.specs.Text.{Bytes}
use Rattle.imap_proto.specs.Lines.{response}
use Rattle.imap_proto.proofs.Streams.{stable}
use Rattle.imap_c.specs.declared.answers.Answer.{Answer}
use Rattle.imap_c.specs.declared.cursors.Cursor.{Cursor}
use Rattle.imap_c.specs.Numbers.{waits}
use Rattle.imap_c.specs.Answers.{Tells, no_response}
use Rattle.imap_c.specs.Cursors.{Fits, held, FitsAnew, FitsMore, FitsLess}

-- ---- laws

pub fits_anew : FitsAnew
fits_anew m n le = record { within = le; lacks = λ lt. absurd (omega arith) }

-- what more bytes lack
lacks_behind : (front more : Bytes) (wanted : ℕ) → (length front < wanted → Lacks (meaning response) front (wanted - length front)) → length (front ++ more) < wanted
    → Lacks (meaning response) (front ++ more) (wanted - length (front ++ more))
lacks_behind front more wanted l lt =
    let both = length-append front more in
    let same : wanted - length front - length more ≡ wanted - length (front ++ more) = omega (arith, both) in
    subst (Lacks (meaning response) (front ++ more)) same (stable.lacks_more front (wanted - length front) more (l (omega (arith, both, lt))) (omega (arith, both, lt)))

pub fits_more : FitsMore
fits_more m more c f =
    let same = drop-append-le c.start m more f.within in
    record {
      within = omega (arith, f.within, length-append m more);
      lacks = subst (λ (k : Bytes). length k < c.wanted → Lacks (meaning response) k (c.wanted - length k)) (sym same) (lacks_behind (held m c) more c.wanted f.lacks);
    }

pub fits_less : FitsLess
fits_less gone m start wanted f =
    record {
      within = omega (arith, f.within, length-append gone m);
      lacks = subst (λ (k : Bytes). length k < wanted → Lacks (meaning response) k (wanted - length k)) (drop-append-add gone m start) f.lacks;
    }

-- ---- a call

-- what is still lacking is not read for
pub lacking_told : (m : Bytes) (c : Cursor) (answer : Answer) → Fits m c → length (held m c) < c.wanted → answer ≡ no_response waits (c.wanted - length (held m c)) → Tells (held m c) answer
lacking_told m c answer f lt e = inr (Incomplete (Size (c.wanted - length (held m c))), f.lacks lt, e)

-- the same place
stays : (m : Bytes) (c after : Cursor) → c.start ≤ length m → after.start ≡ c.start → (length (held m c) < after.wanted → Lacks (meaning response) (held m c) (after.wanted - length (held m c))) → Fits m after
stays m c after le same l =
    record {
      within = omega (arith, same, le);
      lacks = subst (λ (n : ℕ). length (drop n m) < after.wanted → Lacks (meaning response) (drop n m) (after.wanted - length (drop n m))) (sym same) l;
    }

-- nothing wanted
rests : (m : Bytes) (after : Cursor) → after.start ≤ length m → after.wanted ≡ 0 → Fits m after
rests m after le e = record { within = le; lacks = λ lt. absurd (omega (arith, lt, e)) }

pub moved_fits : (m : Bytes) (c after : Cursor) (answer : Answer) → c.start ≤ length m → Tells (held m c) answer → after.start ≡ c.start + answer.consumed → (answer.missing ≡ 0 → after.wanted ≡ 0)
    → (0 < answer.missing → (after.wanted ≡ length (held m c) + answer.missing) ⊎ ((after.wanted ≡ 0) × (2 ^ 64 ≤ length (held m c) + answer.missing))) → Fits m after
moved_fits m c after answer le (inl t) at none some =
    rests m after (omega (arith, at, le, ap (λ (a : Answer). a.consumed) t.3, length-drop c.start m)) (none (ap (λ (a : Answer). a.missing) t.3))
moved_fits m c after answer le (inr (Incomplete (Size n), lacks, e)) at none some =
    let start : after.start ≡ c.start = omega (arith, at, ap (λ (a : Answer). a.consumed) e) in
    let missing = ap (λ (a : Answer). a.missing) e in
    let positive = stable.some_lack (held m c) n lacks in
    elim (some (omega (arith, missing, positive))) [
      | inl wanted ↦ stays m c after le start (λ lt.
          let same : n ≡ after.wanted - length (held m c) = omega (arith, wanted, missing) in
          subst (Lacks (meaning response) (held m c)) same lacks)
      | inr much ↦ rests m after (omega (arith, start, le)) much.0
    ]
moved_fits m c after answer le (inr (Incomplete Unknown, neither, e)) at none some =
    rests m after (omega (arith, at, le, ap (λ (a : Answer). a.consumed) e)) (none (ap (λ (a : Answer). a.missing) e))
moved_fits m c after answer le (inr (Error, denied, e)) at none some =
    rests m after (omega (arith, at, le, ap (λ (a : Answer). a.consumed) e)) (none (ap (λ (a : Answer). a.missing) e))
moved_fits m c after answer le (inr (Failure, t, e)) at none some =
    rests m after (omega (arith, at, le, ap (λ (a : Answer). a.consumed) e)) (none (ap (λ (a : Answer). a.missing) e))
