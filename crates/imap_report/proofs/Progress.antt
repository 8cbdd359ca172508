-- What was read so far, and what was written of it.
use Rattle.std.proofs.Common.{◌≡◌, ℕ, ◌+◌, ◌-◌, ◌≤◌, List, [], ◌++◌, length, take, Option, Result, Ok, Err, refl, sym, ◌∙◌, arith}
use Rattle.std.specs.Prelude.{IfOk, OnErr}
use Rattle.std.specs.Io.KnownBytes.{Consumes, IsAtEnd}
use Rattle.std.proofs.lemmas.List.{length-append, length-take-le}
use Rattle.imap_grammar.specs.Meaning.{Denies}
use Rattle.imap_grammar.specs.Rule.{meaning}
use Rattle.imap_grammar.specs.Text.{Bytes}
use Rattle.imap_proto.specs.declared.stream.End.{End as Stop}
use Rattle.imap_proto.specs.declared.stream.End.TheVariants as stop
use Rattle.imap_proto.specs.Lines.{response}
use Rattle.imap_proto.specs.Streams.{EndsAs}
use Rattle.imap_proto.proofs.Streams.{stable}
use Rattle.imap_report.specs.declared.outcome.Finish.{Finish}
use Rattle.imap_report.specs.declared.outcome.Fault.{Fault}
use Rattle.imap_report.specs.declared.wording.OnDenied.TheVariants as on_denied
use Rattle.imap_report.specs.Report.{Words, NoItem, Told, Writes, Begins, IsLeft, ReportsAll, ReportsSome, ReadsAtLeast, TellsItems}
use Rattle.imap_report.proofs.Bytes.{consumes_both, consumes_nothing}
use Rattle.imap_report.proofs.Items.{denied_none}
use Rattle.imap_report.proofs.Turns.{told_nothing, told_piece, told_on, told_all, told_begun, told_front}

-- so many reads gave bytes, of which some are held, and the lines of what stands in front of these were written
pub record SoFar (w : Words) (remaining left old now : Option Bytes) (held : Bytes) (reads : ℕ) : Type 0 where
  pub read : Bytes
  pub consumed : Consumes remaining left read
  pub told : Told w read held old now
  pub each : reads ≤ length read

pub nothing_yet : (w : Words) (remaining old : Option Bytes) → SoFar w remaining remaining old old [] 0
nothing_yet w remaining old = record { read = []; consumed = consumes_nothing remaining; told = told_nothing w [] old; each = omega arith }

-- a piece was read
pub piece_read : (w : Words) (remaining mid left old now : Option Bytes) (held new piece : Bytes) (reads more : ℕ) → SoFar w remaining mid old now held reads → Consumes mid left piece → new ≡ held ++ piece → more ≤ reads + length piece → SoFar w remaining left old now new more
piece_read w remaining mid left old now held new piece reads more so_far c fed le =
    record {
      read = so_far.read ++ piece;
      consumed = consumes_both remaining mid left so_far.read piece so_far.consumed c;
      told = rw fed (told_piece w so_far.read held piece old now so_far.told);
      each = omega (arith, so_far.each, le, length-append so_far.read piece);
    }

-- by a read that gave some
pub some_read : (w : Words) (remaining mid left old now : Option Bytes) (held new : Bytes) (reads n : ℕ) → SoFar w remaining mid old now held reads → (piece : Bytes) × Consumes mid left piece × (new ≡ held ++ piece) × (length piece ≡ n) → ¬ (n ≡ 0) → SoFar w remaining left old now new (reads + 1)
some_read w remaining mid left old now held new reads n so_far p some = piece_read w remaining mid left old now held new p.0 reads (reads + 1) so_far p.1 p.2 (omega (arith, p.3, some))

-- lines were written
pub lines_told : (w : Words) (remaining left old now new : Option Bytes) (held rest : Bytes) (reads : ℕ) → SoFar w remaining left old now held reads → Told w held rest now new → SoFar w remaining left old new rest reads
lines_told w remaining left old now new held rest reads so_far t = record { read = so_far.read; consumed = so_far.consumed; told = told_on w so_far.read held rest old now new so_far.told t; each = so_far.each }

-- ---- a run that breaks off

pub breaks_off : (w : Words) (remaining left old now new : Option Bytes) (held : Bytes) (reads : ℕ) → SoFar w remaining left old now held reads → Begins w now new held → ReportsSome w remaining left old new
breaks_off w remaining left old now new held reads so_far b = (so_far.read, so_far.consumed, told_begun w so_far.read held old now new so_far.told b)

pub stops_here : (w : Words) (remaining left old now : Option Bytes) (held : Bytes) (reads : ℕ) → SoFar w remaining left old now held reads → ReportsSome w remaining left old now
stops_here w remaining left old now held reads so_far = (so_far.read, so_far.consumed, told_front w so_far.read held old now so_far.told)

-- where more was read
pub stops_behind : (w : Words) (remaining mid left old now : Option Bytes) (held : Bytes) (reads n : ℕ) → SoFar w remaining mid old now held reads → ReadsAtLeast n mid left → ReportsSome w remaining left old now
stops_behind w remaining mid left old now held reads n so_far b =
    stops_here w remaining left old now (held ++ b.0) reads (piece_read w remaining mid left old now held (held ++ b.0) b.0 reads reads so_far b.1 refl (omega arith))

-- behind what is held
pub reads_long_behind : (w : Words) (remaining mid left old now : Option Bytes) (held : Bytes) (reads n : ℕ) → SoFar w remaining mid old now held reads → ReadsAtLeast (n - length held) mid left → ReadsAtLeast n remaining left
reads_long_behind w remaining mid left old now held reads n so_far b = (so_far.read ++ b.0, consumes_both remaining mid left so_far.read b.0 so_far.consumed b.1, omega (arith, so_far.told.within, b.2, length-append so_far.read b.0))

-- ---- a run that ends

pub ends_so : (w : Words) (remaining left old now : Option Bytes) (held : Bytes) (reads n : ℕ) (end : Stop) → SoFar w remaining left old now held reads → IsAtEnd left → IsLeft w end n held → TellsItems w remaining left old now end n
ends_so w remaining left old now held reads n end so_far at e = (so_far.read, held, so_far.consumed, at, so_far.told, e)

-- what is behind a denial is denied with it
pub ends_denied : (w : Words) (remaining mid left old now : Option Bytes) (held bytes : Bytes) (reads n : ℕ) → SoFar w remaining mid old now held reads → w.on_denied ≡ on_denied.Stop → Denies (meaning response) held → Consumes mid left bytes → n ≡ length held + length bytes
    → IsAtEnd left → TellsItems w remaining left old now stop.Denied n
ends_denied w remaining mid left old now held bytes reads n so_far stops d c l at =
    let denied = stable.denies_more held bytes d in
    ends_so w remaining left old now (held ++ bytes) reads n stop.Denied (piece_read w remaining mid left old now held (held ++ bytes) bytes reads reads so_far c refl (omega arith)) at
    record { ends = denied; none = denied_none w.on_denied (held ++ bytes) stops denied; size = length-append held bytes ∙ sym l }

-- the last line was written
pub reports_all : (w : Words) (remaining left old now new : Option Bytes) (end : Stop) (n : ℕ) (r : Result Finish Fault) → TellsItems w remaining left old now end n → IfOk r (λ f. (m : Bytes) → IsLeft w end n m → Writes w now new m f) → IfOk r (ReportsAll w remaining left old new)
reports_all w remaining left old now new end n (Ok f) t h = let last = h t.1 t.5 in (t.0, t.2, t.3, told_all w t.0 t.1 last.0 f old now new t.4 last.1 last.2)
reports_all w remaining left old now new end n (Err e) t h = tt

pub reports_some : (w : Words) (remaining left old now new : Option Bytes) (end : Stop) (n : ℕ) (r : Result Finish Fault) → TellsItems w remaining left old now end n → OnErr r ((m : Bytes) → IsLeft w end n m → Begins w now new m) → OnErr r (ReportsSome w remaining left old new)
reports_some w remaining left old now new end n (Ok f) t h = tt
reports_some w remaining left old now new end n (Err e) t h = (t.0, t.2, told_begun w t.0 t.1 old now new t.4 (h t.1 t.5))

-- ---- counting

-- bytes were read, and counted behind those that were counted before
pub record Counted (remaining left : Option Bytes) (before total : ℕ) : Type 0 where
  pub bytes : Bytes
  pub consumed : Consumes remaining left bytes
  pub sum : total ≡ before + length bytes

pub counted_more : (remaining mid left : Option Bytes) (before total more n : ℕ) (buffer : Bytes) → Counted remaining mid before total → Consumes mid left (take n buffer) → n ≤ length buffer → more ≡ total + n → Counted remaining left before more
counted_more remaining mid left before total more n buffer so_far c le e =
    record {
      bytes = so_far.bytes ++ take n buffer;
      consumed = consumes_both remaining mid left so_far.bytes (take n buffer) so_far.consumed c;
      sum = omega (arith, so_far.sum, e, length-append so_far.bytes (take n buffer), length-take-le n buffer le);
    }

pub counted_some : (remaining mid left : Option Bytes) (before total : ℕ) (piece : Bytes) → Counted remaining mid before total → Consumes mid left piece → ReadsAtLeast 0 remaining left
counted_some remaining mid left before total piece so_far c = (so_far.bytes ++ piece, consumes_both remaining mid left so_far.bytes piece so_far.consumed c, omega arith)

-- with what one more read gave
pub counted_long : (remaining mid left : Option Bytes) (before total n k : ℕ) (buffer : Bytes) → Counted remaining mid before total → Consumes mid left (take n buffer) → n ≤ length buffer → k ≤ total + n → ReadsAtLeast (k - before) remaining left
counted_long remaining mid left before total n k buffer so_far c le long =
    let all = counted_more remaining mid left before total (total + n) n buffer so_far c le refl in
    (all.bytes, all.consumed, omega (arith, all.sum))
