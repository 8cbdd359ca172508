-- Ranges of numbers. A range is its two ends, and whether its numbers were all taken, as an iterator takes them.
use Rattle.std.specs.Prelude.{ℕ, Bool, false}
use Rattle.std.specs.declared.ops.RangeInclusive.{RangeInclusive}
use Rattle.std.specs.Range.{range_inclusive_start, range_inclusive_end, range_inclusive_exhausted}

pub record Range : Type 0 where
  pub start : ℕ
  pub end : ℕ
  pub spent : Bool

-- of which no number was taken yet
abbrev pub fresh : ℕ → ℕ → Range
fresh start end = record { start = start; end = end; spent = false }

-- a `RangeInclusive` as a range
abbrev pub range_of : RangeInclusive ℕ → Range
range_of r =
    record {
      start = range_inclusive_start r;
      end = range_inclusive_end r;
      spent = range_inclusive_exhausted r;
    }
