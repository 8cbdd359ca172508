use Rattle.std.proofs.Common.{◌≡◌, ◌<◌, ◌≤◌, ◌-◌, ◌^◌, take, length, true}
use Rattle.std.specs.List.{list_all}
use Rattle.std.specs.Str.Parse.{digits_value}
use Rattle.imap_grammar.specs.Classes.{is_digit}
use Rattle.imap_bytes.proofs.at.numbers.digits_in_front.Given as goal

abbrev pub invariant-loop-count : goal.invariant-loop-count
invariant-loop-count l = record {
  few : l.count ≤ 11;
  within : l.count ≤ length l.i;
  all : list_all is_digit (take l.count l.i) ≡ true;
  so_far : l.number ≡ digits_value 10 (take l.count l.i);
  below : l.number < 10 ^ l.count;
  fits : l.number < 2 ^ 60;
}

abbrev pub decreases-loop-count : goal.decreases-loop-count
decreases-loop-count l = 11 - l.count
