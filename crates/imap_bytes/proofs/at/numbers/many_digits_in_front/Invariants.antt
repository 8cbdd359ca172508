use Rattle.std.proofs.Common.{◌≡◌, ◌<◌, ◌≤◌, ◌-◌, ◌^◌, take, drop, length, true}
use Rattle.std.specs.List.{list_all}
use Rattle.std.specs.Str.Parse.{digits_value}
use Rattle.imap_grammar.specs.Classes.{is_digit}
use Rattle.imap_bytes.proofs.at.numbers.many_digits_in_front.Given as goal

abbrev pub invariant-loop-b : goal.invariant-loop-b
invariant-loop-b l = record {
  within : length l.left ≤ length l.i;
  behind : l.left ≡ drop (length l.i - length l.left) l.i;
  all : list_all is_digit (take (length l.i - length l.left) l.i) ≡ true;
  so_far : l.number ≡ digits_value 10 (take (length l.i - length l.left) l.i);
  fits : l.number < 2 ^ 64;
}

abbrev pub decreases-loop-b : goal.decreases-loop-b
decreases-loop-b l = length l.left
