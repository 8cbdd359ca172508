use Rattle.std.proofs.Common.{◌≡◌, length, position, drop, ◌+◌}
use Rattle.std.specs.Option.{option_map}
use Rattle.std.specs.List.{position_or_len}
use Rattle.imap_grammar.specs.Classes.{is_quoted_char}
use Rattle.imap_grammar.specs.Meaning.{outside}
use Rattle.imap_grammar.specs.Scanning.{may_stop}
use Rattle.imap_grammar.proofs.scanning.far_quote.Given as goal

abbrev pub invariant-sixteens : goal.invariant-sixteens
invariant-sixteens l = record {
  found : position (outside is_quoted_char) l.i ≡ option_map (λ k. l.n + k) (position (outside is_quoted_char) l.left);
  stop : position_or_len may_stop l.i ≡ l.n + position_or_len may_stop l.left;
  behind : l.left ≡ drop l.n l.i;
  counted : l.n + length l.left ≡ length l.i;
}

abbrev pub decreases-sixteens : goal.decreases-sixteens
decreases-sixteens l = length l.left
