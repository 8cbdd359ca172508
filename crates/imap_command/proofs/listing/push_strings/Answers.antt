use Rattle.std.proofs.Common.{ℕ, List, [], Bor}
use Rattle.imap_command.specs.Arguments.{quoted}
use Rattle.imap_command.proofs.Lists.{first_and_others, map_twice}
use Rattle.imap_command.proofs.listing.push_strings.Goals as goal

pub returns-after-loop-string : goal.returns-after-loop-string
returns-after-loop-string c =
    rw (c.loop-string.invariant, c.in_ok-push_quoted.ensures, map_twice quoted (λ (string : Bor (List ℕ)). string.now) c.args.strings.now)
    (first_and_others (λ (string : Bor (List ℕ)). quoted string.now) c.args.out.now.items c.args.strings.now c.loop-string.string-index (record { ref_ptr = (0, 0); now = [] }) c.in-len1-up.len_at_least c.loop-string-test.false)
