use Rattle.std.proofs.Common.{ℕ, List, [], Bor}
use Rattle.imap_command.proofs.Lists.{first_and_others}
use Rattle.imap_command.proofs.listing.push_words.Goals as goal

pub returns-after-loop-word : goal.returns-after-loop-word
returns-after-loop-word c =
    rw (c.loop-word.invariant, c.in_ok-extend_from_slice.ensures.items, c.as_bytes.ensures.value)
    (first_and_others (λ (word : Bor (List ℕ)). word.now) c.args.out.now.items c.args.words.now c.loop-word.word-index (record { ref_ptr = (0, 0); now = [] }) c.in-len1-up.len_at_least c.loop-word-test.false)
