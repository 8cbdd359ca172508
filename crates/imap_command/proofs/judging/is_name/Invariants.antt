use Rattle.std.proofs.Common.{◌≡◌, drop, cond}
use Rattle.imap_command.specs.OtherWords.{is_name, between_spaces}
use Rattle.imap_command.proofs.Names.{goes_on}
use Rattle.imap_command.proofs.judging.is_name.Given as goal

-- No byte so far is refused: what is left has to be a name, or to go on with the word that is begun.
abbrev pub invariant-loop-byte : goal.invariant-loop-byte
invariant-loop-byte l =
    is_name l.name
    ≡ cond l.is_begun (goes_on (between_spaces (drop l.byte-index l.name))) (is_name (drop l.byte-index l.name))
