use Rattle.std.proofs.Common.{◌≡◌, drop}
use Rattle.imap_command.specs.Arguments.{refusal}
use Rattle.imap_command.proofs.arguments.judge.Given as goal

-- no byte so far is refused
abbrev pub invariant-loop-byte : goal.invariant-loop-byte
invariant-loop-byte l = refusal l.argument ≡ refusal (drop l.byte-index l.argument)
