use Rattle.std.proofs.Common.{◌≡◌, drop}
use Rattle.std.specs.List.{list_all}
use Rattle.imap_command.specs.OtherWords.{is_word_byte}
use Rattle.imap_command.proofs.judging.is_word.Given as goal

-- no byte so far is refused
abbrev pub invariant-loop-byte : goal.invariant-loop-byte
invariant-loop-byte l = list_all is_word_byte l.word ≡ list_all is_word_byte (drop l.byte-index l.word)
