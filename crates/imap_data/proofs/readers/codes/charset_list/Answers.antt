use Rattle.std.proofs.Common.{rules, refl}
use Rattle.imap_grammar.specs.Text.{text_of}
use Rattle.imap_grammar.proofs.Under.{shorter_ends, kept_at}
use Rattle.imap_grammar.proofs.Callers.{nonempty_listed}
use Rattle.imap_bytes.specs.Texts.{astring_utf8}
use Rattle.imap_bytes.proofs.Takes.{astring_utf8_takes}
use Rattle.imap_data.proofs.readers.codes.charset_list.Goals as goal

pub parenthesized_nonempty_list-requires : goal.parenthesized_nonempty_list-requires
parenthesized_nonempty_list-requires c = λ k. ((refl, tt), (search rules, shorter_ends text_of astring_utf8 (λ n r h. kept_at text_of astring_utf8 r h.shows h.says.met) astring_utf8_takes))

pub returns : goal.returns
returns c = nonempty_listed text_of astring_utf8 c.parenthesized_nonempty_list.ensures (λ n r h. kept_at text_of astring_utf8 r h.shows h.says.met)
