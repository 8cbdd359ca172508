use Rattle.std.proofs.Common.{rules}
use Rattle.imap_grammar.specs.Answer.{Answers, Refuses}
use Rattle.imap_grammar.specs.Rule.{meaning}
use Rattle.imap_proto.specs.Lines.{response}
use Rattle.imap_proto.specs.Responses.{response_value}
use Rattle.imap_uses.proofs.messages.uid_in_line.Goals as goal

pub returns-clause-told : goal.returns-clause-told
unfolding Answers
returns-clause-told c =
    (response_value c.in_ok-response.response, c.in_ok-response.field-0-0.now, c.in_ok-response.ensures.answer, c.uid_of-uid.ensures)

pub returns-in_err-response-clause-refused : goal.returns-in_err-response-clause-refused
unfolding Answers
returns-in_err-response-clause-refused c =
    let refused : Refuses (meaning response) c.args.bytes.now c.in_err-response.field-0.0 = c.in_err-response.ensures.answer in
    search rules
