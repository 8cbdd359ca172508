use Rattle.std.proofs.Common.{◌∷◌, [], ◌++◌, ◌∙◌, refl, codes, append-nil}
use Rattle.imap_command.specs.Arguments.{quoted}
use Rattle.imap_command.specs.Calls.{select}
use Rattle.imap_uses.proofs.commands.selecting.Goals as goal

-- a SELECT alone is what its call tells
pub returns-clause-text : goal.returns-clause-text
returns-clause-text c =
    (c.into.ensures (select c.args.mailbox.now ∷ []) refl c.in_ok-select.ensures.begins.text).text
    ∙ append-nil (codes "SELECT " ++ quoted c.args.mailbox.now)

pub returns-clause-next_state : goal.returns-clause-next_state
returns-clause-next_state c =
    (c.into.ensures (select c.args.mailbox.now ∷ []) refl c.in_ok-select.ensures.begins.text).next_state
