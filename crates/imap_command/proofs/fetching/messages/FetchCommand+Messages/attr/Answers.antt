use Rattle.std.proofs.Common.{refl, arith}
use Rattle.std.proofs.lemmas.Grind.{common_steps}
use Rattle.imap_command.proofs.fetching.messages.FetchCommand+Messages.attr.Goals as goal

pub returns : goal.returns
returns c = record {
  in_range = tt;
  leads = refl;
  text = λ calls at was. grind (arith, common_steps);
}
