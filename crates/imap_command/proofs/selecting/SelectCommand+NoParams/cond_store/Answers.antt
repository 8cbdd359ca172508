use Rattle.std.proofs.Common.{refl}
use Rattle.imap_command.proofs.selecting.SelectCommand+NoParams.cond_store.Goals as goal

pub returns : goal.returns
returns c = record {
  in_range = tt;
  leads = refl;
  text = λ calls at was. rw (c.with_text.ensures, c.in_ok-extend_from_slice.ensures.items, c.self.view_is, was) refl;
}
