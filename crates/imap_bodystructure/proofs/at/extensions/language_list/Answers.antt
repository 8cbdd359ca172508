use Rattle.std.proofs.Common.{arith, refl}
use Rattle.imap_bodystructure.specs.Extensions.{language_list}
use Rattle.imap_body_types.proofs.Places.{rests_more, listed_rest}
use Rattle.imap_bodystructure.proofs.at.extensions.language_list.Goals as goal

pub returns : goal.returns
unfolding language_list
returns g c =
    let languages = rw (← c.input.view_is) at c.in_ok-p-2.ensures in
    let end = c.in_ok-p-4.ensures.inside in
    rw (← c.input.view_is) (record {
      steps = rw (c.in_ok-p.ensures.steps, languages.steps, c.in_ok-p-3.ensures.steps, c.in_ok-p-4.ensures.steps) refl;
      ahead = (omega (arith, c.in_ok-p.ensures.inside, languages.ahead, c.in_ok-p-3.ensures.inside, end), end.1);
      rests = listed_rest g.K.Keep.text_said _ _ (rests_more _ (omega (arith, c.in_ok-p-3.ensures.inside, end)) languages.rests);
    })
