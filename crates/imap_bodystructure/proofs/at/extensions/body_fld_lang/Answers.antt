use Rattle.std.proofs.Common.{refl, sym, ap, ◌∙◌}
use Rattle.imap_bodystructure.specs.Extensions.{one_language, body_fld_lang}
use Rattle.imap_envelopes.proofs.Keeping.{kept_rests}
use Rattle.imap_grammar.specs.Positions.{named_in}
use Rattle.imap_bodystructure.proofs.at.extensions.body_fld_lang.Goals as goal

pub returns : goal.returns
unfolding body_fld_lang
returns g c =
    let read = rw c.input.view_is at c.in-Ok-first.ensures in
    let language = kept_rests _ _ _ _ _ _ c.in_ok-kept_text.ensures read.rests in
    record {
      steps = rw (c.in_ok-one_language.ensures (g.K.Keep.text_said (named_in c.args.input.now)), c.in_ok-kept_text.ensures.is, read.steps) refl;
      ahead = read.ahead;
      rests = record { same = λ n k alike. c.in_ok-one_language.ensures (g.K.Keep.text_said n) ∙ ap one_language (language.same n k alike) ∙ sym (c.in_ok-one_language.ensures (g.K.Keep.text_said k)) };
    }
