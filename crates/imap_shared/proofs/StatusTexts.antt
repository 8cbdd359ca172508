-- Statuses: what their rule takes spells them, and their canonical texts read back.
use Rattle.std.proofs.Common.{refl}
use Rattle.imap_grammar.specs.ReadBack.{SpellsAndReadsBack, Any, as_is}
use Rattle.imap_grammar.proofs.Reading.{apart_forms}
use Rattle.imap_grammar.proofs.Keeping.{keeps-names, keeps-first}
use Rattle.imap_shared.specs.declared.types.statuses.Status.TheVariants.{Ok, No, Bad, PreAuth, Bye}
use Rattle.imap_shared.specs.Statuses.{status}
use Rattle.imap_shared.specs.StatusTexts.{canonical_status, spells_status}

pub keeps_status : SpellsAndReadsBack status as_is canonical_status spells_status Any
unfolding status
keeps_status =
    keeps-first (keeps-names "OK" Ok refl refl (λ c h. h)) (search apart_forms depth 20)
    (keeps-first (keeps-names "NO" No refl refl (λ c h. h)) (search apart_forms depth 20)
    (keeps-first (keeps-names "BAD" Bad refl refl (λ c h. h)) (search apart_forms depth 20)
    (keeps-first (keeps-names "PREAUTH" PreAuth refl refl (λ c h. h)) (search apart_forms depth 20)
    (keeps-names "BYE" Bye refl refl (λ c h. h)))))
