use Rattle.std.proofs.Common.{◌≡◌, map, take}
use Rattle.imap_body_types.specs.declared.spans.SpannedText.TheVariants.{Part}
use Rattle.imap_body.proofs.keep.texts_of.Given as goal

abbrev pub invariant-loop-span : goal.invariant-loop-span
invariant-loop-span l = l.texts.items ≡ map (λ s. Part s) (take l.span-index l.spans.items)
