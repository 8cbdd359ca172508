use Rattle.std.proofs.Common.{rules}
use Rattle.std.specs.Option.{option_map}
use Rattle.imap_sections.specs.Search.{parts_of}
use Rattle.imap_uses.specs.Parts.{is_text}
use Rattle.imap_uses.proofs.Searches.{found_by_test}
use Rattle.imap_uses.proofs.parts.first_text.Goals as goal

pub returns-clause-first : goal.returns-clause-first
returns-clause-first c =
    found_by_test _ _ (parts_of c.in_ok-parts.parts) _ (option_map (λ v. v.items) c.in_ok-path.path)
    c.in_ok-parts.ensures.holds c.in_ok-path.ensures.first is_text (λ y b k. search rules)
