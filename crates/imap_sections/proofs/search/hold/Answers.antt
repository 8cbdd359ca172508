use Rattle.std.proofs.Common.{refl, ◌≡◌}
use Rattle.std.specs.List.{each_same}
use Rattle.std.proofs.lemmas.List.{map-append}
use Rattle.imap_sections.proofs.search.hold.Goals as goal

pub returns : goal.returns
returns c =
    let same : c.in_ok-path.path.items ≡ c.args.path.now.items = each_same _ _ c.in_ok-path.ensures.cases.0 in
    rw (c.push_reserved.ensures.items, c.in_ok-reserve.ensures.items, map-append, same) refl
