use Rattle.std.proofs.Common.{ap, ◌∙◌, map, rules}
use Rattle.std.specs.FinMap.{from_entries}
use Rattle.imap_extensions.specs.Ids.{entry_value}
use Rattle.imap_extensions.proofs.Ids.{put_entries, owned_of, put_owned_entries}
use Rattle.imap_extensions.proofs.types.ids.owned_id_map.Goals as goal

pub loop-key-init : goal.loop-key-init
loop-key-init c =
    let gives = c.into_iter-key-iterator.ensures.into_iter_gives in
    rw (gives.0) (ap (λ es. put_entries (from_entries (map entry_value es)) (map owned_of c.args.map.entries)) c.new-owned.ensures.empty ∙ put_owned_entries c.args.map gives.4)

pub loop-key-preserved : goal.loop-key-preserved
loop-key-preserved c = search rules depth 2
