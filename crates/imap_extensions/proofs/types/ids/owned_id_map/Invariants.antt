use Rattle.std.proofs.Common.{◌≡◌, map}
use Rattle.imap_extensions.specs.Ids.{id_value}
use Rattle.imap_extensions.specs.Owned.{owned_id}
use Rattle.imap_extensions.proofs.Ids.{put_entries, owned_of}
use Rattle.imap_extensions.proofs.types.ids.owned_id_map.Given as goal

abbrev pub invariant-loop-key : goal.invariant-loop-key
invariant-loop-key l = put_entries (id_value l.owned) (map owned_of l.key-iterator) ≡ owned_id (id_value l.fn.map)
