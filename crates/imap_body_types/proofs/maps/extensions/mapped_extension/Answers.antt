use Rattle.std.proofs.Common.{refl}
use Rattle.imap_body_types.proofs.maps.extensions.mapped_extension.Goals as goal

pub returns-in_ok-try_map-in-Some : goal.returns-in_ok-try_map-in-Some
returns-in_ok-try_map-in-Some g c = rw (c.in-Some.is, c.in_ok-try_map-in-Some.ensures) refl
