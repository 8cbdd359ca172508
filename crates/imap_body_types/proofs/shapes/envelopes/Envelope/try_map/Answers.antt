use Rattle.std.proofs.Common.{refl}
use Rattle.imap_body_types.specs.EnvelopeValues.{envelope_seen}
use Rattle.imap_body_types.proofs.shapes.envelopes.Envelope.try_map.Goals as goal

pub returns : goal.returns
unfolding envelope_seen
returns g c =
    rw (c.in_ok-mapped_optional_text.ensures.changed, c.in_ok-mapped_optional_text-2.ensures.changed, c.in_ok-mapped_addresses.ensures, c.in_ok-mapped_addresses-2.ensures, c.in_ok-mapped_addresses-3.ensures, c.in_ok-mapped_addresses-4.ensures, c.in_ok-mapped_addresses-5.ensures, c.in_ok-mapped_addresses-6.ensures, c.in_ok-mapped_optional_text-3.ensures.changed, c.in_ok-mapped_optional_text-4.ensures.changed) refl
