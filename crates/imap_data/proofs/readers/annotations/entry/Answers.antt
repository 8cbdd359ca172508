use Rattle.std.proofs.Common.{rules, refl, ◌≡◌, true}
use Rattle.imap_data.specs.Annotations.{entry, is_entry_name}
use Rattle.imap_data.proofs.readers.annotations.entry.Goals as goal

pub returns : goal.returns
unfolding entry
returns c =
    let named : is_entry_name c.in_ok-rest.name.now ≡ true = search rules in
    rw (c.in_ok-rest.ensures.steps, named) refl
