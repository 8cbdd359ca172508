-- A number in front of a colon is read once: it is a range where one goes on behind it, and else stands alone.
use Rattle.std.proofs.Common.{◌≡◌, ◌≢◌, ℕ, List, Ok, Err, refl}
use Rattle.imap_grammar.specs.declared.answer.Err.{Err as Fault}
use Rattle.imap_grammar.specs.declared.answer.Err.TheVariants.{Incomplete, Error, Failure}
use Rattle.imap_grammar.specs.Ranges.{fresh}
use Rattle.imap_grammar.specs.Step.{step}
use Rattle.imap_bytes.specs.Numbers.{number}
use Rattle.imap_bytes.specs.Sets.{range_end, sequence_range, sequence_item}

pub item_fault : (m : List ℕ) (d : Fault) → step number m ≡ Err d → step sequence_item m ≡ Err d
unfolding sequence_item sequence_range
item_fault m Error h = rw h refl
item_fault m Failure h = rw h refl
item_fault m (Incomplete n) h = rw h refl

pub item_range : (m mid rest : List ℕ) (first last : ℕ) → step number m ≡ Ok (mid, first) → step range_end mid ≡ Ok (rest, last) → step sequence_item m ≡ Ok (rest, fresh first last)
unfolding sequence_item sequence_range
item_range m mid rest first last h e = rw (h, e) refl

pub item_alone : (m mid : List ℕ) (n : ℕ) → step number m ≡ Ok (mid, n) → step range_end mid ≡ Err Error → step sequence_item m ≡ Ok (mid, fresh n n)
unfolding sequence_item sequence_range
item_alone m mid n h e = rw (h, e) refl

pub item_stops : (m mid : List ℕ) (n : ℕ) (d : Fault) → step number m ≡ Ok (mid, n) → step range_end mid ≡ Err d → d ≢ Error → step sequence_item m ≡ Err d
unfolding sequence_item sequence_range
item_stops m mid n Error h e other = absurd (other refl)
item_stops m mid n Failure h e other = rw (h, e) refl
item_stops m mid n (Incomplete k) h e other = rw (h, e) refl
