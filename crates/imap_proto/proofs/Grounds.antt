-- What each law rests on, and what the reader of a line goes by.
use Rattle.imap_proto.proofs.CountLines.{exists_read, recent_read, expunge_read}
use Rattle.imap_proto.proofs.FirstBytes.{response_none, response_plus, response_star, response_other, datum_none, datum_of_status, datum_of_number, datum_of_id}
use Rattle.imap_proto.proofs.LineTexts.{response_spells, canonical_reads_back}
use Rattle.imap_proto.proofs.Marks.{lent_is_same}
use Rattle.imap_proto.proofs.Memory.{wants_continued, wants_tagged}
use Rattle.imap_proto.proofs.Numbered.{number_stopped, number_and_count}
use Rattle.imap_proto.proofs.OneText.{said_alike, same_reads_back}
use Rattle.imap_proto.proofs.Skipping.{some_past, one_past, past_goes_on, past_begins_so, fed_is_passed, feeds_past, past_cuttings_alike}
use Rattle.imap_proto.proofs.Streams.{some_split, one_split, beginnings_wait, splits_go_on, feeds_split, cuttings_alike}
use Rattle.imap_proto.proofs.Wholes.{one_whole}

pub ruleset arms = (
  response_none,
  response_plus,
  response_star,
  response_other,
  datum_none,
  datum_of_status,
  datum_of_number,
  datum_of_id,
  number_stopped,
  number_and_count,
  wants_continued,
  wants_tagged,
)

pub ruleset streams = (some_split, one_split, beginnings_wait, splits_go_on, feeds_split, cuttings_alike, one_whole)

pub ruleset skipping = (some_past, one_past, past_goes_on, past_begins_so, fed_is_passed, feeds_past, past_cuttings_alike)

pub ruleset texts = (response_spells, canonical_reads_back, lent_is_same, said_alike, same_reads_back)

pub ruleset count_lines = (exists_read, recent_read, expunge_read)
