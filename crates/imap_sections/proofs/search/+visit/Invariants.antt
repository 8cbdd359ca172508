use Rattle.std.proofs.Common.{◌≡◌, ◌++◌, ◌+◌, map, drop}
use Rattle.imap_grammar.specs.Text.{text_of}
use Rattle.imap_body_types.specs.Spans.{bytes_of}
use Rattle.imap_body_types.specs.BodyValues.{bodies_of, body_seen}
use Rattle.imap_sections.specs.Search.{visited, visited_from, too_many, too_many_in, part_seen}
use Rattle.imap_sections.proofs.search.+visit.Given as goal

abbrev pub invariant-loop-inner : goal.invariant-loop-inner
invariant-loop-inner l = record {
  seen : map part_seen l.parts.items ++ visited_from l.fn.path.items (l.number + 1) (bodies_of (map (body_seen text_of bytes_of) (drop l.inner-index l.inner-items))) ≡ map part_seen l.fn.parts.items ++ visited l.fn.path.items (body_seen text_of bytes_of l.fn.body);
  many : too_many_in (bodies_of (map (body_seen text_of bytes_of) (drop l.inner-index l.inner-items))) ≡ too_many (body_seen text_of bytes_of l.fn.body);
  path : l.path.items ≡ l.fn.path.items;
  number : l.number ≡ l.inner-index;
}
