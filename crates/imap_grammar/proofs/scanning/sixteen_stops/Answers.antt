use Rattle.std.proofs.Common.{take, refl, sym}
use Rattle.std.proofs.lemmas.Simd.{zip2_splat, zip2_of_maps, length-chunk}
use Rattle.imap_grammar.specs.Scanning.{may_stop}
use Rattle.imap_grammar.proofs.Lanes.{end_of_lanes}
use Rattle.imap_grammar.proofs.scanning.sixteen_stops.Goals as goal

pub returns : goal.returns
returns c =
    let v = take 16 c.args.i.now in
    let long = length-chunk 0 16 c.args.i.now c.requires in
    sym (end_of_lanes may_stop c.args.i.now _ _ c.requires c.type_inv.i
    (zip2_of_maps _ _ _ v (zip2_of_maps _ _ _ v (zip2_splat _ v 16 _ long) (zip2_splat _ v 16 _ long)) (zip2_splat _ v 16 _ long))
    refl)
