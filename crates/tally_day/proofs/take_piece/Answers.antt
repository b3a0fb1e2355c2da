-- `tally_day::take_piece` meets its contract: the part behind the whole lines is what is carried. Assumes nothing.
use mathlib.Core.Path.{ap}
use lib.Seq.{length-take-le}
use native.Mathlib.Omega.{arith}
use Rattle.tally.specs.declared.TalliedPiece.{TalliedPiece}
use Rattle.tally.specs.Tally.{fed_on}
use Rattle.tally_day.proofs.LawsCarried.{part_kept_lem}
use Rattle.tally_day.proofs.take_piece.Goals as goal

-- where the whole lines end, by the feed's contract
pub carry-have-requires : goal.carry-have-requires
unfolding fed_on
carry-have-requires c =
    let long = length-take-le c.args.end c.args.input.now c.requires in
    (omega (arith, ap (λ (f : TalliedPiece). f.at) c.feed-fed.ensures, long), c.requires)

pub returns-clause-tally_value : goal.returns-clause-tally_value
unfolding fed_on
returns-clause-tally_value c = ap (λ (f : TalliedPiece). f.tally) c.feed-fed.ensures

pub returns-clause-input_after : goal.returns-clause-input_after
unfolding fed_on
returns-clause-input_after c =
    let a = c.args in
    let k = c.carry-have in
    let place = ap (λ (f : TalliedPiece). f.at) c.feed-fed.ensures in
    (part_kept_lem a.input.now a.end c.feed-fed.result.at k.result k.new.input place k.ensures.value k.ensures.input_after).0

pub returns-clause-have_le_part_kept : goal.returns-clause-have_le_part_kept
unfolding fed_on
returns-clause-have_le_part_kept c =
    let a = c.args in
    let k = c.carry-have in
    let place = ap (λ (f : TalliedPiece). f.at) c.feed-fed.ensures in
    (part_kept_lem a.input.now a.end c.feed-fed.result.at k.result k.new.input place k.ensures.value k.ensures.input_after).1
