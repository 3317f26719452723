use Rattle.std.proofs.Common.{arith, sym}
use Rattle.std.proofs.lemmas.List.{length-take-le, take_all}
use Rattle.udfs_page.proofs.holes.first_ranges.Goals as goal

pub returns-then-holes-le-SHOWN_RANGES : goal.returns-then-holes-le-SHOWN_RANGES
returns-then-holes-le-SHOWN_RANGES c = sym (take_all 50 c.args.holes.now c.if-holes-le-SHOWN_RANGES.true)

pub slice_bounds-result-end : goal.slice_bounds-result-end
slice_bounds-result-end c = sym (length-take-le 50 c.args.holes.now (omega (arith, c.if-holes-le-SHOWN_RANGES.false)))
