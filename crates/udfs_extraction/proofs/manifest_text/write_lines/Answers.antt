use Rattle.std.proofs.Common.{◌≡◌, ◌∙◌, ◌++◌, get_or, sym}
use Rattle.udfs_salvage.specs.Listings.{listing_by}
use Rattle.udfs_extraction.specs.Manifests.{note_text}
use Rattle.udfs_extraction.proofs.ManifestJob.{more_appended, next_line, next_note}
use Rattle.udfs_extraction.proofs.manifest_text.write_lines.Goals as goal

pub loop-one-preserved : goal.loop-one-preserved
loop-one-preserved g c =
    let inv = c.loop-one.invariant in
    let poured = c.in_ok-pour.ensures.poured in
    let report = listing_by g.B.BlockStore.states c.args.listing.now in
    let line : c.push_noted.new.text.items ≡ c.loop-one.text.items ++ note_text c.args.short report (get_or c.args.noted.now c.loop-one.one-index _) = c.in_ok-at.ensures.line inv.way in
    record {
      out = (
        inv.out.0 ++ poured.0,
        more_appended _ _ _ inv.out.0 poured.0 inv.out.1 poured.1,
        next_line inv.out.0 poured.0 c.loop-one.text.items _ c.pour.new.text.items _ _ inv.out.2 (sym line ∙ poured.2) (next_note c.args.short report c.args.noted.now c.loop-one.one-index _ c.loop-one-test.true),
      );
      way = c.in_ok-at.ensures.way inv.way;
    }
