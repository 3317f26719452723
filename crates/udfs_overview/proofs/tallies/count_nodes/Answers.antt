use Rattle.std.proofs.Common.{◌∙◌, ap, cond, not, sym}
use Rattle.udfs_overview.specs.Tallies.{at_most_128_bits, tally_with}
use Rattle.udfs_overview.specs.TornFiles.{torn_now}
use Rattle.udfs_overview.specs.TornRows.{TornPart}
use Rattle.udfs_overview.proofs.Counting.{sum_mapped}
use Rattle.udfs_overview.proofs.tallies.count_nodes.Goals as goal

pub returns : goal.returns
unfolding tally_with
returns c =
    let fs = c.args.torn.now in
    let damaged = c.damaged_count.ensures ∙ sym (sum_mapped (λ (f : TornPart). cond (not f.disputed) 1 0) torn_now 0 fs) in
    let bytes = c.damaged_bytes.ensures ∙ sym (sum_mapped (λ (f : TornPart). cond f.disputed 0 f.size) torn_now 0 fs) in
    let lost = c.damaged_lost.ensures ∙ ap at_most_128_bits (sym (sum_mapped (λ (f : TornPart). cond f.disputed 0 f.lost) torn_now 0 fs)) in
    let disputed = c.disputed_count.ensures ∙ sym (sum_mapped (λ (f : TornPart). cond f.disputed 1 0) torn_now 0 fs) in
    λ j. record {
      whole_files = c.count_of.ensures j;
      whole_bytes = c.bytes_of.ensures j;
      torn_files = damaged j;
      torn_bytes = bytes j;
      lost_bytes = lost j;
      disputed = disputed j;
      unread = c.count_of-2.ensures j;
      whole_folders = c.count_of-3.ensures j;
      torn_folders = c.count_of-4.ensures j;
      others = c.count_aside.ensures j;
      left_out = c.count_left_out.ensures j;
      faulty = c.count_of-5.ensures j;
      loops = c.count_of-6.ensures j;
    }
