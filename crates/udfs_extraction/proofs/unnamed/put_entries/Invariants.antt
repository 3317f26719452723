-- Each entry so far has its fate, and its line where the output still takes them; what was written stays.
use Rattle.std.proofs.Common.{◌≡◌, ◌⊎◌, List, length}
use Rattle.udfs_host_fs.specs.Disk.{Fails, SinkFails}
use Rattle.udfs_salvage.specs.Listings.{listing_by}
use Rattle.udfs_extraction.specs.Extracting.{TellsLines, all_good}
use Rattle.udfs_extraction.specs.LostFiles.{EachLost, IsLostPut, SparesLost, lost_lines}
use Rattle.udfs_extraction.specs.declared.nodes.Fate.{Fate}
use Rattle.udfs_extraction.proofs.unnamed.put_entries.Given as goal

abbrev pub invariant-loop-index : goal.invariant-loop-index
invariant-loop-index g l =
    let F = g.F.Files in
    let S = g.O.Sink in
    record {
      put : g.B.BlockStore.tells → (fates : List Fate) × EachLost (IsLostPut F.tells (Fails F.faults ⊎ SinkFails g.F.Output.Sink.stream) (g.B.BlockStore.states l.listing.table.now) (listing_by g.B.BlockStore.states l.listing) l.folder l.two (F.holds l.files) (F.moment l.files) (F.left_since l.files)) (listing_by g.B.BlockStore.states l.listing).unnamed fates ×
          TellsLines l.heard (S.stream l.initial.out) (S.stream l.out) (lost_lines l.two (listing_by g.B.BlockStore.states l.listing).unnamed fates) × (length fates ≡ l.index) × (l.good ≡ all_good fates);
      spares : SparesLost F l.folder l.initial.files l.files;
    }
