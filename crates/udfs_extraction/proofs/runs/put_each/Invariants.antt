-- What was done with each node of the run so far is held, and no file was at the path of one that was written.
use Rattle.std.proofs.Common.{◌≡◌, ◌+◌, ◌-◌, ℕ, Bor, List, length, map}
use Rattle.udfs_salvage.specs.Listings.{listing_by}
use Rattle.udfs_extraction.specs.Runs.{AreFresh, AreHeld, ArePlaced, SparesRun}
use Rattle.udfs_extraction.specs.ShortNames.{IsWay}
use Rattle.udfs_extraction.proofs.runs.put_each.Given as goal

abbrev pub invariant-loop-index : goal.invariant-loop-index
invariant-loop-index g l =
    let F = g.F.Files in
    record {
      held : g.B.BlockStore.tells → AreHeld F g.F.Output.Sink.stream l.files (map (λ (word : Bor (List ℕ)). word.now) l.only) (g.B.BlockStore.states l.listing.table.now) (listing_by g.B.BlockStore.states l.listing) l.fill l.short l.digest l.folder l.first l.puts.items;
      placed : ArePlaced (map (λ (word : Bor (List ℕ)). word.now) l.only) (listing_by g.B.BlockStore.states l.listing) l.fill l.short l.folder l.first l.puts.items;
      fresh : F.tells → AreFresh (F.holds l.initial.files) l.puts.items;
      count : l.first + length l.puts.items ≡ l.index;
      way : IsWay (listing_by g.B.BlockStore.states l.listing).nodes (l.index - 1) l.way.items;
      spares : SparesRun F (map (λ (word : Bor (List ℕ)). word.now) l.only) l.fill l.short (listing_by g.B.BlockStore.states l.listing) l.folder l.initial.files l.files;
    }
