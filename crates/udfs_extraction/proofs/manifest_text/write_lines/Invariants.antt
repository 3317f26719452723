-- What is out and what is held are the lines so far.
use Rattle.std.proofs.Common.{◌≡◌, ◌++◌, List, ℕ, take}
use Rattle.std.specs.Io.KnownBytes.{Appends}
use Rattle.udfs_salvage.specs.Listings.{listing_by}
use Rattle.udfs_extraction.specs.Manifests.{notes_text}
use Rattle.udfs_extraction.specs.ShortNames.{IsWay}
use Rattle.udfs_extraction.proofs.manifest_text.write_lines.Given as goal

abbrev pub invariant-loop-one : goal.invariant-loop-one
invariant-loop-one g l = record {
  out : (out : List ℕ) × Appends (g.W.Sink.stream l.initial.sink).contents (g.W.Sink.stream l.sink).contents out × (out ++ l.text.items ≡ notes_text l.short (listing_by g.B.BlockStore.states l.listing) (take l.one-index l.noted));
  way : IsWay (listing_by g.B.BlockStore.states l.listing).nodes l.at l.way.items;
}
