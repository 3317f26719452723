-- The names so far, or the short ones of those that are too long.
use Rattle.std.proofs.Common.{◌≡◌, ◌++◌, ℕ, List, Some, slice_get, take}
use Rattle.std.specs.String.{string_bytes}
use Rattle.udfs_salvage.specs.NodeTexts.{names_text}
use Rattle.udfs_walk.specs.NodeFields.{NodeFields}
use Rattle.udfs_salvage.specs.Listings.{listing_by}
use Rattle.udfs_extraction.specs.ShortNames.{IsWay, icb_above, parts}
use Rattle.udfs_extraction.proofs.places.push_parts.Given as goal

abbrev pub invariant-loop-depth : goal.invariant-loop-depth
invariant-loop-depth g l = record {
  text : (n : NodeFields) → slice_get (listing_by g.B.BlockStore.states l.listing).nodes l.index ≡ Some n → IsWay (listing_by g.B.BlockStore.states l.listing).nodes l.index l.way →
      string_bytes l.text ≡ string_bytes l.fn.text ++ names_text (parts l.two (icb_above (listing_by g.B.BlockStore.states l.listing).nodes l.index n) 1 (take l.depth l.path));
  names : (names : List (List ℕ)) × (string_bytes l.text ≡ string_bytes l.fn.text ++ names_text names);
}
