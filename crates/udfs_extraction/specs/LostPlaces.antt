-- Where `extract --lost` looks for what is lost: in a volume that opens; and in place of one that does not, in all that is known of it by its layout and the places of
-- its blocks, where these are found.
--     stand_in p                             such a volume as if it opened: its root is nowhere, so that no name leads to any of its entries
--     IsPlaceOf states listing standing        a listing that stands in is of that volume
--     lost_report profile blocks last report   the report of that volume, for the report of one that does not open
use Rattle.std.specs.Prelude.{◌≡◌, ℕ, Option, Some, None, [], cond}
use Rattle.udfs_lattice.specs.Volumes.{Blocks}
use Rattle.udfs_tag.specs.declared.layouts.LongAd.{LongAd}
use Rattle.udfs_volume.specs.Answers.{Answer, found, holes, faulty}
use Rattle.udfs_volume.specs.declared.profiles.Profile.{Profile}
use Rattle.udfs_lost.specs.PlacedVolumes.{Placed, if_found, placed_by}
use Rattle.udfs_salvage.specs.Found.{Found}
use Rattle.udfs_salvage.specs.Listings.{listing_by}
use Rattle.udfs_salvage.specs.Reports.{Report}
use Rattle.udfs_salvage.specs.declared.listings.Listing as code_listing
use Rattle.udfs_overview.specs.Disagreements.{has_room}
use Rattle.udfs_extraction.specs.LostTrees.{nodes_report}

-- an address that leads nowhere
abbrev pub nowhere : LongAd
nowhere = record { kind = 0; length = 0; block = 0; reference = 0 }

-- a volume by its layout and places, as if it opened
abbrev pub stand_in : Placed → Found
stand_in p = record { layout = p.layout; space = p.space; root = nowhere }

-- the layout and the places, where they are found, of a disc that has room for a volume
unfoldable pub placed_at : Profile → Blocks → ℕ → Option Placed
placed_at profile blocks last = cond (has_room last) (if_found (placed_by profile blocks last)) None

-- the report of a volume of which this is known, which has no nodes and all entries; where that is not found, the one that there is
abbrev pub report_of : Blocks → Report → Option Placed → Report
report_of blocks report None = report
report_of blocks report (Some p) = nodes_report blocks (found (stand_in p)) []

-- the same in place of the report of a volume that does not open
abbrev pub report_unless : Answer Found → Report → Report → Report
report_unless (found f) report other = report
report_unless (holes listed) report other = other
report_unless (faulty fault) report other = other

-- the report of the volume in which what is lost is looked for
abbrev pub lost_report : Profile → Blocks → ℕ → Report → Report
lost_report profile blocks last report = report_unless report.volume report (report_of blocks report (placed_at profile blocks last))

-- a listing, or the one that stands in for it, is of the volume in which what is lost is looked for, over the same store
abbrev pub IsPlaceOf : {B : Type 0} → (B → Blocks) → code_listing.Listing B → Option (code_listing.Listing B) → Type 0
IsPlaceOf states l None = listing_by states l ≡ lost_report l.profile (states l.table.now) l.last (listing_by states l)
IsPlaceOf states l (Some place) = (listing_by states place ≡ lost_report l.profile (states l.table.now) l.last (listing_by states l)) × (place.table.now ≡ l.table.now)

-- the listing that stands in for another is that of its volume as if it opened, over the same store, where the layout and the places are found
abbrev pub IsStandIn : {B : Type 0} → (B → Blocks) → code_listing.Listing B → Option (code_listing.Listing B) → Type 0
IsStandIn states l None = placed_at l.profile (states l.table.now) l.last ≡ None
IsStandIn states l (Some place) = (p : Placed) × (placed_at l.profile (states l.table.now) l.last ≡ Some p) × (listing_by states place ≡ nodes_report (states l.table.now) (found (stand_in p)) []) × (place.table.now ≡ l.table.now)
