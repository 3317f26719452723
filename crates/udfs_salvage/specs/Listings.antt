-- Listings: what a table says of a volume and its nodes, without the blocks and the holes of torn ones.
--     full_in blocks volume n                  a node with what is missing of it
--     full_entry_in blocks volume u            an entry that no name leads to, with what is missing of it
--     listing_by states listing                the report whose nodes these are
--     listing_now listing                      the same over a table
--     AreUnnamedBy states listing entries      these are the entries that no name leads to, without the blocks and the holes of torn ones
use Rattle.std.specs.Prelude.{◌≡◌, List, [], ℕ, map}
use Rattle.udfs_tag.specs.declared.layouts.LongAd.{LongAd}
use Rattle.udfs_lattice.specs.Tables.{Table, state_of}
use Rattle.udfs_lattice.specs.Volumes.{Blocks}
use Rattle.udfs_volume.specs.Answers.{Answer, found, holes, faulty}
use Rattle.udfs_space.specs.Places.{view}
use Rattle.udfs_walk.specs.Bare.{lists_at, node_with, with_lists, with_standing}
use Rattle.udfs_walk.specs.NodeFields.{NodeFields}
use Rattle.udfs_walk.specs.Rereads.{reread}
use Rattle.udfs_walk.specs.Targets.{icb_at}
use Rattle.udfs_walk.specs.UnnamedEntries.{address_of, unnamed}
use Rattle.udfs_walk.specs.declared.answers.Unnamed.{Unnamed}
use Rattle.udfs_walk.specs.declared.standings.Standing.{Standing}
use Rattle.udfs_salvage.specs.Found.{Found, volume_now}
use Rattle.udfs_salvage.specs.Reports.{Report}
use Rattle.udfs_salvage.specs.declared.listings.Listing as code_listing

-- the standing of what an address of the volume leads to, with what is missing of it
abbrev pub standing_in : Blocks → Answer Found → LongAd → Standing → Standing
standing_in blocks (found f) a standing = with_lists (lists_at (view blocks f.space) a) standing
standing_in blocks (holes listed) a standing = standing
standing_in blocks (faulty fault) a standing = standing

-- a node with what is missing of it
abbrev pub full_in : Blocks → Answer Found → NodeFields → NodeFields
full_in blocks volume n = node_with n (standing_in blocks volume n.icb n.standing)

-- an entry that no name leads to, with what is missing of it
abbrev pub full_entry_in : Blocks → Answer Found → Unnamed → Unnamed
full_entry_in blocks volume u = with_standing u (standing_in blocks volume (address_of (icb_at u.reference u.block)) u.standing)

-- the entries that no name leads to; the empty list for a volume that does not open
abbrev pub unnamed_in : Blocks → Answer Found → List NodeFields → List Unnamed
unnamed_in blocks (found f) nodes = unnamed (view blocks f.space) f.space nodes
unnamed_in blocks (holes listed) nodes = []
unnamed_in blocks (faulty fault) nodes = []

-- the blocks to read again
abbrev pub reread_in : Answer Found → List NodeFields → List ℕ
reread_in (found f) nodes = reread nodes
reread_in (holes listed) nodes = listed
reread_in (faulty fault) nodes = []

-- the nodes of a listing with what is missing of them
abbrev pub listed_nodes : {B : Type 0} → (B → Blocks) → code_listing.Listing B → List NodeFields
listed_nodes states l = map (full_in (states l.table.now) (volume_now l.volume)) l.nodes.items

-- the report of which a listing of a store has the volume and the nodes, where these are the store's states
abbrev pub listing_by : {B : Type 0} → (B → Blocks) → code_listing.Listing B → Report
listing_by states l = record {
  volume = volume_now l.volume;
  nodes = listed_nodes states l;
  unnamed = unnamed_in (states l.table.now) (volume_now l.volume) (listed_nodes states l);
  reread = reread_in (volume_now l.volume) (listed_nodes states l);
}

-- the same of a table's
abbrev pub listing_now : code_listing.Listing Table → Report
listing_now = listing_by state_of

-- the entries that no name leads to, once it is found what is missing of them
abbrev pub AreUnnamedBy : {B : Type 0} → (B → Blocks) → code_listing.Listing B → List Unnamed → Type 0
AreUnnamedBy states l entries = map (full_entry_in (states l.table.now) (volume_now l.volume)) entries ≡ (listing_by states l).unnamed

-- the same of a table's
abbrev pub AreUnnamed : code_listing.Listing Table → List Unnamed → Type 0
AreUnnamed = AreUnnamedBy state_of
