-- Files with named streams, among nodes and entries whose lists were let go.
use Rattle.std.proofs.Common.{◌≡◌, refl, ap, ◌∙◌, ◌+◌, ◌&&◌, List, cond, map}
use Rattle.std.specs.Prelude.{count_by}
use Rattle.udfs_lattice.specs.Volumes.{Blocks}
use Rattle.udfs_volume.specs.Answers.{Answer, found, holes, faulty}
use Rattle.udfs_space.specs.Places.{View, block_at, view}
use Rattle.udfs_file.specs.declared.faults.Kind.{Kind}
use Rattle.udfs_walk.specs.Bare.{full_entry, full_node, lists_at, with_lists}
use Rattle.udfs_walk.specs.NodeFields.{NodeFields}
use Rattle.udfs_walk.specs.TornFields.{TornFields}
use Rattle.udfs_walk.specs.Targets.{icb_at}
use Rattle.udfs_walk.specs.UnnamedEntries.{address_of}
use Rattle.udfs_walk.specs.declared.answers.Unnamed.{Unnamed}
use Rattle.udfs_walk.specs.declared.standings.Standing.{Standing}
use Rattle.udfs_walk.specs.declared.standings.Standing.TheVariants.{Whole, Torn, Loop, Fault}
use Rattle.udfs_salvage.specs.Found.{Found}
use Rattle.udfs_salvage.specs.Surveys.{full_entries, full_nodes}
use Rattle.udfs_overview.specs.Streams.{block_names_streams, entry_has_streams, has_streams, is_read_file, streams_by}
use Rattle.udfs_overview.proofs.Counting.{sum_same}
use Rattle.udfs_overview.proofs.DiscCounting.{count_same}

-- the lists do not say whether it is a file, whole or torn
read_same : (lists : TornFields) (s : Standing) (k : Kind) → is_read_file (with_lists lists s) k ≡ is_read_file s k
read_same lists Whole k = refl
read_same lists (Torn torn) k = refl
read_same lists Loop k = refl
read_same lists (Fault f) k = refl

pub named_full : (v : View) (ns : List NodeFields) → count_by (has_streams v) (map (full_node v) ns) ≡ count_by (has_streams v) ns
named_full v ns =
    sum_same (λ n. cond (has_streams v n) 1 0) (full_node v)
    (λ n. ap (λ b. cond (b && block_names_streams (block_at v n.icb.reference n.icb.block)) 1 0) (read_same (lists_at v n.icb) n.standing n.kind)) 0 ns

pub nameless_full : (v : View) (us : List Unnamed) → count_by (entry_has_streams v) (map (full_entry v) us) ≡ count_by (entry_has_streams v) us
nameless_full v us =
    count_same (entry_has_streams v) (full_entry v)
    (λ u. ap (λ b. b && block_names_streams (block_at v u.reference u.block)) (read_same (lists_at v (address_of (icb_at u.reference u.block))) u.standing u.kind)) 0 us

-- so the report of a survey has as many as the survey
pub streams_full : (M : Blocks) (answer : Answer Found) (ns : List NodeFields) (us : List Unnamed)
    → streams_by M answer (full_nodes M answer ns) (full_entries M answer us) ≡ streams_by M answer ns us
streams_full M (found f) ns us = let v = view M f.space in ap (λ k. k + count_by (entry_has_streams v) (map (full_entry v) us)) (named_full v ns) ∙ ap (λ k. count_by (has_streams v) ns + k) (nameless_full v us)
streams_full M (holes listed) ns us = refl
streams_full M (faulty fault) ns us = refl
