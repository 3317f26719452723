-- The nodes that were not read, among nodes whose lists were let go.
use Rattle.std.proofs.Common.{◌≡◌, refl, List, [], ◌∷◌, cond, map, Some, None}
use Rattle.std.specs.Prelude.{filter_map}
use Rattle.std.specs.List.{cons_option}
use Rattle.udfs_lattice.specs.Volumes.{Blocks}
use Rattle.udfs_volume.specs.Answers.{Answer, found, holes, faulty}
use Rattle.udfs_space.specs.Places.{View, view}
use Rattle.udfs_walk.specs.Bare.{full_node, lists_at}
use Rattle.udfs_walk.specs.NodeFields.{NodeFields}
use Rattle.udfs_salvage.specs.Found.{Found}
use Rattle.udfs_salvage.specs.Surveys.{full_nodes}
use Rattle.udfs_overview.specs.UnreadLists.{unread_path, unread_paths}
use Rattle.udfs_overview.specs.declared.tallies.NodeSort.TheVariants as sort
use Rattle.udfs_overview.proofs.Counting.{same_of}

unread_same : (v : View) (ns : List NodeFields) → filter_map unread_path (map (full_node v) ns) ≡ filter_map unread_path ns
unread_same v [] = refl
unread_same v (n ∷ ns) = λ i. cons_option (cond (same_of sort.Unread (lists_at v n.icb) n.standing n.kind i) (Some n.path) None) (unread_same v ns i)

pub unread_full : (M : Blocks) (answer : Answer Found) (ns : List NodeFields) → unread_paths (full_nodes M answer ns) ≡ unread_paths ns
unfolding unread_paths
unread_full M (found f) ns = unread_same (view M f.space) ns
unread_full M (holes listed) ns = refl
unread_full M (faulty fault) ns = refl
