-- The first torn directory, among nodes whose lists were let go.
use Rattle.std.proofs.Common.{◌≡◌, refl, ap, Bool, true, false, List, [], ◌∷◌, map, Some}
use Rattle.std.specs.Prelude.{Option, find, option_map, cond}
use Rattle.udfs_lattice.specs.Volumes.{Blocks}
use Rattle.udfs_volume.specs.Answers.{Answer, found, holes, faulty}
use Rattle.udfs_space.specs.Places.{view}
use Rattle.udfs_walk.specs.Bare.{full_node, lists_at}
use Rattle.udfs_walk.specs.NodeFields.{NodeFields}
use Rattle.udfs_salvage.specs.Found.{Found}
use Rattle.udfs_salvage.specs.Surveys.{full_nodes}
use Rattle.udfs_overview.specs.Summaries.{torn_folder}
use Rattle.udfs_overview.specs.Tallies.{is_node_of}
use Rattle.udfs_overview.specs.declared.tallies.NodeSort.TheVariants as sort
use Rattle.udfs_overview.proofs.Counting.{same_of}

by_test : (b d : Bool) (n : NodeFields) (x y : Option NodeFields) (m : NodeFields) → b ≡ d → m.path ≡ n.path → option_map (λ (n : NodeFields). n.path) x ≡ option_map (λ (n : NodeFields). n.path) y
    → option_map (λ (n : NodeFields). n.path) (cond b (Some m) x) ≡ option_map (λ (n : NodeFields). n.path) (cond d (Some n) y)
by_test true true n x y m e same h = ap Some same
by_test true false n x y m e same h = absurd (let z : ⊥ = cc in z)
by_test false true n x y m e same h = absurd (let z : ⊥ = cc in z)
by_test false false n x y m e same h = h

folder_mapped : (M : Blocks) (f : Found) (ns : List NodeFields) → torn_folder (map (full_node (view M f.space)) ns) ≡ torn_folder ns
folder_mapped M f [] = refl
folder_mapped M f (n ∷ ns) =
    let g = full_node (view M f.space) in
    by_test (is_node_of sort.TornFolder (g n)) (is_node_of sort.TornFolder n) n (find (is_node_of sort.TornFolder) (map g ns)) (find (is_node_of sort.TornFolder) ns) (g n)
    (same_of sort.TornFolder (lists_at (view M f.space) n.icb) n.standing n.kind) refl (folder_mapped M f ns)

pub folder_full : (M : Blocks) (answer : Answer Found) (ns : List NodeFields) → torn_folder (full_nodes M answer ns) ≡ torn_folder ns
folder_full M (found f) ns = folder_mapped M f ns
folder_full M (holes listed) ns = refl
folder_full M (faulty fault) ns = refl
