-- Nodes with a fault, among nodes whose lists were let go.
use Rattle.std.proofs.Common.{◌≡◌, refl, ap, ◌&&◌, List, cond, map}
use Rattle.std.specs.Prelude.{count_by}
use Rattle.udfs_lattice.specs.Volumes.{Blocks}
use Rattle.udfs_volume.specs.Answers.{Answer, found, holes, faulty}
use Rattle.udfs_space.specs.Places.{View, view}
use Rattle.udfs_walk.specs.Bare.{full_node, lists_at, with_lists}
use Rattle.udfs_walk.specs.NodeBodies.{has_tail}
use Rattle.udfs_walk.specs.NodeFields.{NodeFields}
use Rattle.udfs_walk.specs.TornFields.{TornFields}
use Rattle.udfs_walk.specs.declared.standings.Standing.{Standing}
use Rattle.udfs_walk.specs.declared.standings.Standing.TheVariants.{Whole, Torn, Loop, Fault}
use Rattle.udfs_salvage.specs.Found.{Found}
use Rattle.udfs_salvage.specs.Surveys.{full_nodes}
use Rattle.udfs_overview.specs.NodeWidenings.{is_wider, wider_in}
use Rattle.udfs_overview.specs.Tallies.{is_faulty}
use Rattle.udfs_overview.proofs.Counting.{sum_same}

-- the lists do not say whether it has a fault
faulty_same : (lists : TornFields) (s : Standing) → is_faulty (with_lists lists s) ≡ is_faulty s
faulty_same lists Whole = refl
faulty_same lists (Torn torn) = refl
faulty_same lists Loop = refl
faulty_same lists (Fault f) = refl

wider_same : (w v : View) (n : NodeFields) → is_wider w (full_node v n) ≡ is_wider w n
wider_same w v n = ap (λ b. b && has_tail w n.icb) (faulty_same (lists_at v n.icb) n.standing)

nodes_full : (w v : View) (ns : List NodeFields) → count_by (is_wider w) (map (full_node v) ns) ≡ count_by (is_wider w) ns
nodes_full w v ns = sum_same (λ n. cond (is_wider w n) 1 0) (full_node v) (λ n. ap (λ b. cond b 1 0) (wider_same w v n)) 0 ns

all_full : (w : View) (M : Blocks) (answer : Answer Found) (ns : List NodeFields) → count_by (is_wider w) (full_nodes M answer ns) ≡ count_by (is_wider w) ns
all_full w M (found f) ns = nodes_full w (view M f.space) ns
all_full w M (holes listed) ns = refl
all_full w M (faulty fault) ns = refl

-- so the report of a survey has as many as the survey
pub wider_full : (M : Blocks) (answer other : Answer Found) (ns : List NodeFields) → wider_in M other (full_nodes M answer ns) ≡ wider_in M other ns
wider_full M answer (found f) ns = all_full (view M f.space) M answer ns
wider_full M answer (holes listed) ns = refl
wider_full M answer (faulty fault) ns = refl
