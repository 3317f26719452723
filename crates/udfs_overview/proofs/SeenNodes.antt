-- The nodes of a volume that opens, seen by what its table knows, are those of the report.
use Rattle.std.proofs.Common.{◌≡◌, ◌∙◌, [], ◌∷◌, ap, List, map, refl, sym}
use Rattle.std.specs.Prelude.{drop, flat_map}
use Rattle.udfs_lattice.specs.Volumes.{Blocks}
use Rattle.udfs_volume.specs.Answers.{Answer, found, holes, faulty}
use Rattle.udfs_space.specs.Places.{View, view}
use Rattle.udfs_walk.specs.Bare.{full_node, node_with}
use Rattle.udfs_walk.specs.NodeFields.{NodeFields}
use Rattle.udfs_salvage.specs.Found.{Found}
use Rattle.udfs_salvage.specs.Listings.{full_in}
use Rattle.udfs_salvage.specs.Surveys.{full_nodes}
use Rattle.udfs_overview.specs.NodeLists.{lines_by, listed_in}
use Rattle.udfs_overview.specs.declared.node_list.ListForm.{ListForm}

pub seen_nodes : (M : Blocks) (answer : Answer Found) (f : Found) (v : View) (ns ms : List NodeFields) → answer ≡ found f → v ≡ view M f.space → ns ≡ ms
    → map (full_node v) ns ≡ full_nodes M answer ms
seen_nodes M answer f v ns ms opened seen same = ap (λ w. map (full_node w) ns) seen ∙ ap (λ a. full_nodes M a ns) (sym opened) ∙ ap (full_nodes M answer) same

-- and so are their lines
pub seen_lines : (form : ListForm) (M : Blocks) (answer : Answer Found) (f : Found) (v : View) (ns ms : List NodeFields) → answer ≡ found f → v ≡ view M f.space → ns ≡ ms
    → flat_map (listed_in form v) (drop 1 (map (full_node v) ns)) ≡ lines_by form M answer (drop 1 (full_nodes M answer ms))
seen_lines form M answer f v ns ms opened seen same = (λ i. flat_map (listed_in form (seen i)) (drop 1 (seen_nodes M answer f v ns ms opened seen same i)))
    ∙ (λ i. lines_by form M (sym opened i) (drop 1 (full_nodes M answer ms)))

same_nodes : (ns : List NodeFields) → map (λ n. node_with n n.standing) ns ≡ ns
same_nodes [] = refl
same_nodes (n ∷ ns) = ap (λ l. n ∷ l) (same_nodes ns)

-- the nodes of a survey are those of a listing
pub full_listed : (M : Blocks) (answer : Answer Found) (ns : List NodeFields) → full_nodes M answer ns ≡ map (full_in M answer) ns
full_listed M (found f) ns = refl
full_listed M (holes listed) ns = sym (same_nodes ns)
full_listed M (faulty fault) ns = sym (same_nodes ns)
