-- Folders in which tags name another place, among nodes whose lists were let go.
use Rattle.std.proofs.Common.{◌≡◌, refl, ap, ◌∙◌, sym, ◌&&◌, false, List, cond, map}
use Rattle.std.specs.Prelude.{count_by}
use Rattle.udfs_lattice.specs.Volumes.{Blocks}
use Rattle.udfs_tag.specs.declared.layouts.LongAd.{LongAd}
use Rattle.udfs_volume.specs.Answers.{Answer, found, holes, faulty}
use Rattle.udfs_volume.specs.declared.profiles.Profile.{Profile}
use Rattle.udfs_volume.specs.declared.profiles.Profile.TheVariants.{Strict, Wide}
use Rattle.udfs_space.specs.Places.{View, view}
use Rattle.udfs_file.specs.Bodies.{Body, body, cells, faulty_body}
use Rattle.udfs_file.specs.Entries.{EntryFields}
use Rattle.udfs_file.specs.Fronts.{has_moved_tags}
use Rattle.udfs_file.specs.declared.cells.Cell.{Cell}
use Rattle.udfs_file.specs.declared.faults.Kind.{Kind}
use Rattle.udfs_walk.specs.Bare.{full_node, lists_at, with_lists}
use Rattle.udfs_walk.specs.NodeBodies.{HasCells}
use Rattle.udfs_walk.specs.NodeFields.{NodeFields}
use Rattle.udfs_walk.specs.Targets.{Target, bad, unread, entry, target}
use Rattle.udfs_walk.specs.TornFields.{TornFields}
use Rattle.udfs_walk.specs.declared.standings.Standing.{Standing}
use Rattle.udfs_walk.specs.declared.standings.Standing.TheVariants.{Whole, Torn, Loop, Fault}
use Rattle.udfs_salvage.specs.Found.{Found}
use Rattle.udfs_salvage.specs.Surveys.{full_nodes}
use Rattle.udfs_overview.specs.MovedTags.{body_moved, is_folder, is_moved, is_moved_by, moved_by, target_moved}
use Rattle.udfs_overview.proofs.Counting.{sum_same}

-- a body that is found
pub body_found : (v : View) (a : LongAd) (cs : List Cell) → HasCells v a cs → has_moved_tags cs ≡ target_moved v a (target v a)
body_found v a cs h = sym (ap (target_moved v a) h.is_entry ∙ ap body_moved h.has_body)

-- and one that is not
pub none_found : (v : View) (a : LongAd) → ((cs : List Cell) → ¬ HasCells v a cs) → false ≡ target_moved v a (target v a)
none_found v a absent = go (target v a) refl
  where
    by : (e : EntryFields) → target v a ≡ entry e → (b : Body) → body v a.reference a.block e ≡ b → false ≡ body_moved b
    by e t (cells cs) q = absurd (absent cs (record { fields = e; is_entry = t; has_body = q }))
    by e t (faulty_body f) q = refl

    go : (t : Target) → target v a ≡ t → false ≡ target_moved v a t
    go (bad f) e = refl
    go (unread n) e = refl
    go (entry e) t = by e t (body v a.reference a.block e) refl

-- the lists do not say whether it is a folder
folder_same : (lists : TornFields) (s : Standing) (k : Kind) → is_folder (with_lists lists s) k ≡ is_folder s k
folder_same lists Whole k = refl
folder_same lists (Torn torn) k = refl
folder_same lists Loop k = refl
folder_same lists (Fault f) k = refl

moved_same : (p : Profile) (v : View) (n : NodeFields) → is_moved_by p v (full_node v n) ≡ is_moved_by p v n
moved_same Strict v n = refl
moved_same Wide v n = ap (λ b. b && target_moved v n.icb (target v n.icb)) (folder_same (lists_at v n.icb) n.standing n.kind)

folders_full : (v : View) (ns : List NodeFields) → count_by (is_moved v) (map (full_node v) ns) ≡ count_by (is_moved v) ns
folders_full v ns = sum_same (λ n. cond (is_moved v n) 1 0) (full_node v) (λ n. ap (λ b. cond b 1 0) (moved_same v.profile v n)) 0 ns

-- so the report of a survey has as many as the survey
pub moved_full : (M : Blocks) (answer : Answer Found) (ns : List NodeFields) → moved_by M answer (full_nodes M answer ns) ≡ moved_by M answer ns
moved_full M (found f) ns = folders_full (view M f.space) ns
moved_full M (holes listed) ns = refl
moved_full M (faulty fault) ns = refl
