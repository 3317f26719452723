-- The members of a volume, by the places of their keys.
use Rattle.std.proofs.Common.{◌≡◌, refl, sym, ap, ℕ, ◌≤◌, List, [], ◌∷◌, length, map, arith, Option, Some, None}
use Rattle.std.specs.Prelude.{codes}
use Rattle.std.proofs.lemmas.Simd.{map-map}
use Rattle.serde_json.specs.Data.{Data, Members, array, member, no_members, put, string}
use Rattle.serde_json.specs.View.{items_of}
use Rattle.udfs_volume.specs.declared.profiles.Profile.{Profile}
use Rattle.udfs_volume.specs.declared.profiles.Profile.TheVariants.{Strict, Wide}
use Rattle.udfs_volume.specs.Layout.{Partition}
use Rattle.udfs_volume.specs.LayoutParts.{partition_now}
use Rattle.udfs_volume.specs.declared.layouts.Partition as code_partition
use Rattle.udfs_salvage.specs.JsonNodes.{list_data}
use Rattle.udfs_salvage.specs.JsonReports.{map_name, open_members, put_maps, put_packet, put_profile, with_map_members, with_packet, with_profile}

pub volume_members : (ps : List Partition) (packet : Option ℕ) (r : ℕ) → put_maps ps (put_packet packet (open_members r)) ≡ with_map_members ps (with_packet packet (open_members r))
volume_members [] None r = refl
volume_members [] (Some n) r = refl
volume_members (p ∷ []) None r = refl
volume_members (p ∷ []) (Some n) r = refl
volume_members (p ∷ q ∷ ps) None r = refl
volume_members (p ∷ q ∷ ps) (Some n) r = refl

-- the members of a report
pub report_members : (P : Profile) (conflict known label last nodes rereads unnamed volume : Data) →
    put_profile P (put (codes "volume") volume (put (codes "unnamed") unnamed (put (codes "reread") rereads (put (codes "nodes") nodes (put (codes "last") last
    (put (codes "label") label (put (codes "known") known (put (codes "conflict") conflict no_members))))))))
    ≡ member (codes "conflict") conflict (member (codes "known") known (member (codes "label") label (member (codes "last") last (member (codes "nodes") nodes
    (with_profile P (member (codes "reread") rereads (member (codes "unnamed") unnamed (member (codes "volume") volume no_members))))))))
report_members Strict conflict known label last nodes rereads unnamed volume = refl
report_members Wide conflict known label last nodes rereads unnamed volume = refl

-- where there are two, their names are listed
pub two_maps : (xs : List code_partition.Partition) (ms : Members) → 2 ≤ length xs
    → put (codes "maps") (list_data (λ p. string (map_name (partition_now p).kind)) xs) ms ≡ put_maps (map partition_now xs) ms
two_maps [] ms h = absurd (let z : ⊥ = omega (arith, h) in z)
two_maps (p ∷ []) ms h = absurd (let z : ⊥ = omega (arith, h) in z)
two_maps (p ∷ q ∷ xs) ms h =
    let name = λ (x : Partition). string (map_name x.kind) in
    ap (λ ds. put (codes "maps") (array (items_of (name (partition_now p) ∷ name (partition_now q) ∷ ds))) ms) (sym (map-map name partition_now xs))
