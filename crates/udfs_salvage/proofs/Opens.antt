-- What a volume that is found was made of.
use Rattle.std.proofs.Common.{◌≡◌, subst, ℕ}
use Rattle.udfs_volume.specs.declared.profiles.Profile.{Profile}
use Rattle.udfs_lattice.specs.Volumes.{Blocks}
use Rattle.udfs_tag.specs.declared.layouts.LongAd.{LongAd}
use Rattle.udfs_volume.specs.Answers.{found}
use Rattle.udfs_volume.specs.Layout.{Layout, layout_by}
use Rattle.udfs_space.specs.Sparing.{Space, space}
use Rattle.udfs_space.specs.Places.{view}
use Rattle.udfs_file.specs.Addresses.{file_set}
use Rattle.udfs_salvage.specs.Found.{Found, placed, rooted, volume_by}
use Rattle.udfs_salvage.proofs.Founds.{and_then-found, found_same}

pub record FoundBy (P : Profile) (T : Blocks) (N : ℕ) (f : Found) : Type 0 where
  pub layout_is : layout_by P T N ≡ found f.layout
  pub space_is : space T f.layout ≡ found f.space
  pub root_is : file_set (view T f.space) f.layout.file_set ≡ found f.root

pub found_by : (P : Profile) (T : Blocks) (N : ℕ) (f : Found) → volume_by P T N ≡ found f → FoundBy P T N f
unfolding volume_by
found_by P T N f e =
    let l : (l : Layout) × (layout_by P T N ≡ found l) × (placed T l ≡ found f) = and_then-found (layout_by P T N) (placed T) f e in
    let s : (s : Space) × (space T l.0 ≡ found s) × (rooted T l.0 s ≡ found f) = and_then-found (space T l.0) (rooted T l.0) f l.2 in
    let r : (root : LongAd) × (file_set (view T s.0) (l.0).file_set ≡ found root) × (found (record { layout = l.0; space = s.0; root = root }) ≡ found f) =
    and_then-found (file_set (view T s.0) (l.0).file_set) (λ root. found (record { layout = l.0; space = s.0; root = root })) f s.2 in
    subst (FoundBy P T N) (found_same (record { layout = l.0; space = s.0; root = r.0 }) f r.2) (record { layout_is = l.1; space_is = s.1; root_is = r.1 })
