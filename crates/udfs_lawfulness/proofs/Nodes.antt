-- The nodes of the volume of many forms: its root and two files, all whole.
use Rattle.std.proofs.Common.{◌≡◌, ◌≢◌, refl, ap, ℕ, List, [], ◌∷◌, arith}
use Rattle.udfs_tag.specs.Crc.{polynomial, reduced, crc_of}
use Rattle.udfs_tag.specs.Tags.{tag_of}
use Rattle.udfs_volume.specs.Answers.{found}
use Rattle.udfs_space.specs.Places.{View, place, view}
use Rattle.udfs_file.specs.Addresses.{file_set}
use Rattle.udfs_file.specs.Bodies.{allocation_descriptors, body, extents_body_by, listed_body, used}
use Rattle.udfs_file.specs.Entries.{entry_fault, entry_of}
use Rattle.udfs_file.specs.Fronts.{directory_by, step_by}
use Rattle.udfs_walk.specs.Nodes.{node}
use Rattle.udfs_walk.specs.Routes.{entries_below}
use Rattle.udfs_walk.specs.Standings.{cells_standing}
use Rattle.udfs_walk.specs.Targets.{target}
use Rattle.udfs_walk.specs.Lawful.{IsLawfulTree}
use Rattle.udfs_lawfulness.specs.Forms.{all_blocks, forms_layout, forms_space, icb, named}
use Rattle.udfs_lawfulness.proofs.TwoFiles.{AreTwoFiles, two_files_are_lawful}

abbrev pub forms_view : View
forms_view = view all_blocks forms_space

pub forms_root_is : file_set forms_view forms_layout.file_set ≡ found (icb 1)
unfolding polynomial reduced crc_of tag_of place file_set
forms_root_is = refl

names_differ : (named 0x41 4).name ≢ (named 0x3B2 5).name
names_differ n = let e : 0x41 ≡ 0x3B2 = ap head n in let z : ⊥ = omega (arith, e) in z
  where
    head : List ℕ → ℕ
    head [] = 0
    head (x ∷ xs) = x

nodes : AreTwoFiles forms_view (icb 1) (named 0x41 4) (named 0x3B2 5)
unfolding polynomial reduced crc_of tag_of place target entry_fault entry_of allocation_descriptors used listed_body extents_body_by body step_by directory_by cells_standing node entries_below
nodes = record { whole_root = refl; below_root = refl; whole_a = refl; below_a = refl; whole_b = refl; below_b = refl; differ = names_differ }

pub forms_tree_is_lawful : IsLawfulTree forms_view (icb 1)
forms_tree_is_lawful = two_files_are_lawful forms_view (icb 1) (named 0x41 4) (named 0x3B2 5) nodes
