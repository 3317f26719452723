-- The blocks of the sample partitions, their file set and their files.
use Rattle.std.proofs.Common.{◌≡◌, refl, ℕ, ◌<◌, ◌≤◌, Bool, true, false, length, replicate, cond, arith, nat_le, nat_lt, nat_eq, ◌-◌}
use Rattle.std.specs.Prelude.{suc}
use Rattle.std.specs.List.{list_all}
use Rattle.std.proofs.lemmas.Bool.{leb-true}
use Rattle.std.proofs.lemmas.List.Sums.{AllPass-from_list_all}
use Rattle.std.proofs.lemmas.List.Elements.{All-weaker}
use Rattle.udfs_lattice.specs.States.{IsBlock}
use Rattle.udfs_tag.specs.Crc.{polynomial, reduced, crc_of}
use Rattle.udfs_tag.specs.Tags.{tag_of}
use Rattle.udfs_volume.specs.Answers.{found}
use Rattle.udfs_volume.specs.Sample.{Maps, one_type1, one_sparable, type1_and_sparable, sample_layout}
use Rattle.udfs_volume.specs.Sequence.{Bytes}
use Rattle.udfs_space.specs.Places.{place}
use Rattle.udfs_file.specs.Addresses.{file_set}
use Rattle.udfs_file.specs.Bodies.{body, allocation_descriptors, used, listed_body, extents_body_by}
use Rattle.udfs_file.specs.Entries.{entry_fault, entry_of}
use Rattle.udfs_file.specs.Fronts.{directory_by, step_by}
use Rattle.udfs_file.specs.declared.faults.Kind.TheVariants.{Directory, File}
use Rattle.udfs_file.specs.Sample.{HaveSampleFiles, IsSampleFile, SampleFileSet, a_cells, b_cells, icb_of_a, icb_of_b, root_cells, sample_root, a_block, b_block, directory_block, file_set_block, root_block, logical_block, sample_contents, sample_view}

below_256 : (x : ℕ) → nat_lt x 256 ≡ true → x < 256
below_256 x e = let l : suc x ≤ 256 = leb-true (suc x) 256 e in omega (arith, l)

block_by : (xs : Bytes) → length xs ≡ 2048 → list_all (λ x. nat_lt x 256) xs ≡ true → IsBlock xs
block_by xs l h = record { whole = l; bytes = All-weaker (λ x. nat_lt x 256 ≡ true) (λ x. x < 256) below_256 xs (AllPass-from_list_all (λ x. nat_lt x 256) xs h) }

block_if : (b : Bool) (xs ys : Bytes) → IsBlock xs → IsBlock ys → IsBlock (cond b xs ys)
block_if true xs ys p q = p
block_if false xs ys p q = q

directories : (maps : Maps) → IsBlock (directory_block maps)
directories one_type1 = block_by (directory_block one_type1) refl refl
directories one_sparable = block_by (directory_block one_sparable) refl refl
directories type1_and_sparable = block_by (directory_block type1_and_sparable) refl refl

logical_blocks : (maps : Maps) (b : ℕ) → IsBlock (logical_block maps b)
logical_blocks maps b =
    block_if (nat_eq b 0) file_set_block _ (block_by file_set_block refl refl)
    (block_if (nat_eq b 1) root_block _ (block_by root_block refl refl)
    (block_if (nat_eq b 2) (directory_block maps) _ (directories maps)
    (block_if (nat_eq b 3) a_block _ (block_by a_block refl refl)
    (block_if (nat_eq b 4) b_block _ (block_by b_block refl refl)
    (block_if (nat_eq b 5) (replicate 2048 0x61) _ (block_by (replicate 2048 0x61) refl refl)
    (block_if (nat_eq b 6) (replicate 2048 0x62) _ (block_by (replicate 2048 0x62) refl refl)
    (block_if (nat_eq b 7) (replicate 2048 0x63) (replicate 2048 0) (block_by (replicate 2048 0x63) refl refl) (block_by (replicate 2048 0) refl refl))))))))

are_blocks : (maps : Maps) (n : ℕ) → IsBlock (sample_contents maps n)
are_blocks maps n =
    block_if (nat_le 272 n) (logical_block maps (n - 272)) _ (logical_blocks maps (n - 272))
    (block_if (nat_le 96 n) (logical_block maps (n - 96)) _ (logical_blocks maps (n - 96)) (block_by (replicate 2048 0) refl refl))

file_set_is : (maps : Maps) → file_set (sample_view maps) (sample_layout maps).file_set ≡ found sample_root
unfolding polynomial reduced crc_of tag_of place file_set
file_set_is one_type1 = refl
file_set_is one_sparable = refl
file_set_is type1_and_sparable = refl

pub sample_file_set_law : SampleFileSet
sample_file_set_law maps = (are_blocks maps, file_set_is maps)

-- ---- the files
root_file : (maps : Maps) → IsSampleFile maps sample_root Directory (root_cells maps)
unfolding polynomial reduced crc_of tag_of place entry_fault entry_of allocation_descriptors used listed_body extents_body_by body
root_file one_type1 = record { is_good = refl; block = 273; bytes = root_block; there = refl; is_sound = refl; kind_is = refl; has_body = refl }
root_file one_sparable = record { is_good = refl; block = 97; bytes = root_block; there = refl; is_sound = refl; kind_is = refl; has_body = refl }
root_file type1_and_sparable = record { is_good = refl; block = 273; bytes = root_block; there = refl; is_sound = refl; kind_is = refl; has_body = refl }

a_file : (maps : Maps) → IsSampleFile maps icb_of_a File a_cells
unfolding polynomial reduced crc_of tag_of place entry_fault entry_of allocation_descriptors used listed_body extents_body_by body
a_file one_type1 = record { is_good = refl; block = 275; bytes = a_block; there = refl; is_sound = refl; kind_is = refl; has_body = refl }
a_file one_sparable = record { is_good = refl; block = 99; bytes = a_block; there = refl; is_sound = refl; kind_is = refl; has_body = refl }
a_file type1_and_sparable = record { is_good = refl; block = 275; bytes = a_block; there = refl; is_sound = refl; kind_is = refl; has_body = refl }

b_file : (maps : Maps) → IsSampleFile maps (icb_of_b maps) File b_cells
unfolding polynomial reduced crc_of tag_of place entry_fault entry_of allocation_descriptors used listed_body extents_body_by body
b_file one_type1 = record { is_good = refl; block = 276; bytes = b_block; there = refl; is_sound = refl; kind_is = refl; has_body = refl }
b_file one_sparable = record { is_good = refl; block = 100; bytes = b_block; there = refl; is_sound = refl; kind_is = refl; has_body = refl }
b_file type1_and_sparable = record { is_good = refl; block = 100; bytes = b_block; there = refl; is_sound = refl; kind_is = refl; has_body = refl }

pub sample_files : HaveSampleFiles
unfolding polynomial reduced crc_of tag_of step_by directory_by
sample_files one_type1 = record { root = root_file one_type1; a = a_file one_type1; b = b_file one_type1; no_rest = refl; entries = refl }
sample_files one_sparable = record { root = root_file one_sparable; a = a_file one_sparable; b = b_file one_sparable; no_rest = refl; entries = refl }
sample_files type1_and_sparable = record { root = root_file type1_and_sparable; a = a_file type1_and_sparable; b = b_file type1_and_sparable; no_rest = refl; entries = refl }
