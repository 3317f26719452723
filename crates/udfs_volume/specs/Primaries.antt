-- A sample volume of which the reserve primary volume descriptor has another volume set identifier than the main one, as a writer makes it that takes
-- the identifier from the clock each time.
use Rattle.std.specs.Prelude.{◌≡◌, ◌≢◌, ℕ, true, [], ◌∷◌, drop, cond, nat_eq}
use Rattle.udfs_lattice.specs.States.{IsBlock}
use Rattle.udfs_lattice.specs.Volumes.{Volume, IsVolume}
use Rattle.udfs_tag.specs.Tags.{is_sound, identifier}
use Rattle.udfs_volume.specs.Sequence.{Bytes}
use Rattle.udfs_volume.specs.Laws.{IsLawfulLayout}
use Rattle.udfs_volume.specs.Sample.{one_type1, patched, sample, tag, terminator_at}

-- a primary volume descriptor (ECMA-167 3/10.1) whose volume set identifier is this character, in 8 bits
abbrev pub primary_at : ℕ → ℕ → ℕ → Bytes
primary_at character sum low = patched ((0, tag 1 0 sum low 0) ∷ (72, 8 ∷ character ∷ []) ∷ (199, 2 ∷ []) ∷ [])

-- the sample with one map of type 1, and in its sequence behind the partitions a primary volume descriptor, in two copies that differ
abbrev pub two_primaries : (ℕ → Bytes) → Volume
two_primaries contents n = cond (nat_eq n 35) (primary_at 0x31 0x26 0x23) (cond (nat_eq n 51) (primary_at 0x32 0x36 0x33)
    (cond (nat_eq n 36) (terminator_at 0x2E 0x24) (cond (nat_eq n 52) (terminator_at 0x3E 0x34)
    (sample one_type1 contents n))))

-- whatever its partition holds it is a volume, its primary volume descriptors differ in both copies, and its layout is lawful
pub record ArePrimariesApart (contents : ℕ → Bytes) : Type 0 where
  pub is_volume : IsVolume (two_primaries contents) 600
  pub main_is : (is_sound (two_primaries contents 35) 35 ≡ true) × (identifier (two_primaries contents 35) ≡ 1)
  pub reserve_is : (is_sound (two_primaries contents 51) 51 ≡ true) × (identifier (two_primaries contents 51) ≡ 1)
  pub differ : drop 16 (two_primaries contents 35) ≢ drop 16 (two_primaries contents 51)
  pub is_lawful : IsLawfulLayout (two_primaries contents) 600

-- so there is a lawful layout whose copies are not all equal
abbrev pub PrimariesMayDiffer : Type 0
PrimariesMayDiffer = (contents : ℕ → Bytes) → ((n : ℕ) → IsBlock (contents n)) → ArePrimariesApart contents
