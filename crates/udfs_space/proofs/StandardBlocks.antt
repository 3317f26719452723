-- With all known, the standard reads the blocks of the partitions by their places, and in one way only.
use Rattle.std.proofs.Common.{◌≡◌, refl, sym, ◌∙◌, ap, subst, ℕ, Option, Some, None}
use Rattle.std.specs.Prelude.{option_map, ◌↔◌}
use Rattle.udfs_lattice.specs.Volumes.{Blocks, Volume, complete}
use Rattle.udfs_lattice.specs.declared.facts.Fact.TheVariants.{Known}
use Rattle.udfs_lattice.proofs.PublicLaws.{complete_agrees, complete_knows}
use Rattle.udfs_volume.specs.declared.profiles.Profile.{Profile}
use Rattle.udfs_volume.specs.Sequence.{Bytes}
use Rattle.udfs_space.proofs.Facts.{found_same}
use Rattle.udfs_space.specs.Laws.{AreBlocksOf, StandardBlocksBy, blocks_by}
use Rattle.udfs_space.specs.Places.{IsPartOf, StandsIn, place, view}
use Rattle.udfs_space.specs.Sparing.{Space}
use Rattle.udfs_space.specs.Standard.{standard_space}
use Rattle.udfs_space.proofs.PlaceLaw.{place_law}
use Rattle.udfs_space.proofs.Soundness.{sound_space}
use Rattle.udfs_space.proofs.Counting.{standard_space_law}
use Rattle.udfs_space.proofs.Standing.{SoundAt, stands_in}

-- a block's place is told by the relation
placing : (s : Space) → ((r : ℕ) → SoundAt s r) → (r b n : ℕ) → (place s r b ≡ Some n) ↔ StandsIn s r b n
placing s sound r b n = stands_in s r b (place s r b) refl (sound r) n

-- so the blocks by their places are those of the relation
are_blocks : (V : Volume) (s : Space) → ((r : ℕ) → SoundAt s r) → AreBlocksOf V s (blocks_by V s)
are_blocks V s sound = record { block = λ r b n h. ap (option_map V) ((placing s sound r b n).1 h); no_block = λ r b h. go r b h (place s r b) refl }
  where
    go : (r b : ℕ) → ((n : ℕ) → ¬ StandsIn s r b n) → (o : Option ℕ) → place s r b ≡ o → option_map V (place s r b) ≡ None
    go r b h None p = ap (option_map V) p
    go r b h (Some n) p = absurd (h n ((placing s sound r b n).0 p))

-- and no others are
blocks_are : (V : Volume) (s : Space) → ((r : ℕ) → SoundAt s r) → (blocks : ℕ → ℕ → Option Bytes) → AreBlocksOf V s blocks → (r b : ℕ) → blocks r b ≡ blocks_by V s r b
blocks_are V s sound blocks are r b = go (place s r b) refl
  where
    go : (o : Option ℕ) → place s r b ≡ o → blocks r b ≡ option_map V (place s r b)
    go None p = are.no_block r b (λ n h. let q : None ≡ Some n = sym p ∙ (placing s sound r b n).1 h in let z : ⊥ = cc in z) ∙ sym (ap (option_map V) p)
    go (Some n) p = are.block r b n ((placing s sound r b n).0 p) ∙ sym (ap (option_map V) p)

pub standard_blocks : (profile : Profile) → StandardBlocksBy profile
standard_blocks profile V N l s hv by lawful placed = record {
  space_is = same;
  reads = subst (λ z. AreBlocksOf V z (blocks_by V s)) (sym same) (are_blocks V s sound);
  only = λ other are i r b. blocks_are V s sound other (subst (λ z. AreBlocksOf V z other) same are) r b i;
  inside = λ r b n p. let t : (bytes : Bytes) × (C n ≡ Known bytes) = part.complete r b n p in ((complete_knows V N n t.0).0 t.1).0;
}
  where
    C : Blocks
    C = complete V N

    same : standard_space V l ≡ s
    same = found_same (standard_space V l) s (sym (standard_space_law profile V N l hv by lawful) ∙ placed)

    sound : (r : ℕ) → SoundAt s r
    sound r = sound_space profile C N l s hv.to by placed r

    part : IsPartOf (view C s) (view C s)
    part = place_law profile C V N l s hv by placed (complete_agrees V N)
