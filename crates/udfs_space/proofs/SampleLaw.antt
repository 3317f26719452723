-- The places of the sample layouts. Of the volume they look at the sparing tables alone.
use Rattle.std.proofs.Common.{◌≡◌, refl, sym, subst, inl, inr, ◌∙◌, ap, ℕ, [], ◌∷◌, drop, true}
use Rattle.udfs_lattice.proofs.Inclusion.{Includes, included}
use Rattle.udfs_tag.specs.Crc.{polynomial, reduced, crc_of}
use Rattle.udfs_tag.specs.Tags.{is_valid, tag_of}
use Rattle.udfs_volume.specs.Answers.{found}
use Rattle.udfs_volume.specs.Layout.{Partition}
use Rattle.udfs_volume.specs.Sample.{Maps, one_type1, one_sparable, type1_and_sparable, sample, sample_blocks, sample_layout}
use Rattle.udfs_volume.specs.Sequence.{Bytes}
use Rattle.udfs_space.specs.Laws.{AreTheSameTables, SparingAgrees}
use Rattle.udfs_space.specs.Sample.{SampleSpace, sample_space}
use Rattle.udfs_space.specs.Sparing.{space, spared}
use Rattle.udfs_space.specs.Standard.{table_at}

space_is : (maps : Maps) (contents : ℕ → Bytes) → space (sample_blocks maps contents) (sample_layout maps) ≡ found (sample_space maps)
unfolding polynomial reduced crc_of tag_of space spared
space_is one_type1 contents = refl
space_is one_sparable contents = refl
space_is type1_and_sparable contents = refl

-- both copies of the sparing table
valid_at_64 : (maps : Maps) (contents : ℕ → Bytes) → is_valid (table_at (sample maps contents) 64 64) 64 0 ≡ true
unfolding polynomial reduced crc_of tag_of
valid_at_64 maps contents = refl

valid_at_65 : (maps : Maps) (contents : ℕ → Bytes) → is_valid (table_at (sample maps contents) 64 65) 65 0 ≡ true
unfolding polynomial reduced crc_of tag_of
valid_at_65 maps contents = refl

alike : (maps : Maps) (contents : ℕ → Bytes) → drop 16 (table_at (sample maps contents) 64 64) ≡ drop 16 (table_at (sample maps contents) 64 65)
alike maps contents = refl

same_tables : (maps : Maps) (contents : ℕ → Bytes) → AreTheSameTables (sample maps contents) 64 (64 ∷ 65 ∷ [])
same_tables maps contents = record { tags = λ place i. tags place (included (64 ∷ 65 ∷ []) place i); contents = λ a b i j. first a (included (64 ∷ 65 ∷ []) a i) ∙ sym (first b (included (64 ∷ 65 ∷ []) b j)) }
  where
    tags : (place : ℕ) → Includes (64 ∷ 65 ∷ []) place → is_valid (table_at (sample maps contents) 64 place) place 0 ≡ true
    tags place (inl e) = subst (λ z. is_valid (table_at (sample maps contents) 64 z) z 0 ≡ true) e (valid_at_64 maps contents)
    tags place (inr (inl e)) = subst (λ z. is_valid (table_at (sample maps contents) 64 z) z 0 ≡ true) e (valid_at_65 maps contents)
    tags place (inr (inr e)) = absurd e

    first : (a : ℕ) → Includes (64 ∷ 65 ∷ []) a → drop 16 (table_at (sample maps contents) 64 a) ≡ drop 16 (table_at (sample maps contents) 64 64)
    first a (inl e) = ap (λ z. drop 16 (table_at (sample maps contents) 64 z)) (sym e)
    first a (inr (inl e)) = ap (λ z. drop 16 (table_at (sample maps contents) 64 z)) (sym e) ∙ sym (alike maps contents)
    first a (inr (inr e)) = absurd e

tables : (maps : Maps) (contents : ℕ → Bytes) (p : Partition) → Includes (sample_layout maps).partitions p → SparingAgrees (sample maps contents) p.kind
tables one_type1 contents p (inl e) = subst (λ z. SparingAgrees (sample one_type1 contents) z.kind) e tt
tables one_type1 contents p (inr e) = absurd e
tables one_sparable contents p (inl e) = subst (λ z. SparingAgrees (sample one_sparable contents) z.kind) e (same_tables one_sparable contents)
tables one_sparable contents p (inr e) = absurd e
tables type1_and_sparable contents p (inl e) = subst (λ z. SparingAgrees (sample type1_and_sparable contents) z.kind) e tt
tables type1_and_sparable contents p (inr (inl e)) = subst (λ z. SparingAgrees (sample type1_and_sparable contents) z.kind) e (same_tables type1_and_sparable contents)
tables type1_and_sparable contents p (inr (inr e)) = absurd e

pub sample_space_law : SampleSpace
sample_space_law maps contents = (space_is maps contents, record { tables = λ p i. tables maps contents p (included (sample_layout maps).partitions p i); placed = (sample_space maps, space_is maps contents) })
