-- Each sample volume has its layout, and is lawful.
use Rattle.std.proofs.Common.{◌≡◌, ◌≢◌, refl, sym, ◌∙◌, ap, subst, inl, inr, ℕ, ◌+◌, ◌<◌, ◌≤◌, Bool, true, false, List, [], ◌∷◌, length, replicate, cond, arith, nat_lt, nat_eq}
use Rattle.std.specs.Prelude.{zero, suc, Contains}
use Rattle.std.specs.List.{list_all}
use Rattle.std.proofs.lemmas.Bool.{leb-true}
use Rattle.std.proofs.lemmas.List.Sums.{AllPass-from_list_all}
use Rattle.std.proofs.lemmas.List.Elements.{All-weaker}
use Rattle.udfs_lattice.specs.States.{IsBlock}
use Rattle.udfs_lattice.proofs.Inclusion.{Includes, included}
use Rattle.udfs_tag.specs.Crc.{polynomial, reduced, crc_of}
use Rattle.udfs_tag.specs.Fields.{part}
use Rattle.udfs_tag.specs.Tags.{tag_of}
use Rattle.udfs_volume.specs.Answers.{found}
use Rattle.udfs_volume.specs.declared.anchors.AnchorExtents.{AnchorExtents}
use Rattle.udfs_volume.specs.Sequence.{Bytes, anchor, position, goes_on, sequence_by}
use Rattle.udfs_volume.specs.Layout.{layout_of, layout_by, main_layout_by, layout}
use Rattle.udfs_volume.specs.Laws.{valid_anchors, IsThroughEnd, SaysTheSame, IsLawfulLayout}
use Rattle.udfs_volume.specs.Sample.{Maps, one_type1, one_sparable, type1_and_sparable, SampleLayout, anchor_at, logical_volume_at, other_partition_at, partition_at, sample, sample_blocks, sample_layout, sparing_table_at, terminator_at}
use Rattle.udfs_volume.proofs.Bounds.{found_same}

-- ---- blocks
below_256 : (x : ℕ) → nat_lt x 256 ≡ true → x < 256
below_256 x e = let l : suc x ≤ 256 = leb-true (suc x) 256 e in omega (arith, l)

block_by : (xs : Bytes) → length xs ≡ 2048 → list_all (λ x. nat_lt x 256) xs ≡ true → IsBlock xs
block_by xs l h = record { whole = l; bytes = All-weaker (λ x. nat_lt x 256 ≡ true) (λ x. x < 256) below_256 xs (AllPass-from_list_all (λ x. nat_lt x 256) xs h) }

block_if : (b : Bool) (xs ys : Bytes) → IsBlock xs → IsBlock ys → IsBlock (cond b xs ys)
block_if true xs ys p q = p
block_if false xs ys p q = q

main_volume : (maps : Maps) → IsBlock (logical_volume_at maps 0x28 0x20)
main_volume one_type1 = block_by (logical_volume_at one_type1 0x28 0x20) refl refl
main_volume one_sparable = block_by (logical_volume_at one_sparable 0x28 0x20) refl refl
main_volume type1_and_sparable = block_by (logical_volume_at type1_and_sparable 0x28 0x20) refl refl

reserve_volume : (maps : Maps) → IsBlock (logical_volume_at maps 0x38 0x30)
reserve_volume one_type1 = block_by (logical_volume_at one_type1 0x38 0x30) refl refl
reserve_volume one_sparable = block_by (logical_volume_at one_sparable 0x38 0x30) refl refl
reserve_volume type1_and_sparable = block_by (logical_volume_at type1_and_sparable 0x38 0x30) refl refl

are_blocks : (maps : Maps) (contents : ℕ → Bytes) → ((n : ℕ) → IsBlock (contents n)) → (n : ℕ) → IsBlock (sample maps contents n)
are_blocks maps contents h n =
    block_if (nat_eq n 256) (anchor_at 5 0 1) _ (block_by (anchor_at 5 0 1) refl refl)
    (block_if (nat_eq n 600) (anchor_at 0x5E 0x58 2) _ (block_by (anchor_at 0x5E 0x58 2) refl refl)
    (block_if (nat_eq n 32) (logical_volume_at maps 0x28 0x20) _ (main_volume maps)
    (block_if (nat_eq n 48) (logical_volume_at maps 0x38 0x30) _ (reserve_volume maps)
    (block_if (nat_eq n 33) (partition_at 0x28 0x21) _ (block_by (partition_at 0x28 0x21) refl refl)
    (block_if (nat_eq n 49) (partition_at 0x38 0x31) _ (block_by (partition_at 0x38 0x31) refl refl)
    (block_if (nat_eq n 34) (other_partition_at 0x29 0x22) _ (block_by (other_partition_at 0x29 0x22) refl refl)
    (block_if (nat_eq n 50) (other_partition_at 0x39 0x32) _ (block_by (other_partition_at 0x39 0x32) refl refl)
    (block_if (nat_eq n 35) (terminator_at 0x2D 0x23) _ (block_by (terminator_at 0x2D 0x23) refl refl)
    (block_if (nat_eq n 51) (terminator_at 0x3D 0x33) _ (block_by (terminator_at 0x3D 0x33) refl refl)
    (block_if (nat_eq n 64) (sparing_table_at 0x42 0x40) _ (block_by (sparing_table_at 0x42 0x40) refl refl)
    (block_if (nat_eq n 65) (sparing_table_at 0x43 0x41) _ (block_by (sparing_table_at 0x43 0x41) refl refl)
    (block_if (nat_lt n 280) (contents n) (replicate 2048 0) (h n) (block_by (replicate 2048 0) refl refl)))))))))))))

-- ---- anchors and positions
anchors_are : (maps : Maps) (contents : ℕ → Bytes) → valid_anchors (sample maps contents) 600 ≡ 256 ∷ 600 ∷ []
unfolding polynomial reduced crc_of tag_of
anchors_are maps contents = refl

same_anchors : (maps : Maps) (contents : ℕ → Bytes) (a b : ℕ) → Includes (256 ∷ 600 ∷ []) a → Includes (256 ∷ 600 ∷ []) b → part (sample maps contents a) 16 16 ≡ part (sample maps contents b) 16 16
same_anchors maps contents a b i j = of a i ∙ sym (of b j)
  where
    of : (c : ℕ) → Includes (256 ∷ 600 ∷ []) c → part (sample maps contents c) 16 16 ≡ part (sample maps contents 256) 16 16
    of c (inl e) = ap (λ z. part (sample maps contents z) 16 16) (sym e)
    of c (inr (inl e)) = ap (λ z. part (sample maps contents z) 16 16) (sym e)
    of c (inr (inr e)) = absurd e

abbrev extents : AnchorExtents
extents = record { main = record { length = 32768; block = 32 }; reserve = record { length = 32768; block = 48 } }

anchor_is : (maps : Maps) (contents : ℕ → Bytes) → anchor (sample_blocks maps contents) 600 ≡ found extents
unfolding polynomial reduced crc_of tag_of anchor
anchor_is maps contents = refl

the_end : (maps : Maps) (contents : ℕ → Bytes) → goes_on (position (sample_blocks maps contents) 35 51) ≡ false
unfolding polynomial reduced crc_of tag_of position
the_end maps contents = refl

same_0 : (maps : Maps) (contents : ℕ → Bytes) → SaysTheSame (sample maps contents) 32 48
unfolding polynomial reduced crc_of tag_of
same_0 one_type1 contents = record { soundness = refl; identifiers = λ e. refl; contents = λ e r. refl }
same_0 one_sparable contents = record { soundness = refl; identifiers = λ e. refl; contents = λ e r. refl }
same_0 type1_and_sparable contents = record { soundness = refl; identifiers = λ e. refl; contents = λ e r. refl }

same_1 : (maps : Maps) (contents : ℕ → Bytes) → SaysTheSame (sample maps contents) 33 49
unfolding polynomial reduced crc_of tag_of
same_1 maps contents = record { soundness = refl; identifiers = λ e. refl; contents = λ e r. refl }

same_2 : (maps : Maps) (contents : ℕ → Bytes) → SaysTheSame (sample maps contents) 34 50
unfolding polynomial reduced crc_of tag_of
same_2 maps contents = record { soundness = refl; identifiers = λ e. refl; contents = λ e r. refl }

same_3 : (maps : Maps) (contents : ℕ → Bytes) → SaysTheSame (sample maps contents) 35 51
unfolding polynomial reduced crc_of tag_of
same_3 maps contents = record { soundness = refl; identifiers = λ e. refl; contents = λ e r. refl }

copies_by : (maps : Maps) (contents : ℕ → Bytes) (i : ℕ) → IsThroughEnd (sample maps contents) 600 extents i → SaysTheSame (sample maps contents) (32 + i) (48 + i)
copies_by maps contents zero h = same_0 maps contents
copies_by maps contents (suc zero) h = same_1 maps contents
copies_by maps contents (suc (suc zero)) h = same_2 maps contents
copies_by maps contents (suc (suc (suc zero))) h = same_3 maps contents
copies_by maps contents (suc (suc (suc (suc i)))) h = absurd (let t : true ≡ false = sym (h.before 3 (omega arith)) ∙ the_end maps contents in let z : ⊥ = cc in z)

-- ---- the layout
layout_is : (maps : Maps) (contents : ℕ → Bytes) → layout (sample_blocks maps contents) 600 ≡ found (sample_layout maps)
unfolding polynomial reduced crc_of tag_of anchor position sequence_by layout_of main_layout_by layout_by
layout_is one_type1 contents = refl
layout_is one_sparable contents = refl
layout_is type1_and_sparable contents = refl

lawful_layout : (maps : Maps) (contents : ℕ → Bytes) → IsLawfulLayout (sample maps contents) 600
lawful_layout maps contents = record {
  anchored = λ e. none 256 (600 ∷ []) (sym (anchors_are maps contents) ∙ e);
  anchors = λ a b i j. same_anchors maps contents a b (included (256 ∷ 600 ∷ []) a (subst (λ z. Contains z a) (anchors_are maps contents) i)) (included (256 ∷ 600 ∷ []) b (subst (λ z. Contains z b) (anchors_are maps contents) j));
  copies = λ e i q h. copies e i (found_same extents e (sym (anchor_is maps contents) ∙ q)) h;
  laid_out = (sample_layout maps, layout_is maps contents);
}
  where
    none : (a : ℕ) (xs : List ℕ) → a ∷ xs ≢ []
    none a xs e = let z : ⊥ = cc in z

    copies : (e : AnchorExtents) (i : ℕ) → extents ≡ e → IsThroughEnd (sample maps contents) 600 e i → SaysTheSame (sample maps contents) (e.main.block + i) (e.reserve.block + i)
    copies e i q h = subst (λ z. SaysTheSame (sample maps contents) (z.main.block + i) (z.reserve.block + i)) q (copies_by maps contents i (subst (λ z. IsThroughEnd (sample maps contents) 600 z i) (sym q) h))

pub sample_layout_law : SampleLayout
sample_layout_law maps contents h = record {
  is_volume = record { from = omega arith; to = omega arith; each = λ n l. are_blocks maps contents h n };
  layout_is = layout_is maps contents;
  is_lawful = lawful_layout maps contents;
}
