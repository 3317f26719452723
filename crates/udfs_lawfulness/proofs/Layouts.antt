-- The volume of many forms is a volume, and its layout and places are lawful.
use Rattle.std.proofs.Common.{◌≡◌, ◌≢◌, refl, sym, ◌∙◌, ap, subst, inl, inr, ℕ, ◌+◌, ◌-◌, ◌<◌, ◌≤◌, Bool, true, false, List, [], ◌∷◌, length, drop, replicate, cond, arith, nat_lt, nat_le, nat_eq, ◌&&◌}
use Rattle.std.specs.Prelude.{zero, suc, Contains}
use Rattle.std.specs.List.{list_all}
use Rattle.std.proofs.lemmas.Bool.{leb-true}
use Rattle.std.proofs.lemmas.List.Sums.{AllPass-from_list_all}
use Rattle.std.proofs.lemmas.List.Elements.{All-weaker}
use Rattle.udfs_lattice.specs.States.{IsBlock}
use Rattle.udfs_lattice.specs.Volumes.{IsVolume}
use Rattle.udfs_lattice.proofs.Inclusion.{Includes, included}
use Rattle.udfs_tag.specs.Crc.{polynomial, reduced, crc_of}
use Rattle.udfs_tag.specs.Fields.{part}
use Rattle.udfs_tag.specs.Tags.{is_valid, tag_of}
use Rattle.udfs_volume.specs.Answers.{found}
use Rattle.udfs_volume.specs.declared.anchors.AnchorExtents.{AnchorExtents}
use Rattle.udfs_volume.specs.declared.profiles.Profile.TheVariants.{Strict}
use Rattle.udfs_volume.specs.Layout.{Partition, layout_of, layout_by, main_layout_by}
use Rattle.udfs_volume.specs.Laws.{valid_anchors, IsThroughEnd, SaysTheSame, IsLawfulLayoutBy}
use Rattle.udfs_volume.specs.Sample.{one_sparable}
use Rattle.udfs_volume.specs.Sequence.{Bytes, anchor, position, goes_on, sequence_by}
use Rattle.udfs_volume.proofs.Bounds.{found_same}
use Rattle.udfs_volume.proofs.PublicLaws.{sample_layout_is_lawful}
use Rattle.udfs_space.specs.Laws.{AreTheSameTables, IsLawfulSparing, SparingAgrees}
use Rattle.udfs_space.specs.Sparing.{space, spared}
use Rattle.udfs_space.specs.Standard.{table_at}
use Rattle.udfs_lawfulness.specs.Forms.{a_block, all_blocks, b_block, contents, continuation_block, directory_blocks, file_set_block, forms_layout, forms_space, logical_block, many_forms, revised_at, root_block, third_at}

-- ---- blocks
below_256 : (x : ℕ) → nat_lt x 256 ≡ true → x < 256
below_256 x e = let l : suc x ≤ 256 = leb-true (suc x) 256 e in omega (arith, l)

pub block_by : (xs : Bytes) → length xs ≡ 2048 → list_all (λ x. nat_lt x 256) xs ≡ true → IsBlock xs
block_by xs l h = record { whole = l; bytes = All-weaker (λ x. nat_lt x 256 ≡ true) (λ x. x < 256) below_256 xs (AllPass-from_list_all (λ x. nat_lt x 256) xs h) }

pub block_if : (b : Bool) (xs ys : Bytes) → IsBlock xs → IsBlock ys → IsBlock (cond b xs ys)
block_if true xs ys p q = p
block_if false xs ys p q = q

zeros : IsBlock (replicate 2048 0)
zeros = block_by (replicate 2048 0) refl refl

logical_blocks : (b : ℕ) → IsBlock (logical_block b)
logical_blocks b =
    block_if (nat_eq b 0) file_set_block _ (block_by file_set_block refl refl)
    (block_if (nat_eq b 1) root_block _ (block_by root_block refl refl)
    (block_if (nat_eq b 2) (directory_blocks 0) _ (block_by (directory_blocks 0) refl refl)
    (block_if (nat_eq b 3) (directory_blocks 1) _ (block_by (directory_blocks 1) refl refl)
    (block_if (nat_eq b 4) a_block _ (block_by a_block refl refl)
    (block_if (nat_eq b 5) b_block _ (block_by b_block refl refl)
    (block_if (nat_eq b 6) (replicate 2048 0x61) _ (block_by (replicate 2048 0x61) refl refl)
    (block_if (nat_eq b 8) continuation_block _ (block_by continuation_block refl refl)
    (block_if (nat_eq b 9) (replicate 2048 0x62) (replicate 2048 0) (block_by (replicate 2048 0x62) refl refl) zeros))))))))

contents_are : (n : ℕ) → IsBlock (contents n)
contents_are n = block_if (nat_le 96 n && nat_lt n 128) (logical_block (n - 96)) (replicate 2048 0) (logical_blocks (n - 96)) zeros

pub forms_is_volume : IsVolume many_forms 600
forms_is_volume = record {
  from = omega arith;
  to = omega arith;
  each = λ n l. block_if (nat_eq n 32) (revised_at 0x28 0x20) _ (block_by (revised_at 0x28 0x20) refl refl)
      (block_if (nat_eq n 48) (revised_at 0x38 0x30) _ (block_by (revised_at 0x38 0x30) refl refl)
      (block_if (nat_eq n 33) (third_at 0x28 0x21) _ (block_by (third_at 0x28 0x21) refl refl)
      (block_if (nat_eq n 49) (third_at 0x38 0x31) _ (block_by (third_at 0x38 0x31) refl refl)
      ((sample_layout_is_lawful one_sparable contents contents_are).is_volume.each n l))));
}

-- ---- anchors and positions
anchors_are : valid_anchors many_forms 600 ≡ 256 ∷ 600 ∷ []
unfolding polynomial reduced crc_of tag_of
anchors_are = refl

same_anchors : (x y : ℕ) → Includes (256 ∷ 600 ∷ []) x → Includes (256 ∷ 600 ∷ []) y → part (many_forms x) 16 16 ≡ part (many_forms y) 16 16
same_anchors x y i j = of x i ∙ sym (of y j)
  where
    of : (c : ℕ) → Includes (256 ∷ 600 ∷ []) c → part (many_forms c) 16 16 ≡ part (many_forms 256) 16 16
    of c (inl e) = ap (λ z. part (many_forms z) 16 16) (sym e)
    of c (inr (inl e)) = ap (λ z. part (many_forms z) 16 16) (sym e)
    of c (inr (inr e)) = absurd e

abbrev extents : AnchorExtents
extents = record { main = record { length = 32768; block = 32 }; reserve = record { length = 32768; block = 48 } }

anchor_is : anchor all_blocks 600 ≡ found extents
unfolding polynomial reduced crc_of tag_of anchor
anchor_is = refl

the_end : goes_on (position all_blocks 35 51) ≡ false
unfolding polynomial reduced crc_of tag_of position
the_end = refl

copies_by : (i : ℕ) → IsThroughEnd many_forms 600 extents i → SaysTheSame many_forms (32 + i) (48 + i)
unfolding polynomial reduced crc_of tag_of
copies_by zero h = record { soundness = refl; identifiers = λ e. refl; contents = λ e r. refl }
copies_by (suc zero) h = record { soundness = refl; identifiers = λ e. refl; contents = λ e r. refl }
copies_by (suc (suc zero)) h = record { soundness = refl; identifiers = λ e. refl; contents = λ e r. refl }
copies_by (suc (suc (suc zero))) h = record { soundness = refl; identifiers = λ e. refl; contents = λ e r. refl }
copies_by (suc (suc (suc (suc i)))) h = absurd (let t : true ≡ false = sym (h.before 3 (omega arith)) ∙ the_end in let z : ⊥ = cc in z)

-- ---- the layout
pub forms_layout_is : layout_by Strict all_blocks 600 ≡ found forms_layout
unfolding polynomial reduced crc_of tag_of anchor position sequence_by layout_of main_layout_by layout_by
forms_layout_is = refl

pub forms_layout_is_lawful : IsLawfulLayoutBy Strict many_forms 600
forms_layout_is_lawful = record {
  anchored = λ e. none 256 (600 ∷ []) (sym anchors_are ∙ e);
  anchors = λ x y i j. same_anchors x y (included (256 ∷ 600 ∷ []) x (subst (λ z. Contains z x) anchors_are i)) (included (256 ∷ 600 ∷ []) y (subst (λ z. Contains z y) anchors_are j));
  copies = λ e i q h. copies e i (found_same extents e (sym anchor_is ∙ q)) h;
  laid_out = (forms_layout, forms_layout_is);
}
  where
    none : (x : ℕ) (xs : List ℕ) → x ∷ xs ≢ []
    none x xs e = let z : ⊥ = cc in z

    copies : (e : AnchorExtents) (i : ℕ) → extents ≡ e → IsThroughEnd many_forms 600 e i → SaysTheSame many_forms (e.main.block + i) (e.reserve.block + i)
    copies e i q h = subst (λ z. SaysTheSame many_forms (z.main.block + i) (z.reserve.block + i)) q (copies_by i (subst (λ z. IsThroughEnd many_forms 600 z i) (sym q) h))

-- ---- the sparing tables
pub forms_space_is : space all_blocks forms_layout ≡ found forms_space
unfolding polynomial reduced crc_of tag_of spared space
forms_space_is = refl

valid_at_64 : is_valid (table_at many_forms 64 64) 64 0 ≡ true
unfolding polynomial reduced crc_of tag_of
valid_at_64 = refl

valid_at_65 : is_valid (table_at many_forms 64 65) 65 0 ≡ true
unfolding polynomial reduced crc_of tag_of
valid_at_65 = refl

same_tables : AreTheSameTables many_forms 64 (64 ∷ 65 ∷ [])
same_tables = record { tags = λ place i. tags place (included (64 ∷ 65 ∷ []) place i); contents = λ x y i j. first x (included (64 ∷ 65 ∷ []) x i) ∙ sym (first y (included (64 ∷ 65 ∷ []) y j)) }
  where
    tags : (at : ℕ) → Includes (64 ∷ 65 ∷ []) at → is_valid (table_at many_forms 64 at) at 0 ≡ true
    tags at (inl e) = subst (λ z. is_valid (table_at many_forms 64 z) z 0 ≡ true) e valid_at_64
    tags at (inr (inl e)) = subst (λ z. is_valid (table_at many_forms 64 z) z 0 ≡ true) e valid_at_65
    tags at (inr (inr e)) = absurd e

    alike : drop 16 (table_at many_forms 64 64) ≡ drop 16 (table_at many_forms 64 65)
    alike = refl

    first : (at : ℕ) → Includes (64 ∷ 65 ∷ []) at → drop 16 (table_at many_forms 64 at) ≡ drop 16 (table_at many_forms 64 64)
    first at (inl e) = ap (λ z. drop 16 (table_at many_forms 64 z)) (sym e)
    first at (inr (inl e)) = ap (λ z. drop 16 (table_at many_forms 64 z)) (sym e) ∙ sym alike
    first at (inr (inr e)) = absurd e

tables : (p : Partition) → Includes forms_layout.partitions p → SparingAgrees many_forms p.kind
tables p (inl e) = subst (λ z. SparingAgrees many_forms z.kind) e same_tables
tables p (inr e) = absurd e

pub forms_sparing_is_lawful : IsLawfulSparing many_forms 600 forms_layout
forms_sparing_is_lawful = record { tables = λ p i. tables p (included forms_layout.partitions p i); placed = (forms_space, forms_space_is) }
