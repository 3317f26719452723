-- The sample whose primary volume descriptors differ is lawful.
use Rattle.std.proofs.Common.{◌≡◌, ◌≢◌, refl, sym, ◌∙◌, ap, subst, inl, inr, ℕ, ◌+◌, ◌<◌, ◌≤◌, Bool, true, false, List, [], ◌∷◌, length, cond, arith, nat_lt, nat_eq}
use Rattle.std.specs.Prelude.{zero, suc, drop, Contains}
use Rattle.std.specs.List.{list_all}
use Rattle.std.proofs.lemmas.Bool.{leb-true}
use Rattle.std.proofs.lemmas.List.Sums.{AllPass-from_list_all}
use Rattle.std.proofs.lemmas.List.Elements.{All-weaker}
use Rattle.udfs_lattice.specs.States.{IsBlock}
use Rattle.udfs_lattice.specs.Volumes.{IsVolume, complete}
use Rattle.udfs_lattice.proofs.Inclusion.{Includes, included}
use Rattle.udfs_tag.specs.Crc.{polynomial, reduced, crc_of}
use Rattle.udfs_tag.specs.Fields.{part, uint8_at}
use Rattle.udfs_tag.specs.Tags.{tag_of, is_sound, identifier}
use Rattle.udfs_volume.specs.Answers.{found}
use Rattle.udfs_volume.specs.declared.anchors.AnchorExtents.{AnchorExtents}
use Rattle.udfs_volume.specs.Sequence.{Bytes, anchor, position, goes_on, sequence_by}
use Rattle.udfs_volume.specs.Layout.{layout_of, layout_by, main_layout_by, layout}
use Rattle.udfs_volume.specs.Laws.{valid_anchors, IsThroughEnd, SaysTheSame, IsLawfulLayout}
use Rattle.udfs_volume.specs.Sample.{one_type1, sample_layout, terminator_at}
use Rattle.udfs_volume.specs.Primaries.{primary_at, two_primaries, PrimariesMayDiffer}
use Rattle.udfs_volume.proofs.Bounds.{found_same}
use Rattle.udfs_volume.proofs.SampleLaw.{sample_layout_law}

-- ---- blocks
below_256 : (x : ℕ) → nat_lt x 256 ≡ true → x < 256
below_256 x e = let l : suc x ≤ 256 = leb-true (suc x) 256 e in omega (arith, l)

block_by : (xs : Bytes) → length xs ≡ 2048 → list_all (λ x. nat_lt x 256) xs ≡ true → IsBlock xs
block_by xs l h = record { whole = l; bytes = All-weaker (λ x. nat_lt x 256 ≡ true) (λ x. x < 256) below_256 xs (AllPass-from_list_all (λ x. nat_lt x 256) xs h) }

block_if : (b : Bool) (xs ys : Bytes) → IsBlock xs → IsBlock ys → IsBlock (cond b xs ys)
block_if true xs ys p q = p
block_if false xs ys p q = q

is_volume_of : (contents : ℕ → Bytes) → ((n : ℕ) → IsBlock (contents n)) → IsVolume (two_primaries contents) 600
is_volume_of contents h = record {
  from = omega arith;
  to = omega arith;
  each = λ n l. block_if (nat_eq n 35) (primary_at 0x31 0x26 0x23) _ (block_by (primary_at 0x31 0x26 0x23) refl refl)
      (block_if (nat_eq n 51) (primary_at 0x32 0x36 0x33) _ (block_by (primary_at 0x32 0x36 0x33) refl refl)
      (block_if (nat_eq n 36) (terminator_at 0x2E 0x24) _ (block_by (terminator_at 0x2E 0x24) refl refl)
      (block_if (nat_eq n 52) (terminator_at 0x3E 0x34) _ (block_by (terminator_at 0x3E 0x34) refl refl)
      ((sample_layout_law one_type1 contents h).is_volume.each n l))));
}

-- ---- anchors and positions
anchors_are : (contents : ℕ → Bytes) → valid_anchors (two_primaries contents) 600 ≡ 256 ∷ 600 ∷ []
unfolding polynomial reduced crc_of tag_of
anchors_are contents = refl

same_anchors : (contents : ℕ → Bytes) (a b : ℕ) → Includes (256 ∷ 600 ∷ []) a → Includes (256 ∷ 600 ∷ []) b → part (two_primaries contents a) 16 16 ≡ part (two_primaries contents b) 16 16
same_anchors contents a b i j = of a i ∙ sym (of b j)
  where
    of : (c : ℕ) → Includes (256 ∷ 600 ∷ []) c → part (two_primaries contents c) 16 16 ≡ part (two_primaries contents 256) 16 16
    of c (inl e) = ap (λ z. part (two_primaries contents z) 16 16) (sym e)
    of c (inr (inl e)) = ap (λ z. part (two_primaries contents z) 16 16) (sym e)
    of c (inr (inr e)) = absurd e

abbrev extents : AnchorExtents
extents = record { main = record { length = 32768; block = 32 }; reserve = record { length = 32768; block = 48 } }

anchor_is : (contents : ℕ → Bytes) → anchor (complete (two_primaries contents) 600) 600 ≡ found extents
unfolding polynomial reduced crc_of tag_of anchor
anchor_is contents = refl

the_end : (contents : ℕ → Bytes) → goes_on (position (complete (two_primaries contents) 600) 36 52) ≡ false
unfolding polynomial reduced crc_of tag_of position
the_end contents = refl

main_primary : (contents : ℕ → Bytes) → (is_sound (two_primaries contents 35) 35 ≡ true) × (identifier (two_primaries contents 35) ≡ 1)
unfolding polynomial reduced crc_of tag_of
main_primary contents = (refl, refl)

reserve_primary : (contents : ℕ → Bytes) → (is_sound (two_primaries contents 51) 51 ≡ true) × (identifier (two_primaries contents 51) ≡ 1)
unfolding polynomial reduced crc_of tag_of
reserve_primary contents = (refl, refl)

apart : (contents : ℕ → Bytes) → drop 16 (two_primaries contents 35) ≢ drop 16 (two_primaries contents 51)
apart contents e = let t : true ≡ false = ap (λ bytes. nat_eq (uint8_at bytes 57) 0x31) e in let z : ⊥ = cc in z

-- of the primary volume descriptors only that they are there, and of the others the same bytes
copies_by : (contents : ℕ → Bytes) (i : ℕ) → IsThroughEnd (two_primaries contents) 600 extents i → SaysTheSame (two_primaries contents) (32 + i) (48 + i)
unfolding polynomial reduced crc_of tag_of
copies_by contents zero h = record { soundness = refl; identifiers = λ e. refl; contents = λ e r. refl }
copies_by contents (suc zero) h = record { soundness = refl; identifiers = λ e. refl; contents = λ e r. refl }
copies_by contents (suc (suc zero)) h = record { soundness = refl; identifiers = λ e. refl; contents = λ e r. refl }
copies_by contents (suc (suc (suc zero))) h = record { soundness = refl; identifiers = λ e. refl; contents = λ e r. absurd (let f : false ≡ true = r in let z : ⊥ = cc in z) }
copies_by contents (suc (suc (suc (suc zero)))) h = record { soundness = refl; identifiers = λ e. refl; contents = λ e r. refl }
copies_by contents (suc (suc (suc (suc (suc i))))) h = absurd (let t : true ≡ false = sym (h.before 4 (omega arith)) ∙ the_end contents in let z : ⊥ = cc in z)

-- ---- the layout
layout_is : (contents : ℕ → Bytes) → layout (complete (two_primaries contents) 600) 600 ≡ found (sample_layout one_type1)
unfolding polynomial reduced crc_of tag_of anchor position sequence_by layout_of main_layout_by layout_by
layout_is contents = refl

lawful : (contents : ℕ → Bytes) → IsLawfulLayout (two_primaries contents) 600
lawful contents = record {
  anchored = λ e. none 256 (600 ∷ []) (sym (anchors_are contents) ∙ e);
  anchors = λ a b i j. same_anchors contents a b (included (256 ∷ 600 ∷ []) a (subst (λ z. Contains z a) (anchors_are contents) i)) (included (256 ∷ 600 ∷ []) b (subst (λ z. Contains z b) (anchors_are contents) j));
  copies = λ e i q h. copies e i (found_same extents e (sym (anchor_is contents) ∙ q)) h;
  laid_out = (sample_layout one_type1, layout_is contents);
}
  where
    none : (a : ℕ) (xs : List ℕ) → a ∷ xs ≢ []
    none a xs e = let z : ⊥ = cc in z

    copies : (e : AnchorExtents) (i : ℕ) → extents ≡ e → IsThroughEnd (two_primaries contents) 600 e i → SaysTheSame (two_primaries contents) (e.main.block + i) (e.reserve.block + i)
    copies e i q h = subst (λ z. SaysTheSame (two_primaries contents) (z.main.block + i) (z.reserve.block + i)) q (copies_by contents i (subst (λ z. IsThroughEnd (two_primaries contents) 600 z i) (sym q) h))

pub primaries_may_differ : PrimariesMayDiffer
primaries_may_differ contents h = record {
  is_volume = is_volume_of contents h;
  main_is = main_primary contents;
  reserve_is = reserve_primary contents;
  differ = apart contents;
  is_lawful = lawful contents;
}
