-- The bytes of a body are bytes.
use Rattle.std.proofs.Common.{◌≡◌, refl, inl, inr, ℕ, ◌*◌, ◌-◌, ◌<◌, Bool, true, false, List, [], ◌∷◌, ◌++◌, take, drop, replicate, cond, nat_eq, arith, Option, Some, None}
use Rattle.std.specs.Prelude.{All, flat_map}
use Rattle.std.specs.List.{range_with_len}
use Rattle.std.proofs.lemmas.List.Elements.{All-append, All-drop, All-map, All-nil, All-replicate, All-same, All-take}
use Rattle.udfs_tag.specs.declared.layouts.LongAd.{LongAd}
use Rattle.udfs_volume.specs.Layout.{blocks_in}
use Rattle.udfs_volume.specs.Profiles.{takes_tail}
use Rattle.udfs_volume.specs.Sequence.{Bytes}
use Rattle.udfs_file.specs.Standard.{Located, PartitionBlocks, block_bytes, bytes_behind, extent_blocks, extent_bytes, extents_of, located, tail_by, tail_of, up_to_end}
use Rattle.udfs_lawfulness.specs.Files.{IsBodyAt}
use Rattle.udfs_lawfulness.specs.EcmaLaws.{AreBytes, AreWholeBlocks, BodyBytesLaw}
use Rattle.udfs_lawfulness.proofs.FileTables.{area_bytes}

-- each of these is a byte
abbrev Each : List Located → Type 0
Each xs = All (λ (x : Located). x.0 < 256) xs

zeros : (n : ℕ) → Each (replicate n (0, None))
zeros n = All-replicate (λ (x : Located). x.0 < 256) n (0, None) (omega arith)

located_bytes : (b : ℕ) (bytes : Bytes) → AreBytes bytes → Each (located b bytes)
located_bytes b bytes h = All-map (λ (x : Located). x.0 < 256) (λ (x : ℕ). (x, Some b)) bytes h

joined : {X : Type 0} (f : X → List Located) (xs : List X) → ((x : X) → Each (f x)) → Each (flat_map f xs)
joined f [] h = All-nil (λ (x : Located). x.0 < 256)
joined f (x ∷ xs) h = All-append (λ (x : Located). x.0 < 256) (f x) (flat_map f xs) (h x) (joined f xs h)

either : (t : Bool) (xs ys : List Located) → Each xs → Each ys → Each (cond t xs ys)
either true xs ys p q = p
either false xs ys p q = q

module _ (blocks : PartitionBlocks) (whole : AreWholeBlocks blocks) where
  block_is : (r b : ℕ) → Each (block_bytes b (blocks.at r b))
  block_is r b = by (blocks.at r b) refl
    where
      by : (o : Option Bytes) → blocks.at r b ≡ o → Each (block_bytes b o)
      by None e = All-nil (λ (x : Located). x.0 < 256)
      by (Some bytes) e = located_bytes b bytes (whole r b bytes e).bytes

  extent_is : (d : LongAd) → Each (extent_blocks blocks d)
  extent_is d = joined (λ b. block_bytes b (blocks.at d.reference b)) (range_with_len d.block (blocks_in d.length)) (block_is d.reference)

  bytes_are : (d : LongAd) → Each (extent_bytes blocks d)
  bytes_are d = either (nat_eq d.kind 0) (take d.length (extent_blocks blocks d)) (replicate d.length (0, None))
      (All-take (λ (x : Located). x.0 < 256) d.length (extent_blocks blocks d) (extent_is d)) (zeros d.length)

  behind_are : (d : LongAd) → Each (bytes_behind blocks d)
  behind_are d = either (nat_eq d.kind 0) (drop d.length (extent_blocks blocks d)) (replicate (2048 * blocks_in d.length - d.length) (0, None))
      (All-drop (λ (x : Located). x.0 < 256) d.length (extent_blocks blocks d) (extent_is d)) (zeros (2048 * blocks_in d.length - d.length))

  tail_is : (ds : List LongAd) → Each (tail_of blocks ds)
  tail_is [] = All-nil (λ (x : Located). x.0 < 256)
  tail_is (d ∷ []) = either (nat_eq d.kind 3) [] (bytes_behind blocks d) (All-nil (λ (x : Located). x.0 < 256)) (behind_are d)
  tail_is (d ∷ e ∷ ds) = tail_is (e ∷ ds)

  all_are : (ds : List LongAd) → Each (flat_map (extent_bytes blocks) (extents_of (up_to_end ds)) ++ tail_by blocks (up_to_end ds))
  all_are ds = All-append (λ (x : Located). x.0 < 256) (flat_map (extent_bytes blocks) (extents_of (up_to_end ds))) (tail_by blocks (up_to_end ds))
      (joined (extent_bytes blocks) (extents_of (up_to_end ds)) bytes_are)
      (either (takes_tail blocks.profile) (tail_of blocks (up_to_end ds)) [] (tail_is (up_to_end ds)) (All-nil (λ (x : Located). x.0 < 256)))

pub body_bytes_law : BodyBytesLaw
body_bytes_law blocks whole r b bytes at e body i h = All-map (λ x. x < 256) (λ (x : Located). x.0) body (of h)
  where
    of : IsBodyAt blocks r b e body → Each body
    of (inl (q, m)) = All-same (λ (x : Located). x.0 < 256) body (located b (take e.size e.area)) m.is
        (located_bytes b (take e.size e.area) (All-take (λ x. x < 256) e.size e.area (area_bytes blocks whole r b bytes (whole r b bytes at) e body i)))
    of (inr (n, m)) = All-same (λ (x : Located). x.0 < 256) body (take e.size m.bytes) m.is
        (All-take (λ (x : Located). x.0 < 256) e.size m.bytes (All-same (λ (x : Located). x.0 < 256) m.bytes _ m.together (all_are blocks whole m.descriptors)))
