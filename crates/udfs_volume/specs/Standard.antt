-- What the standard reads of a volume's layout from complete bytes (ECMA-167 3/8.4): one anchor, the main
-- sequence alone.
--     standard_anchor volume last            the first place of a valid anchor
--     standard_layout_by profile volume last anchor   the layout by the descriptors that prevail in its main sequence
--     standard_layout volume last anchor              the same by the strict rules
use Rattle.std.specs.Prelude.{ℕ, ◌/◌, not, List, drop, map, take_while, nat_eq, ◌&&◌, Option, find}
use Rattle.std.specs.List.{range_with_len}
use Rattle.udfs_lattice.specs.Volumes.{Volume}
use Rattle.udfs_tag.specs.Tags.{is_valid, is_sound, identifier}
use Rattle.udfs_volume.specs.Answers.{Answer}
use Rattle.udfs_volume.specs.declared.anchors.AnchorExtents.{AnchorExtents}
use Rattle.udfs_volume.specs.declared.profiles.Profile.{Profile}
use Rattle.udfs_volume.specs.declared.profiles.Profile.TheVariants.{Strict}
use Rattle.udfs_volume.specs.Sequence.{Descriptor, extents_of, anchor_places, shared}
use Rattle.udfs_volume.specs.Layout.{Layout, layout_of}

-- the first place that has a valid anchor
abbrev pub standard_anchor : Volume → ℕ → Option ℕ
standard_anchor volume last = find (λ n. is_valid (volume n) n 2) (anchor_places last)

-- the main extent's blocks, as many as both extents have, before the first that has no sound tag at its place, or that is a terminating descriptor (8)
abbrev pub main_blocks : Volume → AnchorExtents → List ℕ
main_blocks volume e = take_while (λ n. is_sound (volume n) n && not (nat_eq (identifier (volume n)) 8))
    (range_with_len e.main.block ((shared e).main.length / 2048))

-- the descriptors of the main sequence, as the standard reads them
abbrev pub main_sequence : Volume → AnchorExtents → List Descriptor
main_sequence volume e =
    map (λ n. record { identifier = identifier (volume n); content = drop 16 (volume n) }) (main_blocks volume e)

-- the layout of a volume, as the standard reads it from this anchor by the rules of a profile
abbrev pub standard_layout_by : Profile → Volume → ℕ → ℕ → Answer Layout
standard_layout_by profile volume last anchor = layout_of profile last (main_sequence volume (extents_of (volume anchor)))

-- the same by the strict rules
abbrev pub standard_layout : Volume → ℕ → ℕ → Answer Layout
standard_layout = standard_layout_by Strict
