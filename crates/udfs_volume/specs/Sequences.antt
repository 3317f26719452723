-- The descriptors of the code, as the definitions have them.
use Rattle.std.specs.Prelude.{ℕ, List, map, drop, cond}
use Rattle.std.specs.Borrow.{Bor}
use Rattle.udfs_lattice.specs.Volumes.{ascending}
use Rattle.udfs_tag.specs.Tags.{is_sound, identifier}
use Rattle.udfs_volume.specs.Sequence.{Bytes, Descriptor, Position, unread, invalid, descriptor}
use Rattle.udfs_volume.specs.declared.descriptors.Descriptor as code_descriptor
use Rattle.udfs_volume.specs.declared.descriptors.Sequence as code_sequence
use Rattle.udfs_volume.specs.declared.sequences.Position as code_position
use Rattle.udfs_volume.specs.declared.sequences.Position.TheVariants as variants

-- a descriptor of the code, as the definitions see it
abbrev pub descriptor_now : code_descriptor.Descriptor → Descriptor
descriptor_now d = record { identifier = d.identifier; content = drop 16 d.block.value }

-- a descriptor that is lent
abbrev pub lent_now : Bor code_descriptor.Descriptor → Descriptor
lent_now d = descriptor_now d.now

-- the descriptors of a sequence
abbrev pub sequence_now : code_sequence.Sequence → List Descriptor
sequence_now s = map descriptor_now s.descriptors.items

-- a position whose copies are these
abbrev pub position_now : List ℕ → code_position.Position → Position
position_now copies variants.Unread = unread (ascending copies)
position_now copies variants.Invalid = invalid
position_now copies (variants.Descriptor d) = descriptor (descriptor_now d)

-- what a known block is at its place
abbrev pub descriptor_of : Bytes → ℕ → Position
descriptor_of bytes place =
    cond (is_sound bytes place) (descriptor (record { identifier = identifier bytes; content = drop 16 bytes })) invalid
