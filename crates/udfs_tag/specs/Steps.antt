-- Words for the functions below the public ones. No public contract cites them.
use Rattle.std.specs.Prelude.{ℕ, ◌*◌, ◌^◌, ◌==◌, ◌||◌, not, nat_lt, List, length, take, fold, bit_xor, Result, Ok, Err, if◌then◌else◌}
use Rattle.udfs_tag.specs.Crc.{reduced, crc_of}
use Rattle.udfs_tag.specs.Fields.{uint8_at, uint16_at, uint32_at}
use Rattle.udfs_tag.specs.Tags.{identifier, checksum_of, covered_len}
use Rattle.udfs_tag.specs.declared.tags.Tag.{Tag}
use Rattle.udfs_tag.specs.declared.tags.TagFault.{TagFault}
use Rattle.udfs_tag.specs.declared.tags.TagFault.TheVariants.{Checksum, Version, CrcLength, Crc, Location}

-- a remainder of 16 bits, times x^8 and divided
unfoldable pub turned : ℕ → ℕ
turned r = reduced 8 (r * 2 ^ 8)

-- the remainder after one more byte
abbrev pub after_byte : ℕ → ℕ → ℕ
after_byte r b = turned (bit_xor r (b * 2 ^ 8))

-- the remainder after more bytes
abbrev pub crc_after : ℕ → List ℕ → ℕ
crc_after r bytes = fold after_byte r bytes

-- the tag of a header of 16 bytes, apart from the bytes that follow it
unfoldable pub verdict : List ℕ → List ℕ → ℕ → Result Tag TagFault
verdict header rest place =
    if not (uint8_at header 4 == checksum_of header) then Err Checksum
    else if not (uint16_at header 2 == 2 || uint16_at header 2 == 3) then Err Version
    else if nat_lt (length rest) (covered_len header) then Err CrcLength
    else if not (uint16_at header 8 == crc_of (take (covered_len header) rest)) then Err Crc
    else if not (uint32_at header 12 == place) then Err Location
    else Ok (record { identifier = identifier header })
