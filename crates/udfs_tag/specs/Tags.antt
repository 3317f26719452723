-- The tag at the front of a descriptor (ECMA-167 3/7.2 and 4/7.2), and its faults.
--     tag_of bytes place               the tag of bytes that are at a place, or its first fault
--     is_sound bytes place             whether the tag has no fault there
--     is_valid bytes place id          whether it is sound and has this identifier
--     identifier bytes                 the identifier, whether the tag is sound or not
--     HasTagFault f bytes place           the fault holds, whatever else holds
--     IsAccepted, IsFirstFault         what `tag_of` returns, in these terms
use Rattle.std.specs.Prelude.{◌≡◌, ◌≢◌, ℕ, Bool, false, ◌+◌, ◌%◌, ◌<◌, ◌≤◌, ◌⊎◌, ◌==◌, ◌||◌, not, nat_lt, List, length, take, sum, Result, Ok, Err, is_ok, if◌then◌else◌}
use Rattle.udfs_tag.specs.Crc.{crc_of, message, IsRemainder}
use Rattle.udfs_tag.specs.Fields.{part, uint8_at, uint16_at, uint32_at}
use Rattle.udfs_tag.specs.declared.tags.Tag.{Tag}
use Rattle.udfs_tag.specs.declared.tags.TagFault.{TagFault}
use Rattle.udfs_tag.specs.declared.tags.TagFault.TheVariants.{Checksum, Version, CrcLength, Crc, Location}

-- the tag's identifier (3/7.2.1)
abbrev pub identifier : List ℕ → ℕ
identifier bytes = uint16_at bytes 0

-- the sum modulo 256 of the tag's bytes 0 to 3 and 5 to 15 (3/7.2.3)
abbrev pub checksum_of : List ℕ → ℕ
checksum_of bytes = (sum (take 4 bytes) + sum (part bytes 5 11)) % 256

-- the number of bytes after the tag that the CRC covers (3/7.2.7)
abbrev pub covered_len : List ℕ → ℕ
covered_len bytes = uint16_at bytes 10

-- the bytes that the CRC covers, as far as they are there
abbrev pub covered : List ℕ → List ℕ
covered bytes = part bytes 16 (covered_len bytes)

-- the tag of bytes that are at a place, or its first fault
unfoldable pub tag_of : List ℕ → ℕ → Result Tag TagFault
tag_of bytes place =
    if not (uint8_at bytes 4 == checksum_of bytes) then Err Checksum
    else if not (uint16_at bytes 2 == 2 || uint16_at bytes 2 == 3) then Err Version
    else if nat_lt (length bytes) (16 + covered_len bytes) then Err CrcLength
    else if not (uint16_at bytes 8 == crc_of (covered bytes)) then Err Crc
    else if not (uint32_at bytes 12 == place) then Err Location
    else Ok (record { identifier = identifier bytes })

-- whether it is a tag with this identifier
abbrev pub has_identifier : Result Tag TagFault → ℕ → Bool
has_identifier (Ok tag) id = tag.identifier == id
has_identifier (Err fault) id = false

-- whether the tag has no fault at this place
abbrev pub is_sound : List ℕ → ℕ → Bool
is_sound bytes place = is_ok (tag_of bytes place)

-- whether the tag has no fault at this place, and has this identifier
abbrev pub is_valid : List ℕ → ℕ → ℕ → Bool
is_valid bytes place id = has_identifier (tag_of bytes place) id

-- when each fault holds, whatever else holds
abbrev pub HasTagFault : TagFault → List ℕ → ℕ → Type 0
HasTagFault Checksum bytes place = uint8_at bytes 4 ≢ checksum_of bytes
HasTagFault Version bytes place = (uint16_at bytes 2 ≢ 2) × (uint16_at bytes 2 ≢ 3)
HasTagFault CrcLength bytes place = length bytes < 16 + covered_len bytes
HasTagFault Crc bytes place = ¬ IsRemainder (message (covered bytes)) (uint16_at bytes 8)
HasTagFault Location bytes place = uint32_at bytes 12 ≢ place

-- the order in which `tag_of` looks for faults
abbrev pub fault_number : TagFault → ℕ
fault_number Checksum = 1
fault_number Version = 2
fault_number CrcLength = 3
fault_number Crc = 4
fault_number Location = 5

-- the tag has the identifier of the bytes, and their checksum, version, CRC length, CRC and location are right
pub record IsAccepted (bytes : List ℕ) (place : ℕ) (tag : Tag) : Type 0 where
  pub identified : tag.identifier ≡ identifier bytes
  pub checksum : uint8_at bytes 4 ≡ checksum_of bytes
  pub version : (uint16_at bytes 2 ≡ 2) ⊎ (uint16_at bytes 2 ≡ 3)
  pub crc_length : 16 + covered_len bytes ≤ length bytes
  pub crc : IsRemainder (message (covered bytes)) (uint16_at bytes 8)
  pub location : uint32_at bytes 12 ≡ place

-- the fault holds, and none with a lower number
abbrev pub IsFirstFault : List ℕ → ℕ → TagFault → Type 0
IsFirstFault bytes place f = HasTagFault f bytes place × ((g : TagFault) → fault_number g < fault_number f → ¬ HasTagFault g bytes place)
