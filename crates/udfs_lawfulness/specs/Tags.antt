-- The tag at the front of a descriptor, by its table (ECMA-167 3/7.2 and 4/7.2).
--     tag_table                   the rows
--     IsTagged bytes id place     a valid tag with this identifier, of a descriptor at this place
use Rattle.std.specs.Prelude.{◌≡◌, ℕ, ◌+◌, ◌%◌, ◌⊎◌, List, [], ◌∷◌, sum}
use Rattle.udfs_tag.specs.Crc.{message, IsRemainder}
use Rattle.udfs_lawfulness.specs.LawfulTables.{Row, row, IsField, Holds}

-- tag identifier
abbrev pub tag_identifier : Row
tag_identifier = row 0 2

-- descriptor version
abbrev pub tag_version : Row
tag_version = row 2 2

-- tag checksum
abbrev pub tag_checksum : Row
tag_checksum = row 4 1

-- descriptor CRC
abbrev pub tag_crc : Row
tag_crc = row 8 2

-- descriptor CRC length
abbrev pub tag_crc_length : Row
tag_crc_length = row 10 2

-- tag location
abbrev pub tag_location : Row
tag_location = row 12 4

-- the tag: between these are a reserved byte and the serial number
abbrev pub tag_table : List Row
tag_table = tag_identifier ∷ tag_version ∷ tag_checksum ∷ row 5 1 ∷ row 6 2 ∷ tag_crc ∷ tag_crc_length ∷ tag_location ∷ []

-- the sum modulo 256 of bytes 0 to 3 and 5 to 15 of the tag (3/7.2.3)
pub record IsChecksum (bytes : List ℕ) (checksum : ℕ) : Type 0 where
  pub front : List ℕ
  pub front_is : IsField bytes (row 0 4) front
  pub back : List ℕ
  pub back_is : IsField bytes (row 5 11) back
  pub is : checksum ≡ (sum front + sum back) % 256

-- a tag of version 2 or 3, with the right checksum, with the CRC of as many bytes after it as it says, and with this identifier and place
pub record IsTagged (bytes : List ℕ) (id place : ℕ) : Type 0 where
  pub identifier : Holds bytes tag_identifier id
  pub version : Holds bytes tag_version 2 ⊎ Holds bytes tag_version 3
  pub checksum : ℕ
  pub checksum_is : Holds bytes tag_checksum checksum
  pub summed : IsChecksum bytes checksum
  pub crc_length : ℕ
  pub crc_length_is : Holds bytes tag_crc_length crc_length
  pub covered : List ℕ
  pub covered_is : IsField bytes (row 16 crc_length) covered
  pub crc : ℕ
  pub crc_is : Holds bytes tag_crc crc
  pub remainder : IsRemainder (message covered) crc
  pub location : Holds bytes tag_location place
