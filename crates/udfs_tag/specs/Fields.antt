-- Fields of descriptors: numbers with the lowest byte first (ECMA-167 1/7.1), and the small records made of them.
--     part bytes at n                                  n bytes from a position on
--     uint8_at, uint16_at, uint32_at, uint64_at        the number at a byte position
--     extent_ad_of, short_ad_of, long_ad_of, regid_of  the record at the front of bytes
--     extent_ad_at, short_ad_at, long_ad_at, regid_at  the record at a byte position
--     first_address extent                             the address of an extent's first logical block
--     number_of address                                an address as one number
--     zero_filled n text                                    a short text with zero bytes after it
use Rattle.std.specs.Prelude.{ℕ, ◌+◌, ◌-◌, ◌*◌, ◌/◌, ◌%◌, ◌^◌, List, ◌++◌, length, take, drop, replicate, slice_index}
use Rattle.byteorder.specs.Endian.{little_number}
use Rattle.udfs_tag.specs.declared.layouts.ExtentAd.{ExtentAd}
use Rattle.udfs_tag.specs.declared.layouts.ShortAd.{ShortAd}
use Rattle.udfs_tag.specs.declared.layouts.LbAddr.{LbAddr}
use Rattle.udfs_tag.specs.declared.layouts.LongAd.{LongAd}
use Rattle.udfs_tag.specs.declared.layouts.RegId.{RegId}

-- n bytes from a position on
abbrev pub part : List ℕ → ℕ → ℕ → List ℕ
part bytes at n = take n (drop at bytes)

-- the byte at a position
abbrev pub uint8_at : List ℕ → ℕ → ℕ
uint8_at bytes at = slice_index bytes at

-- the number of two bytes at a position
abbrev pub uint16_at : List ℕ → ℕ → ℕ
uint16_at bytes at = little_number 2 (drop at bytes)

-- the number of four bytes at a position
abbrev pub uint32_at : List ℕ → ℕ → ℕ
uint32_at bytes at = little_number 4 (drop at bytes)

-- the number of eight bytes at a position
abbrev pub uint64_at : List ℕ → ℕ → ℕ
uint64_at bytes at = little_number 8 (drop at bytes)

-- extent_ad (3/7.1): the length has all 32 bits of its field
abbrev pub extent_ad_of : List ℕ → ExtentAd
extent_ad_of bytes = record { length = uint32_at bytes 0; block = uint32_at bytes 4 }

-- short_ad (4/14.14.1): the top two bits of the length field are the extent's type
abbrev pub short_ad_of : List ℕ → ShortAd
short_ad_of bytes = record {
  kind = uint32_at bytes 0 / 2 ^ 30;
  length = uint32_at bytes 0 % 2 ^ 30;
  block = uint32_at bytes 4;
}

-- long_ad (4/14.14.2): the same, with the number of the partition's map
abbrev pub long_ad_of : List ℕ → LongAd
long_ad_of bytes = record {
  kind = uint32_at bytes 0 / 2 ^ 30;
  length = uint32_at bytes 0 % 2 ^ 30;
  block = uint32_at bytes 4;
  reference = uint16_at bytes 8;
}

-- regid (1/7.4): the identifier after the byte of flags, and the suffix
abbrev pub regid_of : List ℕ → RegId
regid_of bytes = record { name = part bytes 1 23; suffix = part bytes 24 8 }

-- the extent_ad at a position (ECMA-167 3/7.1)
abbrev pub extent_ad_at : List ℕ → ℕ → ExtentAd
extent_ad_at bytes at = extent_ad_of (drop at bytes)

-- the short_ad at a position (ECMA-167 4/14.14.1)
abbrev pub short_ad_at : List ℕ → ℕ → ShortAd
short_ad_at bytes at = short_ad_of (drop at bytes)

-- the long_ad at a position (ECMA-167 4/14.14.2)
abbrev pub long_ad_at : List ℕ → ℕ → LongAd
long_ad_at bytes at = long_ad_of (drop at bytes)

-- the regid at a position (ECMA-167 1/7.4)
abbrev pub regid_at : List ℕ → ℕ → RegId
regid_at bytes at = regid_of (drop at bytes)

-- the address of an extent's first logical block, lb_addr (ECMA-167 4/7.1)
abbrev pub first_address : LongAd → LbAddr
first_address extent = record { block = extent.block; reference = extent.reference }

-- an address as one number: by partition, and then by block
abbrev pub number_of : LbAddr → ℕ
number_of address = address.reference * 4294967296 + address.block

-- a short text, with zero bytes up to n
abbrev pub zero_filled : ℕ → List ℕ → List ℕ
zero_filled n text = text ++ replicate (n - length text) 0
