-- What reading and writing does to an opened file.
--     zeros count                     so many zero bytes
--     written at piece bytes          the bytes of a file after a piece was written at a position
--     resized size bytes              the bytes of a file that is given this size
--     Descriptor                      an opened file of which the bytes are known, and its position
--     read_on, wrote_on, went_to, cut_to      the descriptor after a call
--     ReadsAt, ReadsOn                what a read gave
use Rattle.std.specs.Prelude.{◌≡◌, ℕ, ◌+◌, ◌-◌, ◌≤◌, ◌<◌, List, [], ◌++◌, Option, Some, None, length, take, drop, replicate, Result, Ok, Err}

-- so many zero bytes
abbrev pub zeros : ℕ → List ℕ
zeros count = replicate count 0

-- the bytes of a file after a piece was written at a position; where that is beyond their end, zeros are between
abbrev pub written : ℕ → List ℕ → List ℕ → List ℕ
written at piece bytes = take at (bytes ++ zeros (at - length bytes)) ++ piece ++ drop (at + length piece) bytes

-- the bytes of a file that has this size, which may end with zeros that were left out
abbrev pub padded : ℕ → List ℕ → List ℕ
padded size bytes = bytes ++ zeros (size - length bytes)

-- the bytes of a file that is given this size: cut, or with zeros behind
abbrev pub resized : ℕ → List ℕ → List ℕ
resized size bytes = take size (bytes ++ zeros (size - length bytes))

-- an opened file of which this is known: its bytes, and the position in them
pub record Descriptor : Type 0 where
  pub bytes : List ℕ
  pub at : ℕ

-- its bytes, where they are known
abbrev pub bytes_of : Option Descriptor → Option (List ℕ)
bytes_of None = None
bytes_of (Some d) = Some d.bytes

-- the bytes from its position on, where they are known
abbrev pub rest_of : Option Descriptor → Option (List ℕ)
rest_of None = None
rest_of (Some d) = Some (drop d.at d.bytes)

-- its position is the front, where it is known
abbrev pub IsAtFront : Option Descriptor → Type 0
IsAtFront None = Unit {0}
IsAtFront (Some d) = d.at ≡ 0

-- there is nothing in it
abbrev pub IsEmpty : Option Descriptor → Type 0
IsEmpty None = Unit {0}
IsEmpty (Some d) = d.bytes ≡ []

-- it went to this position
abbrev pub went_to : ℕ → Option Descriptor → Option Descriptor
went_to to None = None
went_to to (Some d) = Some (record { bytes = d.bytes; at = to })

-- a call read as many bytes as it says, and none where it failed
abbrev pub read_on : {E : Type 0} → Result ℕ E → Option Descriptor → Option Descriptor
read_on {E} result None = None
read_on {E} (Ok n) (Some d) = Some (record { bytes = d.bytes; at = d.at + n })
read_on {E} (Err e) (Some d) = Some d

-- a call wrote a front of this buffer at the position, as many bytes as it says, and none where it failed
abbrev pub wrote_on : {E : Type 0} → Result ℕ E → List ℕ → Option Descriptor → Option Descriptor
wrote_on {E} result buf None = None
wrote_on {E} (Ok n) buf (Some d) = Some (record { bytes = written d.at (take n buf) d.bytes; at = d.at + n })
wrote_on {E} (Err e) buf (Some d) = Some d

-- it was given this size
abbrev pub cut_to : ℕ → Option Descriptor → Option Descriptor
cut_to size None = None
cut_to size (Some d) = Some (record { bytes = resized size d.bytes; at = d.at })

-- a read at a position gave a front of what is there, and nothing only at the end or where there was no room
abbrev pub ReadsAt : {E : Type 0} → Option (List ℕ) → ℕ → List ℕ → Result ℕ E → Type 0
ReadsAt {E} None at buf result = Unit {0}
ReadsAt {E} (Some all) at buf (Ok n) = (take n buf ≡ take n (drop at all)) × (n ≡ 0 → 0 < length buf → length all ≤ at)
ReadsAt {E} (Some all) at buf (Err e) = Unit {0}

-- a read at the position
abbrev pub ReadsOn : {E : Type 0} → Option Descriptor → List ℕ → Result ℕ E → Type 0
ReadsOn {E} None buf result = Unit {0}
ReadsOn {E} (Some d) buf result = ReadsAt (Some d.bytes) d.at buf result
