-- A whole field that breaks its rule is a fault whatever follows it.
use Rattle.std.proofs.Common.{◌≡◌, ℕ, ◌≤◌, List, [], ◌∷◌, ◌++◌, length, drop, refl, ap, ◌∙◌, append_assoc, arith, length-append}
use Rattle.std.proofs.lemmas.List.{take-append-le, drop-append-le, length-drop}
use Rattle.byteorder.specs.Numbers.{little_from-append}
use Rattle.udfs_reading.specs.declared.error.ReadingFault.{ReadingFault}
use Rattle.udfs_reading.specs.declared.error.ReadingFault.TheVariants as fault
use Rattle.udfs_reading.specs.Format.{value_of, Format, Spot, AtMagic, AtBlockSize, AtCount, In, before, size_of, Breaks, FaultHere, HasFault}
use Rattle.udfs_reading.specs.Reading.{AtBlock, AtBytes, AtEnd, reading_format}
use Rattle.udfs_reading.specs.PacketReading.{AtPacket, AtMasks, AtBlocks, AtPacketsEnd, Clash, packet_format}
use Rattle.udfs_reading.specs.TableReading.{AtNumber, AtState, AtContent, AtTableEnd, IsOtherState, table_format}

value_of-more : (rest left : List ℕ) → 4 ≤ length rest → value_of (rest ++ left) ≡ value_of rest
unfolding value_of
value_of-more rest left h = little_from-append 4 rest left h

-- what breaks a rule in a record goes on breaking it
abbrev pub GoesOn : Format → Type 0
GoesOn F = (place : F.Place) (rest left : List ℕ) (f : ReadingFault) → F.size_of place ≤ length rest → F.Breaks place rest f → F.Breaks place (rest ++ left) f

breaks_more : (F : Format) → GoesOn F → (spot : Spot F.Place) (rest left : List ℕ) (f : ReadingFault) → size_of F spot ≤ length rest → Breaks F spot rest f → Breaks F spot (rest ++ left) f
breaks_more F on AtMagic rest left fault.Magic long h = rw (take-append-le 8 rest left long) h
breaks_more F on AtMagic rest left _ long h = absurd h
breaks_more F on AtBlockSize rest left fault.BlockSize long h = rw (value_of-more rest left long) h
breaks_more F on AtBlockSize rest left _ long h = absurd h
breaks_more F on AtCount rest left _ long h = absurd h
breaks_more F on (In place) rest left f long h = on place rest left f long h

here_more : (F : Format) → GoesOn F → (spot : Spot F.Place) (rest left : List ℕ) (f : ReadingFault) → (f ≡ fault.Truncated → ⊥) → FaultHere F spot rest f → FaultHere F spot (rest ++ left) f
here_more F on spot rest left fault.Truncated whole h = absurd (whole refl)
here_more F on spot rest left _ whole h = (omega (arith, length-append rest left, h.0), breaks_more F on spot rest left _ h.0 h.1)

pub fault_more : (F : Format) → GoesOn F → (got left : List ℕ) (f : ReadingFault) (number : ℕ) → (f ≡ fault.Truncated → ⊥) → HasFault F got f number → HasFault F (got ++ left) f number
fault_more F on got left f number whole h =
    record {
      spot = h.spot;
      is_spot = h.is_spot;
      rest = h.rest ++ left;
      split = ap (λ (l : List ℕ). l ++ left) h.split ∙ append_assoc (before F h.spot) h.rest left;
      here = here_more F on h.spot h.rest left f whole h.here;
      which = h.which;
    }

pub reading_goes_on : GoesOn reading_format
reading_goes_on (AtBlock count done) rest left fault.BlockNumber long h = rw (value_of-more rest left long) h
reading_goes_on (AtBlock count done) rest left _ long h = absurd h
reading_goes_on (AtBytes count done block) rest left _ long h = absurd h
reading_goes_on (AtEnd done) rest left fault.Trailing long h = omega (arith, length-append rest left)
reading_goes_on (AtEnd done) rest left _ long h = absurd h

other_more : (rest left : List ℕ) → IsOtherState rest → IsOtherState (rest ++ left)
other_more [] left h = absurd h
other_more (b ∷ rest) left h = h

pub table_goes_on : GoesOn table_format
table_goes_on (AtNumber count done) rest left fault.BlockNumber long h = rw (value_of-more rest left long) h
table_goes_on (AtNumber count done) rest left fault.Order long h = rw (value_of-more rest left long) h
table_goes_on (AtNumber count done) rest left _ long h = absurd h
table_goes_on (AtState count done block) rest left fault.State long h = other_more rest left h
table_goes_on (AtState count done block) rest left _ long h = absurd h
table_goes_on (AtContent count done block) rest left _ long h = absurd h
table_goes_on (AtTableEnd done) rest left fault.Trailing long h = omega (arith, length-append rest left)
table_goes_on (AtTableEnd done) rest left _ long h = absurd h

clash_more : (rest left : List ℕ) → 8 ≤ length rest → Clash (value_of rest) (value_of (drop 4 rest)) → Clash (value_of (rest ++ left)) (value_of (drop 4 (rest ++ left)))
clash_more rest left long h =
    let later : drop 4 (rest ++ left) ≡ drop 4 rest ++ left = drop-append-le 4 rest left (omega arith) in
    let four : 4 ≤ length (drop 4 rest) = omega (arith, length-drop 4 rest) in
    rw (value_of-more rest left (omega arith), later, value_of-more (drop 4 rest) left four) h

pub packet_goes_on : GoesOn packet_format
packet_goes_on (AtPacket count done) rest left fault.BlockNumber long h = rw (value_of-more rest left long) h
packet_goes_on (AtPacket count done) rest left fault.Order long h = rw (value_of-more rest left long) h
packet_goes_on (AtPacket count done) rest left _ long h = absurd h
packet_goes_on (AtMasks count done p) rest left fault.State long h = clash_more rest left long h
packet_goes_on (AtMasks count done p) rest left _ long h = absurd h
packet_goes_on (AtBlocks count done p known conflict) rest left _ long h = absurd h
packet_goes_on (AtPacketsEnd done) rest left fault.Trailing long h = omega (arith, length-append rest left)
packet_goes_on (AtPacketsEnd done) rest left _ long h = absurd h
