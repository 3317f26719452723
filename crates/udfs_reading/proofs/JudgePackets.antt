-- No bytes are two table files of version 2, or such a file and faulty, or have two first faults.
use Rattle.std.proofs.Common.{◌≡◌, ℕ, zero, suc, ◌+◌, ◌-◌, ◌^◌, ◌<◌, ◌≤◌, Bool, true, false, cond, ltb, List, [], ◌∷◌, ◌++◌, length, drop, Ok, Err, refl, sym, ap, subst, ◌∙◌, append_assoc, append-nil, arith, length-append, inl, inr}
use Rattle.std.specs.Prelude.{nat_lt, ◌==◌, if◌then◌else◌}
use Rattle.std.specs.List.{flat_map}
use Rattle.std.specs.Int.Bits.{bit_and}
use Rattle.std.proofs.lemmas.Bool.{le-ltb, lt-ltb, eq-eqb, ne_eqb}
use Rattle.std.proofs.lemmas.List.{drop_at}
use Rattle.udfs_lattice.specs.States.{State, is_known, is_conflict}
use Rattle.udfs_lattice.specs.Tables.{Table}
use Rattle.udfs_reading.specs.declared.error.ReadingFault.{ReadingFault}
use Rattle.udfs_reading.specs.declared.error.ReadingFault.TheVariants as fault
use Rattle.udfs_reading.specs.Format.{number, value_of, header, In, FaultHere, HasFault}
use Rattle.udfs_reading.specs.Outcome.{HeaderIsSound}
use Rattle.udfs_reading.specs.PacketFile.{packet_magic, Packet, mask_of, content, masks_bytes, packet_bytes, packed_file, packets_of}
use Rattle.udfs_reading.specs.PacketReading.{IsPacketFile, AreStates, PacketsRise, low_after, Clash, AreMasks, size_of_blocks, packets_front, IsUnderPackets, PacketPlace, IsPacketPlace, before_packet_place, record_of_packet_place, AtPacket, AtMasks, AtBlocks, AtPacketsEnd, packet_format, tables_v2}
use Rattle.udfs_reading.proofs.Numbers.{length-number, value_of-number}
use Rattle.udfs_reading.proofs.PacketMasks.{masks_apart, mask_below, some_mask, blocks_size, states_by, states_again}
use Rattle.udfs_reading.proofs.Counts.{same_count}
use Rattle.udfs_reading.proofs.PacketTables.{few_packets}
use Rattle.udfs_reading.proofs.JudgeHeader as header
use Rattle.udfs_reading.proofs.JudgeHeader.{Judged, judge, judge_header, number_long, with_first, with_all, all_err, all_ok, IsFrom, from_ok, from_err, first_keeps, from_either}

pub length-packet_magic : length packet_magic ≡ 8
unfolding packet_magic
length-packet_magic = refl

-- whether the masks clash
abbrev clash : ℕ → ℕ → Bool
clash known conflict = cond (bit_and known conflict == 0) (known + conflict == 0) true

-- the masks and the blocks, and what their states make of the rest
judge_masks : ℕ → List ℕ → (List State → List ℕ → Judged Packet) → Judged Packet
judge_masks k bytes next =
    if nat_lt (length bytes) 8 then Err (fault.Truncated, k)
    else if clash (value_of bytes) (value_of (drop 4 bytes)) then Err (fault.State, k)
    else if nat_lt (length (drop 8 bytes)) (size_of_blocks (value_of bytes)) then Err (fault.Truncated, k)
    else next (states_by 32 (value_of bytes) (value_of (drop 4 bytes)) (drop 8 bytes)) (drop (size_of_blocks (value_of bytes)) (drop 8 bytes))

-- n more packets, the first of which is record k and has a number from `low` on, and then the end
judge_packets : ℕ → ℕ → ℕ → List ℕ → Judged Packet
judge_packets zero k low bytes = if length bytes == 0 then Ok [] else Err (fault.Trailing, k - 1)
judge_packets (suc n) k low bytes =
    if nat_lt (length bytes) 4 then Err (fault.Truncated, k)
    else if nat_lt 131071 (value_of bytes) then Err (fault.BlockNumber, k)
    else if nat_lt (value_of bytes) low then Err (fault.Order, k)
    else judge_masks k (drop 4 bytes) (λ ss rest. with_first (value_of bytes, ss) (judge_packets n (k + 1) (value_of bytes + 1) rest))

judge_body : ℕ → List ℕ → Judged Packet
judge_body n bytes = judge_packets n 1 0 bytes

pub judge_bytes : List ℕ → Judged Packet
judge_bytes bytes = judge packet_magic judge_body bytes

-- ---- the masks

clash_true : (k c : ℕ) → Clash k c → clash k c ≡ true
clash_true k c (inl shared) = rw (ne_eqb (bit_and k c) 0 shared) refl
clash_true k c (inr none) = elim (bit_and k c == 0) as (λ b. cond b (k + c == 0) true ≡ true) [ true ↦ eq-eqb (k + c) 0 (let e = none.0 in let f = none.1 in omega arith) | false ↦ refl ]

clash_false : (k c : ℕ) → AreMasks k c → clash k c ≡ false
clash_false k c h = rw (eq-eqb (bit_and k c) 0 h.0) (ne_eqb (k + c) 0 (λ e. let some = h.1 in omega arith))

known_value : (K C : ℕ) (rest : List ℕ) → K < 2 ^ 32 → value_of ((number K ++ number C) ++ rest) ≡ K
known_value K C rest h = ap value_of (append_assoc (number K) (number C) rest) ∙ value_of-number K (number C ++ rest) h

conflict_value : (K C : ℕ) (rest : List ℕ) → C < 2 ^ 32 → value_of (drop 4 ((number K ++ number C) ++ rest)) ≡ C
conflict_value K C rest h =
    ap (λ (l : List ℕ). value_of (drop 4 l)) (append_assoc (number K) (number C) rest)
    ∙ ap value_of (drop_at (number K) (number C ++ rest) 4 (length-number K)) ∙ value_of-number C rest h

length-masks : (K C : ℕ) → length (number K ++ number C) ≡ 8
length-masks K C = length-append (number K) (number C) ∙ (let e = length-number K in let f = length-number C in omega arith)

masks_long : (K C : ℕ) (rest : List ℕ) → ltb (length ((number K ++ number C) ++ rest)) 8 ≡ false
masks_long K C rest = le-ltb _ _ (let e = length-masks K C in omega (arith, length-append (number K ++ number C) rest))

masks_cut : (k : ℕ) (bytes : List ℕ) (next : List State → List ℕ → Judged Packet) → length bytes < 8 → judge_masks k bytes next ≡ Err (fault.Truncated, k)
unfolding judge_masks
masks_cut k bytes next h = rw (lt-ltb (length bytes) 8 h) refl

masks_clash : (k : ℕ) (bytes : List ℕ) (next : List State → List ℕ → Judged Packet) → 8 ≤ length bytes → Clash (value_of bytes) (value_of (drop 4 bytes)) → judge_masks k bytes next ≡ Err (fault.State, k)
unfolding judge_masks
masks_clash k bytes next h c = rw (le-ltb (length bytes) 8 h, clash_true (value_of bytes) (value_of (drop 4 bytes)) c) refl

blocks_cut : (k K C : ℕ) (rest : List ℕ) (next : List State → List ℕ → Judged Packet) → K < 2 ^ 32 → C < 2 ^ 32 → AreMasks K C → length rest < size_of_blocks K
    → judge_masks k ((number K ++ number C) ++ rest) next ≡ Err (fault.Truncated, k)
unfolding judge_masks
blocks_cut k K C rest next fits also masks h =
    rw (masks_long K C rest, known_value K C rest fits, conflict_value K C rest also, clash_false K C masks, drop_at (number K ++ number C) rest 8 (length-masks K C), lt-ltb (length rest) (size_of_blocks K) h) refl

blocks_there : (k K C : ℕ) (bytes rest : List ℕ) (next : List State → List ℕ → Judged Packet) → K < 2 ^ 32 → C < 2 ^ 32 → AreMasks K C → length bytes ≡ size_of_blocks K
    → judge_masks k ((number K ++ number C) ++ (bytes ++ rest)) next ≡ next (states_by 32 K C (bytes ++ rest)) rest
unfolding judge_masks
blocks_there k K C bytes rest next fits also masks len =
    let all : List ℕ = bytes ++ rest in
    let long : ltb (length (bytes ++ rest)) (size_of_blocks K) ≡ false = le-ltb _ _ (omega (arith, length-append bytes rest)) in
    rw (masks_long K C all, known_value K C all fits, conflict_value K C all also, clash_false K C masks, drop_at (number K ++ number C) all 8 (length-masks K C), long, drop_at bytes rest (size_of_blocks K) len) refl

-- ---- the packets

end_here : (k low : ℕ) → judge_packets zero k low [] ≡ Ok []
unfolding judge_packets
end_here k low = refl

end_late : (k low : ℕ) (bytes : List ℕ) → 0 < length bytes → judge_packets zero k low bytes ≡ Err (fault.Trailing, k - 1)
unfolding judge_packets
end_late k low bytes h = rw (ne_eqb (length bytes) 0 (λ e. omega arith)) refl

number_cut : (n k low : ℕ) (bytes : List ℕ) → length bytes < 4 → judge_packets (suc n) k low bytes ≡ Err (fault.Truncated, k)
unfolding judge_packets
number_cut n k low bytes h = rw (lt-ltb (length bytes) 4 h) refl

number_high : (n k low : ℕ) (bytes : List ℕ) → 4 ≤ length bytes → 131071 < value_of bytes → judge_packets (suc n) k low bytes ≡ Err (fault.BlockNumber, k)
unfolding judge_packets
number_high n k low bytes h high = rw (le-ltb (length bytes) 4 h, lt-ltb 131071 (value_of bytes) high) refl

number_low : (n k low : ℕ) (bytes : List ℕ) → 4 ≤ length bytes → value_of bytes ≤ 131071 → value_of bytes < low → judge_packets (suc n) k low bytes ≡ Err (fault.Order, k)
unfolding judge_packets
number_low n k low bytes h there early = rw (le-ltb (length bytes) 4 h, le-ltb 131071 (value_of bytes) there, lt-ltb (value_of bytes) low early) refl

at_masks : (n k low p : ℕ) (rest : List ℕ) → low ≤ p → p ≤ 131071
    → judge_packets (suc n) k low (number p ++ rest) ≡ judge_masks k rest (λ ss more. with_first (p, ss) (judge_packets n (k + 1) (p + 1) more))
unfolding judge_packets
at_masks n k low p rest above there =
    rw (number_long p rest, value_of-number p rest (omega arith), le-ltb 131071 p there, le-ltb p low above, drop_at (number p) rest 4 (length-number p)) refl

-- 32 bits are enough for the mask of the states of a packet
pub packet_mask : (test : State → Bool) (ss : List State) → AreStates ss → mask_of test ss < 2 ^ 32
packet_mask test ss h = subst (λ (n : ℕ). mask_of test ss < 2 ^ n) h.many (mask_below test ss)

pub packet_masks : (ss : List State) → AreStates ss → AreMasks (mask_of is_known ss) (mask_of is_conflict ss)
packet_masks ss h = (masks_apart ss, some_mask ss h.some)

one_packet : (n k low : ℕ) (q : Packet) (rest : List ℕ) → low ≤ q.0 → q.0 ≤ 131071 → AreStates q.1
    → judge_packets (suc n) k low (packet_bytes q ++ rest) ≡ with_first q (judge_packets n (k + 1) (q.0 + 1) rest)
one_packet n k low q rest above there h =
    let K = mask_of is_known q.1 in
    let C = mask_of is_conflict q.1 in
    let next : List State → List ℕ → Judged Packet = λ ss more. with_first (q.0, ss) (judge_packets n (k + 1) (q.0 + 1) more) in
    let again : states_by 32 K C (flat_map content q.1 ++ rest) ≡ q.1 = subst (λ (m : ℕ). states_by m K C (flat_map content q.1 ++ rest) ≡ q.1) h.many (states_again q.1 rest h.each) in
    ap (judge_packets (suc n) k low) (append_assoc (number q.0) (masks_bytes q.1 ++ flat_map content q.1) rest ∙ ap (λ (l : List ℕ). number q.0 ++ l) (append_assoc (masks_bytes q.1) (flat_map content q.1) rest))
    ∙ at_masks n k low q.0 (masks_bytes q.1 ++ (flat_map content q.1 ++ rest)) above there
    ∙ blocks_there k K C (flat_map content q.1) rest next (packet_mask is_known q.1 h) (packet_mask is_conflict q.1 h) (packet_masks q.1 h) (blocks_size q.1 h.each)
    ∙ ap (λ (ss : List State). with_first (q.0, ss) (judge_packets n (k + 1) (q.0 + 1) rest)) again

judge_all : (qs : List Packet) (n k low : ℕ) (rest : List ℕ) → PacketsRise low qs
    → judge_packets (length qs + n) k low (flat_map packet_bytes qs ++ rest) ≡ with_all qs (judge_packets n (k + length qs) (low_after low qs) rest)
judge_all [] n k low rest h = let e : 0 + n ≡ n = omega arith in let f : k + 0 ≡ k = omega arith in rw (e, f) refl
judge_all (q ∷ qs) n k low rest h =
    let e : length (q ∷ qs) + n ≡ suc (length qs + n) = omega arith in
    let f : k + 1 + length qs ≡ k + length (q ∷ qs) = omega arith in
    let more : List ℕ = flat_map packet_bytes qs ++ rest in
    ap (λ (m : ℕ). judge_packets m k low (flat_map packet_bytes (q ∷ qs) ++ rest)) e
    ∙ ap (judge_packets (suc (length qs + n)) k low) (append_assoc (packet_bytes q) (flat_map packet_bytes qs) rest)
    ∙ one_packet (length qs + n) k low q more h.0 h.1 h.2
    ∙ ap (with_first q) (judge_all qs n (k + 1) (q.0 + 1) rest h.3 ∙ ap (λ (m : ℕ). with_all qs (judge_packets n m (low_after (q.0 + 1) qs) rest)) f)

-- what the judge says after a header and some packets
judge_front : (count : ℕ) (qs : List Packet) (n : ℕ) (rest : List ℕ) → count < 2 ^ 32 → PacketsRise 0 qs → length qs + n ≡ count
    → judge_bytes (packets_front count qs ++ rest) ≡ with_all qs (judge_packets n (length qs + 1) (low_after 0 qs) rest)
unfolding judge_bytes judge_body
judge_front count qs n rest fits h many =
    let f : 1 + length qs ≡ length qs + 1 = omega arith in
    ap judge_bytes (append_assoc (header packet_magic count) (flat_map packet_bytes qs) rest)
    ∙ judge_header packet_magic judge_body length-packet_magic count (flat_map packet_bytes qs ++ rest) fits
    ∙ ap (λ (m : ℕ). judge_packets m 1 0 (flat_map packet_bytes qs ++ rest)) (sym many)
    ∙ judge_all qs n 1 0 rest h
    ∙ ap (λ (m : ℕ). with_all qs (judge_packets n m (low_after 0 qs) rest)) f

judge_front_err : (count : ℕ) (qs : List Packet) (n : ℕ) (rest : List ℕ) (e : ReadingFault × ℕ) → count < 2 ^ 32 → PacketsRise 0 qs → length qs + n ≡ count
    → judge_packets n (length qs + 1) (low_after 0 qs) rest ≡ Err e → judge_bytes (packets_front count qs ++ rest) ≡ Err e
judge_front_err count qs n rest e fits h many err = judge_front count qs n rest fits h many ∙ ap (with_all qs) err ∙ all_err qs e

-- ---- the two laws

pub judge_file : (qs : List Packet) → PacketsRise 0 qs → length qs < 2 ^ 32 → judge_bytes (packets_front (length qs) qs) ≡ Ok qs
judge_file qs rises fits =
    ap judge_bytes (sym (append-nil (packets_front (length qs) qs)))
    ∙ judge_front (length qs) qs 0 [] fits rises (omega arith)
    ∙ ap (with_all qs) (end_here (length qs + 1) (low_after 0 qs)) ∙ all_ok qs

at_packet : (count : ℕ) (done : List Packet) (rest : List ℕ) (e : ReadingFault × ℕ) → IsUnderPackets count done
    → ((n : ℕ) → judge_packets (suc n) (length done + 1) (low_after 0 done) rest ≡ Err e) → judge_bytes (packets_front count done ++ rest) ≡ Err e
at_packet count done rest e under err =
    let more = under.more in
    let many : length done + suc (count - (length done + 1)) ≡ count = omega arith in
    judge_front_err count done (suc (count - (length done + 1))) rest e under.fits under.each many (err (count - (length done + 1)))

judge_place : (place : PacketPlace) (rest : List ℕ) (f : ReadingFault) → IsPacketPlace place → FaultHere packet_format (In place) rest f → judge_bytes (before_packet_place place ++ rest) ≡ Err (f, record_of_packet_place place)
judge_place (AtPacket count done) rest fault.Truncated p h = at_packet count done rest _ p (λ n. number_cut n (length done + 1) (low_after 0 done) rest h)
judge_place (AtPacket count done) rest fault.BlockNumber p h = at_packet count done rest _ p (λ n. number_high n (length done + 1) (low_after 0 done) rest h.0 h.1)
judge_place (AtPacket count done) rest fault.Order p h = at_packet count done rest _ p (λ n. number_low n (length done + 1) (low_after 0 done) rest h.0 h.1.0 h.1.1)
judge_place (AtPacket count done) rest _ p h = absurd h.1
judge_place (AtMasks count done q) rest fault.Truncated p h =
    ap judge_bytes (append_assoc (packets_front count done) (number q) rest)
    ∙ at_packet count done (number q ++ rest) _ p.0 (λ n. at_masks n (length done + 1) (low_after 0 done) q rest p.1 p.2 ∙ masks_cut (length done + 1) rest _ h)
judge_place (AtMasks count done q) rest fault.State p h =
    ap judge_bytes (append_assoc (packets_front count done) (number q) rest)
    ∙ at_packet count done (number q ++ rest) _ p.0 (λ n. at_masks n (length done + 1) (low_after 0 done) q rest p.1 p.2 ∙ masks_clash (length done + 1) rest _ h.0 h.1)
judge_place (AtMasks count done q) rest _ p h = absurd h.1
judge_place (AtBlocks count done q known conflict) rest fault.Truncated p h =
    ap judge_bytes (append_assoc (packets_front count done) (number q ++ (number known ++ number conflict)) rest ∙ ap (λ (l : List ℕ). packets_front count done ++ l) (append_assoc (number q) (number known ++ number conflict) rest))
    ∙ at_packet count done (number q ++ ((number known ++ number conflict) ++ rest)) _ p.0.0 (λ n.
    at_masks n (length done + 1) (low_after 0 done) q ((number known ++ number conflict) ++ rest) p.0.1 p.0.2
    ∙ blocks_cut (length done + 1) known conflict rest _ p.1 p.2 p.3 h)
judge_place (AtBlocks count done q known conflict) rest _ p h = absurd h.1
judge_place (AtPacketsEnd done) rest fault.Truncated p h = absurd (omega arith)
judge_place (AtPacketsEnd done) rest fault.Trailing p h =
    let k : length done + 1 - 1 ≡ length done = omega arith in
    judge_front_err (length done) done 0 rest _ p.0 p.1 (omega arith) (end_late (length done + 1) (low_after 0 done) rest h.1 ∙ ap (λ (n : ℕ). Err (fault.Trailing, n)) k)
judge_place (AtPacketsEnd done) rest _ p h = absurd h.1

pub judge_fault : (bytes : List ℕ) (f : ReadingFault) (number : ℕ) → HasFault packet_format bytes f number → judge_bytes bytes ≡ Err (f, number)
unfolding judge_bytes
judge_fault bytes f number h = header.judge_fault packet_format judge_body length-packet_magic judge_place bytes f number h

-- ---- a file whose header is right and has packets has no fault before the first of them

masks_from : (low k : ℕ) (bytes : List ℕ) (next : List State → List ℕ → Judged Packet) → low ≤ k → ((ss : List State) (rest : List ℕ) → IsFrom low (next ss rest)) → IsFrom low (judge_masks k bytes next)
unfolding judge_masks
masks_from low k bytes next h p =
    from_either _ _ _ _ (from_err low k fault.Truncated h) (from_either _ _ _ _ (from_err low k fault.State h) (from_either _ _ _ _ (from_err low k fault.Truncated h) (p _ _)))

at_least : (n k low floor : ℕ) (bytes : List ℕ) → low + 1 ≤ k → IsFrom low (judge_packets n k floor bytes)
unfolding judge_packets
at_least zero k low floor bytes h = from_either _ _ _ _ (from_ok low []) (from_err low (k - 1) fault.Trailing (omega arith))
at_least (suc n) k low floor bytes h =
    from_either _ _ _ _ (from_err low k fault.Truncated (omega arith)) (from_either _ _ _ _ (from_err low k fault.BlockNumber (omega arith)) (from_either _ _ _ _ (from_err low k fault.Order (omega arith))
    (masks_from low k (drop 4 bytes) _ (omega arith) (λ ss rest. first_keeps low _ _ (at_least n (k + 1) low (value_of bytes + 1) rest (omega arith))))))

some_first : (n : ℕ) (bytes : List ℕ) → IsFrom 1 (judge_packets (suc n) 1 0 bytes)
unfolding judge_packets
some_first n bytes =
    from_either _ _ _ _ (from_err 1 1 fault.Truncated (omega arith)) (from_either _ _ _ _ (from_err 1 1 fault.BlockNumber (omega arith)) (from_either _ _ _ _ (from_err 1 1 fault.Order (omega arith))
    (masks_from 1 1 (drop 4 bytes) _ (omega arith) (λ ss rest. first_keeps 1 _ _ (at_least n (1 + 1) 1 (value_of bytes + 1) rest (omega arith))))))

past_header : (count : ℕ) (rest : List ℕ) (f : ReadingFault) (number : ℕ) → 0 < count → count < 2 ^ 32 → HasFault packet_format (header packet_magic count ++ rest) f number → 0 < number
unfolding judge_bytes judge_body
past_header zero rest f number some fits h = absurd (omega arith)
past_header (suc n) rest f number some fits h =
    let e : judge_packets (suc n) 1 0 rest ≡ Err (f, number) = sym (judge_header packet_magic judge_body length-packet_magic (suc n) rest fits) ∙ judge_fault _ f number h in
    let from : IsFrom {X = Packet} 1 (Err (f, number)) = subst (IsFrom 1) e (some_first n rest) in from.is

-- the header, and what stands behind it
behind : (count : ℕ) (done : List Packet) (got more : List ℕ) → (packets_front count done ++ got) ++ more ≡ header packet_magic count ++ (flat_map packet_bytes done ++ (got ++ more))
behind count done got more = append_assoc (packets_front count done) got more ∙ append_assoc (header packet_magic count) (flat_map packet_bytes done) (got ++ more)

-- the count in the header of a table's file
same_packets : (count : ℕ) (bytes rest : List ℕ) (t : Table) → count < 2 ^ 32 → bytes ≡ header packet_magic count ++ rest → IsPacketFile bytes t → count ≡ length (packets_of t)
unfolding packed_file
same_packets count bytes rest t fits is h =
    let few : length (packets_of t) ≤ 131072 = few_packets t h.is_table in
    same_count packet_magic count (length (packets_of t)) rest (flat_map packet_bytes (packets_of t)) length-packet_magic fits (omega arith) (sym is ∙ h.spelled)

-- after the header and some packets, the header has no fault and says that there are packets, whatever follows
pub header_is_sound : (count : ℕ) (done : List Packet) (got : List ℕ) → IsUnderPackets count done → HeaderIsSound tables_v2 (packets_front count done ++ got)
header_is_sound count done got under =
    let fewer = under.more in
    record {
      fault = λ more f number h.
          past_header count (flat_map packet_bytes done ++ (got ++ more)) f number (omega arith) under.fits (subst (λ (l : List ℕ). HasFault packet_format l f number) (behind count done got more) h);
      file = λ more n table h.
          let same = same_packets count ((packets_front count done ++ got) ++ more) (flat_map packet_bytes done ++ (got ++ more)) table under.fits (behind count done got more) h.0 in
          let many = h.1 in omega arith;
    }
