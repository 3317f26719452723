-- All bytes are a table file of version 2 or have a first fault.
use Rattle.std.proofs.Common.{◌≡◌, ℕ, zero, suc, ◌+◌, ◌/◌, ◌%◌, ◌^◌, ◌<◌, ◌≤◌, List, [], ◌∷◌, ◌++◌, length, take, drop, refl, sym, ap, subst, ◌∙◌, append_assoc, append-nil, arith, length-append, length-drop, inl, inr, ⊎_elim, take-append-drop, length-take-le}
use Rattle.std.specs.Prelude.{◌⊎◌}
use Rattle.std.specs.List.{flat_map, AllByRecursion}
use Rattle.std.specs.Int.Bits.{bit_and}
use Rattle.std.specs.Int.RustNames.{count_ones}
use Rattle.std.proofs.lemmas.Bool.{cases_lt}
use Rattle.udfs_lattice.specs.declared.facts.Fact.TheVariants.{Unknown, Known, Conflict}
use Rattle.udfs_lattice.specs.States.{State, is_known, is_conflict}
use Rattle.udfs_reading.specs.declared.error.ReadingFault.TheVariants as fault
use Rattle.udfs_reading.specs.Format.{number, value_of, header, In}
use Rattle.udfs_reading.specs.Kind.{HasOutcome}
use Rattle.udfs_reading.specs.PacketFile.{packet_magic, Packet, mask_of, content, masks_bytes, packet_bytes, packed_file, packets_of}
use Rattle.udfs_reading.specs.PacketReading.{IsHeld, AreStates, PacketsRise, low_after, AreMasks, Clash, size_of_blocks, packets_front, IsUnderPackets, AtPacket, AtMasks, AtBlocks, AtPacketsEnd, table_of_packets, tables_v2}
use Rattle.udfs_reading.proofs.PacketMasks.{apart_half, halve, mask_some, size_odd, size_even}
use Rattle.udfs_reading.proofs.PacketTables.{rises-push, packets_of-rising, IsTable-packets}
use Rattle.udfs_reading.proofs.Packets.{bytes-push}
use Rattle.udfs_reading.proofs.SomeHeader.{Small, small-drop, small-take, some_block, value_fits, four}

-- ---- the states that masks and bytes tell

-- these states have the masks and the bytes
record IsTold (m k c : ℕ) (bytes : List ℕ) (ss : List State) : Type 0 where
  pub many : length ss ≡ m
  pub each : AllByRecursion IsHeld ss
  pub known_is : mask_of is_known ss ≡ k
  pub conflict_is : mask_of is_conflict ss ≡ c
  pub content_is : flat_map content ss ≡ bytes

parity : (k : ℕ) → (k % 2 ≡ 0) ⊎ (k % 2 ≡ 1)
parity k = ⊎_elim (λ low. inl (omega arith)) (λ high. inr (omega arith)) (cases_lt (k % 2) 1)

both_bits : (a b : ℕ) → a ≡ 1 → b ≡ 1 → bit_and a b ≡ 0 → ⊥
both_bits a b e f h = let one : bit_and 1 1 ≡ 0 = ap (λ (x : ℕ). bit_and x 1) (sym e) ∙ ap (bit_and a) (sym f) ∙ h in absurd cc

no_block : size_of_blocks 0 ≡ 0
unfolding size_of_blocks count_ones
no_block = refl

none_left : (bytes : List ℕ) → length bytes ≡ 0 → [] ≡ bytes
none_left [] h = refl
none_left (b ∷ bytes) h = absurd (omega arith)

told_known : (m k c : ℕ) (bytes : List ℕ) (ss : List State) → k % 2 ≡ 1 → c % 2 ≡ 0 → 2048 ≤ length bytes → Small bytes → IsTold m (k / 2) (c / 2) (drop 2048 bytes) ss
    → IsTold (suc m) k c bytes (Known (take 2048 bytes) ∷ ss)
told_known m k c bytes ss odd even whole h t =
    let many = t.many in let known = t.known_is in let conflict = t.conflict_is in
    record {
      many = omega arith;
      each = (some_block bytes whole h, t.each);
      known_is = omega arith;
      conflict_is = omega arith;
      content_is = ap (λ (l : List ℕ). take 2048 bytes ++ l) t.content_is ∙ take-append-drop 2048 bytes;
    }

told_conflict : (m k c : ℕ) (bytes : List ℕ) (ss : List State) → k % 2 ≡ 0 → c % 2 ≡ 1 → IsTold m (k / 2) (c / 2) bytes ss → IsTold (suc m) k c bytes (Conflict ∷ ss)
told_conflict m k c bytes ss even odd t =
    let many = t.many in let known = t.known_is in let conflict = t.conflict_is in
    record { many = omega arith; each = (tt, t.each); known_is = omega arith; conflict_is = omega arith; content_is = t.content_is }

told_unknown : (m k c : ℕ) (bytes : List ℕ) (ss : List State) → k % 2 ≡ 0 → c % 2 ≡ 0 → IsTold m (k / 2) (c / 2) bytes ss → IsTold (suc m) k c bytes (Unknown ∷ ss)
told_unknown m k c bytes ss even also t =
    let many = t.many in let known = t.known_is in let conflict = t.conflict_is in
    record { many = omega arith; each = (tt, t.each); known_is = omega arith; conflict_is = omega arith; content_is = t.content_is }

told : (m k c : ℕ) (bytes : List ℕ) → k < 2 ^ m → c < 2 ^ m → bit_and k c ≡ 0 → length bytes ≡ size_of_blocks k → Small bytes → (ss : List State) × IsTold m k c bytes ss
told zero k c bytes fits also apart len h =
    let k0 : k ≡ 0 = omega arith in
    let none : length bytes ≡ 0 = len ∙ ap size_of_blocks k0 ∙ no_block in
    ([], record { many = refl; each = tt; known_is = omega arith; conflict_is = omega arith; content_is = none_left bytes none })
told (suc m) k c bytes fits also apart len h =
    let halved = apart_half k c apart in
    ⊎_elim
    (λ even.
    let rest = told m (k / 2) (c / 2) bytes (halve k m fits) (halve c m also) halved.0 (len ∙ size_even k even) h in
    ⊎_elim
    (λ no_conflict. (Unknown ∷ rest.0, told_unknown m k c bytes rest.0 even no_conflict rest.1))
    (λ conflict. (Conflict ∷ rest.0, told_conflict m k c bytes rest.0 even conflict rest.1))
    (parity c))
    (λ odd.
    let size : length bytes ≡ 2048 + size_of_blocks (k / 2) = len ∙ size_odd k odd in
    let rest = told m (k / 2) (c / 2) (drop 2048 bytes) (halve k m fits) (halve c m also) halved.0 (omega (arith, length-drop 2048 bytes)) (small-drop 2048 bytes h) in
    ⊎_elim
    (λ no_conflict. (Known (take 2048 bytes) ∷ rest.0, told_known m k c bytes rest.0 odd no_conflict (omega arith) h rest.1))
    (λ conflict. absurd (both_bits (k % 2) (c % 2) odd conflict halved.1))
    (parity c))
    (parity k)

-- ---- the packets

spelled : (done : List Packet) → PacketsRise 0 done → packets_front (length done) done ≡ packed_file (packets_of (table_of_packets done))
unfolding packed_file
spelled done rises = ap packed_file (sym (packets_of-rising done rises))

-- no packet is to come
at_end : (done : List Packet) → length done < 2 ^ 32 → PacketsRise 0 done → (rest : List ℕ) → HasOutcome tables_v2 (packets_front (length done) done ++ rest)
at_end done fits rises [] =
    inl (
      length done,
      table_of_packets done,
      (record { is_table = IsTable-packets done rises; spelled = append-nil (packets_front (length done) done) ∙ spelled done rises }, ap length (sym (packets_of-rising done rises))),
    )
at_end done fits rises (x ∷ xs) =
    inr (fault.Trailing, length done, record { spot = In (AtPacketsEnd done); is_spot = (fits, rises); rest = x ∷ xs; split = refl; here = (omega arith, omega arith); which = refl })

-- what follows one more packet has an outcome
abbrev Next : ℕ → List Packet → Type 0
Next count done = (q : Packet) → low_after 0 done ≤ q.0 → q.0 ≤ 131071 → AreStates q.1 → (more : List ℕ) → Small more → HasOutcome tables_v2 (packets_front count (done ++ q ∷ []) ++ more)

-- behind a packet
behind_packet : (count : ℕ) (done : List Packet) (q : Packet) (more : List ℕ) → HasOutcome tables_v2 (packets_front count (done ++ q ∷ []) ++ more)
    → HasOutcome tables_v2 (packets_front count done ++ (number q.0 ++ (masks_bytes q.1 ++ (flat_map content q.1 ++ more))))
behind_packet count done q more h =
    subst (HasOutcome tables_v2)
    (ap (λ (l : List ℕ). l ++ more) (ap (λ (l : List ℕ). header packet_magic count ++ l) (bytes-push done q) ∙ sym (append_assoc (header packet_magic count) (flat_map packet_bytes done) (packet_bytes q)))
    ∙ append_assoc (packets_front count done) (packet_bytes q) more
    ∙ ap (λ (l : List ℕ). packets_front count done ++ l) (append_assoc (number q.0) (masks_bytes q.1 ++ flat_map content q.1) more
    ∙ ap (λ (l : List ℕ). number q.0 ++ l) (append_assoc (masks_bytes q.1) (flat_map content q.1) more)))
    h

-- the bytes of the known blocks
at_blocks : (count : ℕ) (done : List Packet) → IsUnderPackets count done → (p : ℕ) → low_after 0 done ≤ p → p ≤ 131071 → (k c : ℕ) → k < 2 ^ 32 → c < 2 ^ 32 → AreMasks k c
    → (rest : List ℕ) → Small rest → Next count done → HasOutcome tables_v2 (packets_front count done ++ (number p ++ ((number k ++ number c) ++ rest)))
at_blocks count done under p above there k c fits also masks rest h next =
    ⊎_elim
    (λ cut. inr (
      fault.Truncated,
      length done + 1,
      record {
        spot = In (AtBlocks count done p k c);
        is_spot = ((under, above, there), fits, also, masks);
        rest = rest;
        split = sym (append_assoc (packets_front count done) (number p ++ (number k ++ number c)) rest ∙ ap (λ (l : List ℕ). packets_front count done ++ l) (append_assoc (number p) (number k ++ number c) rest));
        here = cut;
        which = refl;
      },
    ))
    (λ whole.
    let size : ℕ = size_of_blocks k in
    let bytes : List ℕ = take size rest in
    let more : List ℕ = drop size rest in
    let t = told 32 k c bytes fits also masks.0 (length-take-le size rest whole) (small-take size rest whole h) in
    let some = masks.1 in
    let known = t.1.known_is in
    let conflict = t.1.conflict_is in
    let states : AreStates t.0 = record { many = t.1.many; each = t.1.each; some = mask_some t.0 (omega arith) } in
    let is : masks_bytes t.0 ++ (flat_map content t.0 ++ more) ≡ (number k ++ number c) ++ rest =
    ap (λ (x : ℕ). (number x ++ number (mask_of is_conflict t.0)) ++ (flat_map content t.0 ++ more)) known
    ∙ ap (λ (x : ℕ). (number k ++ number x) ++ (flat_map content t.0 ++ more)) conflict
    ∙ ap (λ (l : List ℕ). (number k ++ number c) ++ (l ++ more)) t.1.content_is
    ∙ ap (λ (l : List ℕ). (number k ++ number c) ++ l) (take-append-drop size rest) in
    subst (λ (l : List ℕ). HasOutcome tables_v2 (packets_front count done ++ (number p ++ l))) is
    (behind_packet count done (p, t.0) more (next (p, t.0) above there states more (small-drop size rest h))))
    (cases_lt (length rest) (size_of_blocks k))

-- two masks that clash or do not
masks_or_clash : (k c : ℕ) → Clash k c ⊎ AreMasks k c
masks_or_clash k c =
    ⊎_elim
    (λ shared. inl (inl (λ e. omega arith)))
    (λ apart. ⊎_elim (λ some. inr (omega arith, some)) (λ none. inl (inr (omega arith, omega arith))) (cases_lt 0 (k + c)))
    (cases_lt 0 (bit_and k c))

-- the masks
at_masks : (count : ℕ) (done : List Packet) → IsUnderPackets count done → (p : ℕ) → low_after 0 done ≤ p → p ≤ 131071 → (rest : List ℕ) → Small rest → Next count done
    → HasOutcome tables_v2 (packets_front count done ++ (number p ++ rest))
at_masks count done under p above there rest h next =
    ⊎_elim
    (λ cut. inr (fault.Truncated, length done + 1, record { spot = In (AtMasks count done p); is_spot = (under, above, there); rest = rest; split = sym (append_assoc (packets_front count done) (number p) rest); here = cut; which = refl }))
    (λ whole.
    let k : ℕ = value_of rest in
    let later : List ℕ = drop 4 rest in
    let c : ℕ = value_of later in
    let small_later : Small later = small-drop 4 rest h in
    let long : 4 ≤ length later = omega (arith, length-drop 4 rest) in
    ⊎_elim
    (λ clash. inr (fault.State, length done + 1, record { spot = In (AtMasks count done p); is_spot = (under, above, there); rest = rest; split = sym (append_assoc (packets_front count done) (number p) rest); here = (whole, clash); which = refl }))
    (λ masks.
    let is : (number k ++ number c) ++ drop 4 later ≡ rest =
    append_assoc (number k) (number c) (drop 4 later) ∙ ap (λ (l : List ℕ). number k ++ l) (sym (four later long small_later)) ∙ sym (four rest (omega arith) h) in
    subst (λ (l : List ℕ). HasOutcome tables_v2 (packets_front count done ++ (number p ++ l))) is
    (at_blocks count done under p above there k c (value_fits rest h) (value_fits later small_later) masks (drop 4 later) (small-drop 4 later small_later) next))
    (masks_or_clash k c))
    (cases_lt (length rest) 8)

-- a packet's number
at_packet : (count : ℕ) (done : List Packet) → IsUnderPackets count done → (rest : List ℕ) → Small rest → Next count done → HasOutcome tables_v2 (packets_front count done ++ rest)
at_packet count done under rest h next =
    ⊎_elim
    (λ cut. inr (fault.Truncated, length done + 1, record { spot = In (AtPacket count done); is_spot = under; rest = rest; split = refl; here = cut; which = refl }))
    (λ whole. ⊎_elim
    (λ high. inr (fault.BlockNumber, length done + 1, record { spot = In (AtPacket count done); is_spot = under; rest = rest; split = refl; here = (whole, high); which = refl }))
    (λ there. ⊎_elim
    (λ early. inr (fault.Order, length done + 1, record { spot = In (AtPacket count done); is_spot = under; rest = rest; split = refl; here = (whole, (there, early)); which = refl }))
    (λ above. subst (λ (l : List ℕ). HasOutcome tables_v2 (packets_front count done ++ l)) (sym (four rest whole h))
    (at_masks count done under (value_of rest) above there (drop 4 rest) (small-drop 4 rest h) next))
    (cases_lt (value_of rest) (low_after 0 done)))
    (cases_lt 131071 (value_of rest)))
    (cases_lt (length rest) 4)

-- `n` more packets
packets : (n count : ℕ) (done : List Packet) → length done + n ≡ count → count < 2 ^ 32 → PacketsRise 0 done → (rest : List ℕ) → Small rest → HasOutcome tables_v2 (packets_front count done ++ rest)
packets zero count done many fits rises rest h =
    let all : length done ≡ count = omega arith in
    subst (λ (k : ℕ). HasOutcome tables_v2 (packets_front k done ++ rest)) all (at_end done (omega arith) rises rest)
packets (suc n) count done many fits rises rest h =
    at_packet count done (record { more = omega arith; fits = fits; each = rises }) rest h
    (λ q above there states more also. packets n count (done ++ q ∷ []) (omega (arith, length-append done (q ∷ []))) fits (rises-push 0 done q rises above there states) more also)

pub behind : (count : ℕ) (rest : List ℕ) → count < 2 ^ 32 → Small rest → HasOutcome tables_v2 (header packet_magic count ++ rest)
behind count rest fits h = subst (λ (l : List ℕ). HasOutcome tables_v2 (l ++ rest)) (append-nil (header packet_magic count)) (packets count count [] (omega arith) fits tt rest h)
