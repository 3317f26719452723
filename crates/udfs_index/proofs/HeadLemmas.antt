-- A table file of version 2 that is taken by its headers.
use Rattle.std.proofs.Common.{◌≡◌, ℕ, ◌+◌, ◌*◌, ◌/◌, ◌%◌, ◌<◌, ◌≤◌, true, cond, List, [], ◌∷◌, ◌++◌, length, take, drop, Option, None, Some, IfSome, refl, sym, ap, subst, ◌∙◌, arith, append_assoc, append-nil, length-drop, inl, inr, ⊎_elim, take-append-drop, take_all, length-take-le}
use Rattle.std.specs.Prelude.{◌==◌, ◌⊎◌}
use Rattle.std.specs.List.{flat_map}
use Rattle.std.specs.Str.{bytes_eq}
use Rattle.std.specs.Io.KnownBytes.{Consumes}
use Rattle.std.proofs.lemmas.Bool.{cases_lt}
use Rattle.std.proofs.KnownBytes.{Consumes-trans}
use lib.Seq.{drop-drop}
use Rattle.udfs_lattice.specs.States.{IsBlock, State, is_known, is_conflict}
use Rattle.udfs_lattice.specs.Tables.{Table, join_tables}
use Rattle.udfs_lattice.specs.TableLaws.{join_tables-empty}
use Rattle.udfs_lattice.specs.Records.{table_of_entries}
use Rattle.udfs_reading.specs.Format.{header, number}
use Rattle.udfs_reading.specs.Gains.{Gains}
use Rattle.udfs_reading.specs.Inputs.{inputs}
use Rattle.udfs_reading.specs.PacketFile.{Packet, packet_magic, packet_bytes, mask_of, content, masks_bytes}
use Rattle.udfs_reading.specs.PacketReading.{size_of_blocks, listed, table_of_packets, PacketsRise, TakesPacket, TakesPackets, TakesStates}
use Rattle.udfs_reading.specs.Several.{HasTable}
use Rattle.udfs_reading.proofs.GainLemmas.{gained, gains_as}
use Rattle.udfs_reading.proofs.Magics.{same_bytes, v2_at}
use Rattle.udfs_reading.proofs.PacketMasks.{mask_some, size_even, size_odd}
use Rattle.udfs_reading.proofs.Packets.{is_packet_file, whole_packet_front}
use Rattle.udfs_reading.proofs.SomeHeader.{small, small-drop, some_block}
use Rattle.udfs_index.specs.Placed.{IsTaken, MayFollow, TakesInput}
use Rattle.udfs_index.specs.Places.{behind}
use Rattle.udfs_index.proofs.CursorLemmas.{behind_read}

-- ---- the blocks of a packet

parity : (k : ℕ) → (k % 2 ≡ 0) ⊎ (k % 2 ≡ 1)
parity k = ⊎_elim (λ low. inl (omega arith)) (λ high. inr (omega arith)) (cases_lt (k % 2) 1)

at_even : (m : ℕ) → m ≡ 0 → ◌≡◌ {A = ℕ} (cond (m == 1) 2048 0) 0
at_even m e = ap (λ (x : ℕ). cond (x == 1) 2048 0) e

at_odd : (m : ℕ) → m ≡ 1 → ◌≡◌ {A = ℕ} (cond (m == 1) 2048 0) 2048
at_odd m e = ap (λ (x : ℕ). cond (x == 1) 2048 0) e

-- one block is left, and those of the mask without its last bit
pub size_split : (k : ℕ) → size_of_blocks k ≡ cond (k % 2 == 1) 2048 0 + size_of_blocks (k / 2)
size_split k =
    ⊎_elim
    (λ even. let low = at_even (k % 2) even in let size = size_even k even in omega (arith, low, size))
    (λ odd. let low = at_odd (k % 2) odd in let size = size_odd k odd in omega (arith, low, size))
    (parity k)

-- the file has the bytes of a block
pub whole_at : (input content : Option (List ℕ)) (size at : ℕ) → IsTaken input content size → at + 2048 ≤ size → IfSome content (λ all. IsBlock (take 2048 (drop at all)))
whole_at input None size at h within = tt
whole_at input (Some all) size at h within = some_block (drop at all) (omega (arith, length-drop at all, h.many, within)) (small-drop at all (small all h.bytes))

-- the same input is taken
pub still_taken : {input now content : Option (List ℕ)} {size : ℕ} → now ≡ input → IsTaken input content size → IsTaken now content size
still_taken {input} {now} {content} {size} same h = subst (λ (o : Option (List ℕ)). IsTaken o content size) (sym same) h

-- ---- the headers

-- three numbers
pub three_numbers : (bytes a b c : List ℕ) → length bytes ≡ 12 → a ≡ take 4 (drop 0 bytes) → b ≡ take 4 (drop 4 bytes) → c ≡ take 4 (drop 8 bytes) → bytes ≡ a ++ (b ++ c)
three_numbers bytes a b c long p q r =
    let last : take 4 (drop 8 bytes) ≡ drop 8 bytes = take_all 4 (drop 8 bytes) (omega (arith, length-drop 8 bytes, long)) in
    sym (take-append-drop 4 bytes)
    ∙ ap (λ (l : List ℕ). l ++ drop 4 bytes) (sym p)
    ∙ ap (λ (l : List ℕ). a ++ l) (sym (take-append-drop 4 (drop 4 bytes)) ∙ ap (λ (l : List ℕ). l ++ drop 4 (drop 4 bytes)) (sym q) ∙ ap (λ (l : List ℕ). b ++ l) (drop-drop 4 4 bytes ∙ sym last ∙ sym r))

-- four of them
pub length-four : (i : ℕ) (bytes : List ℕ) → i + 4 ≤ length bytes → length (take 4 (drop i bytes)) ≡ 4
length-four i bytes within = length-take-le 4 (drop i bytes) (omega (arith, length-drop i bytes, within))

-- the header of a file
pub is_header : (bytes front : List ℕ) (count : ℕ) → length bytes ≡ 16 → front ≡ take 12 bytes → bytes_eq front (packet_magic ++ number 2048) ≡ true → number count ≡ take 4 (drop 12 bytes) → bytes ≡ header packet_magic count
is_header bytes front count long is named at =
    let last : take 4 (drop 12 bytes) ≡ drop 12 bytes = take_all 4 (drop 12 bytes) (omega (arith, length-drop 12 bytes, long)) in
    sym (take-append-drop 12 bytes)
    ∙ ap (λ (l : List ℕ). l ++ drop 12 bytes) (sym is ∙ same_bytes front (packet_magic ++ number 2048) named)
    ∙ ap (λ (l : List ℕ). (packet_magic ++ number 2048) ++ l) (sym last ∙ sym at)

-- bytes that were read at a position
pub read_behind : (content : Option (List ℕ)) (at n next : ℕ) (buf got : List ℕ) → next ≡ at + n → length buf ≡ n → IfSome content (λ all. buf ≡ take (length buf) (drop at all)) → buf ≡ got → Consumes (behind at content) (behind next content) got
read_behind None at n next buf got is long read same = tt
read_behind (Some all) at n next buf got is long read same =
    subst (Consumes (behind at (Some all)) (behind next (Some all))) (ap (λ (k : ℕ). take k (drop at all)) (sym long) ∙ sym read ∙ same) (behind_read (Some all) at n next (drop at all) is refl)

-- ---- the packets

-- a packet, by its header and its blocks
pub packet_taken : {old new : Table → Type 0} {a b d : Option (List ℕ)} (low n known conflict : ℕ) → MayFollow low n known conflict → Consumes a b (number n ++ (number known ++ number conflict)) → Gains old new (TakesStates b d (32 * n) known conflict) → Gains old new (TakesPacket a d low (n + 1))
packet_taken {old} {new} {a} {b} {d} low n known conflict may given h =
    gains_as (λ before after s.
    let masks : number known ++ number conflict ≡ masks_bytes s.taken = ap (λ (k : ℕ). number k ++ number conflict) (sym s.known_is) ∙ ap (λ (k : ℕ). number (mask_of is_known s.taken) ++ number k) (sym s.conflict_is) in
    let some : 0 < mask_of is_known s.taken + mask_of is_conflict s.taken = omega (arith, may.masks.1, s.known_is, s.conflict_is) in
    record {
      taken = (n, s.taken);
      above = may.above;
      there = may.there;
      states = record { many = s.many; each = s.each; some = mask_some s.taken some };
      given = subst (Consumes a d) (append_assoc (number n) (masks_bytes s.taken) (flat_map content s.taken))
          (Consumes-trans a b d (number n ++ masks_bytes s.taken) (flat_map content s.taken) (subst (λ (l : List ℕ). Consumes a b (number n ++ l)) masks given) s.given);
      next_is = refl;
      put = s.put ∙ ap (λ (l : List (ℕ × State)). join_tables before (table_of_entries l)) (sym (append-nil (listed (32 * n) s.taken)));
    }) h

drop_whole : (xs : List ℕ) → drop (length xs) xs ≡ []
drop_whole [] = refl
drop_whole (x ∷ xs) = drop_whole xs

-- the file of these packets is an input
has_packets : (bytes : List ℕ) (count : ℕ) (qs : List Packet) → length qs ≡ count → PacketsRise 0 qs → bytes ≡ header packet_magic count ++ flat_map packet_bytes qs → HasTable bytes (table_of_packets qs)
has_packets bytes count qs many rises is =
    let rest = (number 2048 ++ number count) ++ flat_map packet_bytes qs in
    let file = is_packet_file count qs many rises in
    let spelled : bytes ≡ packet_magic ++ rest = is ∙ ap (λ (l : List ℕ). l ++ flat_map packet_bytes qs) (whole_packet_front count) ∙ append_assoc packet_magic (number 2048 ++ number count) (flat_map packet_bytes qs) in
    (count, subst (λ (l : List ℕ). inputs.IsFile l count (table_of_packets qs)) (sym spelled) ((v2_at true).file rest count (table_of_packets qs) (file.0, file.1)))

has_by : (content : Option (List ℕ)) (size count : ℕ) (qs : List Packet) → length qs ≡ count → PacketsRise 0 qs → IfSome content (λ all. size ≡ length all) → Consumes (behind 0 content) (behind 16 content) (header packet_magic count)
    → Consumes (behind 16 content) (behind size content) (flat_map packet_bytes qs) → IfSome content (λ bytes. HasTable bytes (table_of_packets qs))
has_by None size count qs many rises long head rest = tt
has_by (Some all) size count qs many rises long head rest =
    let over : drop size all ≡ [] = ap (λ (k : ℕ). drop k all) long ∙ drop_whole all in
    has_packets all count qs many rises (head ∙ ap (λ (l : List ℕ). header packet_magic count ++ l) (rest ∙ ap (λ (l : List ℕ). flat_map packet_bytes qs ++ l) over ∙ append-nil (flat_map packet_bytes qs)))

-- all packets were taken, behind the header of the file
pub table_taken : {old new : Table → Type 0} (content : Option (List ℕ)) (size count low : ℕ) → IfSome content (λ all. size ≡ length all) → Consumes (behind 0 content) (behind 16 content) (header packet_magic count)
    → Gains old new (TakesPackets (behind 16 content) (behind size content) count low) → TakesInput content old new
table_taken {old} {new} content size count low long head h =
    let t = gained h in
    let read : h.read ≡ table_of_packets t.taken = sym (join_tables-empty h.read) ∙ t.put ∙ join_tables-empty (table_of_packets t.taken) in
    record {
      table = table_of_packets t.taken;
      has = has_by content size count t.taken t.many t.rises long head t.given;
      took = λ s p. subst (λ (u : Table). new (join_tables s u)) read (h.took s p);
    }
