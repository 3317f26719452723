-- A list of packets that grows at its end.
use Rattle.std.proofs.Common.{◌≡◌, ℕ, ◌+◌, List, [], ◌∷◌, ◌++◌, length, Option, refl, sym, ap, subst, ◌∙◌, append_assoc, append-nil, arith, length-append}
use Rattle.std.specs.List.{flat_map}
use Rattle.std.specs.Io.KnownBytes.{Consumes}
use Rattle.std.proofs.KnownBytes.{Consumes-nil, Consumes-trans}
use Rattle.std.proofs.lemmas.List.Concat.{flat_map-append}
use Rattle.udfs_lattice.specs.States.{State}
use Rattle.udfs_lattice.specs.Tables.{Table, one_entry, join_tables}
use Rattle.udfs_lattice.specs.TableLaws.{join_tables-assoc, join_tables-empty, join_tables-empty_right}
use Rattle.udfs_lattice.specs.Records.{table_of_entries}
use Rattle.udfs_reading.specs.Format.{number, header}
use Rattle.udfs_reading.specs.PacketFile.{packet_magic, Packet, packet_bytes, packed_file, packets_of}
use Rattle.udfs_reading.specs.PacketReading.{IsPacketFile, PacketsRise, packets_front, packet_entries, table_of_packets, TakesPacket, TakesPackets}
use Rattle.udfs_reading.proofs.PacketTables.{rises-push, low-push, packets_of-rising, IsTable-packets}

pub bytes-push : (qs : List Packet) (q : Packet) → flat_map packet_bytes (qs ++ q ∷ []) ≡ flat_map packet_bytes qs ++ packet_bytes q
bytes-push qs q = flat_map-append packet_bytes qs (q ∷ []) ∙ ap (λ (l : List ℕ). flat_map packet_bytes qs ++ l) (append-nil (packet_bytes q))

entries-append : (es fs : List (ℕ × State)) → table_of_entries (es ++ fs) ≡ join_tables (table_of_entries es) (table_of_entries fs)
entries-append [] fs = sym (join_tables-empty (table_of_entries fs))
entries-append (e ∷ es) fs = ap (join_tables (one_entry e.0 e.1)) (entries-append es fs) ∙ sym (join_tables-assoc (one_entry e.0 e.1) (table_of_entries es) (table_of_entries fs))

table-push : (qs : List Packet) (q : Packet) → table_of_packets (qs ++ q ∷ []) ≡ join_tables (table_of_packets qs) (table_of_packets (q ∷ []))
table-push qs q = ap table_of_entries (flat_map-append packet_entries qs (q ∷ [])) ∙ entries-append (flat_map packet_entries qs) (flat_map packet_entries (q ∷ []))

pub packets_none : (a : Option (List ℕ)) (t : Table) → TakesPackets a a 0 0 t t
packets_none a t = record { taken = []; many = refl; rises = tt; low_is = refl; given = Consumes-nil a; put = sym (join_tables-empty_right t) }

-- one more packet
pub packets_more : {a b c : Option (List ℕ)} {n low next : ℕ} {s t u : Table} → TakesPackets a b n low s t → TakesPacket b c low next t u → TakesPackets a c (n + 1) next s u
packets_more {a} {b} {c} {n} {low} {next} {s} {t} {u} h k =
    record {
      taken = h.taken ++ k.taken ∷ [];
      many = let many = h.many in omega (arith, length-append h.taken (k.taken ∷ []));
      rises = rises-push 0 h.taken k.taken h.rises (let is = h.low_is in let above = k.above in omega arith) k.there k.states;
      low_is = low-push 0 h.taken k.taken ∙ sym k.next_is;
      given = subst (Consumes a c) (sym (bytes-push h.taken k.taken)) (Consumes-trans a b c _ _ h.given k.given);
      put = k.put ∙ ap (λ (l : Table). join_tables l (table_of_packets (k.taken ∷ []))) h.put
          ∙ join_tables-assoc s (table_of_packets h.taken) (table_of_packets (k.taken ∷ []))
          ∙ ap (join_tables s) (sym (table-push h.taken k.taken));
    }

-- the header, by what stands behind the magic
pub whole_packet_front : (n : ℕ) → header packet_magic n ≡ packet_magic ++ (number 2048 ++ number n)
whole_packet_front n = append_assoc packet_magic (number 2048) (number n)

-- a header of as many packets as follow is that of the file of their table
pub is_packet_file : (n : ℕ) (qs : List Packet) → length qs ≡ n → PacketsRise 0 qs
    → IsPacketFile (packet_magic ++ ((number 2048 ++ number n) ++ flat_map packet_bytes qs)) (table_of_packets qs) × (n ≡ length (packets_of (table_of_packets qs))) × (packets_front (length qs) qs ≡ packet_magic ++ ((number 2048 ++ number n) ++ flat_map packet_bytes qs))
unfolding packed_file
is_packet_file n qs many rises =
    let listed : packets_of (table_of_packets qs) ≡ qs = packets_of-rising qs rises in
    let spelled : packets_front (length qs) qs ≡ packet_magic ++ ((number 2048 ++ number n) ++ flat_map packet_bytes qs) =
    ap (λ (k : ℕ). packets_front k qs) many ∙ ap (λ (l : List ℕ). l ++ flat_map packet_bytes qs) (whole_packet_front n) ∙ append_assoc packet_magic (number 2048 ++ number n) (flat_map packet_bytes qs) in
    (record { is_table = IsTable-packets qs rises; spelled = sym spelled ∙ ap packed_file (sym listed) }, sym many ∙ ap length (sym listed), spelled)
