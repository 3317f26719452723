-- No bytes have two outcomes: the laws of each kind of file.
use Rattle.std.proofs.Common.{◌≡◌, ℕ, ◌≤◌, Bool, true, false, cond, List, ◌++◌, append_assoc, length, take, refl, sym, ap, subst, ◌∙◌, arith, length-append, length-take, Option, Some, None, Result, Ok, Err, ◌<◌}
use Rattle.std.specs.Prelude.{IfSome, MatchResult}
use Rattle.std.specs.Str.{bytes_eq}
use Rattle.std.proofs.lemmas.List.{take-append-le}
use Rattle.std.proofs.lemmas.Slice.Eq.{bytes_eq-Decides}
use Rattle.udfs_lattice.specs.Tables.{Table, IsTable, entries_of}
use Rattle.std.specs.List.{flat_map}
use Rattle.udfs_lattice.specs.States.{State}
use Rattle.udfs_reading.specs.Format.{number}
use Rattle.udfs_lattice.specs.Records.{table_of, RisesFrom, table_of_entries}
use Rattle.udfs_lattice.proofs.PublicLaws.{entries_make_table, entries_rise, few_entries}
use Rattle.udfs_reading.specs.declared.error.ReadingFault.{ReadingFault}
use Rattle.udfs_reading.specs.declared.error.ReadingFault.TheVariants.{Magic, Truncated, OutOfMemory}
use Rattle.udfs_reading.specs.Reading.{magic, readings, reading_format}
use Rattle.udfs_reading.specs.TableFile.{table_magic, entry_bytes, file_of, table_bytes_v1}
use Rattle.udfs_reading.specs.TableReading.{IsTableFile, tables_v1, table_format}
use Rattle.udfs_reading.specs.PacketFile.{packet_magic, Packet, packet_bytes, packed_file, packets_of, table_bytes}
use Rattle.udfs_reading.specs.PacketReading.{IsPacketFile, PacketsRise, table_of_packets, tables_v2, packet_format}
use Rattle.udfs_reading.specs.declared.error.ReadingError.{ReadingError}
use Rattle.udfs_reading.specs.Answers.{IsOfFile, TakesFile}
use Rattle.udfs_reading.specs.Inputs.{IsUnnamed, unnamed_kind, named, kind_by, files, tables, inputs}
use Rattle.udfs_reading.proofs.JudgeHeader.{one_list, list_or_fault, one_fault}
use Rattle.udfs_reading.proofs.JudgeRecords as records
use Rattle.udfs_reading.proofs.JudgeEntries as entries
use Rattle.udfs_reading.proofs.JudgePackets as packets
use Rattle.udfs_reading.proofs.PacketTables.{rises-packets_of, few_packets, table_of_packets-packets_of}
use Rattle.udfs_reading.proofs.Magics.{v1_at, v2_at}
use Rattle.udfs_reading.proofs.More.{fault_more, reading_goes_on, table_goes_on, packet_goes_on}
use Rattle.udfs_reading.proofs.Public.{KindLaws}

pub readings_laws : KindLaws readings
readings_laws =
    record {
      one_file = λ bytes m n t u h k. h.3 ∙ ap table_of (one_list (records.judge_bytes bytes) h.0 k.0 (records.judge_reading bytes h.0 h.1) (records.judge_reading bytes k.0 k.1)) ∙ sym k.3;
      either = λ bytes n t fault number h k. list_or_fault (records.judge_bytes bytes) h.0 (fault, number) (records.judge_reading bytes h.0 h.1) (records.judge_fault bytes fault number k);
      one_fault = λ bytes f g m n h k. one_fault (records.judge_bytes bytes) f g m n (records.judge_fault bytes f m h) (records.judge_fault bytes g n k);
      more = λ got rest fault number whole h. fault_more reading_format reading_goes_on got rest fault number whole h;
    }

judge_table : (bytes : List ℕ) (t : Table) → IsTableFile bytes t → entries.judge_bytes bytes ≡ Ok (entries_of t)
unfolding file_of
judge_table bytes t h =
    let rises : RisesFrom 0 (entries_of t) = entries_rise t h.is_table in
    let few : length (entries_of t) ≤ 4194304 = few_entries (entries_of t) rises in
    ap entries.judge_bytes h.spelled ∙ entries.judge_file (entries_of t) rises (omega arith)

pub tables_v1_laws : KindLaws tables_v1
tables_v1_laws =
    record {
      one_file = λ bytes m n t u h k.
          sym (entries_make_table t h.0.is_table)
          ∙ ap table_of_entries (one_list (entries.judge_bytes bytes) (entries_of t) (entries_of u) (judge_table bytes t h.0) (judge_table bytes u k.0))
          ∙ entries_make_table u k.0.is_table;
      either = λ bytes n t fault number h k. list_or_fault (entries.judge_bytes bytes) (entries_of t) (fault, number) (judge_table bytes t h.0) (entries.judge_fault bytes fault number k);
      one_fault = λ bytes f g m n h k. one_fault (entries.judge_bytes bytes) f g m n (entries.judge_fault bytes f m h) (entries.judge_fault bytes g n k);
      more = λ got rest fault number whole h. fault_more table_format table_goes_on got rest fault number whole h;
    }

judge_packets : (bytes : List ℕ) (t : Table) → IsPacketFile bytes t → packets.judge_bytes bytes ≡ Ok (packets_of t)
unfolding packed_file
judge_packets bytes t h =
    let rises : PacketsRise 0 (packets_of t) = rises-packets_of t h.is_table in
    let few : length (packets_of t) ≤ 131072 = few_packets t h.is_table in
    ap packets.judge_bytes h.spelled ∙ packets.judge_file (packets_of t) rises (omega arith)

pub tables_v2_laws : KindLaws tables_v2
tables_v2_laws =
    record {
      one_file = λ bytes m n t u h k.
          sym (table_of_packets-packets_of t h.0.is_table)
          ∙ ap table_of_packets (one_list (packets.judge_bytes bytes) (packets_of t) (packets_of u) (judge_packets bytes t h.0) (judge_packets bytes u k.0))
          ∙ table_of_packets-packets_of u k.0.is_table;
      either = λ bytes n t fault number h k. list_or_fault (packets.judge_bytes bytes) (packets_of t) (fault, number) (judge_packets bytes t h.0) (packets.judge_fault bytes fault number k);
      one_fault = λ bytes f g m n h k. one_fault (packets.judge_bytes bytes) f g m n (packets.judge_fault bytes f m h) (packets.judge_fault bytes g n k);
      more = λ got rest fault number whole h. fault_more packet_format packet_goes_on got rest fault number whole h;
    }

unnamed_once : (bytes : List ℕ) (f g : ReadingFault) (m n : ℕ) → IsUnnamed bytes f m → IsUnnamed bytes g n → (f ≡ g) × (m ≡ n)
unnamed_once bytes Truncated Truncated m n h k = (refl, h.1 ∙ sym k.1)
unnamed_once bytes Truncated Magic m n h k = absurd (let short = h.0 in let long = k.0 in omega arith)
unnamed_once bytes Magic Truncated m n h k = absurd (let short = k.0 in let long = h.0 in omega arith)
unnamed_once bytes Magic Magic m n h k = (refl, h.1 ∙ sym k.1)
unnamed_once bytes Truncated _ m n h k = absurd k
unnamed_once bytes Magic _ m n h k = absurd k
unnamed_once bytes _ g m n h k = absurd h

unnamed_more : (got rest : List ℕ) (fault : ReadingFault) (number : ℕ) → (fault ≡ Truncated → ⊥) → IsUnnamed got fault number → IsUnnamed (got ++ rest) fault number
unnamed_more got rest Truncated number whole h = absurd (whole refl)
unnamed_more got rest Magic number whole h = (let long = h.0 in omega (arith, length-append got rest), h.1)
unnamed_more got rest _ number whole h = absurd h

unnamed_laws : KindLaws unnamed_kind
unnamed_laws =
    record {
      one_file = λ bytes m n t u h k. absurd h;
      either = λ bytes n t fault number h k. absurd h;
      one_fault = unnamed_once;
      more = unnamed_more;
    }

named_laws : (a b c : Bool) → KindLaws (named a b c)
named_laws true b c = readings_laws
named_laws false true c = tables_v1_laws
named_laws false false true = tables_v2_laws
named_laws false false false = unnamed_laws

named_long : (got other : List ℕ) → length other ≡ 8 → bytes_eq (take 8 got) other ≡ true → 8 ≤ length got
named_long got other eight e =
    let same : length (take 8 got) ≡ 8 = ap length ((bytes_eq-Decides (take 8 got) other).0 e) ∙ eight in
    omega (arith, length-take 8 got)

accepted_name : (too b : Bool) → cond too b false ≡ true → b ≡ true
accepted_name true b e = e
accepted_name false b e = absurd cc

-- bytes that name a format have eight, and a fault of other bytes that is no cut has too
long_enough : (too : Bool) (got : List ℕ) (a b c : Bool) (fault : ReadingFault) (number : ℕ) → cond too (bytes_eq (take 8 got) magic) false ≡ a → bytes_eq (take 8 got) table_magic ≡ b → bytes_eq (take 8 got) packet_magic ≡ c
    → (fault ≡ Truncated → ⊥) → (named a b c).IsFaulty got fault number → 8 ≤ length got
long_enough too got true b c fault number p q r whole h = named_long got magic records.length-magic (accepted_name too _ p)
long_enough too got false true c fault number p q r whole h = named_long got table_magic entries.length-table_magic q
long_enough too got false false true fault number p q r whole h = named_long got packet_magic packets.length-packet_magic r
long_enough too got false false false Truncated number p q r whole h = absurd (whole refl)
long_enough too got false false false Magic number p q r whole h = h.0
long_enough too got false false false _ number p q r whole h = absurd h

laws_by : (too : Bool) (name : List ℕ) → KindLaws (kind_by too name)
laws_by too name = named_laws (cond too (bytes_eq name magic) false) (bytes_eq name table_magic) (bytes_eq name packet_magic)

files_laws : (too : Bool) → KindLaws (files too)
files_laws too =
    record {
      one_file = λ bytes m n t u h k. (laws_by too (take 8 bytes)).one_file bytes m n t u h k;
      either = λ bytes n t fault number h k. (laws_by too (take 8 bytes)).either bytes n t fault number h k;
      one_fault = λ bytes f g m n h k. (laws_by too (take 8 bytes)).one_fault bytes f g m n h k;
      more = λ got rest fault number whole h.
          let long : 8 ≤ length got = long_enough too got (cond too (bytes_eq (take 8 got) magic) false) (bytes_eq (take 8 got) table_magic) (bytes_eq (take 8 got) packet_magic) fault number refl refl refl whole h in
          let front : take 8 (got ++ rest) ≡ take 8 got = take-append-le 8 got rest long in
          subst (λ (l : List ℕ). (kind_by too l).IsFaulty (got ++ rest) fault number) (sym front)
          ((laws_by too (take 8 got)).more got rest fault number whole h);
    }

pub tables_laws : KindLaws tables
tables_laws = files_laws false

pub inputs_laws : KindLaws inputs
inputs_laws = files_laws true

-- a file is its magic and the rest
whole_table_file : (es : List (ℕ × State)) → (rest : List ℕ) × (file_of es ≡ table_magic ++ rest)
unfolding file_of
whole_table_file es =
    let n = number (length es) in
    let body = flat_map entry_bytes es in
    ((number 2048 ++ n) ++ body, ap (λ (l : List ℕ). l ++ body) (append_assoc table_magic (number 2048) n) ∙ append_assoc table_magic (number 2048 ++ n) body)

whole_packet_file : (qs : List Packet) → (rest : List ℕ) × (packed_file qs ≡ packet_magic ++ rest)
unfolding packed_file
whole_packet_file qs =
    let n = number (length qs) in
    let body = flat_map packet_bytes qs in
    ((number 2048 ++ n) ++ body, ap (λ (l : List ℕ). l ++ body) (append_assoc packet_magic (number 2048) n) ∙ append_assoc packet_magic (number 2048 ++ n) body)

-- the file of a table is read back, in either version
v1_file : (bytes : List ℕ) (table : Table) → IsTableFile bytes table → tables.IsFile bytes (length (entries_of table)) table
unfolding file_of
v1_file bytes table h =
    let n = length (entries_of table) in
    let at = whole_table_file (entries_of table) in
    subst (λ (l : List ℕ). tables.IsFile l n table) (sym (h.spelled ∙ at.1)) ((v1_at false).file at.0 n table (subst (λ (l : List ℕ). IsTableFile l table) (h.spelled ∙ at.1) h, refl))

v2_file : (bytes : List ℕ) (table : Table) → IsPacketFile bytes table → tables.IsFile bytes (length (packets_of table)) table
v2_file bytes table h =
    let n = length (packets_of table) in
    let at = whole_packet_file (packets_of table) in
    subst (λ (l : List ℕ). tables.IsFile l n table) (sym (h.spelled ∙ at.1)) ((v2_at false).file at.0 n table (subst (λ (l : List ℕ). IsPacketFile l table) (h.spelled ∙ at.1) h, refl))

-- a file is refused by the device or for want of memory alone
refused_so : (r : Result Table ReadingError) (t : Table) (n : ℕ) → MatchResult r (λ u. u ≡ t) (λ e. (¬ IsOfFile e.fault) × (e.fault ≡ OutOfMemory → 0 < n)) → MatchResult r (λ u. u ≡ t) (λ e. ¬ IsOfFile e.fault)
refused_so (Ok u) t n h = h
refused_so (Err e) t n h = h.0

pub public_written_v1 : (a : Option (List ℕ)) (r : Result Table ReadingError) → TakesFile tables a r
    → IfSome a (λ bytes. (table : Table) → IsTable table → bytes ≡ table_bytes_v1 table → MatchResult r (λ t. t ≡ table) (λ e. ¬ IsOfFile e.fault))
public_written_v1 None r h = tt
public_written_v1 (Some bytes) r h = λ table is spelled. refused_so r table _ (h (length (entries_of table)) table (v1_file bytes table (record { is_table = is; spelled = spelled })))

pub public_written : (a : Option (List ℕ)) (r : Result Table ReadingError) → TakesFile tables a r
    → IfSome a (λ bytes. (table : Table) → IsTable table → bytes ≡ table_bytes table → MatchResult r (λ t. t ≡ table) (λ e. ¬ IsOfFile e.fault))
public_written None r h = tt
public_written (Some bytes) r h = λ table is spelled. refused_so r table _ (h (length (packets_of table)) table (v2_file bytes table (record { is_table = is; spelled = spelled })))
