-- A list of entries that grows at its end.
use Rattle.std.proofs.Common.{◌≡◌, ℕ, ◌+◌, ◌≤◌, List, [], ◌∷◌, ◌++◌, length, get_or, Option, refl, sym, ap, subst, ◌∙◌, append_assoc, append-nil, arith, length-append}
use Rattle.std.specs.Io.KnownBytes.{Consumes}
use Rattle.std.proofs.KnownBytes.{Consumes-nil, Consumes-trans}
use Rattle.std.proofs.lemmas.List.Concat.{flat_map-append}
use Rattle.std.specs.List.{flat_map}
use Rattle.udfs_lattice.specs.States.{State}
use Rattle.udfs_lattice.specs.Tables.{Table, one_entry, join_tables, entries_of}
use Rattle.udfs_lattice.specs.TableLaws.{join_tables-assoc, join_tables-empty_right}
use Rattle.udfs_lattice.specs.Records.{IsEntry, RisesFrom, table_of_entries}
use Rattle.udfs_lattice.proofs.PublicLaws.{entry_added, rising_are_entries, rising_make_table}
use Rattle.udfs_reading.specs.Format.{number, header}
use Rattle.udfs_reading.specs.Outcome.{HeaderIsSound}
use Rattle.udfs_reading.specs.TableFile.{table_magic, entry_bytes, file_of}
use Rattle.udfs_reading.specs.TableReading.{entries_front, IsUnderEntries, IsTableFile, floor_after, tables_v1, TakesEntry, TakesEntries}
use Rattle.udfs_reading.proofs.JudgeEntries.{header_is_sound}

pub one_byte : (bytes : List ℕ) → length bytes ≡ 1 → bytes ≡ get_or bytes 0 0 ∷ []
one_byte [] h = absurd (omega arith)
one_byte (b ∷ []) h = refl
one_byte (b ∷ c ∷ bytes) h = absurd (omega arith)

-- past the header, at the state of a block
pub state_sound : (count : ℕ) (done : List (ℕ × State)) (block : ℕ) (got : List ℕ) → IsUnderEntries count done → HeaderIsSound tables_v1 ((entries_front count done ++ number block) ++ got)
state_sound count done block got under =
    subst (HeaderIsSound tables_v1) (sym (append_assoc (entries_front count done) (number block) got)) (header_is_sound count done (number block ++ got) under)

pub rises-push : (low : ℕ) (es : List (ℕ × State)) (e : ℕ × State) → RisesFrom low es → floor_after low es ≤ e.0 → IsEntry e.0 e.1 → RisesFrom low (es ++ e ∷ [])
rises-push low [] e h above entry = (above, entry, tt)
rises-push low (x ∷ es) e h above entry = (h.0, h.1, rises-push (x.0 + 1) es e h.2 above entry)

pub floor-push : (low : ℕ) (es : List (ℕ × State)) (e : ℕ × State) → floor_after low (es ++ e ∷ []) ≡ e.0 + 1
floor-push low [] e = refl
floor-push low (x ∷ es) e = floor-push (x.0 + 1) es e

pub entries_bytes-push : (es : List (ℕ × State)) (e : ℕ × State) → flat_map entry_bytes (es ++ e ∷ []) ≡ flat_map entry_bytes es ++ entry_bytes e
entries_bytes-push es e = flat_map-append entry_bytes es (e ∷ []) ∙ ap (λ (l : List ℕ). flat_map entry_bytes es ++ l) (append-nil (entry_bytes e))

pub entries_none : (a : Option (List ℕ)) (t : Table) → TakesEntries a a 0 0 t t
entries_none a t = record { taken = []; many = refl; rises = tt; floor_is = refl; given = Consumes-nil a; put = sym (join_tables-empty_right t) }

-- one more entry
pub entries_more : {a b c : Option (List ℕ)} {n floor next : ℕ} {s t u : Table} → TakesEntries a b n floor s t → TakesEntry b c floor next t u → TakesEntries a c (n + 1) next s u
entries_more {a} {b} {c} {n} {floor} {next} {s} {t} {u} h k =
    record {
      taken = h.taken ++ k.taken ∷ [];
      many = let many = h.many in omega (arith, length-append h.taken (k.taken ∷ []));
      rises = rises-push 0 h.taken k.taken h.rises (let is = h.floor_is in let above = k.above in omega arith) k.entry;
      floor_is = floor-push 0 h.taken k.taken ∙ sym k.next_is;
      given = subst (Consumes a c) (sym (entries_bytes-push h.taken k.taken)) (Consumes-trans a b c _ _ h.given k.given);
      put = k.put ∙ ap (λ (l : Table). join_tables l (one_entry k.taken.0 k.taken.1)) h.put
          ∙ join_tables-assoc s (table_of_entries h.taken) (one_entry k.taken.0 k.taken.1)
          ∙ ap (join_tables s) (sym (entry_added h.taken k.taken.0 k.taken.1));
    }

-- the header, by what stands behind the magic
pub whole_table_front : (n : ℕ) → header table_magic n ≡ table_magic ++ (number 2048 ++ number n)
whole_table_front n = append_assoc table_magic (number 2048) (number n)

-- a header of as many entries as follow is that of the file of their table
pub is_table_file : (n : ℕ) (es : List (ℕ × State)) → length es ≡ n → RisesFrom 0 es
    → IsTableFile (table_magic ++ ((number 2048 ++ number n) ++ flat_map entry_bytes es)) (table_of_entries es) × (n ≡ length (entries_of (table_of_entries es))) × (entries_front (length es) es ≡ table_magic ++ ((number 2048 ++ number n) ++ flat_map entry_bytes es))
unfolding file_of
is_table_file n es many rises =
    let listed : entries_of (table_of_entries es) ≡ es = rising_are_entries es rises in
    let spelled : entries_front (length es) es ≡ table_magic ++ ((number 2048 ++ number n) ++ flat_map entry_bytes es) =
    ap (λ (k : ℕ). entries_front k es) many ∙ ap (λ (l : List ℕ). l ++ flat_map entry_bytes es) (whole_table_front n) ∙ append_assoc table_magic (number 2048 ++ number n) (flat_map entry_bytes es) in
    (record { is_table = rising_make_table es rises; spelled = sym spelled ∙ ap file_of (sym listed) }, sym many ∙ ap length (sym listed), spelled)
