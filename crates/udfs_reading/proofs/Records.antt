-- A list of records that grows at its end.
use Rattle.std.proofs.Common.{◌≡◌, ℕ, suc, ◌+◌, ◌^◌, ◌<◌, ◌≤◌, List, [], ◌∷◌, ◌++◌, length, take, get_or, All, Option, refl, sym, ap, subst, ◌∙◌, append_assoc, append-nil, arith, length-append, length-take-le}
use Rattle.std.proofs.lemmas.List.Elements.{All-nil, All-cons}
use Rattle.udfs_lattice.specs.States.{IsBlock}
use Rattle.std.specs.List.{flat_map}
use Rattle.std.specs.Io.KnownBytes.{Consumes}
use Rattle.std.proofs.KnownBytes.{Consumes-nil, Consumes-trans}
use Rattle.std.proofs.lemmas.List.Concat.{flat_map-append}
use Rattle.udfs_lattice.specs.Tables.{Table}
use Rattle.udfs_lattice.specs.Tables.{one_record, join_tables}
use Rattle.udfs_lattice.specs.TableLaws.{join_tables-assoc, join_tables-empty_right}
use Rattle.udfs_lattice.specs.Records.{Record, table_of}
use Rattle.udfs_lattice.proofs.PublicLaws.{record_added}
use Rattle.udfs_reading.specs.Format.{number, header}
use Rattle.udfs_reading.specs.Reading.{magic, front, record_bytes, IsRecord, AreRecords, IsReading, TakesRecord, TakesRecords}

pub are_records-push : (rs : List Record) (r : Record) → AreRecords rs → IsRecord r → AreRecords (rs ++ r ∷ [])
are_records-push [] r all h = (h, tt)
are_records-push (x ∷ rs) r all h = (all.0, are_records-push rs r all.1 h)

pub bytes-push : (rs : List Record) (r : Record) → flat_map record_bytes (rs ++ r ∷ []) ≡ flat_map record_bytes rs ++ record_bytes r
bytes-push rs r = flat_map-append record_bytes rs (r ∷ []) ∙ ap (λ (l : List ℕ). flat_map record_bytes rs ++ l) (append-nil (record_bytes r))

-- one more record
pub takes_more : {a b c : Option (List ℕ)} {n : ℕ} {s t u : Table} → TakesRecords a b n s t → TakesRecord b c t u → TakesRecords a c (n + 1) s u
takes_more {a} {b} {c} {n} {s} {t} {u} h k =
    record {
      taken = h.taken ++ k.taken ∷ [];
      many = let many = h.many in omega (arith, length-append h.taken (k.taken ∷ []));
      are_records = are_records-push h.taken k.taken h.are_records k.is_record;
      given = subst (Consumes a c) (sym (bytes-push h.taken k.taken)) (Consumes-trans a b c _ _ h.given k.given);
      put = k.put ∙ ap (λ (l : Table). join_tables l (one_record k.taken.0 k.taken.1)) h.put
          ∙ join_tables-assoc s (table_of h.taken) (one_record k.taken.0 k.taken.1)
          ∙ ap (join_tables s) (sym (record_added h.taken k.taken.0 k.taken.1));
    }

all_bytes : (bytes : List ℕ) → ((i : ℕ) → get_or bytes i 0 < 256) → All (λ x. x < 256) bytes
all_bytes [] h = All-nil (λ x. x < 256)
all_bytes (b ∷ bytes) h = All-cons (λ x. x < 256) b bytes (h 0) (all_bytes bytes (λ i. h (suc i)))

-- the first 2048 bytes of the window are those of a block
pub is_block : (ahead chunk : List ℕ) → 2048 ≤ length ahead → chunk ≡ take 2048 ahead → ((i : ℕ) → get_or chunk i 0 < 256) → IsBlock (take 2048 ahead)
is_block ahead chunk whole is range =
    record {
      whole = length-take-le 2048 ahead whole;
      bytes = all_bytes (take 2048 ahead) (λ i. subst (λ (l : List ℕ). get_or l i 0 < 256) is (range i));
    }

pub takes_none : (a : Option (List ℕ)) (t : Table) → TakesRecords a a 0 t t
takes_none a t = record { taken = []; many = refl; are_records = tt; given = Consumes-nil a; put = sym (join_tables-empty_right t) }

-- the header, by what stands behind the magic
pub whole_front : (n : ℕ) → header magic n ≡ magic ++ (number 2048 ++ number n)
whole_front n = append_assoc magic (number 2048) (number n)

-- a header of as many records as follow is that of a reading
pub is_reading : (n : ℕ) (rs : List Record) → length rs ≡ n → n < 2 ^ 32 → AreRecords rs → IsReading (magic ++ ((number 2048 ++ number n) ++ flat_map record_bytes rs)) rs × (n ≡ length rs)
is_reading n rs many fits all = (
  record {
    count = subst (λ (k : ℕ). k < 2 ^ 32) (sym many) fits;
    each = all;
    spelled = sym (append_assoc magic (number 2048 ++ number n) (flat_map record_bytes rs)) ∙ ap (λ (l : List ℕ). l ++ flat_map record_bytes rs) (sym (whole_front n)) ∙ ap (λ (k : ℕ). front k rs) (sym many);
  },
  sym many,
)
