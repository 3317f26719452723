-- The faults of a table, when its tag and its number of entries are right.
use Rattle.std.proofs.Common.{◌≡◌, refl, ◌∙◌, ap, List, map, drop, ℕ, ◌+◌, ◌*◌, Bool, true, false, not, cond, ◌||◌, nat_lt, Option, Some, None}
use Rattle.std.specs.List.{list_any, range_with_len}
use Rattle.byteorder.specs.Endian.{little_number}
use Rattle.udfs_volume.specs.Layout.{bp}
use Rattle.udfs_space.specs.declared.entries.SparingEntry.{SparingEntry}
use Rattle.udfs_volume.specs.declared.faults.VolumeFault.{VolumeFault}
use Rattle.udfs_volume.specs.declared.faults.VolumeFault.TheVariants.{SparingTag, SparingShape}
use Rattle.udfs_volume.specs.Sequence.{Bytes}
use Rattle.udfs_volume.specs.Answers.{unless_fault, found, faulty}
use Rattle.udfs_space.specs.Parts.{entries_fault}
use Rattle.udfs_space.specs.Sparing.{entries, entry_count, sparing_entry_of, is_bad_original, is_sparing_table, sparing_fault, spared_from, spared_in}

fault_by : (a b c : Bool) (later : Option VolumeFault) → a ≡ true → b ≡ false → cond (not a) (Some SparingTag) (cond (b || c) (Some SparingShape) later) ≡ cond c (Some SparingShape) later
fault_by true true c later p q = absurd (let z : ⊥ = cc in z)
fault_by true false c later p q = refl
fault_by false b c later p q = absurd (let z : ⊥ = cc in z)

pub sparing_fault-entries : (last packet size : ℕ) (valid : Bool) (content : Bytes) → is_sparing_table valid content ≡ true → nat_lt size (56 + 8 * entry_count content) ≡ false
    → sparing_fault last packet size valid content ≡ entries_fault last packet (entries content)
sparing_fault-entries last packet size valid content p q = fault_by (is_sparing_table valid content) (nat_lt size (56 + 8 * entry_count content)) (list_any (is_bad_original packet) (entries content)) _ p q

pub judged-fault : (last packet size : ℕ) (valid : Bool) (content : Bytes) (f : VolumeFault) → is_sparing_table valid content ≡ true → nat_lt size (56 + 8 * entry_count content) ≡ false
    → entries_fault last packet (entries content) ≡ Some f → spared_from last packet size valid content ≡ faulty f
judged-fault last packet size valid content f p q e = ap (λ o. unless_fault o (spared_in content)) (sparing_fault-entries last packet size valid content p q ∙ e)

pub judged-found : (last packet size : ℕ) (valid : Bool) (content : Bytes) → is_sparing_table valid content ≡ true → nat_lt size (56 + 8 * entry_count content) ≡ false
    → entries_fault last packet (entries content) ≡ None → spared_from last packet size valid content ≡ found (spared_in content)
judged-found last packet size valid content p q e = ap (λ o. unless_fault o (spared_in content)) (sparing_fault-entries last packet size valid content p q ∙ e)

-- ---- the entries that the code reads
pub count_is : (bytes content two : Bytes) (count : ℕ) → content ≡ drop 16 bytes → two ≡ drop 32 content → count ≡ little_number 2 two → count ≡ entry_count (drop 16 bytes)
count_is bytes content two count p q r = r ∙ ap (little_number 2) (q ∙ ap (drop 32) p)

pub entries_are : (bytes content two : Bytes) (count : ℕ) (items : List SparingEntry) → content ≡ drop 16 bytes → two ≡ drop 32 content → count ≡ little_number 2 two
    → items ≡ map (λ i. sparing_entry_of (drop (bp (56 + 8 * i)) content)) (range_with_len 0 count) → items ≡ entries (drop 16 bytes)
entries_are bytes content two count items p q r e = e ∙ (λ j. map (λ i. sparing_entry_of (drop (bp (56 + 8 * i)) (p j))) (range_with_len 0 (count_is bytes content two count p q r j)))
