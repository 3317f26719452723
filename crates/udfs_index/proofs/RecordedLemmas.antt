-- Readings whose records are taken by where they stand.
use Rattle.std.proofs.Common.{◌≡◌, ℕ, ◌+◌, ◌*◌, ◌^◌, ◌<◌, ◌≤◌, List, [], ◌∷◌, ◌++◌, length, take, drop, Option, None, Some, IfSome, refl, sym, ap, subst, ◌∙◌, arith, append_assoc, append-nil, length-append, replicate, slice_index_or}
use Rattle.std.specs.Io.KnownBytes.{Consumes, IsAtEnd}
use Rattle.std.specs.List.{flat_map}
use Rattle.std.proofs.lemmas.Grind.{get_or_default_zero}
use Rattle.std.proofs.lemmas.List.{drop_at, length-replicate, take_at}
use Rattle.std.proofs.lemmas.List.Concat.{flat_map-append}
use Rattle.std.proofs.lemmas.List.Elements.{All-replicate}
use lib.Seq.{drop-drop}
use Rattle.byteorder.specs.Numbers.{little_number-reads_back}
use Rattle.udfs_lattice.proofs.PublicLaws.{record_added}
use Rattle.udfs_lattice.specs.Records.{Record, table_of}
use Rattle.udfs_lattice.specs.States.{IsBlock}
use Rattle.udfs_lattice.specs.TableLaws.{join_tables-assoc, join_tables-empty_right}
use Rattle.udfs_lattice.specs.Tables.{Table, join_tables, one_record}
use Rattle.udfs_reading.specs.Device.{left}
use Rattle.udfs_reading.specs.Format.{header, number, value_of}
use Rattle.udfs_reading.specs.Gains.{LeavesReading, TakesReading}
use Rattle.udfs_reading.specs.Places.{HasBlockAt, StandsAt}
use Rattle.udfs_reading.specs.Reading.{magic, front, record_bytes, AreRecords, IsReading, IsRecord}
use Rattle.udfs_index.specs.Places.{behind}
use Rattle.udfs_index.specs.Recorded.{HasRecords, IsFrontOf, IsOf, IsRecordedAt, TakesNext, TakesOne}

-- ---- where records stand

length-number : (n : ℕ) → length (number n) ≡ 4
unfolding number
length-number n = refl

length-header : (n : ℕ) → length (header magic n) ≡ 16
unfolding number magic
length-header n = refl

-- a number is read back
read_back : (n : ℕ) → n < 2 ^ 32 → value_of (number n ++ []) ≡ n
unfolding number value_of
read_back n h = little_number-reads_back 4 n [] h

same_number : (m n : ℕ) → m ≤ 4194303 → n ≤ 4194303 → number m ≡ number n → m ≡ n
same_number m n low high e = sym (read_back m (omega (arith, low))) ∙ ap (λ (l : List ℕ). value_of (l ++ [])) e ∙ read_back n (omega (arith, high))

pub length-records : (rs : List Record) → AreRecords rs → length (flat_map record_bytes rs) ≡ 2052 * length rs
length-records [] each = refl
length-records (r ∷ rs) each =
    let later = length-records rs each.1 in
    let block = each.0.block.whole in
    length-append (number r.0 ++ r.1) (flat_map record_bytes rs) ∙ omega (arith, later, length-append (number r.0) r.1, length-number r.0, block)

pub are_front : (xs ys : List Record) → AreRecords (xs ++ ys) → AreRecords xs
are_front [] ys each = tt
are_front (x ∷ xs) ys each = (each.0, are_front xs ys each.1)

are_back : (xs ys : List Record) → AreRecords (xs ++ ys) → AreRecords ys
are_back [] ys each = each
are_back (x ∷ xs) ys each = are_back xs ys each.1

are_push : (xs : List Record) (r : Record) → AreRecords xs → IsRecord r → AreRecords (xs ++ r ∷ [])
are_push [] r each is = (is, tt)
are_push (x ∷ xs) r each is = (each.0, are_push xs r each.1 is)

-- behind some records of a reading
records_behind : (count : ℕ) (done rest : List Record) → AreRecords done → drop (16 + 2052 * length done) (front count (done ++ rest)) ≡ flat_map record_bytes rest
records_behind count done rest each =
    let D = flat_map record_bytes done in
    let R = flat_map record_bytes rest in
    let long : length (header magic count ++ D) ≡ 16 + 2052 * length done = length-append (header magic count) D ∙ omega (arith, length-header count, length-records done each) in
    ap (λ (l : List ℕ). drop (16 + 2052 * length done) (header magic count ++ l)) (flat_map-append record_bytes done rest) ∙ ap (drop (16 + 2052 * length done)) (sym (append_assoc (header magic count) D R)) ∙ drop_at (header magic count ++ D) R (16 + 2052 * length done) long

-- what stands behind some records of a told reading, and the next one
pub record Next (all : List ℕ) (done : List Record) (count : ℕ) : Type 0 where
  pub one : Record
  pub later : List Record
  pub is : IsRecord one
  pub reading : IsReading all (done ++ one ∷ later)
  pub many : length (done ++ one ∷ later) ≡ count
  pub number_there : take 4 (drop (16 + 2052 * length done) all) ≡ number one.0
  pub bytes_there : take 2048 (drop (20 + 2052 * length done) all) ≡ one.1

next_of : (all : List ℕ) (done rest : List Record) (count : ℕ) → AreRecords done → IsReading all (done ++ rest) → length (done ++ rest) ≡ count → length done < count → Next all done count
next_of all done [] count each reading many less = absurd (omega (arith, less, many, ap length (append-nil done)))
next_of all done (r ∷ rest) count each reading many less =
    let is : IsRecord r = (are_back done (r ∷ rest) reading.each).0 in
    let n = length done in
    let F = flat_map record_bytes rest in
    let there : drop (16 + 2052 * n) all ≡ number r.0 ++ (r.1 ++ F) =
    ap (drop (16 + 2052 * n)) reading.spelled ∙ records_behind (length (done ++ r ∷ rest)) done (r ∷ rest) each ∙ append_assoc (number r.0) r.1 F in
    let further : 20 + 2052 * n ≡ 16 + 2052 * n + 4 = omega arith in
    record {
      one = r;
      later = rest;
      is = is;
      reading = reading;
      many = many;
      number_there = ap (take 4) there ∙ take_at (number r.0) (r.1 ++ F) 4 (length-number r.0);
      bytes_there =
          ap (λ (k : ℕ). take 2048 (drop k all)) further ∙ ap (take 2048) (sym (drop-drop 4 (16 + 2052 * n) all)) ∙ ap (λ (l : List ℕ). take 2048 (drop 4 l)) there
          ∙ ap (take 2048) (drop_at (number r.0) (r.1 ++ F) 4 (length-number r.0)) ∙ take_at r.1 F 2048 is.block.whole;
    }

pub next : (all : List ℕ) (done : List Record) (count : ℕ) → IsFrontOf (Some all) done count → length done < count → Next all done count
next all done count h less = next_of all done h.told.0 count h.each h.told.1 h.told.2 less

-- a whole block was read
pub read_whole : (content : Option (List ℕ)) (at : ℕ) (buf : List ℕ) → length buf ≡ 2048 → IfSome content (λ all. buf ≡ take (length buf) (drop at all)) → IfSome content (λ all. take 2048 (drop at all) ≡ buf)
read_whole None at buf long h = tt
read_whole (Some all) at buf long h = ap (λ (k : ℕ). take k (drop at all)) (sym long) ∙ sym h

-- ---- one record

-- the bytes of its block, where they are told; else some
some_block : (content : Option (List ℕ)) (done : List Record) (count : ℕ) → IsFrontOf content done count → length done < count
    → (bytes : List ℕ) × IsBlock bytes × IfSome content (λ all. take 2048 (drop (20 + 2052 * length done) all) ≡ bytes)
some_block None done count h less = (replicate 2048 0, record { whole = length-replicate {A = ℕ} 2048 0; bytes = All-replicate (λ x. x < 256) 2048 0 (omega arith) }, tt)
some_block (Some all) done count h less = let n = next all done count h less in (n.one.1, n.is.block, n.bytes_there)

-- the records go on with it
goes_on : (content : Option (List ℕ)) (done : List Record) (count block : ℕ) (bytes : List ℕ) → IsFrontOf content done count → length done < count → block ≤ 4194303 → IsBlock bytes
    → IfSome content (λ all. IsRecordedAt all (length done) block) → IfSome content (λ all. take 2048 (drop (20 + 2052 * length done) all) ≡ bytes) → IsFrontOf content (done ++ (block, bytes) ∷ []) count
goes_on None done count block bytes h less fits is at there =
    record { few = h.few; each = are_push done (block, bytes) h.each (record { number = fits; block = is }); within = omega (arith, less, length-append done ((block, bytes) ∷ [])); told = tt }
goes_on (Some all) done count block bytes h less fits is at there =
    let n = next all done count h less in
    let same_block : n.one.0 ≡ block = same_number n.one.0 block n.is.number fits (sym n.number_there ∙ at.spelled) in
    let same_bytes : n.one.1 ≡ bytes = sym n.bytes_there ∙ there in
    let same : n.one ≡ (block, bytes) = ap (λ (k : ℕ). (k, n.one.1)) same_block ∙ ap (λ (l : List ℕ). (block, l)) same_bytes in
    let apart : done ++ n.one ∷ n.later ≡ (done ++ (block, bytes) ∷ []) ++ n.later = ap (λ (r : Record). done ++ r ∷ n.later) same ∙ sym (append_assoc done ((block, bytes) ∷ []) n.later) in
    record {
      few = h.few;
      each = are_push done (block, bytes) h.each (record { number = fits; block = is });
      within = omega (arith, less, length-append done ((block, bytes) ∷ []));
      told = (n.later, subst (IsReading all) apart n.reading, ap length (sym apart) ∙ n.many);
    }

-- where its bytes stand in the input that is taken
has_block : (input content : Option (List ℕ)) (at : ℕ) (bytes : List ℕ) → IsOf input content → IfSome content (λ all. take 2048 (drop at all) ≡ bytes) → HasBlockAt input at bytes
has_block None content at bytes of there = tt
has_block (Some whole) content at bytes of there = subst (λ (c : Option (List ℕ)). IfSome c (λ all. take 2048 (drop at all) ≡ bytes)) of there

-- it was taken by its place alone
pub takes_place : {old new : Table → Type 0} (input content : Option (List ℕ)) (number at block : ℕ) → at ≡ 20 + 2052 * number → block ≤ 4194303 → IfSome content (λ all. IsRecordedAt all number block) → IsOf input content
    → ((t : Table) (bytes : List ℕ) → HasBlockAt input at bytes → old t → new (join_tables t (one_record block bytes))) → TakesNext content number old new
takes_place {old} {new} input content number at block place fits recorded of took done count h is less =
    let many : length done < count = omega (arith, is, less) in
    let b = some_block content done count h many in
    let here = subst (λ (k : ℕ). IfSome content (λ all. IsRecordedAt all k block)) (sym is) recorded in
    let there : at ≡ 20 + 2052 * length done = place ∙ ap (λ (k : ℕ). 20 + 2052 * k) (sym is) in
    record {
      one = (block, b.0);
      is = record { number = fits; block = b.1 };
      front = goes_on content done count block b.0 h many fits b.1 here b.2;
      took = λ t p. took t b.0 (subst (λ (k : ℕ). HasBlockAt input k b.0) (sym there) (has_block input content (20 + 2052 * length done) b.0 of b.2)) p;
    }

-- its bytes were read
pub takes_bytes : {old new : Table → Type 0} (content : Option (List ℕ)) (number at block : ℕ) (bytes : List ℕ) → at ≡ 20 + 2052 * number → block ≤ 4194303 → IfSome content (λ all. IsRecordedAt all number block) → IsBlock bytes
    → IfSome content (λ all. take 2048 (drop at all) ≡ bytes) → ((t : Table) → old t → new (join_tables t (one_record block bytes))) → TakesNext content number old new
takes_bytes {old} {new} content number at block bytes place fits recorded is_block read took done count h is less =
    let many : length done < count = omega (arith, is, less) in
    let here = subst (λ (k : ℕ). IfSome content (λ all. IsRecordedAt all k block)) (sym is) recorded in
    let there : at ≡ 20 + 2052 * length done = place ∙ ap (λ (k : ℕ). 20 + 2052 * k) (sym is) in
    record {
      one = (block, bytes);
      is = record { number = fits; block = is_block };
      front = goes_on content done count block bytes h many fits is_block here (subst (λ (k : ℕ). IfSome content (λ all. take 2048 (drop k all) ≡ bytes)) there read);
      took = took;
    }

-- the bytes that are read stand where the input that is taken has them
pub has_read : (input content : Option (List ℕ)) (at : ℕ) (bytes : List ℕ) → IsOf input content → IfSome content (λ all. take 2048 (drop at all) ≡ bytes) → HasBlockAt input at bytes
has_read input content at bytes of read = has_block input content at bytes of read

-- an array of 2048 bytes is a block
pub block_of : (bytes : List ℕ) → length bytes ≡ 2048 → ((i : ℕ) → slice_index_or bytes i 0 < 256) → IsBlock bytes
block_of bytes whole small = record { whole = whole; bytes = λ k d lt. subst (λ x. x < 256) (sym (get_or_default_zero bytes k d lt)) (small k) }

-- by a taker that is as it was before
pub taken_after : {older old new : Table → Type 0} {content : Option (List ℕ)} {done : List Record} {count : ℕ} → ((t : Table) → older t → old t) → TakesOne content done count old new → TakesOne content done count older new
taken_after same h = record { one = h.one; is = h.is; front = h.front; took = λ t p. h.took t (same t p) }

-- ---- all records

drop_whole : (xs : List ℕ) → drop (length xs) xs ≡ []
drop_whole [] = refl
drop_whole (x ∷ xs) = drop_whole xs

nil_rest : (xs ys : List Record) → length (xs ++ ys) ≡ length xs → ys ≡ []
nil_rest xs [] e = refl
nil_rest xs (y ∷ ys) e = absurd (omega (arith, e, length-append xs (y ∷ ys)))

is_told : Option (List ℕ) → Type 0
is_told None = ⊥
is_told (Some l) = Unit {0}

stands_none : {l : List ℕ} → None ≡ Some l → ⊥
unfolding is_told
stands_none e = subst is_told (sym e) tt

-- these were taken so far
pub record TookFront (content input : Option (List ℕ)) (count number : ℕ) (old now : Table → Type 0) (input_now : Option (List ℕ)) : Type 0 where
  pub done : List Record
  pub many : length done ≡ number
  pub front : IsFrontOf content done count
  pub took : (t : Table) → old t → now (join_tables t (table_of done))
  pub same_input : input_now ≡ input

-- none
pub took_none : {old : Table → Type 0} (content input : Option (List ℕ)) (count : ℕ) → count < 2 ^ 32 → IfSome content (λ all. HasRecords all count) → TookFront content input count 0 old old input
took_none {old} None input count few has = record { done = []; many = refl; front = record { few = few; each = tt; within = omega arith; told = tt }; took = λ t p. subst old (sym (join_tables-empty_right t)) p; same_input = refl }
took_none {old} (Some all) input count few has =
    record { done = []; many = refl; front = record { few = few; each = tt; within = omega arith; told = (has.records, has.is, has.many) }; took = λ t p. subst old (sym (join_tables-empty_right t)) p; same_input = refl }

-- one more
pub took_next : {old now new : Table → Type 0} (content input : Option (List ℕ)) (count number : ℕ) {input_now input_new : Option (List ℕ)} → number < count → TookFront content input count number old now input_now → TakesNext content number now new → input_new ≡ input_now
    → TookFront content input count (number + 1) old new input_new
took_next {old} {now} {new} content input count number {input_now} {input_new} less h takes same =
    let one = takes h.done count h.front h.many less in
    record {
      done = h.done ++ one.one ∷ [];
      many = length-append h.done (one.one ∷ []) ∙ omega (arith, h.many);
      front = one.front;
      took = λ t p. subst new (join_tables-assoc t (table_of h.done) (one_record one.one.0 one.one.1) ∙ ap (join_tables t) (sym (record_added h.done one.one.0 one.one.1))) (one.took (join_tables t (table_of h.done)) (h.took t p));
      same_input = same ∙ h.same_input;
    }

-- the input that is taken is that of the source
pub is_of : (input content : Option (List ℕ)) (at : ℕ) → at ≡ 0 → StandsAt input 0 (behind at content) → IsOf input content
is_of None content at zero_at stands = tt
is_of (Some whole) None at zero_at stands = absurd (stands_none stands.is_rest)
is_of (Some whole) (Some all) at zero_at stands = sym (ap (λ (k : ℕ). behind k (Some all)) zero_at) ∙ stands.is_rest

-- all of them
consumes_all : (content : Option (List ℕ)) (done : List Record) (count at end : ℕ) → at ≡ 0 → end ≡ 16 + 2052 * count → IsFrontOf content done count → length done ≡ count
    → Consumes (behind at content) (behind end content) (front (length done) done) × IsAtEnd (behind end content)
consumes_all None done count at end zero_at is h many = (tt, tt)
consumes_all (Some all) done count at end zero_at is h many =
    let none : h.told.0 ≡ [] = nil_rest done h.told.0 (h.told.2 ∙ sym many) in
    let whole : done ++ h.told.0 ≡ done = ap (λ (l : List Record). done ++ l) none ∙ append-nil done in
    let spelled : all ≡ front (length done) done = h.told.1.spelled ∙ ap (λ (l : List Record). front (length l) l) whole in
    let long : length all ≡ end = ap length spelled ∙ length-append (header magic (length done)) (flat_map record_bytes done) ∙ omega (arith, length-header (length done), length-records done h.each, many, is) in
    let over : drop end all ≡ [] = ap (λ (k : ℕ). drop k all) (sym long) ∙ drop_whole all in
    (ap (λ (k : ℕ). drop k all) zero_at ∙ spelled ∙ sym (append-nil (front (length done) done)) ∙ ap (λ (l : List ℕ). front (length done) done ++ l) (sym over), over)

pub all_taken : {old new : Table → Type 0} {input_now : Option (List ℕ)} (content input : Option (List ℕ)) (count at end : ℕ) → at ≡ 0 → end ≡ 16 + 2052 * count → TookFront content input count count old new input_now → TakesReading old new (behind at content) (behind end content)
all_taken {old} {new} {input_now} content input count at end zero_at is h =
    let c = consumes_all content h.done count at end zero_at is h.front h.many in
    record { records = h.done; few = omega (arith, h.many, h.front.few); each = h.front.each; given = c.0; end = c.1; took = h.took }

-- not all of them
begins : (content : Option (List ℕ)) (count at end : ℕ) → at ≡ 0 → end ≡ 16 + 2052 * count → IfSome content (λ all. HasRecords all count) → (ahead : List ℕ) × Consumes (behind at content) (left ahead (behind end content)) (header magic count)
begins None count at end zero_at is has = ([], tt)
begins (Some all) count at end zero_at is has =
    let F = flat_map record_bytes has.records in
    let spelled : all ≡ header magic count ++ F = has.is.spelled ∙ ap (λ (k : ℕ). header magic k ++ F) has.many in
    let long : length all ≡ end = ap length spelled ∙ length-append (header magic count) F ∙ omega (arith, length-header count, length-records has.records has.is.each, has.many, is) in
    let over : drop end all ≡ [] = ap (λ (k : ℕ). drop k all) (sym long) ∙ drop_whole all in
    (F, ap (λ (k : ℕ). drop k all) zero_at ∙ spelled ∙ ap (λ (l : List ℕ). header magic count ++ l) (sym (ap (λ (l : List ℕ). F ++ l) over ∙ append-nil F)))

pub some_left : (content : Option (List ℕ)) (count at end number : ℕ) → at ≡ 0 → end ≡ 16 + 2052 * count → count < 2 ^ 32 → number < count → IfSome content (λ all. HasRecords all count) → LeavesReading (behind at content) (behind end content) (number + 1)
some_left content count at end number zero_at is few less has =
    let b = begins content count at end zero_at is has in
    record { count = count; few = few; some = omega (arith, less); first = omega arith; ahead = b.0; given = b.1 }
