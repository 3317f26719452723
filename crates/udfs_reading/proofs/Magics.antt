-- What the first eight bytes say of the kind of a file.
use Rattle.std.proofs.Common.{◌≡◌, ◌≢◌, ℕ, ◌<◌, Bool, true, false, cond, List, [], ◌++◌, length, take, Option, refl, sym, ap, subst, ◌∙◌, append_assoc, arith, take_all, inl, inr}
use Rattle.std.specs.Str.{bytes_eq}
use Rattle.std.proofs.lemmas.Bool.{false≢true}
use Rattle.std.proofs.lemmas.List.{take_at}
use Rattle.std.proofs.lemmas.Slice.Eq.{bytes_eq-Decides}
use Rattle.std.specs.Io.KnownBytes.{Consumes}
use Rattle.std.proofs.KnownBytes.{Consumes-trans}
use Rattle.udfs_lattice.specs.Tables.{Table}
use Rattle.udfs_reading.specs.declared.error.ReadingError.{ReadingError}
use Rattle.udfs_reading.specs.declared.error.ReadingFault.{ReadingFault}
use Rattle.udfs_reading.specs.declared.error.ReadingFault.TheVariants.{Magic, BlockSize, BlockNumber, Truncated, Trailing, Order, State, Io, OutOfMemory}
use Rattle.udfs_reading.specs.Field.{CutBy, CutsField}
use Rattle.udfs_reading.specs.Format.{Format, AtMagic}
use Rattle.udfs_reading.specs.Kind.{Kind, kind}
use Rattle.udfs_reading.specs.Outcome.{Explains, Ends, Takes}
use Rattle.udfs_reading.specs.Reading.{magic, readings}
use Rattle.udfs_reading.specs.TableFile.{table_magic}
use Rattle.udfs_reading.specs.TableReading.{tables_v1}
use Rattle.udfs_reading.specs.PacketFile.{packet_magic}
use Rattle.udfs_reading.specs.PacketReading.{tables_v2}
use Rattle.udfs_reading.specs.Inputs.{named, files}
use Rattle.udfs_reading.proofs.Ends.{fault_at, ends_after}
use Rattle.udfs_reading.proofs.JudgeRecords.{length-magic}
use Rattle.udfs_reading.proofs.JudgeEntries.{length-table_magic}
use Rattle.udfs_reading.proofs.JudgePackets.{length-packet_magic}

pub same_bytes : (xs ys : List ℕ) → bytes_eq xs ys ≡ true → xs ≡ ys
same_bytes xs ys e = (bytes_eq-Decides xs ys).0 e

pub other_bytes : (xs ys : List ℕ) → bytes_eq xs ys ≡ false → xs ≢ ys
other_bytes xs ys e same = false≢true (sym e ∙ (bytes_eq-Decides xs ys).1 same)

-- ---- one format

-- eight other bytes
pub ends_magic : (F : Format) (got : List ℕ) {a b : Option (List ℕ)} {i j : ℕ} → Consumes a b got → j ≡ i → length got ≡ 8 → bytes_eq got F.magic ≡ false → Ends (kind F) [] a b i j (record { fault = Magic; number = 0 })
ends_magic F got given kept eight other =
    let differs : got ≢ F.magic = other_bytes got F.magic other in
    record {
      got = got;
      given = given;
      why = (kept, fault_at F AtMagic [] [] got Magic 0 tt refl refl (omega arith, rw (take_all 8 got (omega arith)) differs));
    }

-- an error behind the magic
pub ends_behind : (K : Kind) (magic got : List ℕ) {a b c : Option (List ℕ)} {i j k : ℕ} {e : ReadingError} → Consumes a b got → j ≡ i → bytes_eq got magic ≡ true → Ends K magic b c j k e → Ends K [] a c i k e
ends_behind K magic got {a} {b} given kept same h = ends_after K [] magic (subst (Consumes a b) (same_bytes got magic same) given) kept h

-- the rest of a file behind the magic
pub takes_behind : (K : Kind) (magic got : List ℕ) {a b c : Option (List ℕ)} {s t : Table} → Consumes a b got → bytes_eq got magic ≡ true → Takes K magic b c s t → Takes K [] a c s t
takes_behind K magic got {a} {b} {c} given same h =
    record {
      got = magic ++ h.got;
      count = h.count;
      table = h.table;
      given = Consumes-trans a b c magic h.got (subst (Consumes a b) (same_bytes got magic same) given) h.given;
      end = h.end;
      file = h.file;
      joined = h.joined;
    }

-- ---- a file of any kind that is accepted

-- bytes with this front are of this kind
pub record IsKindAt (too : Bool) (K : Kind) (front : List ℕ) : Type 0 where
  pub file : (rest : List ℕ) (n : ℕ) (t : Table) → K.IsFile (front ++ rest) n t → (files too).IsFile (front ++ rest) n t
  pub faulty : (rest : List ℕ) (f : ReadingFault) (n : ℕ) → K.IsFaulty (front ++ rest) f n → (files too).IsFaulty (front ++ rest) f n
  pub file_back : (rest : List ℕ) (n : ℕ) (t : Table) → (files too).IsFile (front ++ rest) n t → K.IsFile (front ++ rest) n t
  pub faulty_back : (rest : List ℕ) (f : ReadingFault) (n : ℕ) → (files too).IsFaulty (front ++ rest) f n → K.IsFaulty (front ++ rest) f n

by_names : (P : Kind → Type 0) (a b c d e f : Bool) → a ≡ d → b ≡ e → c ≡ f → P (named a b c) → P (named d e f)
by_names P a b c d e f p q r h =
    subst (λ (x : Bool). P (named d e x)) r (subst (λ (x : Bool). P (named d x c)) q (subst (λ (x : Bool). P (named x b c)) p h))

-- bytes with this front are named by the kind's own magic
kind_at : (too : Bool) (K : Kind) (front : List ℕ) (a b c : Bool) → named a b c ≡ K → ((rest : List ℕ) → a ≡ cond too (bytes_eq (take 8 (front ++ rest)) magic) false)
    → ((rest : List ℕ) → b ≡ bytes_eq (take 8 (front ++ rest)) table_magic) → ((rest : List ℕ) → c ≡ bytes_eq (take 8 (front ++ rest)) packet_magic) → IsKindAt too K front
kind_at too K front a b c is p q r =
    record {
      file = λ rest n t h. by_names (λ (k : Kind). k.IsFile (front ++ rest) n t) a b c _ _ _ (p rest) (q rest) (r rest) (subst (λ (k : Kind). k.IsFile (front ++ rest) n t) (sym is) h);
      faulty = λ rest f n h. by_names (λ (k : Kind). k.IsFaulty (front ++ rest) f n) a b c _ _ _ (p rest) (q rest) (r rest) (subst (λ (k : Kind). k.IsFaulty (front ++ rest) f n) (sym is) h);
      file_back = λ rest n t h. subst (λ (k : Kind). k.IsFile (front ++ rest) n t) is (by_names (λ (k : Kind). k.IsFile (front ++ rest) n t) _ _ _ a b c (sym (p rest)) (sym (q rest)) (sym (r rest)) h);
      faulty_back = λ rest f n h. subst (λ (k : Kind). k.IsFaulty (front ++ rest) f n) is (by_names (λ (k : Kind). k.IsFaulty (front ++ rest) f n) _ _ _ a b c (sym (p rest)) (sym (q rest)) (sym (r rest)) h);
    }

front_named : (front rest other : List ℕ) (b : Bool) → length front ≡ 8 → bytes_eq front other ≡ b → b ≡ bytes_eq (take 8 (front ++ rest)) other
front_named front rest other b eight e = sym (ap (λ (l : List ℕ). bytes_eq l other) (take_at front rest 8 eight) ∙ e)

same_named : (front : List ℕ) → bytes_eq front front ≡ true
same_named front = (bytes_eq-Decides front front).1 refl

reading_by_v1 : bytes_eq magic table_magic ≡ false
unfolding magic table_magic
reading_by_v1 = refl

reading_by_v2 : bytes_eq magic packet_magic ≡ false
unfolding magic packet_magic
reading_by_v2 = refl

v1_by_reading : bytes_eq table_magic magic ≡ false
unfolding magic table_magic
v1_by_reading = refl

v1_by_v2 : bytes_eq table_magic packet_magic ≡ false
unfolding table_magic packet_magic
v1_by_v2 = refl

v2_by_reading : bytes_eq packet_magic magic ≡ false
unfolding magic packet_magic
v2_by_reading = refl

v2_by_v1 : bytes_eq packet_magic table_magic ≡ false
unfolding table_magic packet_magic
v2_by_v1 = refl

-- no reading, whether readings are accepted or not
not_reading : (too b : Bool) → false ≡ b → false ≡ cond too b false
not_reading true b e = e
not_reading false b e = refl

pub readings_at : IsKindAt true readings magic
readings_at =
    kind_at true readings magic true false false refl
    (λ rest. front_named magic rest magic true length-magic (same_named magic))
    (λ rest. front_named magic rest table_magic false length-magic reading_by_v1)
    (λ rest. front_named magic rest packet_magic false length-magic reading_by_v2)

pub v1_at : (too : Bool) → IsKindAt too tables_v1 table_magic
v1_at too =
    kind_at too tables_v1 table_magic false true false refl
    (λ rest. not_reading too _ (front_named table_magic rest magic false length-table_magic v1_by_reading))
    (λ rest. front_named table_magic rest table_magic true length-table_magic (same_named table_magic))
    (λ rest. front_named table_magic rest packet_magic false length-table_magic v1_by_v2)

pub v2_at : (too : Bool) → IsKindAt too tables_v2 packet_magic
v2_at too =
    kind_at too tables_v2 packet_magic false false true refl
    (λ rest. not_reading too _ (front_named packet_magic rest magic false length-packet_magic v2_by_reading))
    (λ rest. front_named packet_magic rest table_magic false length-packet_magic v2_by_v1)
    (λ rest. front_named packet_magic rest packet_magic true length-packet_magic (same_named packet_magic))

-- where readings are accepted and the bytes name one
pub accepts : (too b : Bool) → cond too b false ≡ true → (too ≡ true) × (b ≡ true)
accepts true b e = (refl, e)
accepts false b e = absurd (false≢true e)

pub reading_at : (too : Bool) → too ≡ true → IsKindAt too readings magic
reading_at too e = subst (λ (t : Bool). IsKindAt t readings magic) (sym e) readings_at

module _ (too : Bool) (K : Kind) (front : List ℕ) (at : IsKindAt too K front) where
  explains_input : (fault : ReadingFault) (got : List ℕ) (rest : Option (List ℕ)) (i j number : ℕ) → Explains K (front ++ got) rest i j fault number → Explains (files too) (front ++ got) rest i j fault number
  explains_input Truncated got rest i j number h = (h.0, at.faulty got Truncated number h.1, h.2)
  explains_input Io got rest i j number h = (h.0, elim h.1 [ inl f ↦ inl (at.faulty got Truncated number f) | inr n ↦ inr (n.0, at.file got number n.0 n.1) ])
  explains_input OutOfMemory got rest i j number h = (
    h.0,
    record {
      fault = λ more f m has. h.1.fault more f m (subst (λ (l : List ℕ). K.IsFaulty l f m) (sym (append_assoc front got more)) (at.faulty_back (got ++ more) f m (subst (λ (l : List ℕ). (files too).IsFaulty l f m) (append_assoc front got more) has)));
      file = λ more n t is. h.1.file more n t (subst (λ (l : List ℕ). K.IsFile l n t) (sym (append_assoc front got more)) (at.file_back (got ++ more) n t (subst (λ (l : List ℕ). (files too).IsFile l n t) (append_assoc front got more) is)));
    },
    h.2,
  )
  explains_input Magic got rest i j number h = (h.0, at.faulty got Magic number h.1)
  explains_input BlockSize got rest i j number h = (h.0, at.faulty got BlockSize number h.1)
  explains_input BlockNumber got rest i j number h = (h.0, at.faulty got BlockNumber number h.1)
  explains_input Trailing got rest i j number h = (h.0, at.faulty got Trailing number h.1)
  explains_input Order got rest i j number h = (h.0, at.faulty got Order number h.1)
  explains_input State got rest i j number h = (h.0, at.faulty got State number h.1)

  pub ends_input : {a b : Option (List ℕ)} {i j : ℕ} {e : ReadingError} → Ends K front a b i j e → Ends (files too) front a b i j e
  ends_input {a} {b} {i} {j} {e} h = record { got = h.got; given = h.given; why = explains_input e.fault h.got b i j e.number h.why }

  pub takes_input : {a b : Option (List ℕ)} {s t : Table} → Takes K front a b s t → Takes (files too) front a b s t
  takes_input h = record { got = h.got; count = h.count; table = h.table; given = h.given; end = h.end; file = at.file h.got h.count h.table h.file; joined = h.joined }

-- ---- bytes that name no format

never : (b : Bool) → (b ≡ true → ⊥) → false ≡ b
never true h = absurd (h refl)
never false h = refl

-- fewer than eight bytes
short_named : (got other : List ℕ) → length got < 8 → length other ≡ 8 → false ≡ bytes_eq (take 8 got) other
short_named got other short eight =
    never (bytes_eq (take 8 got) other) (λ e. let same : take 8 got ≡ other = (bytes_eq-Decides (take 8 got) other).0 e in let whole : length got ≡ 8 = ap length (sym (take_all 8 got (omega arith)) ∙ same) ∙ eight in omega arith)

short_reading : (too : Bool) (got : List ℕ) → length got < 8 → false ≡ cond too (bytes_eq (take 8 got) magic) false
short_reading too got short = not_reading too _ (short_named got magic short length-magic)

module _ (too : Bool) where
  short_fault : (got : List ℕ) (number : ℕ) → length got < 8 → number ≡ 0 → (files too).IsFaulty got Truncated number
  short_fault got number short first =
      by_names (λ (K : Kind). K.IsFaulty got Truncated number) false false false _ _ _ (short_reading too got short) (short_named got table_magic short length-table_magic) (short_named got packet_magic short length-packet_magic) (short, first)

  cut_why : (fault : ReadingFault) (got : List ℕ) (rest : Option (List ℕ)) (i j number : ℕ) → length got < 8 → number ≡ 0 → CutBy fault rest i j → Explains (files too) got rest i j fault number
  cut_why Truncated got rest i j number short first why = (why.1, short_fault got number short first, why.0)
  cut_why Io got rest i j number short first why = (why, inl (short_fault got number short first))
  cut_why _ got rest i j number short first why = absurd why

  pub ends_input_cut : {a b : Option (List ℕ)} {i j : ℕ} {e : ReadingError} → CutsField a b i j 8 0 e → Ends (files too) [] a b i j e
  ends_input_cut {a} {b} {i} {j} {e} h = record { got = h.got; given = h.given; why = cut_why e.fault h.got b i j e.number h.short h.which h.why }

  -- eight bytes that are no magic
  pub ends_input_magic : (got : List ℕ) {a b : Option (List ℕ)} {i j : ℕ} → Consumes a b got → j ≡ i → length got ≡ 8 → cond too (bytes_eq got magic) false ≡ false → bytes_eq got table_magic ≡ false → bytes_eq got packet_magic ≡ false
      → Ends (files too) [] a b i j (record { fault = Magic; number = 0 })
  ends_input_magic got given kept eight one two three =
      let whole : take 8 got ≡ got = take_all 8 got (omega arith) in
      record {
        got = got;
        given = given;
        why = (kept, by_names (λ (K : Kind). K.IsFaulty got Magic 0) false false false _ _ _ (sym (ap (λ (l : List ℕ). cond too (bytes_eq l magic) false) whole ∙ one)) (sym (ap (λ (l : List ℕ). bytes_eq l table_magic) whole ∙ two)) (sym (ap (λ (l : List ℕ). bytes_eq l packet_magic) whole ∙ three)) (omega arith, refl));
      }
