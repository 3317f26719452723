-- From what a whole read says of the source to what the public call says of the bytes.
use Rattle.std.proofs.Common.{◌≡◌, ◌≢◌, ℕ, ◌+◌, ◌%◌, ◌^◌, ◌<◌, List, ◌++◌, Option, Some, None, Result, Ok, Err, refl, sym, ap, subst, ◌∙◌, append-nil, arith}
use Rattle.std.specs.Prelude.{IfOk, IfErr, OnOk, IsErrAnd, ◌↔◌}
use Rattle.udfs_lattice.specs.Tables.{Table}
use Rattle.udfs_reading.specs.declared.error.ReadingError.{ReadingError}
use Rattle.udfs_reading.specs.declared.error.ReadingFault.{ReadingFault}
use Rattle.udfs_reading.specs.declared.error.ReadingFault.TheVariants.{Magic, BlockSize, BlockNumber, Truncated, Trailing, Order, State, Io, OutOfMemory}
use Rattle.udfs_reading.specs.Device.{left}
use Rattle.udfs_reading.specs.Kind.{Kind, AreBytes, HasOutcome, HasOneOutcome}
use Rattle.udfs_reading.specs.Outcome.{StopsAt, Explains, Reads, Stops}
use Rattle.udfs_reading.specs.Answers.{IsOfFile, GivesTable, GivesFault, TakesFile, RefusesFaulty, FailsAfter}

-- what holds of the files and faults of a kind
pub record KindLaws (K : Kind) : Type 0 where
  pub one_file : (bytes : List ℕ) (m n : ℕ) (t u : Table) → K.IsFile bytes m t → K.IsFile bytes n u → t ≡ u
  pub either : (bytes : List ℕ) (n : ℕ) (t : Table) (fault : ReadingFault) (number : ℕ) → K.IsFile bytes n t → K.IsFaulty bytes fault number → ⊥
  pub one_fault : (bytes : List ℕ) (f g : ReadingFault) (m n : ℕ) → K.IsFaulty bytes f m → K.IsFaulty bytes g n → (f ≡ g) × (m ≡ n)
  pub more : (got rest : List ℕ) (fault : ReadingFault) (number : ℕ) → (fault ≡ Truncated → ⊥) → K.IsFaulty got fault number → K.IsFaulty (got ++ rest) fault number

count_moved : (i j : ℕ) → j ≡ (i + 1) % 2 ^ 64 → j ≢ i
count_moved i j h same = omega arith

abbrev CountOf : ReadingFault → ℕ → ℕ → Type 0
CountOf Io i j = j ≡ (i + 1) % 2 ^ 64
CountOf fault i j = j ≡ i

count_of : (K : Kind) (fault : ReadingFault) (got : List ℕ) (rest : Option (List ℕ)) (i j number : ℕ) → Explains K got rest i j fault number → CountOf fault i j
count_of K Truncated got rest i j number h = h.0
count_of K Io got rest i j number h = h.0
count_of K OutOfMemory got rest i j number h = h.0
count_of K _ got rest i j number h = h.0

io_moved : (fault : ReadingFault) (i j : ℕ) → CountOf fault i j → (fault ≡ Io) ↔ (j ≢ i)
io_moved Io i j h = (λ _. count_moved i j h, λ _. refl)
io_moved _ i j h = (λ e. absurd cc, λ n. absurd (n h))

kept_but_io : (fault : ReadingFault) (i j : ℕ) → CountOf fault i j → ¬ (fault ≡ Io) → j ≡ i
kept_but_io Io i j h n = absurd (n refl)
kept_but_io _ i j h n = h

-- ---- the clauses, for any count and any known bytes

abbrev pub Whole : Kind → Option (List ℕ) → Option (List ℕ) → ℕ → ℕ → Result Table ReadingError → Type 0
Whole K a b i j (Ok table) = Reads K a b table × (j ≡ i)
Whole K a b i j (Err e) = Stops K a b i j e

pub whole_from : (K : Kind) (a b : Option (List ℕ)) (i j : ℕ) (r : Result Table ReadingError) → IfOk r (λ table. Reads K a b table) → OnOk r (j ≡ i) → IfErr r (λ e. Stops K a b i j e) → Whole K a b i j r
whole_from K a b i j (Ok table) taken kept err = (taken, kept)
whole_from K a b i j (Err e) taken kept err = err

module _ (K : Kind) (laws : KindLaws K) where
  -- what an error says, by its fault
  file_fault : (fault : ReadingFault) (got rest : List ℕ) (i j number : ℕ) → Explains K got (Some rest) i j fault number → IsOfFile fault → K.IsFaulty (got ++ rest) fault number
  file_fault Magic got rest i j number h f = laws.more got rest Magic number (λ e. cc) h.1
  file_fault BlockSize got rest i j number h f = laws.more got rest BlockSize number (λ e. cc) h.1
  file_fault BlockNumber got rest i j number h f = laws.more got rest BlockNumber number (λ e. cc) h.1
  file_fault Truncated got rest i j number h f = subst (λ (l : List ℕ). K.IsFaulty l Truncated number) (sym (append-nil got) ∙ ap (λ (l : List ℕ). got ++ l) (sym h.2)) h.1
  file_fault Trailing got rest i j number h f = laws.more got rest Trailing number (λ e. cc) h.1
  file_fault Order got rest i j number h f = laws.more got rest Order number (λ e. cc) h.1
  file_fault State got rest i j number h f = laws.more got rest State number (λ e. cc) h.1
  file_fault Io got rest i j number h f = absurd f
  file_fault OutOfMemory got rest i j number h f = absurd f

  whole_file : (xs ys : List ℕ) (table : Table) → (h : Reads K (Some xs) (Some ys) table) → K.IsFile xs h.count table
  whole_file xs ys table h = subst (λ (l : List ℕ). K.IsFile l h.count table) (sym (append-nil h.got) ∙ ap (λ (l : List ℕ). h.got ++ l) (sym h.end) ∙ sym h.given) h.file

  pub public_table : (a b : Option (List ℕ)) (i j : ℕ) (r : Result Table ReadingError) → Whole K a b i j r → GivesTable K a r
  public_table None b i j r h = tt
  public_table (Some xs) None i j (Ok table) h = absurd h.0.given
  public_table (Some xs) (Some ys) i j (Ok table) h = (h.0.count, whole_file xs ys table h.0)
  public_table (Some xs) b i j (Err e) h = tt

  pub public_fault : (a b : Option (List ℕ)) (i j : ℕ) (r : Result Table ReadingError) → Whole K a b i j r → GivesFault K a r
  public_fault None b i j r h = tt
  public_fault (Some xs) b i j (Ok table) h = tt
  public_fault (Some xs) None i j (Err e) h = absurd h.ends.given
  public_fault (Some xs) (Some ys) i j (Err e) h = λ f. subst (λ (l : List ℕ). K.IsFaulty l e.fault e.number) (sym h.ends.given) (file_fault e.fault h.ends.got (h.ahead ++ ys) i j e.number h.ends.why f)

  -- memory is wanted only for records
  has_records : (fault : ReadingFault) (got rest : List ℕ) (i j number n : ℕ) (t : Table) → Explains K got (Some rest) i j fault number → fault ≡ OutOfMemory → K.IsFile (got ++ rest) n t → 0 < n
  has_records OutOfMemory got rest i j number n t h e is = h.1.file rest n t is
  has_records _ got rest i j number n t h e is = absurd cc

  pub public_file : (a b : Option (List ℕ)) (i j : ℕ) (r : Result Table ReadingError) → Whole K a b i j r → TakesFile K a r
  public_file None b i j r h = tt
  public_file (Some xs) None i j (Ok table) h = absurd h.0.given
  public_file (Some xs) (Some ys) i j (Ok table) h = λ n t is. laws.one_file xs h.0.count n table t (whole_file xs ys table h.0) is
  public_file (Some xs) None i j (Err e) h = absurd h.ends.given
  public_file (Some xs) (Some ys) i j (Err e) h = λ n t is. (
    λ f. laws.either xs n t e.fault e.number is (public_fault (Some xs) (Some ys) i j (Err e) h f),
    λ out. has_records e.fault h.ends.got (h.ahead ++ ys) i j e.number n t h.ends.why out (subst (λ (l : List ℕ). K.IsFile l n t) h.ends.given is),
  )

  no_memory : (fault : ReadingFault) (got rest : List ℕ) (i j number : ℕ) (f : ReadingFault) (m : ℕ) → Explains K got (Some rest) i j fault number → fault ≡ OutOfMemory → K.IsFaulty (got ++ rest) f m → 0 < m
  no_memory OutOfMemory got rest i j number f m h e has = h.1.fault rest f m has
  no_memory _ got rest i j number f m h e has = absurd cc

  pub public_faulty : (a b : Option (List ℕ)) (i j : ℕ) (r : Result Table ReadingError) → Whole K a b i j r → RefusesFaulty K a r
  public_faulty None b i j r h = tt
  public_faulty (Some xs) None i j (Ok table) h = absurd h.0.given
  public_faulty (Some xs) (Some ys) i j (Ok table) h = λ f n has. laws.either xs h.0.count table f n (whole_file xs ys table h.0) has
  public_faulty (Some xs) None i j (Err e) h = absurd h.ends.given
  public_faulty (Some xs) (Some ys) i j (Err e) h = λ f n has. (
    λ of_file. laws.one_fault xs e.fault f e.number n (public_fault (Some xs) (Some ys) i j (Err e) h of_file) has,
    λ out. no_memory e.fault h.ends.got (h.ahead ++ ys) i j e.number f n h.ends.why out (subst (λ (l : List ℕ). K.IsFaulty l f n) h.ends.given has),
  )

pub public_io : (K : Kind) (a b : Option (List ℕ)) (i j : ℕ) (r : Result Table ReadingError) → Whole K a b i j r → IsErrAnd r (λ e. e.fault ≡ Io) ↔ (j ≢ i)
public_io K a b i j (Ok table) h = (λ e. absurd e, λ n. absurd (n h.1))
public_io K a b i j (Err e) h = io_moved e.fault i j (count_of K e.fault h.ends.got (left h.ahead b) i j e.number h.ends.why)

stops : (K : Kind) (fault : ReadingFault) (got : List ℕ) (rest : Option (List ℕ)) (i j number : ℕ) → Explains K got rest i j fault number → fault ≡ Io → StopsAt K got number
stops K Io got rest i j number h e = h.1
stops K _ got rest i j number h e = absurd cc

pub public_cut : (K : Kind) (a b : Option (List ℕ)) (i j : ℕ) (r : Result Table ReadingError) → Whole K a b i j r → FailsAfter K a b r
public_cut K a b i j (Ok table) h = tt
public_cut K None b i j (Err e) h = λ _. tt
public_cut K (Some xs) None i j (Err e) h = λ _. tt
public_cut K (Some xs) (Some ys) i j (Err e) h = λ io. (h.ends.got, h.ends.given ∙ ap (λ (l : List ℕ). h.ends.got ++ (l ++ ys)) (h.empty io), stops K e.fault h.ends.got (left h.ahead (Some ys)) i j e.number h.ends.why io)

pub public_kept : (K : Kind) (a b : Option (List ℕ)) (i j : ℕ) (r : Result Table ReadingError) → Whole K a b i j r → ¬ IsErrAnd r (λ e. e.fault ≡ Io) → j ≡ i
public_kept K a b i j (Ok table) h n = h.1
public_kept K a b i j (Err e) h n = kept_but_io e.fault i j (count_of K e.fault h.ends.got (left h.ahead b) i j e.number h.ends.why) n

pub outcome : (K : Kind) → KindLaws K → ((bytes : List ℕ) → AreBytes bytes → HasOutcome K bytes) → HasOneOutcome K
outcome K laws some = record { some = some; one_table = laws.one_file; never_both = laws.either; one_fault = laws.one_fault }
