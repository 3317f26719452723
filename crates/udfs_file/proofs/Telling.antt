-- What the calls tell of partitions of which a part is known, by what they answer.
use Rattle.std.proofs.Common.{◌≡◌, refl, sym, ◌∙◌, ap, subst, ℕ, ◌+◌, ◌<◌, Bool, true, false, List, [], ◌∷◌, ◌++◌, length, take, drop, map, cond, ◌||◌, arith, Option, Some, None, nat_lt, slice_get}
use Rattle.std.specs.Prelude.{zero, suc, Result, Ok, Err, ⊤}
use Rattle.std.specs.List.{AllZip, cons_option}
use Rattle.std.proofs.lemmas.List.{length-append}
use Rattle.udfs_tag.specs.declared.layouts.LongAd.{LongAd}
use Rattle.udfs_volume.specs.Answers.{IsHoles}
use Rattle.udfs_volume.specs.Seen.{Sees}
use Rattle.udfs_volume.specs.declared.seen.Seen.{Seen}
use Rattle.udfs_volume.specs.declared.seen.Seen.TheVariants.{Got, Holes, Fault, OutOfMemory}
use Rattle.udfs_space.specs.Places.{View}
use Rattle.udfs_volume.specs.declared.profiles.Profile.{Profile}
use Rattle.udfs_file.specs.Addresses.{file_set}
use Rattle.udfs_file.specs.Bodies.{cells, faulty_body, body}
use Rattle.udfs_file.specs.Entries.{EntryFields}
use Rattle.udfs_file.specs.Complete.{as_cells}
use Rattle.udfs_file.specs.Fronts.{first_missing, value, holder_of, identifier_size, or_stop, checked_by, sized_by, step_by, DirectoryText, read_on, read_from, directory_by, listed_entries, entries_by, missing_in, fault_in, IsFrontBy}
use Rattle.udfs_file.specs.Laws.{IsCellOf, IsBeginningOf, IsClearTo, descriptor_end, IsPartialBody, IsPartialDirectory, IsPartialFileSet, known, unread}
use Rattle.udfs_file.specs.Stretches.{cells_of, GivesStretches}
use Rattle.udfs_file.specs.Told.{IsRootOf, TellsFileSet, IsToldBody, TellsBody, TellsBy}
use Rattle.udfs_file.specs.declared.cells.Cell.{Cell}
use Rattle.udfs_file.specs.declared.cells.Cell.TheVariants.{Byte, Gap}
use Rattle.udfs_file.specs.declared.directories.DirEntry.{DirEntry}
use Rattle.udfs_file.specs.declared.directories.DirFront.{DirFront}
use Rattle.udfs_file.specs.Identifiers.{Identifier}
use Rattle.udfs_file.specs.Identifiers.{Rest}
use Rattle.udfs_file.specs.Identifiers.{Nothing, Stopped, Wrong}
use Rattle.udfs_file.specs.Identifiers.{Step}
use Rattle.udfs_file.specs.Identifiers.{AtRest, One}
use Rattle.udfs_file.specs.declared.faults.NodeFault.TheVariants.{Cut}
use Rattle.udfs_file.specs.declared.faults.WalkError.{WalkError}
use Rattle.udfs_file.specs.declared.faults.WalkError.TheVariants as walk_error
use Rattle.udfs_file.specs.declared.stretches.Stretch.{Stretch}
use Rattle.udfs_file.proofs.BodyLengths.{body_length}
use Rattle.udfs_file.proofs.FileSets.{partial_file_set, file_set_law}
use Rattle.udfs_file.proofs.PartFronts.{AllZip-length, AllZip-drop, StepIs, step_same, step_stop, step_is, part_ids, listed-append}
use Rattle.udfs_file.proofs.Parts.{cells-same}
use Rattle.udfs_file.proofs.PartialBodies.{partial_bodies}
use Rattle.udfs_file.proofs.Reached.{no_stop, slice_get-drop, cons_head, cons_tail, partial_directory}
use Rattle.udfs_file.proofs.Readings.{directory_law}
use Rattle.udfs_file.proofs.WholeBodies.{body_law}

-- ---- the file set
root_of : (some : View) (n : ℕ) (a root : LongAd) (told : Seen LongAd) → Sees (λ x. x) told (file_set some a)
    → (told ≡ OutOfMemory → IsHoles (file_set some a)) → IsPartialFileSet some n a root → IsRootOf some n root told
root_of some n a root (Got got) s m (known e k) = (let same : got ≡ root = cc in same, k)
root_of some n a root (Got got) s m (unread e k) = absurd (let no : ⊥ = cc in no)
root_of some n a root (Holes listed) s m (known e k) = absurd (let no : ⊥ = cc in no)
root_of some n a root (Holes listed) s m (unread e k) = (let same : listed.items ≡ n ∷ [] = cc in same, k)
root_of some n a root (Fault f) s m (known e k) = absurd (let no : ⊥ = cc in no)
root_of some n a root (Fault f) s m (unread e k) = absurd (let no : ⊥ = cc in no)
root_of some n a root OutOfMemory s m (known e k) = absurd (let no : ⊥ = subst IsHoles e (m refl) in no)
root_of some n a root OutOfMemory s m (unread e k) = k

pub tells_file_set : (some : View) (a : LongAd) (told : Seen LongAd) → Sees (λ x. x) told (file_set some a)
    → (told ≡ OutOfMemory → IsHoles (file_set some a)) → TellsFileSet some a told
tells_file_set some a told s m all p root e =
    let law : (n : ℕ) × (all.place a.reference a.block ≡ Some n) × IsPartialFileSet some n a root = partial_file_set some all p a root e in
    record {
      block = law.0;
      place = law.1;
      root_or_hole = root_of some law.0 a root told s m law.2;
      standard = λ blocks w. file_set_law all blocks w a root e;
    }

-- ---- a body
pub tells_body : (some : View) (r b : ℕ) (entry : EntryFields) (told : Result (List Stretch) WalkError) → GivesStretches some told (body some r b entry)
    → TellsBody some r b entry told
tells_body some r b entry (Ok stretches) g all p whole e =
    let law : IsPartialBody some all r b entry whole = partial_bodies some all p r b entry whole e in
    subst (λ cs. IsToldBody some all r b entry cs whole) (cells-same law.part (cells_of some stretches) (sym law.is ∙ g)) (record {
      size = body_length some r b entry law.part law.is;
      cells_are = law.cells_are;
      standard = λ blocks w. body_law all blocks w r b entry whole e;
    })
tells_body some r b entry (Err (walk_error.Fault fault)) g all p whole e =
    let law : IsPartialBody some all r b entry whole = partial_bodies some all p r b entry whole e in
    let faulty : faulty_body fault ≡ cells law.part = sym g ∙ law.is in
    let no : ⊥ = cc in no
tells_body some r b entry (Err walk_error.OutOfMemory) g all p whole e = tt

abbrev NoWant : Result (List Stretch) WalkError → Type 0
NoWant (Ok ss) = ⊤
NoWant (Err (walk_error.Fault f)) = ⊤
NoWant (Err walk_error.OutOfMemory) = ⊥

pub body_clauses : (some : View) (r b : ℕ) (entry : EntryFields) (told : Result (List Stretch) WalkError) (Stored : Type 0) → GivesStretches some told (body some r b entry)
    → (told ≡ Err walk_error.OutOfMemory → Stored)
    → record { value : GivesStretches some told (body some r b entry); complete : TellsBody some r b entry told; memory : told ≡ Err walk_error.OutOfMemory → Stored }
body_clauses some r b entry told Stored g m = record { value = g; complete = tells_body some r b entry told g; memory = m }

pub never : (told : Result (List Stretch) WalkError) (Stored : Type 0) → NoWant told → told ≡ Err walk_error.OutOfMemory → Stored
never (Ok ss) Stored n e = absurd (let z : ⊥ = cc in z)
never (Err (walk_error.Fault f)) Stored n e = absurd (let z : ⊥ = cc in z)
never (Err walk_error.OutOfMemory) Stored n e = absurd n

-- ---- a directory: the block that ends it
found_at : (n : ℕ) (xs : List Cell) (m : ℕ) → first_missing (take n xs) ≡ Some m → (k : ℕ) × (slice_get xs k ≡ Some (Gap m))
found_at zero xs m e = absurd (let x : ⊥ = cc in x)
found_at (suc n) [] m e = absurd (let x : ⊥ = cc in x)
found_at (suc n) (Byte x o ∷ xs) m e = let r : (k : ℕ) × (slice_get xs k ≡ Some (Gap m)) = found_at n xs m e in (suc r.0, r.1)
found_at (suc n) (Gap b ∷ xs) m e = (zero, ap (λ z. Some (Gap z)) (let same : b ≡ m = cc in same))

module _ (rules : Profile) where
  step_stops : (xs : List Cell) (n : ℕ) → step_by rules xs ≡ AtRest (Stopped n) → (k : ℕ) × (slice_get xs k ≡ Some (Gap n))
  unfolding step_by
  step_stops [] n e = absurd (let x : ⊥ = cc in x)
  step_stops (c ∷ cs) n e = short (nat_lt (length all) 38) e
    where
      all : List Cell
      all = c ∷ cs

      size : ℕ
      size = identifier_size (map value (take 38 all))

      checked : Step
      checked = checked_by rules (holder_of all) (map value (take size all))

      names : (m : ℕ) (t : Step) → or_stop (Some m) t ≡ AtRest (Stopped n) → Some m ≡ Some n
      names m t s = let same : m ≡ n = cc in ap Some same

      ends : (o : Option ℕ) → first_missing (take size all) ≡ o → or_stop o checked ≡ AtRest (Stopped n) → (k : ℕ) × (slice_get all k ≡ Some (Gap n))
      ends None q s = no_stop rules n (holder_of all) (map value (take size all)) s
      ends (Some m) q s = found_at size all n (q ∙ names m checked s)

      fits : (b : Bool) → cond b (AtRest (Wrong Cut)) (or_stop (first_missing (take size all)) checked) ≡ AtRest (Stopped n) → (k : ℕ) × (slice_get all k ≡ Some (Gap n))
      fits true s = absurd (let x : ⊥ = cc in x)
      fits false s = ends (first_missing (take size all)) refl s

      begins : (o : Option ℕ) → first_missing (take 38 all) ≡ o → or_stop o (sized_by rules all size) ≡ AtRest (Stopped n) → (k : ℕ) × (slice_get all k ≡ Some (Gap n))
      begins None q s = fits (nat_lt 2048 size || nat_lt (length all) size) s
      begins (Some m) q s = found_at 38 all n (q ∙ names m (sized_by rules all size) s)

      short : (b : Bool) → cond b (AtRest (Wrong Cut)) (or_stop (first_missing (take 38 all)) (sized_by rules all size)) ≡ AtRest (Stopped n) → (k : ℕ) × (slice_get all k ≡ Some (Gap n))
      short true s = absurd (let x : ⊥ = cc in x)
      short false s = begins (first_missing (take 38 all)) refl s

  abbrev next : ℕ → List Cell → ℕ → DirectoryText
  next n cs size = read_from rules n (drop size cs)

  stopped_from : (fuel : ℕ) (xs : List Cell) (n : ℕ) → (read_from rules fuel xs).rest ≡ Stopped n → (k : ℕ) × (slice_get xs k ≡ Some (Gap n))
  stopped_from zero xs n e = absurd (let x : ⊥ = cc in x)
  stopped_from (suc fuel) xs n e = go (λ size. stopped_from fuel (drop size xs) n) (step_by rules xs) refl e
    where
      go : ((size : ℕ) → (next fuel xs size).rest ≡ Stopped n → (k : ℕ) × (slice_get (drop size xs) k ≡ Some (Gap n)))
          → (t : Step) → step_by rules xs ≡ t → (read_on (step_by rules xs) (next fuel xs)).rest ≡ Stopped n → (k : ℕ) × (slice_get xs k ≡ Some (Gap n))
      go ih (AtRest r) s q = step_stops xs n (s ∙ ap AtRest (sym (ap (λ t. (read_on t (next fuel xs)).rest) s) ∙ q))
      go ih (One id) s q = let r : (k : ℕ) × (slice_get (drop id.size xs) k ≡ Some (Gap n)) = ih id.size (sym (ap (λ t. (read_on t (next fuel xs)).rest) s) ∙ q) in
          (id.size + r.0, sym (slice_get-drop id.size xs r.0) ∙ r.1)

  stopped_at : (xs : List Cell) (n : ℕ) → (directory_by rules xs).rest ≡ Stopped n → (k : ℕ) × (slice_get xs k ≡ Some (Gap n))
  unfolding directory_by
  stopped_at xs n e = stopped_from (length xs + 1) xs n e

  -- ---- a directory: that which is not stopped is the whole's
  same_from : (fuel : ℕ) (xs ys : List Cell) → AllZip IsCellOf xs ys → (read_from rules fuel xs).rest ≡ Nothing → (read_from rules fuel xs).identifiers ≡ (read_from rules fuel ys).identifiers
  same_from zero xs ys h e = refl
  same_from (suc fuel) xs ys h e = go (λ k. same_from fuel (drop k xs) (drop k ys) (AllZip-drop k xs ys h)) (step_is rules xs ys h)
    where
      same : ((k : ℕ) → (next fuel xs k).rest ≡ Nothing → (next fuel xs k).identifiers ≡ (next fuel ys k).identifiers) → (t : Step)
          → (read_on t (next fuel xs)).rest ≡ Nothing → (read_on t (next fuel xs)).identifiers ≡ (read_on t (next fuel ys)).identifiers
      same ih (AtRest r) q = refl
      same ih (One id) q = ap (λ z. id ∷ z) (ih id.size q)

      go : ((k : ℕ) → (next fuel xs k).rest ≡ Nothing → (next fuel xs k).identifiers ≡ (next fuel ys k).identifiers) → StepIs (step_by rules xs) (step_by rules ys)
          → (read_on (step_by rules xs) (next fuel xs)).identifiers ≡ (read_on (step_by rules ys) (next fuel ys)).identifiers
      go ih (step_same p) = ap (λ t. (read_on t (next fuel xs)).identifiers) p ∙ same ih (step_by rules ys) (sym (ap (λ t. (read_on t (next fuel xs)).rest) p) ∙ e)
      go ih (step_stop b p) = let z : Stopped b ≡ Nothing = sym (ap (λ t. (read_on t (next fuel xs)).rest) p) ∙ e in absurd (let x : ⊥ = cc in x)

  same_ids : (xs ys : List Cell) → AllZip IsCellOf xs ys → (directory_by rules xs).rest ≡ Nothing → (directory_by rules xs).identifiers ≡ (directory_by rules ys).identifiers
  unfolding directory_by
  same_ids xs ys h e = same_from (length xs + 1) xs ys h e ∙ ap (λ n. (read_from rules (n + 1) ys).identifiers) (AllZip-length xs ys h)

-- ---- a directory: which entries are read
more_listed : (before more : List Identifier) (id : Identifier) (entry : DirEntry) → id.listed ≡ Some entry
    → length (listed_entries before) < length (listed_entries (before ++ id ∷ more))
more_listed before more id entry l =
    let long : length (listed_entries (before ++ id ∷ more)) ≡ length (listed_entries before) + length (entry ∷ listed_entries more) =
    ap length (listed-append before (id ∷ more) ∙ ap (λ o. listed_entries before ++ cons_option o (listed_entries more)) l)
    ∙ length-append (listed_entries before) (entry ∷ listed_entries more) in
    omega (arith, long)

fewer : (o : Option DirEntry) (xs ys : List DirEntry) → length (cons_option o xs) < length (cons_option o ys) → length xs < length ys
fewer None xs ys h = h
fewer (Some entry) xs ys h = omega (arith, h)

reads_on : (ids rest before behind : List Identifier) (id : Identifier) → ids ++ rest ≡ before ++ id ∷ behind
    → length (listed_entries before) < length (listed_entries ids) → (more : List Identifier) × (ids ≡ before ++ id ∷ more)
reads_on [] rest before behind id e h = absurd (let x : ⊥ = omega (arith, h) in x)
reads_on (i ∷ is) rest [] behind id e h = (is, ap (λ z. z ∷ is) (cons_head i id (is ++ rest) behind e))
reads_on (i ∷ is) rest (j ∷ js) behind id e h =
    let same : i ≡ j = cons_head i j (is ++ rest) (js ++ id ∷ behind) e in
    let later : (more : List Identifier) × (is ≡ js ++ id ∷ more) = reads_on is rest js behind id (cons_tail i j (is ++ rest) (js ++ id ∷ behind) e)
    (fewer j.listed (listed_entries js) (listed_entries is) (subst (λ z. length (listed_entries (j ∷ js)) < length (listed_entries (z ∷ is))) same h)) in
    (later.0, λ t. same t ∷ later.1 t)

module _ (rules : Profile) where
  pub tells_front : (part : List Cell) (front : DirFront) → IsFrontBy rules front part → TellsBy rules part front
  tells_front part front f whole h = record {
    entries = subst (λ es. IsBeginningOf es (entries_by rules whole)) (sym f.entries) law.entries;
    reached = λ before behind id entry e l. (clear before behind id e, listed before behind id entry e l);
    stopped = λ n e. stopped_at rules part n (stops n (directory_by rules part).rest (sym f.missing ∙ e));
    no_fault = λ e. f.fault ∙ sound e (directory_by rules part).rest refl;
    all = λ e none. f.entries ∙ ap listed_entries (same_ids rules part whole h (ends e (directory_by rules part).rest refl (sym f.missing ∙ none)));
    standard = λ bytes same e. ((directory_by rules (as_cells bytes)).identifiers, directory_law rules bytes (ap (λ cs. (directory_by rules cs).rest) (sym same) ∙ e), ap (entries_by rules) same);
  }
    where
      law : IsPartialDirectory rules part whole
      law = partial_directory rules part whole h

      ids : IsBeginningOf (directory_by rules part).identifiers (directory_by rules whole).identifiers
      ids = part_ids rules part whole h

      clear : (before behind : List Identifier) (id : Identifier) → (directory_by rules whole).identifiers ≡ before ++ id ∷ behind
          → length (listed_entries before) < length front.entries.items → IsClearTo part (descriptor_end before id)
      clear before behind id e l =
          let on : (more : List Identifier) × ((directory_by rules part).identifiers ≡ before ++ id ∷ more) = reads_on (directory_by rules part).identifiers ids.0 before behind id (sym ids.1 ∙ e)
          (subst (λ es. length (listed_entries before) < length es) f.entries l) in
          law.clear before on.0 id on.1

      listed : (before behind : List Identifier) (id : Identifier) (entry : DirEntry) → (directory_by rules whole).identifiers ≡ before ++ id ∷ behind → id.listed ≡ Some entry
          → IsClearTo part (descriptor_end before id) → length (listed_entries before) < length front.entries.items
      listed before behind id entry e l c =
          let on : (more : List Identifier) × ((directory_by rules part).identifiers ≡ before ++ id ∷ more) = law.reached before behind id e c in
          subst (λ es. length (listed_entries before) < length es) (sym (f.entries ∙ ap listed_entries on.1)) (more_listed before on.0 id entry l)

      stops : (n : ℕ) (r : Rest) → missing_in r ≡ Some n → r ≡ Stopped n
      stops n Nothing e = absurd (let x : ⊥ = cc in x)
      stops n (Stopped m) e = ap Stopped (let same : m ≡ n = cc in same)
      stops n (Wrong fault) e = absurd (let x : ⊥ = cc in x)

      sound : (directory_by rules whole).rest ≡ Nothing → (r : Rest) → (directory_by rules part).rest ≡ r → fault_in r ≡ None
      sound e Nothing q = refl
      sound e (Stopped n) q = refl
      sound e (Wrong fault) q = absurd (law.no_fault e fault q)

      ends : (directory_by rules whole).rest ≡ Nothing → (r : Rest) → (directory_by rules part).rest ≡ r → missing_in r ≡ None → r ≡ Nothing
      ends e Nothing q m = refl
      ends e (Stopped n) q m = absurd (let x : ⊥ = cc in x)
      ends e (Wrong fault) q m = absurd (law.no_fault e fault q)
