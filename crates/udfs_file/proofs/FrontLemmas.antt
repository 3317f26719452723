-- A directory from the middle on: what was listed, before what the rest lists, is all of it.
use Rattle.std.proofs.Common.{◌≡◌, refl, sym, ◌∙◌, ap, subst, ℕ, ◌+◌, ◌<◌, ◌≤◌, List, [], ◌∷◌, ◌++◌, length, drop, arith, Option, Some, None, append_assoc, append-nil, nat_eq, true, false, cond, length-append}
use Rattle.std.specs.Prelude.{zero, suc, Result, Ok, Err}
use Rattle.udfs_tag.specs.Fields.{part, uint8_at, uint16_at, long_ad_at}
use Rattle.udfs_osta.specs.Names.{units_of}
use Rattle.udfs_osta.specs.declared.names.NameFault.{NameFault}
use Rattle.std.proofs.lemmas.List.{length-drop}
use Rattle.udfs_volume.specs.declared.profiles.Profile.{Profile}
use Rattle.udfs_file.specs.declared.cells.Cell.{Cell}
use Rattle.udfs_file.specs.declared.directories.DirEntry.{DirEntry}
use Rattle.udfs_file.specs.Identifiers.{Identifier}
use Rattle.udfs_file.specs.Identifiers.{Rest}
use Rattle.udfs_file.specs.Identifiers.{Step}
use Rattle.udfs_file.specs.Identifiers.{AtRest, One}
use Rattle.udfs_file.specs.declared.directories.DirFront.{DirFront}
use Rattle.udfs_file.specs.Fronts.{step_by, read_on, read_from, directory_by, listed_entries, entries_by, DirectoryText, missing_in, fault_in, IsFrontBy, is_listed, identifier_in, entry_with, marks_of}
use Rattle.udfs_file.specs.Steps.{IsDescriptor, IsListedIn, IsNext, bytes_of}
use Rattle.udfs_file.specs.declared.cursors.Step as cursor
use Rattle.udfs_file.specs.declared.cursors.Step.TheVariants.{Id}
use Rattle.udfs_file.specs.declared.pieces.Pieces.{Pieces}
use Rattle.udfs_file.proofs.Readings.{StepOne, step_one}

module _ (rules : Profile) where
  pub record IsFronting (cells left : List Cell) (listed : List DirEntry) : Type 0 where
    pub fuel : ℕ
    pub enough : length left < fuel
    pub entries : listed ++ listed_entries (read_from rules fuel left).identifiers ≡ entries_by rules cells
    pub rest : (read_from rules fuel left).rest ≡ (directory_by rules cells).rest

  pub front-start : (cells : List Cell) → IsFronting cells cells []
  unfolding directory_by
  front-start cells = record { fuel = length cells + 1; enough = omega arith; entries = more cells; rest = refl }
    where
      more : (cells : List Cell) → [] ++ listed_entries (directory_by rules cells).identifiers ≡ entries_by rules cells
      more cells = refl

  -- the text of a directory with some fuel, by its first step
  text : (k : ℕ) (left : List Cell) (s : Step) → step_by rules left ≡ s → read_from rules (suc k) left ≡ read_on s (λ size. read_from rules k (drop size left))
  text k left s e = ap (λ (t : Step). read_on t (λ size. read_from rules k (drop size left))) e

  rest_text : (cells left : List Cell) (listed : List DirEntry) (fuel : ℕ) (r : Rest) → length left < fuel → step_by rules left ≡ AtRest r
      → listed ++ listed_entries (read_from rules fuel left).identifiers ≡ entries_by rules cells → (read_from rules fuel left).rest ≡ (directory_by rules cells).rest
      → (listed ≡ entries_by rules cells) × (r ≡ (directory_by rules cells).rest)
  rest_text cells left listed zero r h e p q = absurd (omega arith)
  rest_text cells left listed (suc k) r h e p q = (
    sym (append-nil listed) ∙ sym (ap (λ (t : DirectoryText). listed ++ listed_entries t.identifiers) (text k left (AtRest r) e)) ∙ p,
    sym (ap (λ (t : DirectoryText). t.rest) (text k left (AtRest r) e)) ∙ q,
  )

  pub front-rest : (cells left : List Cell) (listed : List DirEntry) (r : Rest) → IsFronting cells left listed → step_by rules left ≡ AtRest r
      → (listed ≡ entries_by rules cells) × (r ≡ (directory_by rules cells).rest)
  front-rest cells left listed r f e = rest_text cells left listed f.fuel r f.enough e f.entries f.rest

abbrev also : List DirEntry → Option DirEntry → List DirEntry
also listed None = listed
also listed (Some entry) = listed ++ entry ∷ []

listed_first : (listed : List DirEntry) (size : ℕ) (o : Option DirEntry) (ids : List Identifier)
    → also listed o ++ listed_entries ids ≡ listed ++ listed_entries (record { size = size; listed = o } ∷ ids)
listed_first listed size None ids = refl
listed_first listed size (Some entry) ids = append_assoc listed (entry ∷ []) (listed_entries ids)

module _ (rules : Profile) where
  go_on : (cells left : List Cell) (listed : List DirEntry) (fuel size : ℕ) (o : Option DirEntry) → length left < fuel → step_by rules left ≡ One (record { size = size; listed = o })
      → 1 ≤ size → size ≤ length left
      → listed ++ listed_entries (read_from rules fuel left).identifiers ≡ entries_by rules cells → (read_from rules fuel left).rest ≡ (directory_by rules cells).rest
      → IsFronting rules cells (drop size left) (also listed o)
  go_on cells left listed zero size o h e l w p q = absurd (omega arith)
  go_on cells left listed (suc k) size o h e l w p q = record {
    fuel = k;
    enough = omega (arith, length-drop size left);
    entries = listed_first listed size o (read_from rules k (drop size left)).identifiers
        ∙ sym (ap (λ (t : DirectoryText). listed ++ listed_entries t.identifiers) (text rules k left (One (record { size = size; listed = o })) e)) ∙ p;
    rest = sym (ap (λ (t : DirectoryText). t.rest) (text rules k left (One (record { size = size; listed = o })) e)) ∙ q;
  }

  one_more : (cells left : List Cell) (listed items : List DirEntry) (behind : List Cell) (view : Pieces) (o : Option DirEntry)
      → IsFronting rules cells left listed → IsNext rules left (Id view) behind → IsListedIn (bytes_of view) o → items ≡ also listed o → IsFronting rules cells behind items
  one_more cells left listed items behind view o f s l i = subst (IsFronting rules cells behind) (ap (also listed) same ∙ sym i)
      (subst (λ (x : List Cell). IsFronting rules cells x (also listed id.listed)) (sym (s.behind ∙ ap (λ n. drop n left) (sym d.size)))
      (go_on cells left listed f.fuel id.size id.listed f.enough is (let q : 38 ≤ id.size = one.big in omega (arith, q)) one.fits f.entries f.rest))
    where
      id : Identifier
      id = s.is.0

      d : IsDescriptor (bytes_of view) id
      d = s.is.1

      is : step_by rules left ≡ One id
      is = s.is.2

      one : StepOne rules left id
      one = step_one rules left id is

      same : id.listed ≡ o
      same = l id d.is

  pub front_listed : (cells left : List Cell) (listed items : List DirEntry) (behind : List Cell) (view : Pieces) (told : cursor.Step) (entry : DirEntry) (o : Option DirEntry)
      → IsFronting rules cells left listed → IsNext rules left told behind → told ≡ Id view → IsListedIn (bytes_of view) o → o ≡ Some entry → items ≡ listed ++ entry ∷ []
      → IsFronting rules cells behind items
  front_listed cells left listed items behind view told entry o f s t l e i = one_more cells left listed items behind view (Some entry) f
      (subst (λ (x : cursor.Step). IsNext rules left x behind) t s) (subst (IsListedIn (bytes_of view)) e l) i

  pub front_unlisted : (cells left : List Cell) (listed : List DirEntry) (behind : List Cell) (view : Pieces) (told : cursor.Step) (o : Option DirEntry)
      → IsFronting rules cells left listed → IsNext rules left told behind → told ≡ Id view → IsListedIn (bytes_of view) o → o ≡ None
      → IsFronting rules cells behind listed
  front_unlisted cells left listed behind view told o f s t l e = one_more cells left listed listed behind view None f
      (subst (λ (x : cursor.Step). IsNext rules left x behind) t s) (subst (IsListedIn (bytes_of view)) e l) refl

-- the pieces of a descriptor in one block are one
pub nothing_behind : (first second : List ℕ) (o : Option DirEntry) → nat_eq (length second) 0 ≡ true → IsListedIn first o → IsListedIn (first ++ second) o
nothing_behind first [] o e l = subst (λ b. IsListedIn b o) (sym (append-nil first)) l
nothing_behind first (x ∷ xs) o e l = absurd (let z : nat_eq (length (x ∷ xs)) 0 ≡ false = grind arith in let y : ⊥ = cc in y)

module _ (rules : Profile) where
  -- the front ends with what ends the descriptors
  pub front_ended : (cells left : List Cell) (listed : List DirEntry) (front : DirFront) (rest : Rest)
      → IsFronting rules cells left listed → (step_by rules left ≡ AtRest rest) → front.entries.items ≡ listed → front.missing ≡ missing_in rest → front.fault ≡ fault_in rest → IsFrontBy rules front cells
  front_ended cells left listed front rest f e i m q = let r = front-rest rules cells left listed rest f e in record {
    entries = i ∙ r.0;
    missing = m ∙ ap missing_in r.1;
    fault = q ∙ ap fault_in r.1;
  }

  -- ---- a listed descriptor is one of the directory's entries, behind those before it
  some_entry : (cells left : List Cell) (listed : List DirEntry) (fuel size : ℕ) (entry : DirEntry) → length left < fuel → step_by rules left ≡ One (record { size = size; listed = Some entry })
      → listed ++ listed_entries (read_from rules fuel left).identifiers ≡ entries_by rules cells → length listed < length (entries_by rules cells)
  some_entry cells left listed zero size entry h e p = absurd (omega arith)
  some_entry cells left listed (suc k) size entry h e p = subst (λ es. length listed < length es) (listed_first listed size (Some entry) (read_from rules k (drop size left)).identifiers
      ∙ sym (ap (λ (t : DirectoryText). listed ++ listed_entries t.identifiers) (text rules k left (One (record { size = size; listed = Some entry })) e)) ∙ p)
      (let q : length ((listed ++ entry ∷ []) ++ listed_entries (read_from rules k (drop size left)).identifiers) ≡ length (listed ++ entry ∷ []) + length (listed_entries (read_from rules k (drop size left)).identifiers)
      = length-append (listed ++ entry ∷ []) (listed_entries (read_from rules k (drop size left)).identifiers) in
      let r : length (listed ++ entry ∷ []) ≡ length listed + 1 = length-append listed (entry ∷ []) in omega (arith, q, r))

  pub lists_entry : (cells left : List Cell) (listed : List DirEntry) (behind : List Cell) (view : Pieces) (told : cursor.Step) (entry : DirEntry) → IsFronting rules cells left listed
      → IsNext rules left told behind → told ≡ Id view → IsListedIn (bytes_of view) (Some entry) → length listed < length (entries_by rules cells)
  lists_entry cells left listed behind view told entry f s t l = go (subst (λ (x : cursor.Step). IsNext rules left x behind) t s)
    where
      go : IsNext rules left (Id view) behind → length listed < length (entries_by rules cells)
      go i = some_entry cells left listed f.fuel i.is.0.size entry f.enough (i.is.2 ∙ ap (λ o. One (record { size = i.is.0.size; listed = o })) (l i.is.0 i.is.1.is)) f.entries

-- a descriptor that is good and listed has an entry
pub listed_in : (bytes : List ℕ) (id : Identifier) → is_listed bytes ≡ true → identifier_in (length bytes) bytes ≡ One id → (entry : DirEntry) × (id.listed ≡ Some entry)
listed_in bytes id e q = by (units_of (part bytes (38 + uint16_at bytes 36) (uint8_at bytes 19)))
    (sym (ap (λ b. cond b (entry_with (length bytes) bytes (units_of (part bytes (38 + uint16_at bytes 36) (uint8_at bytes 19)))) (One (record { size = length bytes; listed = None }))) e) ∙ q)
  where
    by : (r : Result (List ℕ) NameFault) → entry_with (length bytes) bytes r ≡ One id → (entry : DirEntry) × (id.listed ≡ Some entry)
    by (Ok units) w = (_, let z : id.listed ≡ Some (record { name = units; icb = long_ad_at bytes 20; marks = marks_of (uint8_at bytes 18) }) = cc in z)
    by (Err fault) w = absurd (let z : ⊥ = cc in z)

module _ (rules : Profile) where
  pub lists_some : (cells left : List Cell) (listed : List DirEntry) (behind : List Cell) (view : Pieces) (told : cursor.Step) → IsFronting rules cells left listed
      → IsNext rules left told behind → told ≡ Id view → is_listed (bytes_of view) ≡ true → length listed < length (entries_by rules cells)
  lists_some cells left listed behind view told f s t l = go (subst (λ (x : cursor.Step). IsNext rules left x behind) t s)
    where
      go : IsNext rules left (Id view) behind → length listed < length (entries_by rules cells)
      go i = let w = listed_in (bytes_of view) i.is.0 l i.is.1.is in
          some_entry rules cells left listed f.fuel i.is.0.size w.0 f.enough (i.is.2 ∙ ap (λ o. One (record { size = i.is.0.size; listed = o })) w.1) f.entries
