-- The names of a directory's entries can stand in a path.
use Rattle.std.proofs.Common.{◌≡◌, refl, sym, ◌∙◌, ap, subst, inl, inr, ℕ, ◌+◌, Bool, true, false, List, [], ◌∷◌, length, take, drop, map, cond, Option, Some, None}
use Rattle.std.specs.Prelude.{Result, Ok, Err}
use Rattle.std.specs.List.{cons_option}
use Rattle.udfs_lattice.proofs.Inclusion.{Includes, included}
use Rattle.udfs_osta.specs.Escapes.{escaped}
use Rattle.udfs_osta.specs.Names.{units_of}
use Rattle.udfs_osta.specs.Parts.{IsPathPart}
use Rattle.udfs_osta.specs.declared.names.NameFault.{NameFault}
use Rattle.udfs_osta.proofs.PublicLaws.{escaped_name_is_path_part}
use Rattle.udfs_tag.specs.Fields.{uint8_at, uint16_at, long_ad_at, part}
use Rattle.udfs_volume.specs.declared.profiles.Profile.{Profile}
use Rattle.udfs_file.specs.Fronts.{directory_by, entries_by, entry_with, identifier_in, is_listed, listed_entries, marks_of, step_by, ReadsBy, value}
use Rattle.udfs_file.specs.Identifiers.{Identifier, Rest, Step, One}
use Rattle.udfs_file.specs.Laws.{NamesAreParts}
use Rattle.udfs_file.specs.declared.cells.Cell.{Cell}
use Rattle.udfs_file.specs.declared.directories.DirEntry.{DirEntry}
use Rattle.udfs_file.proofs.Readings.{StepOne, step_one, directory_reads}

-- the entry of this descriptor, if it lists one, has such a name
abbrev IsNamedWell : Identifier → Type 0
IsNamedWell id = (e : DirEntry) → id.listed ≡ Some e → IsPathPart (escaped e.name)

abbrev StepsWell : Step → Type 0
StepsWell s = (id : Identifier) → s ≡ One id → IsNamedWell id

named_with : (size : ℕ) (bytes name : List ℕ) (r : Result (List ℕ) NameFault) → units_of name ≡ r → StepsWell (entry_with size bytes r)
named_with size bytes name (Ok units) q id e d listed = subst (λ z. IsPathPart (escaped z)) same (escaped_name_is_path_part name units q)
  where
    made : record { size = size; listed = Some (record { name = units; icb = long_ad_at bytes 20; marks = marks_of (uint8_at bytes 18) }) } ≡ id
    made = let x : One (record { size = size; listed = Some (record { name = units; icb = long_ad_at bytes 20; marks = marks_of (uint8_at bytes 18) }) }) ≡ One id = e in cc

    both : Some (record { name = units; icb = long_ad_at bytes 20; marks = marks_of (uint8_at bytes 18) }) ≡ Some d
    both = ap (λ z. z.listed) made ∙ listed

    entry : record { name = units; icb = long_ad_at bytes 20; marks = marks_of (uint8_at bytes 18) } ≡ d
    entry = let x : Some (record { name = units; icb = long_ad_at bytes 20; marks = marks_of (uint8_at bytes 18) }) ≡ Some d = both in cc

    same : units ≡ d.name
    same = ap (λ z. z.name) entry
named_with size bytes name (Err f) q id e d listed = absurd (let z : ⊥ = cc in z)

named_in : (bytes : List ℕ) → StepsWell (identifier_in (length bytes) bytes)
named_in bytes = go (is_listed bytes)
  where
    name : List ℕ
    name = part bytes (38 + uint16_at bytes 36) (uint8_at bytes 19)

    go : (b : Bool) → StepsWell (cond b (entry_with (length bytes) bytes (units_of name)) (One (record { size = length bytes; listed = None })))
    go true id e d listed = named_with (length bytes) bytes name (units_of name) refl id e d listed
    go false id e d listed = absurd (let x : One (record { size = length bytes; listed = None }) ≡ One id = e in let y : id.listed ≡ None = cc in let z : None ≡ Some d = sym y ∙ listed in let w : ⊥ = cc in w)

module _ (rules : Profile) where
  named_step : (cs : List Cell) → StepsWell (step_by rules cs)
  named_step cs id e = let s : StepOne rules cs id = step_one rules cs id e in named_in (map value (take id.size cs)) id s.is

  all_named : (ids : List Identifier) (rest : Rest) (cs : List Cell) → ReadsBy rules cs ids rest → (d : DirEntry) → Includes (listed_entries ids) d → IsPathPart (escaped d.name)
  all_named [] rest cs r d i = absurd i
  all_named (id ∷ ids) rest cs (e, r) d i = go (all_named ids rest (drop id.size cs) r d) id.listed refl i
    where
      go : (Includes (listed_entries ids) d → IsPathPart (escaped d.name)) → (o : Option DirEntry) → id.listed ≡ o → Includes (cons_option o (listed_entries ids)) d → IsPathPart (escaped d.name)
      go ih None q j = ih j
      go ih (Some x) q (inl same) = named_step cs id e d (q ∙ ap Some same)
      go ih (Some x) q (inr j) = ih j

pub names_are_parts : NamesAreParts
names_are_parts rules cs d i = all_named rules (directory_by rules cs).identifiers (directory_by rules cs).rest cs (directory_reads rules cs) d (included (entries_by rules cs) d i)
