-- Steps of a cursor as steps through the list of all descriptors.
use Rattle.std.proofs.Common.{◌≡◌, sym, ◌∙◌, ap, subst, List, [], ◌∷◌, drop}
use Rattle.udfs_volume.specs.declared.profiles.Profile.{Profile}
use Rattle.udfs_file.specs.Fronts.{ReadsBy, directory_by, step_by}
use Rattle.udfs_file.specs.Identifiers.{Identifier, Rest, AtRest, Nothing, Stopped, Wrong}
use Rattle.udfs_file.specs.Steps.{StepsTo, IsDescriptor, IsNext, bytes_of}
use Rattle.udfs_file.specs.declared.cells.Cell.{Cell}
use Rattle.udfs_file.specs.declared.cursors.Step.{Step}
use Rattle.udfs_file.specs.declared.cursors.Step.TheVariants.{Id, Stop, Fault, End}
use Rattle.udfs_file.proofs.Readings.{directory_reads, reads_law}

module _ (rules : Profile) where
  rest_alone : (cs : List Cell) (rest : Rest) → step_by rules cs ≡ AtRest rest → ((directory_by rules cs).identifiers ≡ []) × ((directory_by rules cs).rest ≡ rest)
  rest_alone cs rest e = (reads_law rules cs [] rest).0 e

  pub goes : (before after : List Cell) (told : Step) → IsNext rules before told after → StepsTo (directory_by rules before) told (directory_by rules after)
  goes before after (Id view) s = (id, d, t.0, t.1)
    where
      id : Identifier
      id = s.is.0

      d : IsDescriptor (bytes_of view) id
      d = s.is.1

      behind : after ≡ drop id.size before
      behind = s.behind ∙ ap (λ n. drop n before) (sym d.size)

      reads : ReadsBy rules before (id ∷ (directory_by rules after).identifiers) (directory_by rules after).rest
      reads = (s.is.2, subst (λ cs. ReadsBy rules cs (directory_by rules after).identifiers (directory_by rules after).rest) behind (directory_reads rules after))

      t : ((directory_by rules before).identifiers ≡ id ∷ (directory_by rules after).identifiers) × ((directory_by rules before).rest ≡ (directory_by rules after).rest)
      t = (reads_law rules before (id ∷ (directory_by rules after).identifiers) (directory_by rules after).rest).0 reads
  goes before after (Stop n) s = let r = rest_alone before (Stopped n) s.is in (r.0, r.1, ap (directory_by rules) s.behind)
  goes before after (Fault fault) s = let r = rest_alone before (Wrong fault) s.is in (r.0, r.1, ap (directory_by rules) s.behind)
  goes before after End s = let r = rest_alone before Nothing s.is in (r.0, r.1, ap (directory_by rules) s.behind)
