-- How a directory ends, and whether it lists anything, from the middle on.
use Rattle.std.proofs.Common.{◌≡◌, refl, sym, ◌∙◌, ap, subst, arith, ℕ, ◌+◌, Bool, true, false, cond, ◌||◌, List, [], ◌∷◌, length, Option, None, Some}
use Rattle.std.specs.Prelude.{is_some, nat_lt}
use Rattle.std.proofs.lemmas.Bool.{lt-ltb}
use Rattle.udfs_tag.specs.Fields.{part, uint8_at, uint16_at}
use Rattle.udfs_osta.specs.Names.{units_of}
use Rattle.udfs_volume.specs.declared.profiles.Profile.{Profile}
use Rattle.udfs_file.specs.declared.cells.Cell.{Cell}
use Rattle.udfs_file.specs.declared.directories.DirEnd.{DirEnd}
use Rattle.udfs_file.specs.declared.directories.DirEntry.{DirEntry}
use Rattle.udfs_file.specs.declared.cursors.Step as cursor
use Rattle.udfs_file.specs.declared.cursors.Step.TheVariants.{Id}
use Rattle.udfs_file.specs.declared.pieces.Pieces.{Pieces}
use Rattle.udfs_file.specs.Identifiers.{Identifier, Rest, Step, AtRest, One}
use Rattle.udfs_file.specs.Fronts.{directory_by, entries_by, entry_with, identifier_in, is_listed, listed_entries, missing_in, fault_in, IsEndBy}
use Rattle.udfs_file.specs.Steps.{StepsTo, IsDescriptor, bytes_of}
use Rattle.udfs_file.proofs.FrontLemmas.{listed_in}

-- whether there is an entry among these descriptors
abbrev some_listed : List Identifier → Bool
some_listed ids = nat_lt 0 (length (listed_entries ids))

module _ (rules : Profile) where
  -- the cells that are left end as all do, and there is an entry so far or among them exactly if there is one at all
  pub record IsEnding (cells left : List Cell) (so_far : Bool) : Type 0 where
    pub lists : (so_far || nat_lt 0 (length (entries_by rules left))) ≡ nat_lt 0 (length (entries_by rules cells))
    pub rest : (directory_by rules left).rest ≡ (directory_by rules cells).rest

  pub ending_start : (cells left : List Cell) → left ≡ cells → IsEnding cells left false
  ending_start cells left e = record { lists = ap (λ cs. nat_lt 0 (length (entries_by rules cs))) e; rest = ap (λ cs. (directory_by rules cs).rest) e }

-- the entry of what was read
abbrev listed_of : Step → Option DirEntry
listed_of (AtRest rest) = None
listed_of (One id) = id.listed

-- a descriptor has an entry exactly if it is neither deleted nor the parent's
entry_listed : (bytes : List ℕ) (id : Identifier) → identifier_in (length bytes) bytes ≡ One id → is_some id.listed ≡ is_listed bytes
entry_listed bytes id e = go (is_listed bytes) refl
  where
    go : (b : Bool) → is_listed bytes ≡ b → is_some id.listed ≡ b
    go true q = ap is_some (listed_in bytes id q e).1
    go false q = ap is_some (sym (ap listed_of
        (sym (ap (λ b. cond b (entry_with (length bytes) bytes (units_of (part bytes (38 + uint16_at bytes 36) (uint8_at bytes 19)))) (One (record { size = length bytes; listed = None }))) q) ∙ e)))

-- the first has one, or one behind it has
first_or_later : (o : Option DirEntry) (size : ℕ) (ids : List Identifier) → some_listed (record { size = size; listed = o } ∷ ids) ≡ (is_some o || some_listed ids)
first_or_later None size ids = refl
first_or_later (Some entry) size ids = lt-ltb 0 (length (entry ∷ listed_entries ids)) (omega arith)

or_assoc : (a b c : Bool) → ((a || b) || c) ≡ (a || (b || c))
or_assoc true b c = refl
or_assoc false b c = refl

or_false : (a : Bool) → (a || false) ≡ a
or_false true = refl
or_false false = refl

or_true : (a : Bool) → (a || true) ≡ true
or_true true = refl
or_true false = refl

module _ (rules : Profile) where
  next : (cells left behind : List Cell) (so_far : Bool) (view : Pieces) → IsEnding rules cells left so_far → StepsTo (directory_by rules left) (Id view) (directory_by rules behind)
      → IsEnding rules cells behind (so_far || is_listed (bytes_of view))
  next cells left behind so_far view f g = record {
    lists = or_assoc so_far (is_listed (bytes_of view)) (nat_lt 0 (length (entries_by rules behind)))
        ∙ ap (λ b. so_far || (b || nat_lt 0 (length (entries_by rules behind)))) (sym (entry_listed (bytes_of view) id d.is))
        ∙ ap (λ b. so_far || b) (sym (first_or_later id.listed id.size (directory_by rules behind).identifiers))
        ∙ ap (λ ids. so_far || some_listed ids) (sym g.2) ∙ f.lists;
    rest = sym g.3 ∙ f.rest;
  }
    where
      id : Identifier
      id = g.0

      d : IsDescriptor (bytes_of view) id
      d = g.1

  pub ending_listed : (cells left behind : List Cell) (so_far : Bool) (told : cursor.Step) (view : Pieces) → IsEnding rules cells left so_far → StepsTo (directory_by rules left) told (directory_by rules behind)
      → told ≡ Id view → is_listed (bytes_of view) ≡ true → IsEnding rules cells behind true
  ending_listed cells left behind so_far told view f g t e = subst (IsEnding rules cells behind) (ap (λ b. so_far || b) e ∙ or_true so_far)
      (next cells left behind so_far view f (subst (λ (s : cursor.Step). StepsTo (directory_by rules left) s (directory_by rules behind)) t g))

  pub ending_unlisted : (cells left behind : List Cell) (so_far : Bool) (told : cursor.Step) (view : Pieces) → IsEnding rules cells left so_far → StepsTo (directory_by rules left) told (directory_by rules behind)
      → told ≡ Id view → is_listed (bytes_of view) ≡ false → IsEnding rules cells behind so_far
  ending_unlisted cells left behind so_far told view f g t e = subst (IsEnding rules cells behind) (ap (λ b. so_far || b) e ∙ or_false so_far)
      (next cells left behind so_far view f (subst (λ (s : cursor.Step). StepsTo (directory_by rules left) s (directory_by rules behind)) t g))

  -- where no descriptor is left, it has ended
  pub ended : (cells left : List Cell) (so_far : Bool) (end : DirEnd) (rest : Rest) → IsEnding rules cells left so_far → (directory_by rules left).identifiers ≡ [] → (directory_by rules left).rest ≡ rest
      → end.lists ≡ so_far → end.missing ≡ missing_in rest → end.fault ≡ fault_in rest → IsEndBy rules end cells
  ended cells left so_far end rest f none r l m q = record {
    lists = l ∙ sym (or_false so_far) ∙ ap (λ ids. so_far || some_listed ids) (sym none) ∙ f.lists;
    missing = m ∙ ap missing_in (sym r ∙ f.rest);
    fault = q ∙ ap fault_in (sym r ∙ f.rest);
  }
