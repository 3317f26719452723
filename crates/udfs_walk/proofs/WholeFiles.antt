-- Over a complete view an entry is the file that the standard reads, and a directory its descriptors.
use Rattle.std.proofs.Common.{◌≡◌, refl, sym, ◌∙◌, ap, subst, List}
use Rattle.udfs_tag.specs.declared.layouts.LongAd.{LongAd}
use Rattle.udfs_space.specs.Places.{View}
use Rattle.udfs_file.specs.Entries.{EntryFields, entry_of}
use Rattle.udfs_file.specs.Bodies.{cells, body}
use Rattle.udfs_file.specs.Fronts.{directory_by}
use Rattle.udfs_file.specs.Standard.{IsBodyOf, IsDirectoryBody}
use Rattle.udfs_file.specs.Complete.{IsComplete, as_cells, IsReadBody, IsReadDirectory}
use Rattle.udfs_file.specs.declared.cells.Cell.{Cell}
use Rattle.udfs_file.specs.Identifiers.{Identifier}
use Rattle.udfs_file.specs.Identifiers.{Nothing}
use Rattle.udfs_file.specs.declared.faults.Kind.TheVariants.{Directory}
use Rattle.udfs_file.proofs.PublicLaws.{body_is_read, directory_is_read}
use Rattle.udfs_walk.specs.Targets.{entry, target}
use Rattle.udfs_walk.specs.Trees.{PartitionBlocks, TreeFile, IsFileAt, IsDirectoryAt}
use Rattle.udfs_walk.proofs.EntryAddresses.{some_same, TargetIs, target_is}

-- the one file at an address
pub record IsReadFile (blocks : PartitionBlocks) (a : LongAd) (e : EntryFields) (cs : List Cell) : Type 0 where
  pub file : TreeFile
  pub is_file : IsFileAt blocks a file
  pub fields : file.fields ≡ e
  pub body : cs ≡ as_cells file.body
  pub only : (other : TreeFile) → IsFileAt blocks a other → other ≡ file

pub entry_law : (all : View) (blocks : PartitionBlocks) → IsComplete all blocks → (a : LongAd) (e : EntryFields) (cs : List Cell)
    → target all a ≡ entry e → body all a.reference a.block e ≡ cells cs → IsReadFile blocks a e cs
entry_law all blocks w a e cs t k = record {
  file = file;
  is_file = record { recorded = x.good.kind; not_empty = x.good.not_empty; bytes = x.bytes; block = x.block; sound = x.sound; fields = sym x.fields; body = b.reads };
  fields = refl;
  body = b.is;
  only = only;
}
  where
    x : TargetIs blocks a e
    x = target_is all blocks w a e t

    b : IsReadBody blocks a.reference a.block e cs
    b = body_is_read all blocks w a.reference a.block e cs k

    file : TreeFile
    file = record { fields = e; body = b.whole }

    only : (other : TreeFile) → IsFileAt blocks a other → other ≡ file
    only other o = λ i. record { fields = same i; body = bytes i }
      where
        same : other.fields ≡ e
        same = o.fields ∙ ap entry_of (some_same o.bytes x.bytes (sym o.block ∙ x.block)) ∙ x.fields

        bytes : other.body ≡ b.whole
        bytes = b.only other.body (subst (λ z. IsBodyOf blocks a.reference a.block z other.body) same o.body)

-- the one list of descriptors of the directory at an address
pub record IsReadDirectoryAt (blocks : PartitionBlocks) (a : LongAd) (ids : List Identifier) : Type 0 where
  pub is_directory : IsDirectoryAt blocks a ids
  pub only : (others : List Identifier) → IsDirectoryAt blocks a others → others ≡ ids

pub directory_at_law : (all : View) (blocks : PartitionBlocks) → IsComplete all blocks → (a : LongAd) (e : EntryFields) (cs : List Cell)
    → target all a ≡ entry e → body all a.reference a.block e ≡ cells cs → e.kind ≡ Directory → (directory_by all.profile cs).rest ≡ Nothing
    → IsReadDirectoryAt blocks a (directory_by all.profile cs).identifiers
directory_at_law all blocks w a e cs t k is_dir ends = record {
  is_directory = record { file = f.file; is_file = f.is_file; kind = ap (λ z. z.kind) f.fields ∙ is_dir; body = subst (λ z. IsDirectoryBody z f.file.body (directory_by all.profile cs).identifiers) (sym w.profile) (subst (IsDirectoryBody all.profile f.file.body) (sym ids) d.reads) };
  only = λ others o. d.only others (subst (λ z. IsDirectoryBody all.profile z.body others) (f.only o.file o.is_file) (subst (λ z. IsDirectoryBody z o.file.body others) w.profile o.body)) ∙ sym ids;
}
  where
    f : IsReadFile blocks a e cs
    f = entry_law all blocks w a e cs t k

    d : IsReadDirectory all.profile f.file.body (directory_by all.profile (as_cells f.file.body)).identifiers
    d = directory_is_read all.profile f.file.body (ap (λ z. (directory_by all.profile z).rest) (sym f.body) ∙ ends)

    ids : (directory_by all.profile cs).identifiers ≡ (directory_by all.profile (as_cells f.file.body)).identifiers
    ids = ap (λ z. (directory_by all.profile z).identifiers) f.body
