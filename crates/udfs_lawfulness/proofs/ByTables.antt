-- The tree of a lawful volume is the one that the tables give.
use Rattle.std.proofs.Common.{◌≡◌, refl, sym, ◌∙◌, subst, ℕ, Bool, true, false, List, [], ◌∷◌, length, cond, nat_le, Option, Some, None}
use Rattle.std.proofs.lemmas.Bool.{leb-true}
use Rattle.udfs_lattice.specs.States.{IsBlock}
use Rattle.udfs_lattice.specs.Volumes.{IsVolume, Volume, complete}
use Rattle.udfs_lattice.specs.declared.facts.Fact.TheVariants.{Known, Unknown}
use Rattle.udfs_tag.specs.declared.layouts.LongAd.{LongAd}
use Rattle.udfs_volume.specs.Sequence.{Bytes}
use Rattle.udfs_space.specs.Places.{View, view}
use Rattle.udfs_space.specs.Sparing.{Space}
use Rattle.udfs_file.specs.Complete.{IsComplete}
use Rattle.udfs_file.specs.Entries.{entry_fault, entry_of}
use Rattle.udfs_file.specs.Identifiers.{Identifier}
use Rattle.udfs_file.specs.Standard.{IsBodyOf, IsFileSetAt}
use Rattle.udfs_lawfulness.specs.Entries.{IsEntryAt}
use Rattle.udfs_lawfulness.specs.Files.{IsBodyAt, bytes_in}
use Rattle.udfs_lawfulness.specs.EcmaLaws.{AreBytes, AreWholeBlocks}
use Rattle.udfs_lawfulness.proofs.PublicLaws.{bodies_are_bytes, directories_are_by_the_tables, file_sets_are_by_the_table, files_are_by_the_tables}
use Rattle.udfs_walk.specs.Trees.{InTree, IsDirectoryAt, IsFileAt, Leads, PartitionBlocks, TreeFile}
use Rattle.udfs_salvage.proofs.Openings.{ReadAs, read_as}
use Rattle.udfs_lawfulness.specs.ByTables.{InTreeByTables, IsDirectoryByTables, IsFileByTables, IsRootByTables, LeadsByTables, TreeByTables}

-- ---- the blocks of a lawful volume are whole
known_whole : (volume : Volume) (last n : ℕ) (bytes : Bytes) → IsVolume volume last → complete volume last n ≡ Known bytes → IsBlock bytes
known_whole volume last n bytes v k = by (nat_le n last) refl k
  where
    by : (t : Bool) → nat_le n last ≡ t → cond t (Known (volume n)) Unknown ≡ Known bytes → IsBlock bytes
    by true e k = let s : volume n ≡ bytes = cc in subst IsBlock s (v.each n (leb-true n last e))
    by false e k = absurd (let z : ⊥ = cc in z)

whole_blocks : (volume : Volume) (last : ℕ) (s : Space) (blocks : PartitionBlocks) → IsVolume volume last → IsComplete (view (complete volume last) s) blocks → AreWholeBlocks blocks
whole_blocks volume last s blocks v c r b bytes e = by (all.place r b) refl
  where
    all : View
    all = view (complete volume last) s

    by : (o : Option ℕ) → all.place r b ≡ o → IsBlock bytes
    by None p = absurd (let q : None ≡ Some bytes = sym (c.nowhere r b p) ∙ e in let z : ⊥ = cc in z)
    by (Some n) p = let t : (x : Bytes) × (all.blocks n ≡ Known x) × (blocks.at r b ≡ Some x) × (length x ≡ 2048) = c.there r b n p in
        let q : Some t.0 ≡ Some bytes = sym t.2 ∙ e in let same : t.0 ≡ bytes = some_same t.0 bytes q in
        subst IsBlock same (known_whole volume last n t.0 v t.1)
      where
        some_same : (x y : Bytes) → Some x ≡ Some y → x ≡ y
        some_same x y q = cc

-- ---- files, directories and paths
module _ (blocks : PartitionBlocks) (whole : AreWholeBlocks blocks) where
  file_to : (a : LongAd) (file : TreeFile) → IsFileAt blocks a file → IsFileByTables blocks a file
  file_to a file h = let t : IsEntryAt h.bytes a.block file.fields × IsBodyAt blocks a.reference a.block file.fields file.body =
      (files_are_by_the_tables blocks whole a.reference a.block h.bytes h.block file.fields file.body).0 (h.sound, h.fields, h.body) in
      record { recorded = h.recorded; not_empty = h.not_empty; bytes = h.bytes; block = h.block; entry = t.0; body = t.1 }

  file_from : (a : LongAd) (file : TreeFile) → IsFileByTables blocks a file → IsFileAt blocks a file
  file_from a file h = let t : (entry_fault h.bytes a.block ≡ None) × (file.fields ≡ entry_of h.bytes) × IsBodyOf blocks a.reference a.block file.fields file.body =
      (files_are_by_the_tables blocks whole a.reference a.block h.bytes h.block file.fields file.body).1 (h.entry, h.body) in
      record { recorded = h.recorded; not_empty = h.not_empty; bytes = h.bytes; block = h.block; sound = t.0; fields = t.1; body = t.2 }

  body_bytes : (a : LongAd) (file : TreeFile) → IsFileByTables blocks a file → AreBytes (bytes_in file.body)
  body_bytes a file h = bodies_are_bytes blocks whole a.reference a.block h.bytes h.block file.fields file.body h.entry h.body

  directory_to : (a : LongAd) (ids : List Identifier) → IsDirectoryAt blocks a ids → IsDirectoryByTables blocks a ids
  directory_to a ids h = let f : IsFileByTables blocks a h.file = file_to a h.file h.is_file in
      record { file = h.file; is_file = f; kind = h.kind; body = (directories_are_by_the_tables blocks.profile h.file.body (body_bytes a h.file f) ids).0 h.body }

  directory_from : (a : LongAd) (ids : List Identifier) → IsDirectoryByTables blocks a ids → IsDirectoryAt blocks a ids
  directory_from a ids h = record {
    file = h.file;
    is_file = file_from a h.file h.is_file;
    kind = h.kind;
    body = (directories_are_by_the_tables blocks.profile h.file.body (body_bytes a h.file h.is_file) ids).1 h.body;
  }

  leads_to : (path : List (List ℕ)) (a b : LongAd) → Leads blocks a path b → LeadsByTables blocks a path b
  leads_to [] a b h = h
  leads_to (name ∷ names) a b (ids, e, d, c, n, more) = (ids, e, directory_to a ids d, c, n, leads_to names e.icb b more)

  leads_from : (path : List (List ℕ)) (a b : LongAd) → LeadsByTables blocks a path b → Leads blocks a path b
  leads_from [] a b h = h
  leads_from (name ∷ names) a b (ids, e, d, c, n, more) = (ids, e, directory_from a ids d, c, n, leads_from names e.icb b more)

  in_tree_to : (root : LongAd) (path : List (List ℕ)) (file : TreeFile) → InTree blocks root path file → InTreeByTables blocks root path file
  in_tree_to root path file h = record { address = h.address; leads = leads_to path root h.address h.leads; is_file = file_to h.address file h.is_file }

  in_tree_from : (root : LongAd) (path : List (List ℕ)) (file : TreeFile) → InTreeByTables blocks root path file → InTree blocks root path file
  in_tree_from root path file h = record { address = h.address; leads = leads_from path root h.address h.leads; is_file = file_from h.address file h.is_file }

  root_to : (a root : LongAd) → IsFileSetAt blocks a root → IsRootByTables blocks a root
  root_to a root h = record {
    recorded = h.recorded;
    not_empty = h.not_empty;
    bytes = h.bytes;
    block = h.block;
    file_set = (file_sets_are_by_the_table h.bytes (whole a.reference a.block h.bytes h.block) a.block root).0 (h.valid, h.is);
  }

-- ---- the tree of what is opened
pub tree_by_tables : TreeByTables
tree_by_tables profile volume last lawful opened o = record {
  root = root_to opened.blocks whole opened.layout.file_set opened.root o.root_is;
  files = λ path file. (in_tree_to opened.blocks whole opened.root path file, in_tree_from opened.blocks whole opened.root path file);
}
  where
    r : ReadAs profile volume last lawful.is_volume.found_is
    r = read_as profile volume last lawful

    whole : AreWholeBlocks opened.blocks
    whole = subst (λ x. AreWholeBlocks x.blocks) (sym (r.only opened o)) (whole_blocks volume last lawful.is_volume.found_is.space r.opened.blocks lawful.is_volume.volume_is r.is_whole)
