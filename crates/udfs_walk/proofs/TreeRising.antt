-- Names that lead on, over a part of a complete view: a route for them, or a block that is not known and stops it.
use Rattle.std.proofs.Common.{◌≡◌, refl, sym, ◌∙◌, ap, subst, inl, inr, ℕ, ◌<◌, false, List, [], ◌∷◌, ◌++◌, cond, ◌||◌, ◌⊎◌, Some, slice_get}
use Rattle.std.specs.Prelude.{Contains}
use Rattle.std.proofs.lemmas.List.{append_assoc, append-nil}
use Rattle.udfs_lattice.specs.States.{is_known}
use Rattle.udfs_lattice.proofs.Inclusion.{Includes, included}
use Rattle.udfs_tag.specs.declared.layouts.LongAd.{LongAd}
use Rattle.udfs_space.specs.Places.{View, IsPartOf}
use Rattle.udfs_file.specs.Entries.{EntryFields}
use Rattle.udfs_file.specs.Bodies.{cells, body, IsNeededFor}
use Rattle.udfs_file.specs.Fronts.{directory_by, entries_by, listed_entries}
use Rattle.udfs_file.specs.Laws.{IsBeginningOf, IsClearTo, IsPartialBody, descriptor_end}
use Rattle.udfs_file.specs.Complete.{IsComplete}
use Rattle.udfs_file.specs.declared.cells.Cell.{Cell}
use Rattle.udfs_file.specs.declared.directories.DirEntry.{DirEntry}
use Rattle.udfs_file.specs.Identifiers.{Identifier}
use Rattle.udfs_file.specs.declared.faults.Kind.TheVariants.{Directory}
use Rattle.udfs_walk.specs.Nodes.{node}
use Rattle.udfs_walk.specs.Rereads.{missing_of}
use Rattle.udfs_walk.specs.Routes.{Route, Walked, walk_from, below, entries_below, is_loop, is_deep, entries_in, kind_entries, target_entries}
use Rattle.udfs_walk.specs.Standings.{cells_standing}
use Rattle.udfs_walk.specs.Targets.{entry, target}
use Rattle.udfs_walk.specs.Trees.{PartitionBlocks, Leads, IsDirectoryAt}
use Rattle.udfs_walk.specs.Needs.{EndsAt, Needs, for_icb, for_way, for_body}
use Rattle.udfs_walk.proofs.MissedBlocks.{IsGapAt, gap_before, gap_misses, unread_misses}
use Rattle.udfs_walk.proofs.Names.{Splits, split_at, listed_in}
use Rattle.udfs_walk.proofs.PartRoutes.{NodePart, node_unread, node_read, node_part, part_at, entries_begin, get_begin}
use Rattle.udfs_walk.proofs.WholeFiles.{IsReadFile, IsReadDirectoryAt, directory_at_law}
use Rattle.udfs_walk.proofs.WholeRoutes.{WholeAt, whole_at, file_at, Open, open_at, includes_get, step_on, AllWhole, whole_below}

-- the entries of a directory that is read
entries_here : (v : View) (w : Walked) (e : EntryFields) (cs : List Cell) → target v w.address ≡ entry e → is_loop w ≡ false → is_deep w ≡ false
    → e.kind ≡ Directory → body v w.address.reference w.address.block e ≡ cells cs → entries_below v w ≡ entries_by v.profile cs
unfolding entries_below
entries_here v w e cs t l deep k b = (λ i. cond (l i || deep i) [] (target_entries v w.address (t i)))
    ∙ ap (λ z. kind_entries v.profile z (body v w.address.reference w.address.block e)) k ∙ ap (entries_in v.profile) b

-- ---- groups
-- what is needed from a directory's entry on is needed from the directory on
needs_below : (all : View) (blocks : PartitionBlocks) (a : LongAd) (name : List ℕ) (names : List (List ℕ)) (ids : List Identifier) (d : DirEntry)
    → IsDirectoryAt blocks a ids → Contains (listed_entries ids) d → d.name ≡ name → (g : List ℕ) → Needs all blocks d.icb names g → Needs all blocks a (name ∷ names) g
needs_below all blocks a name names ids d dir i named g (for_icb x) = for_icb (record {
  before = name ∷ x.before;
  after = x.after;
  is_way = ap (λ z. name ∷ z) x.is_way;
  address = x.address;
  leads = (ids, d, dir, i, named, x.leads);
  is = x.is;
})
needs_below all blocks a name names ids d dir i named g (for_way x) = for_way (record {
  before = name ∷ x.before;
  name = x.name;
  after = x.after;
  is_way = ap (λ z. name ∷ z) x.is_way;
  address = x.address;
  leads = (ids, d, dir, i, named, x.leads);
  ids = x.ids;
  is_directory = x.is_directory;
  end = x.end;
  ends = x.ends;
  cell = x.cell;
  is_before = x.is_before;
  block = x.block;
  needed = x.needed;
  is = x.is;
})
needs_below all blocks a name names ids d dir i named g (for_body x) = for_body (record {
  address = x.address;
  leads = (ids, d, dir, i, named, x.leads);
  file = x.file;
  is_file = x.is_file;
  cell = x.cell;
  block = x.block;
  needed = x.needed;
  is = x.is;
})

-- ---- names
-- a route of the part for names; or a needed block that is not known, and that is missing in a node on the way
pub data Risen (some all : View) (blocks : PartitionBlocks) (w : Walked) (names : List (List ℕ)) (address : LongAd) : Type 0 where
  arrives : (route : Route) (end : Walked) → walk_from some w route ≡ Some end → end.path ≡ w.path ++ names → end.address ≡ address → Risen some all blocks w names address
  stops : (n : ℕ) → is_known (some.blocks n) ≡ false → Needs all blocks w.address names (n ∷ [])
      → (route : Route) (end : Walked) → walk_from some w route ≡ Some end → Includes (missing_of (node some end).standing) n
      → (more : List (List ℕ)) → w.path ++ names ≡ end.path ++ more → Risen some all blocks w names address

-- by the names: at each directory the ICB's block is not known, a cell before the end of the name's descriptor is missing, or the name leads on
pub rise : (some all : View) (blocks : PartitionBlocks) → IsPartOf some all → IsComplete all blocks → (names : List (List ℕ)) (w : Walked) (address : LongAd)
    → AllWhole all w → Leads blocks w.address names address → Risen some all blocks w names address
rise some all blocks p c [] w address h e = arrives [] w refl (sym (append-nil w.path)) e
rise some all blocks p c (name ∷ names) w address h (ids, d, is_dir, i, named, leads) =
    go (whole_at all w (h [] w refl)) (λ wholes. rise some all blocks p c names (below w d) address wholes leads)
  where
    go : WholeAt all w → (AllWhole all (below w d) → Risen some all blocks (below w d) names address) → Risen some all blocks w (name ∷ names) address
    go x ih = by_node (node_part some all blocks p c w x)
      where
        f : IsReadFile blocks w.address x.fields x.cs
        f = file_at all blocks c w x

        kind : x.fields.kind ≡ Directory
        kind = ap (λ z. z.kind) (sym f.fields) ∙ ap (λ z. z.fields.kind) (sym (f.only is_dir.file is_dir.is_file)) ∙ is_dir.kind

        o : Open all w x
        o = open_at all blocks c w x kind

        dir : IsReadDirectoryAt blocks w.address (directory_by all.profile x.cs).identifiers
        dir = directory_at_law all blocks c w.address x.fields x.cs x.is_entry x.has_body kind o.ends

        fields : dir.is_directory.file.fields ≡ x.fields
        fields = ap (λ z. z.fields) (f.only dir.is_directory.file dir.is_directory.is_file) ∙ f.fields

        inside : Includes (entries_by all.profile x.cs) d
        inside = subst (λ z. Includes (listed_entries z) d) (dir.only ids is_dir) (included (listed_entries ids) d i)

        l : Splits (directory_by all.profile x.cs).identifiers d
        l = split_at (directory_by all.profile x.cs).identifiers d inside

        end : ℕ
        end = descriptor_end l.front l.id

        ends : EndsAt (directory_by all.profile x.cs).identifiers name end
        ends = record { front = l.front; id = l.id; back = l.back; splits = l.splits; entry = d; is_listed = l.is_listed; named = named; is = refl }

        part : IsPartialBody some all w.address.reference w.address.block x.fields x.cs
        part = part_at some all p w x

        on_way : (k n : ℕ) → k < end → IsNeededFor all w.address.reference x.fields k n → Needs all blocks w.address (name ∷ names) (n ∷ [])
        on_way k n lt needed = for_way (record {
          before = [];
          name = name;
          after = names;
          is_way = refl;
          address = w.address;
          leads = refl;
          ids = (directory_by all.profile x.cs).identifiers;
          is_directory = dir.is_directory;
          end = end;
          ends = ends;
          cell = k;
          is_before = lt;
          block = n;
          needed = subst (λ z. IsNeededFor all w.address.reference z k n) (sym fields) needed;
          is = refl;
        })

        on : target some w.address ≡ entry x.fields → IsClearTo part.part end → Risen some all blocks w (name ∷ names) address
        on is_entry clear = by_rise (ih (whole_below all w at.0 d whole_get h))
          where
            reached : (more : List Identifier) × ((directory_by all.profile part.part).identifiers ≡ l.front ++ l.id ∷ more)
            reached = part.inside.reached l.front l.back l.id l.splits clear

            there : Includes (entries_by all.profile part.part) d
            there = subst (λ z. Includes (listed_entries z) d) (sym reached.1) (listed_in l.front reached.0 l.id d l.is_listed)

            at : (j : ℕ) × (slice_get (entries_by all.profile part.part) j ≡ Some d)
            at = includes_get (entries_by all.profile part.part) d there

            get : slice_get (entries_below some w) at.0 ≡ Some d
            get = ap (λ z. slice_get z at.0) (entries_here some w x.fields part.part is_entry x.no_loop (o.room d inside) kind part.is) ∙ ap (λ z. slice_get (entries_by z part.part) at.0) p.profile ∙ at.1

            begin : IsBeginningOf (entries_below some w) (entries_below all w)
            begin = entries_begin some all p w x

            whole_get : slice_get (entries_below all w) at.0 ≡ Some d
            whole_get = ap (λ z. slice_get z at.0) begin.1 ∙ get_begin (entries_below some w) begin.0 at.0 d get

            by_rise : Risen some all blocks (below w d) names address → Risen some all blocks w (name ∷ names) address
            by_rise (arrives route e walks path a) = arrives (at.0 ∷ route) e (step_on some w at.0 route d get ∙ walks)
                (path ∙ append_assoc w.path (d.name ∷ []) names ∙ ap (λ z. w.path ++ z ∷ names) named) a
            by_rise (stops n u needs route e walks misses more on_way) = stops n u (needs_below all blocks w.address name names ids d is_dir i named (n ∷ []) needs)
                (at.0 ∷ route) e (step_on some w at.0 route d get ∙ walks) misses more
                (sym (append_assoc w.path (d.name ∷ []) names ∙ ap (λ z. w.path ++ z ∷ names) named) ∙ on_way)

        by_cells : target some w.address ≡ entry x.fields → (node some w).standing ≡ cells_standing part.part
            → ((k : ℕ) × (n : ℕ) × (k < end) × IsGapAt part.part k n) ⊎ IsClearTo part.part end → Risen some all blocks w (name ∷ names) address
        by_cells is_entry stands (inl (k, n, lt, g)) = let named : (is_known (some.blocks n) ≡ false) × IsNeededFor all w.address.reference x.fields k n = part.cells_are.names k n g in
            stops n named.0 (on_way k n lt named.1) [] w refl (gap_misses (node some w).standing part.part stands k n g) (name ∷ names) refl
        by_cells is_entry stands (inr clear) = on is_entry clear

        by_node : NodePart some all p w x → Risen some all blocks w (name ∷ names) address
        by_node (node_read t s) = by_cells t s (gap_before part.part end)
        by_node (node_unread n placed u t) = stops n u
            (for_icb (record { before = []; after = name ∷ names; is_way = refl; address = w.address; leads = refl; is = (n, placed, refl) }))
            [] w refl (subst (λ z. Includes z n) (sym (unread_misses some w n t)) (inl refl)) (name ∷ names) refl
