-- The tree from a directory of a sound tree: paths, soundness, needs.
use Rattle.std.proofs.Common.{◌≡◌, ◌≢◌, refl, sym, ◌∙◌, ap, subst, inl, inr, ◌⊎◌, ℕ, ◌+◌, ◌<◌, ◌≤◌, List, [], ◌∷◌, ◌++◌, length, map, arith, Some, slice_get, get_or}
use Rattle.std.specs.Prelude.{zero, suc, AllPairs, Contains}
use Rattle.std.proofs.lemmas.List.{append_assoc, length-append, length-map}
use Rattle.udfs_lattice.proofs.Inclusion.{Includes, included, contained}
use Rattle.udfs_tag.specs.declared.layouts.LongAd.{LongAd}
use Rattle.udfs_space.specs.Places.{View}
use Rattle.udfs_file.specs.Bodies.{IsNeededFor}
use Rattle.udfs_file.specs.Complete.{AreShort, HasPartitions, IsComplete, IsReadDirectory, as_cells}
use Rattle.udfs_file.specs.Entries.{entry_fault}
use Rattle.udfs_file.specs.Fronts.{directory_by, listed_entries}
use Rattle.udfs_file.specs.Identifiers.{Identifier}
use Rattle.udfs_file.specs.Standard.{IsBodyOf, IsDirectoryBody}
use Rattle.udfs_file.specs.declared.directories.DirEntry.{DirEntry}
use Rattle.udfs_file.proofs.PublicLaws.{directory_is_read, standard_directories_are_read}
use Rattle.udfs_walk.specs.Targets.{Icb, icb_of}
use Rattle.udfs_walk.specs.UnnamedEntries.{address_of}
use Rattle.udfs_walk.specs.Needs.{Needs, for_icb, for_way, for_body, IsBlockAt}
use Rattle.udfs_walk.specs.Sound.{IsSoundTree, LeadsOn, Path, StandOnce}
use Rattle.udfs_walk.specs.Trees.{PartitionBlocks, TreeFile, IsDirectoryAt, IsFileAt, InTree, Leads}
use Rattle.udfs_walk.proofs.TreePublicLaws.{one_file, sound_is_lawful}
use Rattle.udfs_lost.specs.Subtrees.{IsFolderAt}

-- ---- paths
leads_append : (blocks : PartitionBlocks) (a b c : LongAd) (p q : Path) → Leads blocks a p b → Leads blocks b q c → Leads blocks a (p ++ q) c
leads_append blocks a b c [] q e h = subst (λ z. Leads blocks z q c) (sym e) h
leads_append blocks a b c (name ∷ p) q (ids, d, is, i, named, l) h = (ids, d, is, i, named, leads_append blocks d.icb b c p q l h)

-- a path through an address
record Through (blocks : PartitionBlocks) (a : LongAd) (p q : Path) (c : LongAd) : Type 0 where
  middle : LongAd
  first : Leads blocks a p middle
  second : Leads blocks middle q c

leads_split : (blocks : PartitionBlocks) (a c : LongAd) (p q : Path) → Leads blocks a (p ++ q) c → Through blocks a p q c
leads_split blocks a c [] q h = record { middle = a; first = refl; second = h }
leads_split blocks a c (name ∷ p) q (ids, d, is, i, named, l) = let t : Through blocks d.icb p q c = leads_split blocks d.icb c p q l in
    record { middle = t.middle; first = (ids, d, is, i, named, t.first); second = t.second }

cancel : (p q r : Path) → p ++ q ≡ p ++ r → q ≡ r
cancel [] q r e = e
cancel (name ∷ p) q r e = cancel p q r cc

-- what a list of longer paths has
record Longer (p : Path) (paths : List Path) (i : ℕ) (path : Path) : Type 0 where
  more : Path
  at : slice_get paths i ≡ Some more
  is : p ++ more ≡ path

longer_at : (p : Path) (paths : List Path) (i : ℕ) (path : Path) → slice_get (map (λ q. p ++ q) paths) i ≡ Some path → Longer p paths i path
longer_at p [] i path e = absurd (let z : ⊥ = cc in z)
longer_at p (q ∷ paths) zero path e = record { more = q; at = refl; is = cc }
longer_at p (q ∷ paths) (suc i) path e = let t : Longer p paths i path = longer_at p paths i path e in record { more = t.more; at = t.at; is = t.is }

longer_once : (p : Path) (paths : List Path) → StandOnce paths → StandOnce (map (λ q. p ++ q) paths)
longer_once p paths once i j path e f = once i j x.more x.at (y.at ∙ ap Some (sym same))
  where
    x : Longer p paths i path
    x = longer_at p paths i path e

    y : Longer p paths j path
    y = longer_at p paths j path f

    same : x.more ≡ y.more
    same = cancel p x.more y.more (x.is ∙ sym y.is)

longer_in : (p : Path) (paths : List Path) (path : Path) → Includes (map (λ q. p ++ q) paths) path → (more : Path) × Includes paths more × (p ++ more ≡ path)
longer_in p [] path i = absurd i
longer_in p (q ∷ paths) path (inl e) = (q, inl refl, e)
longer_in p (q ∷ paths) path (inr i) = let t : (more : Path) × Includes paths more × (p ++ more ≡ path) = longer_in p paths path i in (t.0, inr t.1, t.2)

-- ---- the tree from an address
pub sound_at : (blocks : PartitionBlocks) (root a : LongAd) (p : Path) → IsSoundTree blocks root → Leads blocks root p a → IsSoundTree blocks a
sound_at blocks root a p s h = record {
  files = λ path b l. s.files (p ++ path) b (on path b l);
  directories = λ path b file l. s.directories (p ++ path) b file (on path b l);
  no_loop = λ path b c name more l. s.no_loop (p ++ path) b c name more (on path b l);
  depth = λ path b l. let m : length (p ++ path) ≤ 64 = s.depth (p ++ path) b (on path b l) in let n : length (p ++ path) ≡ length p + length path = length-append p path in omega (arith, m, n);
  names = λ path b ids l. s.names (p ++ path) b ids (on path b l);
  few = λ paths once each. subst (λ n. n ≤ 65536) (length-map paths (λ q. p ++ q)) (s.few (map (λ q. p ++ q) paths) (longer_once p paths once) (λ path i. all paths each path i));
}
  where
    on : (path : Path) (b : LongAd) → Leads blocks a path b → Leads blocks root (p ++ path) b
    on path b l = leads_append blocks root a b p path h l

    all : (paths : List Path) → ((path : Path) → Contains paths path → LeadsOn blocks a path) → (path : Path) → Contains (map (λ q. p ++ q) paths) path → LeadsOn blocks root path
    all paths each path i = let t : (more : Path) × Includes paths more × (p ++ more ≡ path) = longer_in p paths path (included (map (λ q. p ++ q) paths) path i) in
        let u : LeadsOn blocks a t.0 = each t.0 (contained paths t.0 t.1) in (u.0, subst (λ z. Leads blocks root z u.0) t.2 (on t.0 u.0 u.1))

-- ---- two addresses of one information control block
-- an address of a recorded block
abbrev IsGood : LongAd → Type 0
IsGood a = (a.kind ≡ 0) × (a.length ≢ 0)

file_moved : (blocks : PartitionBlocks) (a b : LongAd) → IsGood b → icb_of b ≡ icb_of a → (file : TreeFile) → IsFileAt blocks a file → IsFileAt blocks b file
file_moved blocks a b good same file x = record {
  recorded = good.0;
  not_empty = good.1;
  bytes = x.bytes;
  block = (λ i. blocks.at (r i) (k i)) ∙ x.block;
  sound = ap (entry_fault x.bytes) k ∙ x.sound;
  fields = x.fields;
  body = subst (λ z. IsBodyOf blocks z b.block file.fields file.body) (sym r) (subst (λ z. IsBodyOf blocks a.reference z file.fields file.body) (sym k) x.body);
}
  where
    r : b.reference ≡ a.reference
    r = ap (λ z. z.reference) same

    k : b.block ≡ a.block
    k = ap (λ z. z.block) same

-- a path that leads from one address leads from the other, to the same or again to the other
record Over (blocks : PartitionBlocks) (a : LongAd) (path : Path) (c : LongAd) : Type 0 where
  address : LongAd
  leads : Leads blocks a path address
  icb : icb_of address ≡ icb_of c
  file : (f : TreeFile) → IsFileAt blocks c f → IsFileAt blocks address f
  back : (f : TreeFile) → IsFileAt blocks address f → IsFileAt blocks c f

over : (blocks : PartitionBlocks) (a b : LongAd) → IsGood a → IsGood b → icb_of a ≡ icb_of b → (path : Path) (c : LongAd) → Leads blocks b path c → Over blocks a path c
over blocks a b good other same [] c e = record {
  address = a;
  leads = refl;
  icb = same ∙ ap icb_of e;
  file = λ f x. file_moved blocks c a good (same ∙ ap icb_of e) f x;
  back = λ f x. file_moved blocks a c (subst IsGood e other) (sym (same ∙ ap icb_of e)) f x;
}
over blocks a b good other same (name ∷ path) c (ids, d, is, i, named, l) = record {
  address = c;
  leads = (ids, d, record { file = is.file; is_file = file_moved blocks b a good same is.file is.is_file; kind = is.kind; body = is.body }, i, named, l);
  icb = refl;
  file = λ f x. x;
  back = λ f x. x;
}

abbrev directory_over : (blocks : PartitionBlocks) (a : LongAd) (path : Path) (c : LongAd) (o : Over blocks a path c) (ids : List Identifier) → IsDirectoryAt blocks c ids → IsDirectoryAt blocks o.address ids
directory_over blocks a path c o ids x = record { file = x.file; is_file = o.file x.file x.is_file; kind = x.kind; body = x.body }

sound_over : (blocks : PartitionBlocks) (a b : LongAd) → IsGood a → IsGood b → icb_of a ≡ icb_of b → IsSoundTree blocks a → IsSoundTree blocks b
sound_over blocks a b good other same s = record {
  files = λ path c l. let o : Over blocks a path c = to path c l in let t : (file : TreeFile) × IsFileAt blocks o.address file = s.files path o.address o.leads in (t.0, o.back t.0 t.1);
  directories = λ path c file l is kind. let o : Over blocks a path c = to path c l in s.directories path o.address file o.leads (o.file file is) kind;
  no_loop = loop;
  depth = λ path c l. let o : Over blocks a path c = to path c l in s.depth path o.address o.leads;
  names = λ path c ids l is. let o : Over blocks a path c = to path c l in s.names path o.address ids o.leads (directory_over blocks a path c o ids is);
  few = λ paths once each. s.few paths once (λ path i. let u : LeadsOn blocks b path = each path i in let o : Over blocks a path u.0 = to path u.0 u.1 in (o.address, o.leads));
}
  where
    to : (path : Path) (c : LongAd) → Leads blocks b path c → Over blocks a path c
    to = over blocks a b good other same

    loop : (path : Path) (c d : LongAd) (name : List ℕ) (more : Path) → Leads blocks b path c → Leads blocks c (name ∷ more) d → icb_of d ≢ icb_of c
    loop path c d name more l (ids, e, is, i, named, m) q = let o : Over blocks a path c = to path c l in
        s.no_loop path o.address d name more o.leads (ids, e, directory_over blocks a path c o ids is, i, named, m) (q ∙ sym o.icb)

-- ---- a path leads to one address
get_same : (xs : List DirEntry) (k : ℕ) (x d : DirEntry) → k < length xs → get_or xs k x ≡ x → get_or xs k d ≡ x
get_same [] k x d h e = absurd (let z : ⊥ = omega (arith, h) in z)
get_same (y ∷ ys) zero x d h e = e
get_same (y ∷ ys) (suc k) x d h e = get_same ys k x d (omega (arith, h)) e

one_named : (xs : List DirEntry) (d e : DirEntry) → AllPairs (λ d e. d.name ≢ e.name) xs → Contains xs d → Contains xs e → d.name ≡ e.name → d ≡ e
one_named xs d e apart (j, l, p) (k, m, q) n = go (either j k)
  where
    at : get_or xs j d ≡ d
    at = get_same xs j d d l p

    also : get_or xs k d ≡ e
    also = get_same xs k e d m q

    either : (a b : ℕ) → (a ≡ b) ⊎ ((a < b) ⊎ (b < a))
    either a b = grind arith

    go : (j ≡ k) ⊎ ((j < k) ⊎ (k < j)) → d ≡ e
    go (inl s) = sym at ∙ ap (λ z. get_or xs z d) s ∙ also
    go (inr (inl s)) = absurd (apart j k d s m (ap (λ z. z.name) at ∙ n ∙ ap (λ z. z.name) (sym also)))
    go (inr (inr s)) = absurd (apart k j d s l (ap (λ z. z.name) also ∙ sym n ∙ ap (λ z. z.name) (sym at)))

one_list : (all : View) (blocks : PartitionBlocks) → IsComplete all blocks → HasPartitions all → (a : LongAd) → IsSoundTree blocks a → (ids others : List Identifier)
    → IsDirectoryAt blocks a ids → IsDirectoryAt blocks a others → others ≡ ids
one_list all blocks c has a s ids others x y = r.only others (subst (λ z. IsDirectoryBody blocks.profile z.body others) same y.body) ∙ sym (r.only ids x.body)
  where
    same : y.file ≡ x.file
    same = one_file all blocks c a ((sound_is_lawful all blocks c has a).0 s) [] x.file y.file (record { address = a; leads = refl; is_file = x.is_file }) (record { address = a; leads = refl; is_file = y.is_file })

    d : (short : List Identifier) × IsDirectoryBody blocks.profile x.file.body short × AreShort short
    d = s.directories [] a x.file refl x.is_file x.kind

    r : IsReadDirectory blocks.profile x.file.body (directory_by blocks.profile (as_cells x.file.body)).identifiers
    r = directory_is_read blocks.profile x.file.body (standard_directories_are_read blocks.profile x.file.body d.0 d.1 d.2).1

pub one_address : (all : View) (blocks : PartitionBlocks) → IsComplete all blocks → HasPartitions all → (path : Path) (root a b : LongAd) → IsSoundTree blocks root
    → Leads blocks root path a → Leads blocks root path b → a ≡ b
one_address all blocks c has [] root a b s e f = sym e ∙ f
one_address all blocks c has (name ∷ path) root a b s (ids, d, is, i, named, l) (others, e, are, j, also, m) = one_address all blocks c has path d.icb a b
    (sound_at blocks root d.icb (name ∷ []) s (ids, d, is, i, named, refl)) l (subst (λ z. Leads blocks z path b) (ap (λ z. z.icb) (sym same)) m)
  where
    same : d ≡ e
    same = one_named (listed_entries ids) d e (s.names [] root ids refl is) i
        (subst (λ z. Contains (listed_entries z) e) (one_list all blocks c has root s ids others is are) j) (named ∙ sym also)

-- ---- a folder of a tree
-- the folder's own address, and the one by which it is walked as a lost folder
good_address : (icb : Icb) → IsGood (address_of icb)
good_address icb = (refl, λ e. let z : ⊥ = omega (arith, e) in z)

good_folder : (blocks : PartitionBlocks) (root : LongAd) (path : Path) (icb : Icb) (f : IsFolderAt blocks root path icb) → IsGood f.address
good_folder blocks root path icb f = (f.is_directory.is_file.recorded, f.is_directory.is_file.not_empty)

-- from the one by which it is walked to the folder's own
own : (blocks : PartitionBlocks) (root : LongAd) (path : Path) (icb : Icb) (f : IsFolderAt blocks root path icb) (more : Path) (c : LongAd) → Leads blocks (address_of icb) more c → Over blocks f.address more c
own blocks root path icb f = over blocks f.address (address_of icb) (good_folder blocks root path icb f) (good_address icb) f.is

pub folder_is_sound : (blocks : PartitionBlocks) (root : LongAd) (path : Path) (icb : Icb) → IsFolderAt blocks root path icb → IsSoundTree blocks root → IsSoundTree blocks (address_of icb)
folder_is_sound blocks root path icb f s = sound_over blocks f.address (address_of icb) (good_folder blocks root path icb f) (good_address icb) f.is (sound_at blocks root f.address path s f.leads)

pub in_whole : (blocks : PartitionBlocks) (root : LongAd) (path : Path) (icb : Icb) → IsFolderAt blocks root path icb → (more : Path) (file : TreeFile)
    → InTree blocks (address_of icb) more file → InTree blocks root (path ++ more) file
in_whole blocks root path icb f more file x = let o : Over blocks f.address more x.address = own blocks root path icb f more x.address x.leads in record {
  address = o.address;
  leads = leads_append blocks root f.address o.address path more f.leads o.leads;
  is_file = o.file file x.is_file;
}

pub in_part : (all : View) (blocks : PartitionBlocks) → IsComplete all blocks → HasPartitions all → (root : LongAd) (path : Path) (icb : Icb) → IsFolderAt blocks root path icb → IsSoundTree blocks root
    → (more : Path) (file : TreeFile) → InTree blocks root (path ++ more) file → InTree blocks (address_of icb) more file
in_part all blocks c has root path icb f s more file x = record { address = o.address; leads = o.leads; is_file = o.file file x.is_file }
  where
    t : Through blocks root path more x.address
    t = leads_split blocks root x.address path more x.leads

    same : t.middle ≡ f.address
    same = one_address all blocks c has path root t.middle f.address s t.first f.leads

    o : Over blocks (address_of icb) more x.address
    o = over blocks (address_of icb) f.address (good_address icb) (good_folder blocks root path icb f) (sym f.is) more x.address (subst (λ z. Leads blocks z more x.address) same t.second)

-- ---- what is needed from the folder on
block_over : (all : View) (a b : LongAd) (group : List ℕ) → icb_of b ≡ icb_of a → IsBlockAt all a group → IsBlockAt all b group
block_over all a b group same x = (x.0, (λ i. all.place (ap (λ z. z.reference) same i) (ap (λ z. z.block) same i)) ∙ x.1, x.2)

pub needed : (all : View) (blocks : PartitionBlocks) (root : LongAd) (path : Path) (icb : Icb) → IsFolderAt blocks root path icb → (more : Path) (group : List ℕ)
    → Needs all blocks (address_of icb) more group → Needs all blocks root (path ++ more) group
needed all blocks root path icb f more group (for_icb x) = let o : Over blocks f.address x.before x.address = own blocks root path icb f x.before x.address x.leads in for_icb (record {
  before = path ++ x.before;
  after = x.after;
  is_way = ap (λ z. path ++ z) x.is_way ∙ sym (append_assoc path x.before x.after);
  address = o.address;
  leads = leads_append blocks root f.address o.address path x.before f.leads o.leads;
  is = block_over all x.address o.address group o.icb x.is;
})
needed all blocks root path icb f more group (for_way x) = let o : Over blocks f.address x.before x.address = own blocks root path icb f x.before x.address x.leads in for_way (record {
  before = path ++ x.before;
  name = x.name;
  after = x.after;
  is_way = ap (λ z. path ++ z) x.is_way ∙ sym (append_assoc path x.before (x.name ∷ x.after));
  address = o.address;
  leads = leads_append blocks root f.address o.address path x.before f.leads o.leads;
  ids = x.ids;
  is_directory = directory_over blocks f.address x.before x.address o x.ids x.is_directory;
  end = x.end;
  ends = x.ends;
  cell = x.cell;
  is_before = x.is_before;
  block = x.block;
  needed = subst (λ z. IsNeededFor all z x.is_directory.file.fields x.cell x.block) (ap (λ z. z.reference) (sym o.icb)) x.needed;
  is = x.is;
})
needed all blocks root path icb f more group (for_body x) = let o : Over blocks f.address more x.address = own blocks root path icb f more x.address x.leads in for_body (record {
  address = o.address;
  leads = leads_append blocks root f.address o.address path more f.leads o.leads;
  file = x.file;
  is_file = o.file x.file x.is_file;
  cell = x.cell;
  block = x.block;
  needed = subst (λ z. IsNeededFor all z x.file.fields x.cell x.block) (ap (λ z. z.reference) (sym o.icb)) x.needed;
  is = x.is;
})
