-- A lawful tree is sound: what is whole is what the standard reads, and nothing lies in itself.
use Rattle.std.proofs.Common.{◌≡◌, ◌≢◌, refl, sym, ◌∙◌, ap, subst, inl, inr, ◌⊎◌, ℕ, ◌+◌, ◌<◌, ◌≤◌, Bool, true, false, List, [], ◌∷◌, ◌++◌, length, cond, ◌&&◌, ◌||◌, arith, map, Option, Some, None, slice_get, nat_le}
use Rattle.std.specs.Prelude.{zero, suc, AllPairs, Contains, IsSome}
use Rattle.std.specs.List.{list_any}
use Rattle.std.proofs.lemmas.Bool.{eq-eqb, leb-false}
use Rattle.std.proofs.lemmas.List.{length-append, length-map}
use Rattle.udfs_lattice.proofs.Inclusion.{Includes, included, contained}
use Rattle.udfs_tag.specs.declared.layouts.LongAd.{LongAd}
use Rattle.udfs_space.specs.Places.{View}
use Rattle.udfs_file.specs.Complete.{AreShort, IsComplete}
use Rattle.udfs_file.specs.Fronts.{directory_by, entries_by, listed_entries}
use Rattle.udfs_file.specs.Identifiers.{Identifier}
use Rattle.udfs_file.specs.Standard.{IsDirectoryBody}
use Rattle.udfs_file.specs.declared.directories.DirEntry.{DirEntry}
use Rattle.udfs_file.specs.declared.faults.Kind.TheVariants.{Directory}
use Rattle.udfs_file.proofs.PublicLaws.{descriptors_are_short}
use Rattle.udfs_walk.specs.Routes.{Route, Walked, at_root, below, entries_below, is_deep, is_loop, target_entries, walk_from, walked, IsWalk}
use Rattle.udfs_walk.specs.Targets.{Icb, icb_of, is_icb, target}
use Rattle.udfs_walk.proofs.PublicLaws.{more_routes, some_walk}
use Rattle.udfs_walk.specs.Lawful.{IsLawfulTree}
use Rattle.udfs_walk.specs.Sound.{IsSoundTree, LeadsOn, Path, StandOnce}
use Rattle.udfs_walk.specs.Trees.{PartitionBlocks, TreeFile, IsFileAt, IsDirectoryAt, Leads}
use Rattle.udfs_walk.proofs.Listed.{get_zip}
use Rattle.udfs_walk.proofs.WholeFiles.{IsReadFile, IsReadDirectoryAt, directory_at_law}
use Rattle.udfs_walk.proofs.WholeRoutes.{AllWhole, IsRouteTo, Open, Step, Up, WholeAt, entries_are, file_at, includes_get, longer, open_at, route_law, step_inv, step_on, up, whole_at}

-- ---- what stands at the end of a path
record End (all : View) (blocks : PartitionBlocks) (root : LongAd) (path : Path) (a : LongAd) : Type 0 where
  route : Route
  w : Walked
  walks : walked all root route ≡ Some w
  path_is : w.path ≡ path
  at : w.address ≡ a
  whole : WholeAt all w
  file : IsReadFile blocks w.address whole.fields whole.cs

end_at : (all : View) (blocks : PartitionBlocks) → IsComplete all blocks → (root : LongAd) → IsLawfulTree all root → (path : Path) (a : LongAd) → Leads blocks root path a → End all blocks root path a
end_at all blocks c root l path a leads = record { route = u.route; w = u.end; walks = u.leads; path_is = u.path_is; at = u.address_is; whole = x; file = file_at all blocks c u.end x }
  where
    u : IsRouteTo all root path a
    u = (route_law all blocks c root l.nodes).is_route path a leads

    x : WholeAt all u.end
    x = whole_at all u.end (l.nodes u.route u.end u.leads)

files : (all : View) (blocks : PartitionBlocks) → IsComplete all blocks → (root : LongAd) → IsLawfulTree all root → (path : Path) (a : LongAd) → Leads blocks root path a → (file : TreeFile) × IsFileAt blocks a file
files all blocks c root l path a leads = (e.file.file, subst (λ z. IsFileAt blocks z e.file.file) e.at e.file.is_file)
  where
    e : End all blocks root path a
    e = end_at all blocks c root l path a leads

-- a directory there
directory_of : (all : View) (blocks : PartitionBlocks) → IsComplete all blocks → (w : Walked) (x : WholeAt all w) → IsReadFile blocks w.address x.fields x.cs → (file : TreeFile) → IsFileAt blocks w.address file
    → file.fields.kind ≡ Directory → x.fields.kind ≡ Directory
directory_of all blocks c w x f file is k = sym (ap (λ z. z.kind) f.fields) ∙ sym (ap (λ z. z.fields.kind) (f.only file is)) ∙ k

directories : (all : View) (blocks : PartitionBlocks) → IsComplete all blocks → (root : LongAd) → IsLawfulTree all root → (path : Path) (a : LongAd) (file : TreeFile) → Leads blocks root path a → IsFileAt blocks a file
    → file.fields.kind ≡ Directory → (ids : List Identifier) × IsDirectoryBody blocks.profile file.body ids × AreShort ids
directories all blocks c root l path a file leads is kind = ((directory_by all.profile e.whole.cs).identifiers, subst (λ z. IsDirectoryBody blocks.profile z.body (directory_by all.profile e.whole.cs).identifiers) same r.is_directory.body, descriptors_are_short all.profile e.whole.cs)
  where
    e : End all blocks root path a
    e = end_at all blocks c root l path a leads

    here : IsFileAt blocks e.w.address file
    here = subst (λ z. IsFileAt blocks z file) (sym e.at) is

    k : e.whole.fields.kind ≡ Directory
    k = directory_of all blocks c e.w e.whole e.file file here kind

    r : IsReadDirectoryAt blocks e.w.address (directory_by all.profile e.whole.cs).identifiers
    r = directory_at_law all blocks c e.w.address e.whole.fields e.whole.cs e.whole.is_entry e.whole.has_body k (open_at all blocks c e.w e.whole k).ends

    same : r.is_directory.file ≡ file
    same = e.file.only r.is_directory.file r.is_directory.is_file ∙ sym (e.file.only file here)

-- ---- names differ
names : (all : View) (blocks : PartitionBlocks) → IsComplete all blocks → (root : LongAd) → IsLawfulTree all root → (path : Path) (a : LongAd) (ids : List Identifier) → Leads blocks root path a → IsDirectoryAt blocks a ids
    → AllPairs (λ d e. d.name ≢ e.name) (listed_entries ids)
names all blocks c root l path a ids leads is = subst (λ z. AllPairs (λ d e. d.name ≢ e.name) (listed_entries z)) (sym (r.only ids here)) (go (is_deep e.w) refl (entries_by all.profile e.whole.cs) refl)
  where
    e : End all blocks root path a
    e = end_at all blocks c root l path a leads

    here : IsDirectoryAt blocks e.w.address ids
    here = subst (λ z. IsDirectoryAt blocks z ids) (sym e.at) is

    k : e.whole.fields.kind ≡ Directory
    k = directory_of all blocks c e.w e.whole e.file here.file here.is_file here.kind

    o : Open all e.w e.whole
    o = open_at all blocks c e.w e.whole k

    r : IsReadDirectoryAt blocks e.w.address (directory_by all.profile e.whole.cs).identifiers
    r = directory_at_law all blocks c e.w.address e.whole.fields e.whole.cs e.whole.is_entry e.whole.has_body k o.ends

    go : (b : Bool) → is_deep e.w ≡ b → (es : List DirEntry) → entries_by all.profile e.whole.cs ≡ es → AllPairs (λ d e. d.name ≢ e.name) (entries_by all.profile e.whole.cs)
    go false q es p = subst (AllPairs (λ d e. d.name ≢ e.name)) (entries_are all e.w e.whole false Directory q k) (l.distinct e.route e.w e.walks)
    go true q [] p = subst (AllPairs (λ d e. d.name ≢ e.name)) (sym p) (λ i j d m n. absurd (let z : ⊥ = omega (arith, n) in z))
    go true q (x ∷ es) p = absurd (let z : true ≡ false = sym q ∙ o.room x (subst (λ y. Includes y x) (sym p) (inl refl)) in let y : ⊥ = cc in y)

-- ---- at most 64 names
shallow : (all : View) (w : Walked) (j : ℕ) (d : DirEntry) → slice_get (entries_below all w) j ≡ Some d → is_deep w ≡ false
unfolding entries_below
shallow all w j d = go (is_loop w) (is_deep w)
  where
    go : (a b : Bool) → slice_get (cond (a || b) [] (target_entries all w.address (target all w.address))) j ≡ Some d → b ≡ false
    go true b e = absurd (let z : ⊥ = cc in z)
    go false true e = absurd (let z : ⊥ = cc in z)
    go false false e = refl

not_deep : (n : ℕ) → nat_le 64 n ≡ false → n < 64
not_deep n e = leb-false 64 n e

most_names : (all : View) (route : Route) (w end : Walked) → walk_from all w route ≡ Some end → length w.path ≤ 64 → length end.path ≤ 64
most_names all [] w end e h = let same : w ≡ end = cc in subst (λ z. length z.path ≤ 64) same h
most_names all (j ∷ js) w end e h = go (step_inv all w j js end e) (λ d. most_names all js (below w d) end)
  where
    go : Step all w j js end → ((d : DirEntry) → walk_from all (below w d) js ≡ Some end → length (below w d).path ≤ 64 → length end.path ≤ 64) → length end.path ≤ 64
    go s ih = ih s.entry s.then (let n : length (below w s.entry).path ≡ length w.path + 1 = length-append w.path (s.entry.name ∷ []) in
        let q : length w.path < 64 = not_deep (length w.path) (shallow all w j s.entry s.at) in omega (arith, n, q))

depth : (all : View) (blocks : PartitionBlocks) → IsComplete all blocks → (root : LongAd) → IsLawfulTree all root → (path : Path) (a : LongAd) → Leads blocks root path a → length path ≤ 64
unfolding walked
depth all blocks c root l path a leads = subst (λ z. length z ≤ 64) e.path_is (most_names all e.route (at_root root) e.w e.walks (omega arith))
  where
    e : End all blocks root path a
    e = end_at all blocks c root l path a leads

-- ---- nothing lies in itself
walk_append : (all : View) (r s : Route) (w m end : Walked) → walk_from all w r ≡ Some m → walk_from all m s ≡ Some end → walk_from all w (r ++ s) ≡ Some end
walk_append all [] s w m end e h = let same : w ≡ m = cc in subst (λ z. walk_from all z s ≡ Some end) (sym same) h
walk_append all (j ∷ js) s w m end e h = go (step_inv all w j js m e) (λ d. walk_append all js s (below w d) m end)
  where
    go : Step all w j js m → ((d : DirEntry) → walk_from all (below w d) js ≡ Some m → walk_from all m s ≡ Some end → walk_from all (below w d) (js ++ s) ≡ Some end) → walk_from all w (j ∷ js ++ s) ≡ Some end
    go t ih = step_on all w j (js ++ s) t.entry t.at ∙ ih t.entry t.then h

in_first : (xs : List Icb) (y x : Icb) → Includes xs x → Includes (xs ++ y ∷ []) x
in_first [] y x i = absurd i
in_first (z ∷ xs) y x (inl p) = inl p
in_first (z ∷ xs) y x (inr i) = inr (in_first xs y x i)

in_last : (xs : List Icb) (x : Icb) → Includes (xs ++ x ∷ []) x
in_last [] x = inl refl
in_last (z ∷ xs) x = inr (in_last xs x)

above_stays : (all : View) (route : Route) (w end : Walked) (x : Icb) → walk_from all w route ≡ Some end → Includes w.above x → Includes end.above x
above_stays all [] w end x e i = let same : w ≡ end = cc in subst (λ z. Includes z.above x) same i
above_stays all (j ∷ js) w end x e i = go (step_inv all w j js end e) (λ d. above_stays all js (below w d) end x)
  where
    go : Step all w j js end → ((d : DirEntry) → walk_from all (below w d) js ≡ Some end → Includes (below w d).above x → Includes end.above x) → Includes end.above x
    go s ih = ih s.entry s.then (in_first w.above (icb_of w.address) x i)

-- what is left has the directory above it
above_left : (all : View) (j : ℕ) (js : Route) (w end : Walked) → walk_from all w (j ∷ js) ≡ Some end → Includes end.above (icb_of w.address)
above_left all j js w end e = go (step_inv all w j js end e)
  where
    go : Step all w j js end → Includes end.above (icb_of w.address)
    go s = above_stays all js (below w s.entry) end (icb_of w.address) s.then (in_last w.above (icb_of w.address))

any_in : (p : Icb → Bool) (xs : List Icb) (x : Icb) → Includes xs x → p x ≡ true → list_any p xs ≡ true
any_in p [] x i e = absurd i
any_in p (y ∷ xs) x (inl same) e = (λ i. (ap p same ∙ e) i || list_any p xs)
any_in p (y ∷ xs) x (inr i) e = ap (λ z. p y || z) (any_in p xs x i e) ∙ go (p y)
  where
    go : (b : Bool) → (b || true) ≡ true
    go true = refl
    go false = refl

icb_same : (x : Icb) → is_icb x x ≡ true
icb_same x = λ i. eq-eqb x.reference x.reference refl i && eq-eqb x.block x.block refl i

no_loop : (all : View) (blocks : PartitionBlocks) → IsComplete all blocks → (root : LongAd) → IsLawfulTree all root → (path : Path) (a b : LongAd) (name : List ℕ) (more : Path) → Leads blocks root path a → Leads blocks a (name ∷ more) b
    → icb_of b ≢ icb_of a
unfolding walked
no_loop all blocks c root l path a b name more leads on same = go second.route refl
  where
    all_whole : AllWhole all (at_root root)
    all_whole route end e = l.nodes route end e

    first : Up all (at_root root) path a
    first = up all blocks c path (at_root root) a all_whole leads

    whole_on : AllWhole all first.end
    whole_on route end e = l.nodes (first.route ++ route) end (walk_append all first.route route (at_root root) first.end end first.walks e)

    second : Up all first.end (name ∷ more) b
    second = up all blocks c (name ∷ more) first.end b whole_on (subst (λ z. Leads blocks z (name ∷ more) b) (sym first.at) on)

    loops : (j : ℕ) (js : Route) → second.route ≡ j ∷ js → is_loop second.end ≡ true
    loops j js q = any_in (is_icb (icb_of second.end.address)) second.end.above (icb_of first.end.address)
        (above_left all j js first.end second.end (subst (λ z. walk_from all first.end z ≡ Some second.end) q second.walks))
        (ap (λ z. is_icb (icb_of second.end.address) z) (ap icb_of first.at ∙ sym same ∙ ap icb_of (sym second.at)) ∙ icb_same (icb_of second.end.address))

    go : (r : Route) → second.route ≡ r → ⊥
    go [] q = longer first.end second.end name more second.path (let t : Some first.end ≡ Some second.end = subst (λ z. walk_from all first.end z ≡ Some second.end) q second.walks in
        let same_end : first.end ≡ second.end = cc in ap (λ z. z.path) (sym same_end))
    go (j ∷ js) q = let t : true ≡ false = sym (loops j js q) ∙ (whole_at all second.end (whole_on second.route second.end second.walks)).no_loop in let z : ⊥ = cc in z

-- ---- how many paths there are
abbrev Paths : Type 0
Paths = List Path

-- without the first that is this one
record Parted (ys : Paths) (x : Path) : Type 0 where
  front : Paths
  back : Paths
  is : ys ≡ front ++ x ∷ back

parted : (ys : Paths) (x : Path) → Includes ys x → Parted ys x
parted [] x i = absurd i
parted (y ∷ ys) x (inl e) = record { front = []; back = ys; is = λ i. e i ∷ ys }
parted (y ∷ ys) x (inr i) = let p : Parted ys x = parted ys x i in record { front = y ∷ p.front; back = p.back; is = ap (λ z. y ∷ z) p.is }

without : (front back : Paths) (x z : Path) → Includes (front ++ x ∷ back) z → z ≢ x → Includes (front ++ back) z
without [] back x z (inl e) n = absurd (n (sym e))
without [] back x z (inr i) n = i
without (y ∷ front) back x z (inl e) n = inl e
without (y ∷ front) back x z (inr i) n = inr (without front back x z i n)

-- paths that stand once, all in another list, are no more than there are in that list
no_more : (xs ys : Paths) → StandOnce xs → ((x : Path) → Includes xs x → Includes ys x) → length xs ≤ length ys
no_more [] ys once h = omega arith
no_more (x ∷ xs) ys once h = let n : length xs ≤ length (p.front ++ p.back) = no_more xs (p.front ++ p.back) (λ i j path a b. let q : suc i ≡ suc j = once (suc i) (suc j) path a b in omega (arith, q)) rest in
    let a : length ys ≡ length p.front + suc (length p.back) = ap length p.is ∙ length-append p.front (x ∷ p.back) in
    let b : length (p.front ++ p.back) ≡ length p.front + length p.back = length-append p.front p.back in omega (arith, n, a, b)
  where
    p : Parted ys x
    p = parted ys x (h x (inl refl))

    index_of : (zs : Paths) (z : Path) → Includes zs z → (j : ℕ) × (slice_get zs j ≡ Some z)
    index_of [] z k = absurd k
    index_of (y ∷ zs) z (inl e) = (0, ap Some e)
    index_of (y ∷ zs) z (inr k) = let t : (j : ℕ) × (slice_get zs j ≡ Some z) = index_of zs z k in (suc t.0, t.1)

    rest : (z : Path) → Includes xs z → Includes (p.front ++ p.back) z
    rest z i = without p.front p.back x z (subst (λ l. Includes l z) p.is (h z (inr i))) (λ e. let t : (j : ℕ) × (slice_get xs j ≡ Some z) = index_of xs z i in
        let q : suc t.0 ≡ 0 = once (suc t.0) 0 x (t.1 ∙ ap Some e) refl in let y : ⊥ = omega (arith, q) in y)

is_some : (o : Option Walked) (w : Walked) → o ≡ Some w → IsSome o
is_some None w e = absurd (let z : ⊥ = cc in z)
is_some (Some v) w e = refl

le_or_lt : (a b : ℕ) → (a ≤ b) ⊎ (b < a)
le_or_lt a b = grind arith

few : (all : View) (blocks : PartitionBlocks) → IsComplete all blocks → (root : LongAd) → IsLawfulTree all root → (paths : Paths) → StandOnce paths → ((path : Path) → Contains paths path → LeadsOn blocks root path) → length paths ≤ 65536
few all blocks c root l paths once each = go (le_or_lt (length w.0) 65536)
  where
    w : (walks : List Walked) × IsWalk all root walks
    w = some_walk all root

    get_path : (xs : List Walked) (x : Walked) (j : ℕ) → slice_get xs j ≡ Some x → Includes (map (λ v. v.path) xs) x.path
    get_path [] x j e = absurd (let z : ⊥ = cc in z)
    get_path (y ∷ xs) x zero e = inl (let same : y ≡ x = cc in ap (λ v. v.path) same)
    get_path (y ∷ xs) x (suc j) e = inr (get_path xs x j e)

    inside : (path : Path) → Includes paths path → Includes (map (λ v. v.path) w.0) path
    inside path i = subst (Includes (map (λ v. v.path) w.0)) (ap (λ v. v.path) same ∙ e.path_is) (get_path w.0 y.0 at.0 y.1)
      where
        on : LeadsOn blocks root path
        on = each path (contained paths path i)

        e : End all blocks root path on.0
        e = end_at all blocks c root l path on.0 on.1

        at : (j : ℕ) × (slice_get w.1.routes j ≡ Some e.route)
        at = includes_get w.1.routes e.route (included w.1.routes e.route (w.1.all e.route (is_some (walked all root e.route) e.w e.walks)))

        y : (v : Walked) × (slice_get w.0 at.0 ≡ Some v) × (walked all root e.route ≡ Some v)
        y = get_zip (λ route v. walked all root route ≡ Some v) w.1.routes w.0 at.0 e.route w.1.each at.1

        same : y.0 ≡ e.w
        same = let t : Some (y.0) ≡ Some e.w = sym y.2 ∙ e.walks in cc

    go : (length w.0 ≤ 65536) ⊎ (65536 < length w.0) → length paths ≤ 65536
    go (inl h) = let n : length paths ≤ length (map (λ v. v.path) w.0) = no_more paths (map (λ v. v.path) w.0) once inside in let m : length (map (λ v. v.path) w.0) ≡ length w.0 = length-map w.0 (λ v. v.path) in omega (arith, h, n, m)
    go (inr h) = absurd (l.limit (more_routes all root w.0 65536 w.1 h))

pub lawful_is_sound : (all : View) (blocks : PartitionBlocks) → IsComplete all blocks → (root : LongAd) → IsLawfulTree all root → IsSoundTree blocks root
lawful_is_sound all blocks c root l = record {
  files = files all blocks c root l;
  directories = directories all blocks c root l;
  no_loop = no_loop all blocks c root l;
  depth = depth all blocks c root l;
  names = names all blocks c root l;
  few = few all blocks c root l;
}
