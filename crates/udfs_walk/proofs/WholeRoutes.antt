-- Where all nodes of a complete view are whole, its routes are the paths that the standard reads.
use Rattle.std.proofs.Common.{◌≡◌, ◌≢◌, refl, sym, ◌∙◌, ap, subst, inl, inr, ◌⊎◌, ℕ, ◌+◌, ◌<◌, ◌≤◌, Bool, true, false, List, [], ◌∷◌, ◌++◌, length, cond, ◌||◌, arith, Option, Some, None, slice_get}
use Rattle.std.specs.Prelude.{zero, suc, AllPairs, slice_index_or}
use Rattle.std.proofs.lemmas.List.{append_assoc, append-nil, length-append}
use Rattle.udfs_lattice.proofs.Inclusion.{Includes, included, contained}
use Rattle.udfs_tag.specs.declared.layouts.LongAd.{LongAd}
use Rattle.udfs_space.specs.Places.{View}
use Rattle.udfs_volume.specs.declared.profiles.Profile.{Profile}
use Rattle.udfs_file.specs.Entries.{EntryFields}
use Rattle.udfs_file.specs.Bodies.{Body, cells, faulty_body, body}
use Rattle.udfs_file.specs.Fronts.{directory_by, entries_by, listed_entries, fault_in}
use Rattle.udfs_file.specs.Complete.{IsComplete}
use Rattle.udfs_file.specs.declared.cells.Cell.{Cell}
use Rattle.udfs_file.specs.declared.directories.DirEntry.{DirEntry}
use Rattle.udfs_file.specs.Identifiers.{Rest}
use Rattle.udfs_file.specs.Identifiers.{Nothing, Stopped, Wrong}
use Rattle.udfs_file.specs.declared.faults.Kind.{Kind}
use Rattle.udfs_file.specs.declared.faults.Kind.TheVariants.{Directory, File, Link, Other, Unread}
use Rattle.udfs_file.proofs.PublicLaws.{complete_directory_never_stops}
use Rattle.udfs_walk.specs.Targets.{Target, bad, unread, entry, target}
use Rattle.udfs_walk.specs.Routes.{Route, Walked, at_root, below, is_loop, is_deep, entries_in, kind_entries, target_entries, entries_below, walk_from, walked}
use Rattle.udfs_walk.specs.Nodes.{node_at, node}
use Rattle.udfs_walk.specs.Standings.{cells_standing, depth_or, standing_or_fault, kind_standing, body_standing}
use Rattle.udfs_walk.specs.declared.standings.Standing.{Standing}
use Rattle.udfs_walk.specs.declared.standings.Standing.TheVariants.{Whole, Loop, Fault}
use Rattle.udfs_walk.specs.Trees.{PartitionBlocks, Leads}
use Rattle.udfs_walk.specs.Lawful.{AreWhole, AreDistinct}
use Rattle.udfs_walk.proofs.WholeFiles.{IsReadFile, entry_law, IsReadDirectoryAt, directory_at_law}

-- what a node is that is whole
pub record WholeAt (all : View) (w : Walked) : Type 0 where
  pub fields : EntryFields
  pub is_entry : target all w.address ≡ entry fields
  pub no_loop : is_loop w ≡ false
  pub cs : List Cell
  pub has_body : body all w.address.reference w.address.block fields ≡ cells cs
  pub standing : kind_standing all.profile fields.kind (is_deep w) cs ≡ Whole

pub whole_at : (all : View) (w : Walked) → (node all w).standing ≡ Whole → WholeAt all w
unfolding node
whole_at all w e = by_target (target all w.address) refl e
  where
    deep : Bool
    deep = is_deep w

    by_body : (f : EntryFields) → target all w.address ≡ entry f → is_loop w ≡ false → (b : Body) → body all w.address.reference w.address.block f ≡ b → body_standing all.profile f.kind deep b ≡ Whole → WholeAt all w
    by_body f t l (cells cs) q s = record { fields = f; is_entry = t; no_loop = l; cs = cs; has_body = q; standing = s }
    by_body f t l (faulty_body x) q s = absurd (let z : ⊥ = cc in z)

    by_loop : (f : EntryFields) → target all w.address ≡ entry f → (l : Bool) → is_loop w ≡ l → cond l Loop (body_standing all.profile f.kind deep (body all w.address.reference w.address.block f)) ≡ Whole → WholeAt all w
    by_loop f t true l s = absurd (let z : ⊥ = cc in z)
    by_loop f t false l s = by_body f t l (body all w.address.reference w.address.block f) refl s

    by_target : (t : Target) → target all w.address ≡ t → (node_at all w t).standing ≡ Whole → WholeAt all w
    by_target (bad f) t s = absurd (let z : ⊥ = cc in z)
    by_target (unread n) t s = absurd (let z : ⊥ = cc in z)
    by_target (entry f) t s = by_loop f t (is_loop w) refl s

-- the file at a whole node
pub file_at : (all : View) (blocks : PartitionBlocks) → IsComplete all blocks → (w : Walked) (x : WholeAt all w) → IsReadFile blocks w.address x.fields x.cs
file_at all blocks h w x = entry_law all blocks h w.address x.fields x.cs x.is_entry x.has_body

-- a whole directory has no fault, and its path is not too long for its entries
pub record Open (all : View) (w : Walked) (x : WholeAt all w) : Type 0 where
  pub ends : (directory_by all.profile x.cs).rest ≡ Nothing
  pub room : (d : DirEntry) → Includes (entries_by all.profile x.cs) d → is_deep w ≡ false

pub open_at : (all : View) (blocks : PartitionBlocks) → IsComplete all blocks → (w : Walked) (x : WholeAt all w) → x.fields.kind ≡ Directory → Open all w x
open_at all blocks h w x k = record { ends = ends (directory_by all.profile x.cs).rest refl; room = λ d i. room (is_deep w) (entries_by all.profile x.cs) d i depth }
  where
    inner : Standing
    inner = depth_or (is_deep w) (entries_by all.profile x.cs) (cells_standing x.cs)

    stands : standing_or_fault (fault_in (directory_by all.profile x.cs).rest) inner ≡ Whole
    stands = ap (λ z. kind_standing all.profile z (is_deep w) x.cs) (sym k) ∙ x.standing

    f : IsReadFile blocks w.address x.fields x.cs
    f = file_at all blocks h w x

    ends : (r : Rest) → (directory_by all.profile x.cs).rest ≡ r → (directory_by all.profile x.cs).rest ≡ Nothing
    ends Nothing e = e
    ends (Stopped n) e = absurd (complete_directory_never_stops all.profile f.file.body n (ap (λ z. (directory_by all.profile z).rest) (sym f.body) ∙ e))
    ends (Wrong y) e = absurd (let t : Fault y ≡ Whole = sym (ap (λ r. standing_or_fault (fault_in r) inner) e) ∙ stands in let z : ⊥ = cc in z)

    depth : inner ≡ Whole
    depth = sym (ap (λ r. standing_or_fault (fault_in r) inner) (ends (directory_by all.profile x.cs).rest refl)) ∙ stands

    room : (b : Bool) (es : List DirEntry) (d : DirEntry) → Includes es d → depth_or b es (cells_standing x.cs) ≡ Whole → b ≡ false
    room true [] d i q = absurd i
    room true (e ∷ es) d i q = absurd (let z : ⊥ = cc in z)
    room false es d i q = refl

abbrev pub listed_by : Profile → Kind → List Cell → List DirEntry
listed_by profile Directory cs = entries_by profile cs
listed_by profile File cs = []
listed_by profile Link cs = []
listed_by profile (Other t) cs = []
listed_by profile Unread cs = []

pub entries_are : (all : View) (w : Walked) (x : WholeAt all w) (b : Bool) (k : Kind) → is_deep w ≡ b → x.fields.kind ≡ k → entries_below all w ≡ cond b [] (listed_by all.profile k x.cs)
unfolding entries_below
entries_are all w x b k eb ek = (λ i. cond (x.no_loop i || eb i) [] (target_entries all w.address (x.is_entry i)))
    ∙ ap (λ z. cond b [] (kind_entries all.profile z (body all w.address.reference w.address.block x.fields))) ek ∙ ap (cond b []) (by k)
  where
    by : (k : Kind) → kind_entries all.profile k (body all w.address.reference w.address.block x.fields) ≡ listed_by all.profile k x.cs
    by Directory = ap (entries_in all.profile) x.has_body
    by File = refl
    by Link = refl
    by (Other t) = refl
    by Unread = refl

-- An entry to which a route goes on.
pub record Goes (all : View) (w : Walked) (x : WholeAt all w) (j : ℕ) (d : DirEntry) : Type 0 where
  pub kind : x.fields.kind ≡ Directory
  pub is : slice_get (entries_by all.profile x.cs) j ≡ Some d

pub goes : (all : View) (w : Walked) (x : WholeAt all w) (j : ℕ) (d : DirEntry) → slice_get (entries_below all w) j ≡ Some d → Goes all w x j d
goes all w x j d e = go (is_deep w) refl x.fields.kind refl
  where
    at : (b : Bool) (k : Kind) → is_deep w ≡ b → x.fields.kind ≡ k → slice_get (cond b [] (listed_by all.profile k x.cs)) j ≡ Some d
    at b k eb ek = ap (λ z. slice_get z j) (sym (entries_are all w x b k eb ek)) ∙ e

    go : (b : Bool) → is_deep w ≡ b → (k : Kind) → x.fields.kind ≡ k → Goes all w x j d
    go true eb k ek = absurd (let t : None ≡ Some d = at true k eb ek in let z : ⊥ = cc in z)
    go false eb Directory ek = record { kind = ek; is = at false Directory eb ek }
    go false eb File ek = absurd (let t : None ≡ Some d = at false File eb ek in let z : ⊥ = cc in z)
    go false eb Link ek = absurd (let t : None ≡ Some d = at false Link eb ek in let z : ⊥ = cc in z)
    go false eb (Other n) ek = absurd (let t : None ≡ Some d = at false (Other n) eb ek in let z : ⊥ = cc in z)
    go false eb Unread ek = absurd (let t : None ≡ Some d = at false Unread eb ek in let z : ⊥ = cc in z)

pub get_includes : {A : Type 0} (xs : List A) (j : ℕ) (x : A) → slice_get xs j ≡ Some x → Includes xs x
get_includes [] j x e = absurd (let z : ⊥ = cc in z)
get_includes (y ∷ ys) zero x e = inl cc
get_includes (y ∷ ys) (suc j) x e = inr (get_includes ys j x e)

pub includes_get : {A : Type 0} (xs : List A) (x : A) → Includes xs x → (j : ℕ) × (slice_get xs j ≡ Some x)
includes_get [] x i = absurd i
includes_get (y ∷ ys) x (inl e) = (0, ap Some e)
includes_get (y ∷ ys) x (inr i) = let r : (j : ℕ) × (slice_get ys j ≡ Some x) = includes_get ys x i in (suc r.0, r.1)

-- one step of a route
pub record Step (all : View) (w : Walked) (j : ℕ) (js : Route) (end : Walked) : Type 0 where
  pub entry : DirEntry
  pub at : slice_get (entries_below all w) j ≡ Some entry
  pub then : walk_from all (below w entry) js ≡ Some end

pub step_inv : (all : View) (w : Walked) (j : ℕ) (js : Route) (end : Walked) → walk_from all w (j ∷ js) ≡ Some end → Step all w j js end
step_inv all w j js end e = go (slice_get (entries_below all w) j) refl e
  where
    go : (o : Option DirEntry) → slice_get (entries_below all w) j ≡ o → (elim o as (λ _. Option Walked) [ None ↦ None | Some d ↦ walk_from all (below w d) js ]) ≡ Some end → Step all w j js end
    go None q s = absurd (let z : ⊥ = cc in z)
    go (Some d) q s = record { entry = d; at = q; then = s }

pub step_on : (all : View) (w : Walked) (j : ℕ) (js : Route) (d : DirEntry) → slice_get (entries_below all w) j ≡ Some d → walk_from all w (j ∷ js) ≡ walk_from all (below w d) js
step_on all w j js d q = ap (λ o. elim o as (λ _. Option Walked) [ None ↦ None | Some d ↦ walk_from all (below w d) js ]) q

abbrev pub AllWhole : View → Walked → Type 0
AllWhole all w = (route : Route) (end : Walked) → walk_from all w route ≡ Some end → (node all end).standing ≡ Whole

pub whole_below : (all : View) (w : Walked) (j : ℕ) (d : DirEntry) → slice_get (entries_below all w) j ≡ Some d → AllWhole all w → AllWhole all (below w d)
whole_below all w j d q h route end e = h (j ∷ route) end (step_on all w j route d q ∙ e)

-- Names that lead on.
record Down (blocks : PartitionBlocks) (w end : Walked) : Type 0 where
  names : List (List ℕ)
  path : end.path ≡ w.path ++ names
  leads : Leads blocks w.address names end.address

down : (all : View) (blocks : PartitionBlocks) → IsComplete all blocks → (route : Route) (w end : Walked) → AllWhole all w → walk_from all w route ≡ Some end → Down blocks w end
down all blocks c [] w end h e = let same : w ≡ end = cc in record { names = []; path = ap (λ z. z.path) (sym same) ∙ sym (append-nil w.path); leads = ap (λ z. z.address) same }
down all blocks c (j ∷ js) w end h e = go (step_inv all w j js end e) (whole_at all w (h [] w refl)) (λ d. down all blocks c js (below w d) end)
  where
    go : Step all w j js end → WholeAt all w → ((d : DirEntry) → AllWhole all (below w d) → walk_from all (below w d) js ≡ Some end → Down blocks (below w d) end) → Down blocks w end
    go s x ih = let d : DirEntry = s.entry in
        let g : Goes all w x j d = goes all w x j d s.at in
        let o : Open all w x = open_at all blocks c w x g.kind in
        let r : IsReadDirectoryAt blocks w.address (directory_by all.profile x.cs).identifiers = directory_at_law all blocks c w.address x.fields x.cs x.is_entry x.has_body g.kind o.ends in
        let t : Down blocks (below w d) end = ih d (whole_below all w j d s.at h) s.then in
        record {
          names = d.name ∷ t.names;
          path = t.path ∙ append_assoc w.path (d.name ∷ []) t.names;
          leads = ((directory_by all.profile x.cs).identifiers, d, r.is_directory, contained (entries_by all.profile x.cs) d (get_includes (entries_by all.profile x.cs) j d g.is), refl, t.leads);
        }

-- a route for names
pub record Up (all : View) (w : Walked) (names : List (List ℕ)) (address : LongAd) : Type 0 where
  pub route : Route
  pub end : Walked
  pub walks : walk_from all w route ≡ Some end
  pub path : end.path ≡ w.path ++ names
  pub at : end.address ≡ address

pub up : (all : View) (blocks : PartitionBlocks) → IsComplete all blocks → (names : List (List ℕ)) (w : Walked) (address : LongAd) → AllWhole all w → Leads blocks w.address names address → Up all w names address
up all blocks c [] w address h e = record { route = []; end = w; walks = refl; path = sym (append-nil w.path); at = e }
up all blocks c (name ∷ names) w address h (ids, d, is_dir, i, named, leads) = go (whole_at all w (h [] w refl)) (λ below_whole. up all blocks c names (below w d) address below_whole leads)
  where
    go : WholeAt all w → (AllWhole all (below w d) → Up all (below w d) names address) → Up all w (name ∷ names) address
    go x ih = record {
      route = at.0 ∷ t.route;
      end = t.end;
      walks = step_on all w at.0 t.route d get ∙ t.walks;
      path = t.path ∙ append_assoc w.path (d.name ∷ []) names ∙ ap (λ z. w.path ++ z ∷ names) named;
      at = t.at;
    }
      where
        f : IsReadFile blocks w.address x.fields x.cs
        f = file_at all blocks c w x

        kind : x.fields.kind ≡ Directory
        kind = ap (λ z. z.kind) (sym f.fields) ∙ ap (λ z. z.fields.kind) (sym (f.only is_dir.file is_dir.is_file)) ∙ is_dir.kind

        o : Open all w x
        o = open_at all blocks c w x kind

        r : IsReadDirectoryAt blocks w.address (directory_by all.profile x.cs).identifiers
        r = directory_at_law all blocks c w.address x.fields x.cs x.is_entry x.has_body kind o.ends

        inside : Includes (entries_by all.profile x.cs) d
        inside = subst (λ z. Includes (listed_entries z) d) (r.only ids is_dir) (included (listed_entries ids) d i)

        at : (j : ℕ) × (slice_get (entries_by all.profile x.cs) j ≡ Some d)
        at = includes_get (entries_by all.profile x.cs) d inside

        get : slice_get (entries_below all w) at.0 ≡ Some d
        get = ap (λ z. slice_get z at.0) (entries_are all w x false Directory (o.room d inside) kind) ∙ at.1

        t : Up all (below w d) names address
        t = ih (whole_below all w at.0 d get h)

-- names that differ
abbrev AllDistinct : View → Walked → Type 0
AllDistinct all w = (route : Route) (end : Walked) → walk_from all w route ≡ Some end → AllPairs (λ d e. d.name ≢ e.name) (entries_below all end)

pub cancel : {A : Type 0} (xs ys zs : List A) → xs ++ ys ≡ xs ++ zs → ys ≡ zs
cancel [] ys zs e = e
cancel (x ∷ xs) ys zs e = cancel xs ys zs cc

pub at_index : (xs : List DirEntry) (j : ℕ) (d x : DirEntry) → slice_get xs j ≡ Some x → (j < length xs) × (slice_index_or xs j d ≡ x)
at_index [] j d x e = absurd (let z : ⊥ = cc in z)
at_index (y ∷ ys) zero d x e = (omega arith, cc)
at_index (y ∷ ys) (suc j) d x e = let r : (j < length ys) × (slice_index_or ys j d ≡ x) = at_index ys j d x e in ((let h : j < length ys = r.0 in omega arith), r.1)

le_or_lt : (a b : ℕ) → (a ≤ b) ⊎ (b < a)
le_or_lt a b = grind arith

pub same_place : (xs : List DirEntry) (j k : ℕ) (d e : DirEntry) → AllPairs (λ d e. d.name ≢ e.name) xs → slice_get xs j ≡ Some d → slice_get xs k ≡ Some e → d.name ≡ e.name → j ≡ k
same_place xs j k d e h p q n = go (le_or_lt j k)
  where
    x : (j < length xs) × (slice_index_or xs j d ≡ d)
    x = at_index xs j d d p

    y : (k < length xs) × (slice_index_or xs k d ≡ e)
    y = at_index xs k d e q

    same : (slice_index_or xs j d).name ≡ (slice_index_or xs k d).name
    same = ap (λ z. z.name) x.1 ∙ n ∙ ap (λ z. z.name) (sym y.1)

    below : (j ≡ k) ⊎ (j < k) → j ≡ k
    below (inl l) = l
    below (inr l) = absurd (h j k d l y.0 same)

    split : (a b : ℕ) → a ≤ b → (a ≡ b) ⊎ (a < b)
    split a b l = grind arith

    go : (j ≤ k) ⊎ (k < j) → j ≡ k
    go (inl l) = below (split j k l)
    go (inr l) = absurd (h k j d l x.0 (sym same))

-- a route only adds names
pub record Adds (w end : Walked) : Type 0 where
  pub names : List (List ℕ)
  pub path : end.path ≡ w.path ++ names

pub adds : (all : View) (route : Route) (w end : Walked) → walk_from all w route ≡ Some end → Adds w end
adds all [] w end e = record { names = []; path = (let same : end ≡ w = cc in ap (λ z. z.path) same) ∙ sym (append-nil w.path) }
adds all (j ∷ js) w end e = go (step_inv all w j js end e) (λ d. adds all js (below w d) end)
  where
    go : Step all w j js end → ((d : DirEntry) → walk_from all (below w d) js ≡ Some end → Adds (below w d) end) → Adds w end
    go s ih = let t : Adds (below w s.entry) end = ih s.entry s.then in record { names = s.entry.name ∷ t.names; path = t.path ∙ append_assoc w.path (s.entry.name ∷ []) t.names }

pub longer : {A : Type 0} (w v : Walked) (name : List ℕ) (names : List (List ℕ)) → v.path ≡ w.path ++ name ∷ names → v.path ≡ w.path → A
longer w v name names e q = absurd (let l : length w.path ≡ length w.path + suc (length names) = ap length (sym q ∙ e) ∙ length-append w.path (name ∷ names) in let z : ⊥ = omega (arith, l) in z)

only_route : (all : View) (r s : Route) (w u v : Walked) → AllDistinct all w → walk_from all w r ≡ Some u → walk_from all w s ≡ Some v → u.path ≡ v.path → r ≡ s
only_route all [] [] w u v h p q e = refl
only_route all [] (k ∷ ks) w u v h p q e = let t : Step all w k ks v = step_inv all w k ks v q in let a : Adds (below w t.entry) v = adds all ks (below w t.entry) v t.then in
    longer w v t.entry.name a.names (a.path ∙ append_assoc w.path (t.entry.name ∷ []) a.names) (sym e ∙ (let same : u ≡ w = cc in ap (λ z. z.path) same))
only_route all (j ∷ js) [] w u v h p q e = let t : Step all w j js u = step_inv all w j js u p in let a : Adds (below w t.entry) u = adds all js (below w t.entry) u t.then in
    longer w u t.entry.name a.names (a.path ∙ append_assoc w.path (t.entry.name ∷ []) a.names) (e ∙ (let same : v ≡ w = cc in ap (λ z. z.path) same))
only_route all (j ∷ js) (k ∷ ks) w u v h p q e = go (step_inv all w j js u p) (step_inv all w k ks v q) (λ d a b c. only_route all js ks (below w d) u v a b c e)
  where
    go : Step all w j js u → Step all w k ks v → ((d : DirEntry) → AllDistinct all (below w d) → walk_from all (below w d) js ≡ Some u → walk_from all (below w d) ks ≡ Some v → js ≡ ks) → j ∷ js ≡ k ∷ ks
    go s t ih = λ i. place i ∷ rest i
      where
        a : Adds (below w s.entry) u
        a = adds all js (below w s.entry) u s.then

        b : Adds (below w t.entry) v
        b = adds all ks (below w t.entry) v t.then

        tails : s.entry.name ∷ a.names ≡ t.entry.name ∷ b.names
        tails = cancel w.path (s.entry.name ∷ a.names) (t.entry.name ∷ b.names)
            (sym (append_assoc w.path (s.entry.name ∷ []) a.names) ∙ sym a.path ∙ e ∙ b.path ∙ append_assoc w.path (t.entry.name ∷ []) b.names)

        named : s.entry.name ≡ t.entry.name
        named = let x : s.entry.name ∷ a.names ≡ t.entry.name ∷ b.names = tails in cc

        place : j ≡ k
        place = same_place (entries_below all w) j k s.entry t.entry (h [] w refl) s.at t.at named

        same : s.entry ≡ t.entry
        same = let x : Some s.entry ≡ Some t.entry = sym s.at ∙ ap (slice_get (entries_below all w)) place ∙ t.at in cc

        rest : js ≡ ks
        rest = ih s.entry (λ route end x. h (j ∷ route) end (step_on all w j route s.entry s.at ∙ x)) s.then (subst (λ z. walk_from all (below w z) ks ≡ Some v) (sym same) t.then)

-- a route with this path that leads to this address
pub record IsRouteTo (all : View) (root : LongAd) (path : List (List ℕ)) (address : LongAd) : Type 0 where
  pub route : Route
  pub end : Walked
  pub leads : walked all root route ≡ Some end
  pub path_is : end.path ≡ path
  pub address_is : end.address ≡ address

pub record RoutesArePaths (all : View) (blocks : PartitionBlocks) (root : LongAd) : Type 0 where
  pub is_path : (route : Route) (w : Walked) → walked all root route ≡ Some w → Leads blocks root w.path w.address
  pub is_route : (path : List (List ℕ)) (address : LongAd) → Leads blocks root path address → IsRouteTo all root path address
  pub one : AreDistinct all root → (r s : Route) (v w : Walked) → walked all root r ≡ Some v → walked all root s ≡ Some w
      → v.path ≡ w.path → r ≡ s

-- routes are the paths of the tree; where the names of each directory differ, each path is one route
pub route_law : (all : View) (blocks : PartitionBlocks) → IsComplete all blocks → (root : LongAd) → AreWhole all root → RoutesArePaths all blocks root
unfolding walked
route_law all blocks c root h = record {
  is_path = λ route w e. let d : Down blocks (at_root root) w = down all blocks c route (at_root root) w h e in
      subst (λ z. Leads blocks root z w.address) (sym d.path) d.leads;
  is_route = λ path address l. let u : Up all (at_root root) path address = up all blocks c path (at_root root) address h l in
      record { route = u.route; end = u.end; leads = u.walks; path_is = u.path; address_is = u.at };
  one = λ distinct r s v w p q e. only_route all r s (at_root root) v w distinct p q e;
}
