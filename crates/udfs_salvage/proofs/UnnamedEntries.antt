-- What an entry that no name leads to tells of the cells that are written.
use Rattle.std.proofs.Common.{◌≡◌, refl, sym, ◌∙◌, ap, subst, ℕ, zero, suc, List, [], ◌∷◌, ◌++◌, length, get_or, Option, Some, None, true, false, Bool, ◌⊎◌, inl, inr, ⊎_elim}
use Rattle.std.specs.Prelude.{slice_get, filter_map, flat_map, cond, nat_lt, ◌&&◌}
use Rattle.std.specs.List.{cons_option, range_with_len, list_any}
use Rattle.std.proofs.lemmas.Bool.{cases_Bool}
use Rattle.std.proofs.lemmas.Option.{get_or_from_slice_get}
use Rattle.udfs_lattice.specs.Volumes.{Blocks, ascending}
use Rattle.udfs_lattice.proofs.Inclusion.{Includes}
use Rattle.udfs_lattice.proofs.PublicLaws.{ascending_includes}
use Rattle.udfs_volume.specs.Answers.{found}
use Rattle.udfs_volume.specs.declared.profiles.Profile.{Profile}
use Rattle.udfs_space.specs.Places.{View, view}
use Rattle.udfs_space.specs.Sparing.{Space}
use Rattle.udfs_file.specs.Bodies.{Body, body, cells, faulty_body}
use Rattle.udfs_file.specs.declared.cells.Cell.{Cell}
use Rattle.udfs_file.specs.declared.faults.Kind.{Kind}
use Rattle.udfs_file.specs.declared.faults.Kind.TheVariants as kind
use Rattle.udfs_walk.specs.Kinds.{kind_by}
use Rattle.udfs_walk.specs.NodeBodies.{HasCells}
use Rattle.udfs_walk.specs.NodeFields.{NodeFields}
use Rattle.udfs_walk.specs.Standings.{body_standing, cells_standing, missing_blocks, runs_from, torn_or_whole}
use Rattle.udfs_walk.specs.Targets.{Target, bad, unread, entry, target, Icb, icb_at}
use Rattle.udfs_walk.specs.UnnamedEntries.{address_of, entry_alone, icbs_in, names, unnamed, unnamed_at, unnamed_with}
use Rattle.udfs_walk.specs.declared.answers.Unnamed.{Unnamed}
use Rattle.udfs_walk.specs.declared.standings.Standing.{Standing}
use Rattle.udfs_walk.specs.declared.standings.Standing.TheVariants.{Whole, Torn, Loop, Fault}
use Rattle.udfs_salvage.specs.Found.{Found}
use Rattle.udfs_salvage.specs.Reports.{Report, IsReportBy, ReportsBy, ReportsNodes}
use Rattle.udfs_walk.specs.Unsettled.{is_whole}
use Rattle.udfs_salvage.specs.UnnamedExtraction.{HasUnnamedCellsBy, is_file, is_lost_file}

-- ---- elements of lists that are put together

-- an element of two lists, one behind the other, is one of either
of_two : {A : Type 0} (xs ys : List A) (i : ℕ) (u : A) → slice_get (xs ++ ys) i ≡ Some u → ((j : ℕ) × (slice_get xs j ≡ Some u)) ⊎ ((j : ℕ) × (slice_get ys j ≡ Some u))
of_two [] ys i u at = inr (i, at)
of_two (x ∷ xs) ys zero u at = inl (zero, at)
of_two (x ∷ xs) ys (suc i) u at = ⊎_elim (λ left. inl (suc left.0, left.1)) (λ right. inr right) (of_two xs ys i u at)

-- what holds of each element of each list holds of those of all lists, one behind the other
of_all : {X A : Type 0} (f : X → List A) (P : A → Type 0) → ((x : X) (j : ℕ) (u : A) → slice_get (f x) j ≡ Some u → P u) → (xs : List X) (i : ℕ) (u : A) → slice_get (flat_map f xs) i ≡ Some u → P u
of_all f P each [] i u at = let bad : None ≡ Some u = at in absurd (let z : ⊥ = cc in z)
of_all f P each (x ∷ xs) i u at = ⊎_elim (λ left. each x left.0 u left.1) (λ right. of_all f P each xs right.0 u right.1) (of_two (f x) (flat_map f xs) i u at)

-- what holds of each answer holds of those that are kept
of_kept : {X A : Type 0} (f : X → Option A) (P : A → Type 0) → ((x : X) (u : A) → f x ≡ Some u → P u) → (xs : List X) (i : ℕ) (u : A) → slice_get (filter_map f xs) i ≡ Some u → P u
of_kept f P each [] i u at = let bad : None ≡ Some u = at in absurd (let z : ⊥ = cc in z)
of_kept {A = A} f P each (x ∷ xs) i u at = by (f x) refl i at (λ k here. of_kept f P each xs k u here)
  where
    by : (o : Option A) → f x ≡ o → (k : ℕ) → slice_get (cons_option o (filter_map f xs)) k ≡ Some u → ((j : ℕ) → slice_get (filter_map f xs) j ≡ Some u → P u) → P u
    by None is k here later = later k here
    by (Some a) is zero here later = each x u (is ∙ here)
    by (Some a) is (suc k) here later = later k here

-- ---- what is whole

none_ascending : (ns : List ℕ) → ascending ns ≡ [] → ns ≡ []
none_ascending [] e = refl
none_ascending (n ∷ ns) e = absurd (subst (λ z. Includes z n) e ((ascending_includes (n ∷ ns) n).1 (inl refl)))

none_torn : (ns : List ℕ) (runs : List (ℕ × ℕ)) → torn_or_whole ns runs ≡ Whole → ns ≡ []
none_torn [] runs e = refl
none_torn (n ∷ ns) runs e = absurd (let z : ⊥ = cc in z)

none_missing : (cs : List Cell) → cells_standing cs ≡ Whole → missing_blocks cs ≡ []
unfolding cells_standing
none_missing cs e = none_ascending (missing_blocks cs) (none_torn (ascending (missing_blocks cs)) (runs_from 0 cs) e)

-- what is a file by the rules and is whole has a body of which nothing is missing
whole_body : (P : Profile) (k : Kind) (b : Body) → is_file (kind_by P k) ≡ true → body_standing P k false b ≡ Whole → (cs : List Cell) × (b ≡ cells cs) × (missing_blocks cs ≡ [])
whole_body P kind.Directory b file whole = absurd (let z : ⊥ = cc in z)
whole_body P kind.File (faulty_body f) file whole = absurd (let z : ⊥ = cc in z)
whole_body P kind.File (cells cs) file whole = (cs, refl, none_missing cs whole)
whole_body P kind.Link b file whole = absurd (let z : ⊥ = cc in z)
whole_body P (kind.Other t) (faulty_body f) file whole = absurd (let z : ⊥ = cc in z)
whole_body P (kind.Other t) (cells cs) file whole = (cs, refl, none_missing cs whole)
whole_body P kind.Unread b file whole = absurd (let z : ⊥ = cc in z)

is_whole_is : (s : Standing) → is_whole s ≡ true → s ≡ Whole
is_whole_is Whole e = refl
is_whole_is (Torn torn) e = absurd (let z : ⊥ = cc in z)
is_whole_is Loop e = absurd (let z : ⊥ = cc in z)
is_whole_is (Fault f) e = absurd (let z : ⊥ = cc in z)

and_left : (a b : Bool) → (a && b) ≡ true → a ≡ true
and_left true b e = refl
and_left false b e = absurd (let z : ⊥ = cc in z)

and_right : (a b : Bool) → (a && b) ≡ true → b ≡ true
and_right true b e = e
and_right false b e = absurd (let z : ⊥ = cc in z)

-- ---- entries

-- where a lost file stands, its cells
abbrev HasBodyOf : View → Unnamed → Type 0
HasBodyOf v u = is_lost_file u ≡ true → (cs : List Cell) × HasCells v (address_of (icb_at u.reference u.block)) cs × (missing_blocks cs ≡ [])

of_target : (v : View) (icb : Icb) (t : Target) (u : Unnamed) → target v (address_of icb) ≡ t → entry_alone v icb t ≡ Some u → HasBodyOf v u
of_target v icb (bad f) u is at lost = let no : None ≡ Some u = at in absurd (let z : ⊥ = cc in z)
of_target v icb (unread n) u is at lost = let no : None ≡ Some u = at in absurd (let z : ⊥ = cc in z)
of_target v icb (entry e) u is at lost =
    let same : unnamed_with v icb e ≡ u = cc in
    subst (λ w. is_lost_file w ≡ true → (cs : List Cell) × HasCells v (address_of (icb_at w.reference w.block)) cs × (missing_blocks cs ≡ [])) same here lost
  where
    here : is_lost_file (unnamed_with v icb e) ≡ true → (cs : List Cell) × HasCells v (address_of icb) cs × (missing_blocks cs ≡ [])
    here file =
        let s = body_standing v.profile e.kind false (body v icb.reference icb.block e) in
        let rest = and_right (is_file (kind_by v.profile e.kind)) (nat_lt 0 e.size && is_whole s) file in
        let w = whole_body v.profile e.kind (body v icb.reference icb.block e) (and_left (is_file (kind_by v.profile e.kind)) _ file) (is_whole_is s (and_right (nat_lt 0 e.size) (is_whole s) rest)) in
        (w.0, record { fields = e; is_entry = is; has_body = w.1 }, w.2)

at_icb : (v : View) (nodes : List NodeFields) (icb : Icb) (u : Unnamed) → unnamed_at v nodes icb ≡ Some u → HasBodyOf v u
unfolding unnamed_at
at_icb v nodes icb u at = elim (cases_Bool (list_any (names v icb) nodes)) [
  | inl named ↦ let no : None ≡ Some u = sym (ap (λ b. cond b None (entry_alone v icb (target v (address_of icb)))) named) ∙ at in absurd (let z : ⊥ = cc in z)
  | inr not_so ↦ of_target v icb (target v (address_of icb)) u refl (sym (ap (λ b. cond b None (entry_alone v icb (target v (address_of icb)))) not_so) ∙ at)
]

-- each entry that no name leads to
unnamed_cells : (v : View) (space : Space) (nodes : List NodeFields) (i : ℕ) (u : Unnamed) → slice_get (unnamed v space nodes) i ≡ Some u → HasBodyOf v u
unnamed_cells v space nodes i u at = of_all (λ r. filter_map (unnamed_at v nodes) (icbs_in space r)) (HasBodyOf v)
    (λ r j w here. of_kept (unnamed_at v nodes) (HasBodyOf v) (at_icb v nodes) (icbs_in space r) j w here) (range_with_len 0 (length space.spans)) i u at

-- the cells of a lost file of a report
pub lost_cells : (P : Profile) (blocks : Blocks) (last i : ℕ) (r : Report) (f : Found) (u : Unnamed) → IsReportBy P blocks last r → r.volume ≡ found f
    → slice_get r.unnamed i ≡ Some u → is_lost_file u ≡ true → (cs : List Cell) × HasUnnamedCellsBy P blocks last u cs × HasCells (view blocks f.space) (address_of (icb_at u.reference u.block)) cs
lost_cells P blocks last i r f u is opens at lost = (there.0, record { opened = f; opens = sym is.volume_is ∙ opens; has_cells = there.1; none_missing = there.2 }, there.1)
  where
    listed : ReportsNodes blocks f r
    listed = subst (λ o. ReportsBy blocks o r) opens is.by_volume

    there : (cs : List Cell) × HasCells (view blocks f.space) (address_of (icb_at u.reference u.block)) cs × (missing_blocks cs ≡ [])
    there = unnamed_cells (view blocks f.space) f.space r.nodes i u (subst (λ us. slice_get us i ≡ Some u) listed.unnamed_is at) lost

-- the entry that was taken is the one at its index
pub same_entry : (us : List Unnamed) (i : ℕ) (u w : Unnamed) → slice_get us i ≡ Some u → w ≡ get_or us i w → w ≡ u
same_entry us i u w at is = is ∙ get_or_from_slice_get us i u w at
