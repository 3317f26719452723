-- What the steps of judging a table give.
use Rattle.std.proofs.Common.{◌≡◌, ◌≢◌, refl, sym, ◌∙◌, ap, subst, ℕ, ◌+◌, ◌≤◌, ◌==◌, ◌&&◌, Bool, true, false, List, [], ◌∷◌, ◌++◌, length, map, All, arith, Option, None}
use Rattle.std.specs.Prelude.{Contains}
use Rattle.std.proofs.lemmas.Bool.{eqb-true}
use Rattle.std.proofs.lemmas.List.Elements.{All-nil, All-cons}
use Rattle.udfs_lattice.specs.Volumes.{Blocks, ascending, not_known}
use Rattle.udfs_lattice.proofs.Inclusion.{here, there}
use Rattle.udfs_volume.specs.declared.anchors.AnchorExtents.{AnchorExtents}
use Rattle.udfs_volume.specs.declared.faults.VolumeFault.{VolumeFault}
use Rattle.udfs_volume.specs.declared.profiles.Profile.{Profile}
use Rattle.udfs_volume.specs.Answers.{Answer, IsHoles, found, holes, faulty}
use Rattle.udfs_volume.specs.Differences.{anchors_apart, copies_differ, differ_by, differ_in}
use Rattle.udfs_volume.specs.Laws.{IsBounded, IsBoundedMap}
use Rattle.udfs_volume.specs.Layout.{Layout, Partition, PartitionMap, blocks_in, layout_by, sparable, type1}
use Rattle.udfs_volume.specs.Sequence.{anchor, anchor_places, are_extents_by, shared}
use Rattle.udfs_volume.specs.LayoutParts.{partition_now, parts_now}
use Rattle.udfs_volume.specs.declared.layouts.Partition as code_partition
use Rattle.udfs_volume.specs.declared.layouts.VolumeParts.{VolumeParts}
use Rattle.udfs_space.specs.Sparing.{space}
use Rattle.udfs_space.proofs.Building.{all_bounded}
use Rattle.udfs_lawfulness.specs.Clear.{IsClear}
use Rattle.udfs_lawfulness.specs.Searching.{partitions_reason}
use Rattle.udfs_lawfulness.specs.Structures.{HasFault, asked, of_layout, of_space, sequence_blocks, sparing_blocks}
use Rattle.udfs_lawfulness.specs.Tables.{FitsMap}
use Rattle.udfs_lawfulness.specs.declared.answers.Reason.{Reason}

-- copies that differ nowhere in the extents of the anchor that is found
pub not_differ : (P : Profile) (T : Blocks) (N : ℕ) (e : AnchorExtents) → anchor T N ≡ found e → differ_in T (shared e) ≡ false → copies_differ P T N ≡ false
not_differ P T N e a d = ap (differ_by P T N) a ∙ go (are_extents_by P N e) (differ_in T (shared e)) d
  where
    go : (x y : Bool) → y ≡ false → (x && y) ≡ false
    go true y h = h
    go false y h = refl

-- without an anchor there are none
pub no_extents : (P : Profile) (T : Blocks) (N : ℕ) (ns : List ℕ) → anchor T N ≡ holes ns → copies_differ P T N ≡ false
no_extents P T N ns a = ap (differ_by P T N) a

pub no_extents_faulty : (P : Profile) (T : Blocks) (N : ℕ) (f : VolumeFault) → anchor T N ≡ faulty f → copies_differ P T N ≡ false
no_extents_faulty P T N f a = ap (differ_by P T N) a

found_same : {A : Type 0} (x y : A) → found x ≡ found y → x ≡ y
found_same x y e = cc

-- the blocks that are asked for, by those of the tables
pub asked_by : (P : Profile) (T : Blocks) (N : ℕ) (listed tables : List ℕ) → listed ≡ ascending (not_known T (anchor_places N ++ sequence_blocks T (anchor T N) ++ tables))
    → sparing_blocks (layout_by P T N) ≡ tables → listed ≡ ascending (not_known T (asked P T N))
asked_by P T N listed tables e q = e ∙ ap (λ xs. ascending (not_known T (anchor_places N ++ sequence_blocks T (anchor T N) ++ xs))) (sym q)

pub tables_of_found : (P : Profile) (T : Blocks) (N : ℕ) (l : Layout) → layout_by P T N ≡ found l → sparing_blocks (layout_by P T N) ≡ sparing_blocks (found l)
tables_of_found P T N l e = ap sparing_blocks e

pub tables_of_holes : (P : Profile) (T : Blocks) (N : ℕ) → IsHoles (layout_by P T N) → sparing_blocks (layout_by P T N) ≡ []
tables_of_holes P T N h = go (layout_by P T N) h
  where
    go : (a : Answer Layout) → IsHoles a → sparing_blocks a ≡ []
    go (found l) h = absurd h
    go (holes ns) h = refl
    go (faulty f) h = absurd h

-- ---- what is clear
pub clear_with : (P : Profile) (T : Blocks) (N : ℕ) (l : Layout) → layout_by P T N ≡ found l → anchors_apart T N ≡ None → copies_differ P T N ≡ false
    → partitions_reason T l.partitions ≡ None → ((f : VolumeFault) → space T l ≡ faulty f → ⊥) → IsClear P T N
clear_with P T N l e anchors copies maps places = record {
  anchors = anchors;
  copies = copies;
  maps = λ m q. ap (λ (k : Layout). partitions_reason T k.partitions) (sym (same m q)) ∙ maps;
  no_fault = no_fault;
}
  where
    same : (m : Layout) → layout_by P T N ≡ found m → l ≡ m
    same m q = found_same l m (sym e ∙ q)

    no_fault : (f : VolumeFault) → HasFault P T N f → ⊥
    no_fault f (of_layout q) = let z : found l ≡ faulty f = sym e ∙ q in cc
    no_fault f (of_space m q s) = places f (ap (space T) (same m q) ∙ s)

pub clear_without : (P : Profile) (T : Blocks) (N : ℕ) → IsHoles (layout_by P T N) → anchors_apart T N ≡ None → copies_differ P T N ≡ false → IsClear P T N
clear_without P T N h anchors copies = record {
  anchors = anchors;
  copies = copies;
  maps = λ m q. absurd (subst IsHoles q h);
  no_fault = no_fault;
}
  where
    no_fault : (f : VolumeFault) → HasFault P T N f → ⊥
    no_fault f (of_layout q) = subst IsHoles q h
    no_fault f (of_space m q s) = subst IsHoles q h

-- ---- the tables of a layout fit
all_from : (P : ℕ → Type 0) (xs : List ℕ) → ((x : ℕ) → Contains xs x → P x) → All P xs
all_from P [] h = All-nil P
all_from P (x ∷ xs) h = All-cons P x xs (h x (here x xs)) (all_from P xs (λ y i. h y (there x xs y i)))

map_fits : (N : ℕ) (m : PartitionMap) → N ≤ 4194303 → IsBoundedMap N m → FitsMap m
map_fits N type1 h b = tt
map_fits N (sparable packet size tables) h b = (b.from, all_from (λ place. place + blocks_in size ≤ 4194304) tables (λ place i. let e : place + blocks_in size ≤ N + 1 = b.ends place i in omega (arith, e, h)))

pub all_fit : {A : Type 0} (N : ℕ) (l : Layout) (f : A → Partition) (xs : List A) → l.partitions ≡ map f xs → N ≤ 4194303 → IsBounded N l → All (λ x. FitsMap (f x).kind) xs
all_fit N l f xs e h b = all_bounded (λ (p : Partition). FitsMap p.kind) f xs (λ p i. map_fits N p.kind h (b.of_each p (subst (λ ps. Contains ps p) (sym e) i)).bounded_map)

-- a layout that is found has no fault
pub found_no_fault : (P : Profile) (T : Blocks) (N : ℕ) (l : Layout) → layout_by P T N ≡ found l → (f : VolumeFault) → layout_by P T N ≡ faulty f → ⊥
found_no_fault P T N l e f q = let z : found l ≡ faulty f = sym e ∙ q in cc

pub holes_no_fault : (P : Profile) (T : Blocks) (N : ℕ) (ns : List ℕ) → layout_by P T N ≡ holes ns → (f : VolumeFault) → layout_by P T N ≡ faulty f → ⊥
holes_no_fault P T N ns e f q = let z : holes ns ≡ faulty f = sym e ∙ q in cc

-- a list of no length
no_length : (xs : List ℕ) (b : Bool) → b ≡ (length xs == 0) → b ≡ true → xs ≡ []
no_length [] b told is = refl
no_length (x ∷ xs) b told is = absurd (let none : length (x ∷ xs) ≡ 0 = eqb-true (length (x ∷ xs)) 0 (sym told ∙ is) in omega (arith, none))

some_length : (xs : List ℕ) (b : Bool) → b ≡ (length xs == 0) → b ≡ false → xs ≢ []
some_length [] b told is e = let z : true ≡ false = sym told ∙ is in cc
some_length (x ∷ xs) b told is e = cc

pub nothing : (ds xs : List ℕ) (b : Bool) → ds ≡ xs → b ≡ (length ds == 0) → b ≡ true → xs ≡ []
nothing ds xs b d told is = sym d ∙ no_length ds b told is

pub something : (ds xs : List ℕ) (b : Bool) → ds ≡ xs → b ≡ (length ds == 0) → b ≡ false → xs ≢ []
something ds xs b d told is e = some_length ds b told is (d ∙ e)

-- what is found of the partitions of the code
pub reason_of : (T : Blocks) (parts : VolumeParts) (ds : List code_partition.Partition) (r : Option Reason) → ds ≡ parts.partitions.items
    → r ≡ partitions_reason T (map partition_now ds) → partitions_reason T (parts_now parts).partitions ≡ r
reason_of T parts ds r d e = ap (λ xs. partitions_reason T (map partition_now xs)) (sym d) ∙ sym e
