-- The places of blocks where each block of each copy of a sparing table is known: they are the volume's.
use Rattle.std.proofs.Common.{◌≡◌, refl, sym, ◌∙◌, ap, subst, inl, inr, ℕ, ◌+◌, ◌<◌, ◌≤◌, Bool, false, List, [], ◌∷◌, length, take, drop, map, arith, Option, Some, None}
use Rattle.std.specs.Prelude.{is_none, ⊤, Contains}
use Rattle.udfs_lattice.specs.Volumes.{Agrees, Blocks, IsVolume, Volume, complete, first_known, first_known_by}
use Rattle.udfs_lattice.specs.declared.facts.Fact.TheVariants.{Known}
use Rattle.udfs_lattice.proofs.Inclusion.{Includes, contained, included}
use Rattle.udfs_lattice.proofs.PublicLaws.{complete_agrees}
use Rattle.udfs_tag.specs.Tags.{is_valid}
use Rattle.udfs_volume.specs.declared.faults.VolumeFault.{VolumeFault}
use Rattle.udfs_volume.specs.declared.profiles.Profile.{Profile}
use Rattle.udfs_volume.specs.Answers.{Answer, found, holes, faulty, and_then, unless_fault}
use Rattle.udfs_volume.specs.Laws.{IsBounded, IsBoundedMap}
use Rattle.udfs_volume.specs.Layout.{Layout, Partition, PartitionMap, blocks_in, layout_by, sparable, type1}
use Rattle.udfs_volume.proofs.PublicLaws.{layout_is_bounded_by}
use Rattle.udfs_space.specs.Laws.{IsLawfulSparing, SparingAgrees}
use Rattle.udfs_space.specs.Sparing.{Space, Spans, copies, counted, piece, place_of, space, span, span_of, spans, spared, spared_by, spared_from, spared_in, spared_unless, sparing_fault, sparing_table_bytes, unread}
use Rattle.udfs_space.proofs.PublicLaws.{any_copies}
use Rattle.udfs_lawfulness.specs.Searching.{map_reason}
use Rattle.udfs_lawfulness.specs.Tables.{map_blocks, table_blocks}
use Rattle.udfs_lawfulness.proofs.Found.{filter_same, flat_same}
use Rattle.udfs_lawfulness.proofs.Known.{AreHere, in_left, in_right, same_state}
use Rattle.udfs_lawfulness.proofs.Reached.{filter_none}
use Rattle.udfs_lawfulness.proofs.Spared.{in_copies, map_agrees}

-- ---- one block of a table
known_same : (T C : Blocks) (tables : List ℕ) (k : ℕ) → ((q : ℕ) → Includes tables q → T (q + k) ≡ C (q + k)) → first_known T (copies tables k) ≡ first_known C (copies tables k)
known_same T C [] k h = refl
known_same T C (q ∷ qs) k h = λ i. first_known_by (q + k) (h q (inl refl) i) (known_same T C qs k (λ p j. h p (inr j)) i)

some_known : (T : Blocks) (V : Volume) (tables : List ℕ) (k : ℕ) → 1 ≤ length tables → ((q : ℕ) → Includes tables q → T (q + k) ≡ Known (V (q + k))) → is_none (first_known T (copies tables k)) ≡ false
some_known T V [] k l h = absurd (let z : ⊥ = omega (arith, l) in z)
some_known T V (q ∷ qs) k l h = ap (λ s. is_none (first_known_by (q + k) s (first_known T (copies qs k)))) (h q (inl refl))

-- ---- a table
abbrev NoHoles : {A : Type 0} → Answer A → Type 0
NoHoles (found x) = ⊤
NoHoles (holes ns) = ⊥
NoHoles (faulty f) = ⊤

then_no_holes : {A B : Type 0} (a : Answer A) (f : A → Answer B) → NoHoles a → ((x : A) → NoHoles (f x)) → NoHoles (and_then a f)
then_no_holes (found x) f n g = g x
then_no_holes (holes ns) f n g = n
then_no_holes (faulty fault) f n g = tt

from_no_holes : (last packet size : ℕ) (valid : Bool) (content : List ℕ) → NoHoles (spared_from last packet size valid content)
from_no_holes last packet size valid content = go (sparing_fault last packet size valid content)
  where
    go : (o : Option VolumeFault) → NoHoles (unless_fault o (spared_in content))
    go None = tt
    go (Some f) = tt

spared_same : (T : Blocks) (V : Volume) (N : ℕ) (m : PartitionMap) → IsBoundedMap N m → AreHere T V N (map_blocks m) → spared T N m ≡ spared (complete V N) N m
unfolding spared
spared_same T V N type1 b here = refl
spared_same T V N (sparable packet size tables) b here = λ i. spared_unless tables (unread_is i) (by_is i)
  where
    C : Blocks
    C = complete V N

    n : ℕ
    n = blocks_in size

    at : (k : ℕ) → k < n → first_known T (copies tables k) ≡ first_known C (copies tables k)
    at k l = known_same T C tables k (λ q j. same_state T V N (q + k) (here (q + k) (in_copies size tables q k j l)))

    unread_is : unread T tables n ≡ unread C tables n
    unread_is = filter_same (λ k. is_none (first_known T (copies tables k))) (λ k. is_none (first_known C (copies tables k))) 0 n (λ k l m. ap is_none (at k (omega (arith, m))))

    bytes_is : sparing_table_bytes T size tables ≡ sparing_table_bytes C size tables
    bytes_is = ap (take size) (flat_same (λ k. piece (first_known T (copies tables k))) (λ k. piece (first_known C (copies tables k))) 0 n (λ k l m. ap piece (at k (omega (arith, m)))))

    some : 0 < n
    some = let f : 56 ≤ size = b.from in omega (arith, f)

    by_is : spared_by T N packet size tables ≡ spared_by C N packet size tables
    by_is = λ i. spared_from N packet size (is_valid (bytes_is i) (place_of (at 0 some i)) 0) (drop 16 (bytes_is i))

spared_no_holes : (T : Blocks) (V : Volume) (N : ℕ) (m : PartitionMap) → IsBoundedMap N m → AreHere T V N (map_blocks m) → NoHoles (spared T N m)
unfolding spared
spared_no_holes T V N type1 b here = tt
spared_no_holes T V N (sparable packet size tables) b here = subst (λ ks. NoHoles (spared_unless tables ks (spared_by T N packet size tables))) (sym none)
    (from_no_holes N packet size (is_valid (sparing_table_bytes T size tables) (place_of (first_known T (copies tables 0))) 0) (drop 16 (sparing_table_bytes T size tables)))
  where
    none : unread T tables (blocks_in size) ≡ []
    none = filter_none (λ k. is_none (first_known T (copies tables k))) 0 (blocks_in size)
        (λ k l m. some_known T V tables k b.one (λ q j. (here (q + k) (in_copies size tables q k j (omega (arith, m)))).0))

-- ---- all partitions
in_tables : (ps : List Partition) (p : Partition) (n : ℕ) → Includes ps p → Includes (map_blocks p.kind) n → Includes (table_blocks ps) n
in_tables [] p n i j = absurd i
in_tables (q ∷ qs) p n (inl e) j = in_left (map_blocks q.kind) (table_blocks qs) n (subst (λ (z : Partition). Includes (map_blocks z.kind) n) (sym e) j)
in_tables (q ∷ qs) p n (inr i) j = in_right (map_blocks q.kind) (table_blocks qs) n (in_tables qs p n i j)

spans_same : (T C : Blocks) (N : ℕ) (ps : List Partition) → ((p : Partition) → Includes ps p → spared T N p.kind ≡ spared C N p.kind) → spans T N ps ≡ spans C N ps
spans_same T C N [] h = refl
spans_same T C N (p ∷ ps) h = λ i. and_then (and_then (h p (inl refl) i) (λ s. found (span_of p s))) (λ s. and_then (spans_same T C N ps (λ q j. h q (inr j)) i) (λ ss. found (s ∷ ss)))

spans_no_holes : (T : Blocks) (N : ℕ) (ps : List Partition) → ((p : Partition) → Includes ps p → NoHoles (spared T N p.kind)) → NoHoles (spans T N ps)
spans_no_holes T N [] h = tt
spans_no_holes T N (p ∷ ps) h = then_no_holes (span T N p) (λ s. and_then (spans T N ps) (λ ss. found (s ∷ ss)))
    (then_no_holes (spared T N p.kind) (λ s. found (span_of p s)) (h p (inl refl)) (λ s. tt))
    (λ s. then_no_holes (spans T N ps) (λ ss. found (s ∷ ss)) (spans_no_holes T N ps (λ q j. h q (inr j))) (λ ss. tt))

abbrev in_space : Layout → Answer Spans → Answer Space
in_space l a = and_then a (λ ss. found (record { spans = ss; profile = l.profile }))

space_by : (T : Blocks) (l : Layout) (a : Answer Spans) → spans T l.last (map (counted l.profile T) l.partitions) ≡ a → space T l ≡ in_space l a
unfolding space
space_by T l a e = ap (in_space l) e

-- the sparing is lawful
pub lawful_sparing : (P : Profile) (T : Blocks) (V : Volume) (N : ℕ) (l : Layout) → IsVolume V N → Agrees T V N → layout_by P (complete V N) N ≡ found l
    → AreHere T V N (table_blocks l.partitions) → ((p : Partition) → Includes l.partitions p → map_reason T p.kind ≡ None)
    → ((f : VolumeFault) → space T l ≡ faulty f → ⊥) → IsLawfulSparing V N l
lawful_sparing P T V N l hv agrees whole all clear no_fault = record { tables = tables; placed = go (space T l) refl }
  where
    C : Blocks
    C = complete V N

    bounds : IsBounded N l
    bounds = layout_is_bounded_by P C N l whole

    bounded : (p : Partition) → Includes l.partitions p → IsBoundedMap N p.kind
    bounded p i = (bounds.of_each p (contained l.partitions p i)).bounded_map

    here_of : (p : Partition) → Includes l.partitions p → AreHere T V N (map_blocks p.kind)
    here_of p i n j = all n (in_tables l.partitions p n i j)

    agree : (p : Partition) → Includes l.partitions p → SparingAgrees V p.kind
    agree p i = map_agrees T V N p.kind hv (bounded p i) (here_of p i) (clear p i)

    tables : (p : Partition) → Contains l.partitions p → SparingAgrees V p.kind
    tables p c = agree p (included l.partitions p c)

    last_is : (B : Blocks) → spans B l.last l.partitions ≡ spans B N l.partitions
    last_is B = ap (λ last. spans B last l.partitions) bounds.is_last

    of_table : space T l ≡ in_space l (spans T N l.partitions)
    of_table = space_by T l (spans T N l.partitions) (any_copies P T V N l hv whole tables agrees l.profile ∙ last_is T)

    of_whole : space C l ≡ in_space l (spans C N l.partitions)
    of_whole = space_by C l (spans C N l.partitions) (any_copies P C V N l hv whole tables (complete_agrees V N) l.profile ∙ last_is C)

    same : space C l ≡ space T l
    same = of_whole ∙ ap (in_space l) (sym (spans_same T C N l.partitions (λ p i. spared_same T V N p.kind (bounded p i) (here_of p i)))) ∙ sym of_table

    no_holes : NoHoles (space T l)
    no_holes = subst NoHoles (sym of_table) (then_no_holes (spans T N l.partitions) (λ ss. found (record { spans = ss; profile = l.profile }))
        (spans_no_holes T N l.partitions (λ p i. spared_no_holes T V N p.kind (bounded p i) (here_of p i))) (λ ss. tt))

    go : (x : Answer Space) → space T l ≡ x → (s : Space) × (space C l ≡ found s)
    go (found s) q = (s, same ∙ q)
    go (holes ns) q = absurd (subst NoHoles q no_holes)
    go (faulty f) q = absurd (no_fault f q)
