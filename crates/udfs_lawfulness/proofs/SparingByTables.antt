-- The sparing tables of a lawful volume are those that the tables give.
use Rattle.std.proofs.Common.{◌≡◌, refl, sym, ◌∙◌, ap, subst, inl, inr, ℕ, ◌+◌, ◌*◌, ◌<◌, ◌≤◌, true, List, [], ◌∷◌, length, map, drop, arith}
use Rattle.std.specs.Prelude.{zero, suc, Contains, flat_map}
use Rattle.std.specs.List.{range_with_len}
use Rattle.std.proofs.lemmas.List.{length-append, length-take-le}
use Rattle.std.proofs.lemmas.List.Elements.{All-append, All-nil, All-take}
use Rattle.udfs_lattice.specs.States.{IsBlock}
use Rattle.udfs_lattice.specs.Volumes.{Blocks, IsVolume, Volume, complete}
use Rattle.udfs_lattice.proofs.Inclusion.{Includes, included, contained}
use Rattle.udfs_lattice.proofs.PublicLaws.{complete_agrees}
use Rattle.udfs_volume.specs.Answers.{found, and_then}
use Rattle.udfs_volume.specs.declared.profiles.Profile.{Profile}
use Rattle.udfs_volume.specs.Layout.{Layout, Partition, PartitionMap, type1, sparable, blocks_in}
use Rattle.udfs_volume.specs.Laws.{IsBounded, IsBoundedMap}
use Rattle.udfs_volume.proofs.Bounds.{and_then-found, unless_fault-found}
use Rattle.udfs_volume.proofs.PublicLaws.{layout_is_bounded_by}
use Rattle.udfs_space.specs.Laws.{SparingAgrees}
use Rattle.udfs_space.specs.Sparing.{Span, Spans, Spared, counted, space, span, span_of, spans, spared, spared_by, spared_from, spared_in, spared_unless, sparing_fault, unread}
use Rattle.udfs_space.specs.Standard.{first_table, table_at}
use Rattle.udfs_space.proofs.Counting.{any_copies}
use Rattle.udfs_space.proofs.SpaceLaw.{whole_table}
use Rattle.udfs_lawfulness.specs.EcmaLaws.{AreBytes}
use Rattle.udfs_lawfulness.specs.Sparing.{IsSparingTable}
use Rattle.udfs_lawfulness.proofs.PublicLaws.{sparing_tables_are_by_the_table}
use Rattle.udfs_salvage.specs.Found.{Found}
use Rattle.udfs_salvage.specs.VolumeTrees.{IsLawfulBy}
use Rattle.udfs_salvage.proofs.Openings.{ReadAs, read_as}
use Rattle.udfs_salvage.proofs.Opens.{FoundBy, found_by}
use Rattle.udfs_lawfulness.specs.ByTables.{IsSparedByTables, SparingByTables}

-- ---- the bytes of a copy
blocks_long : (volume : Volume) (a n : ℕ) → ((k : ℕ) → a ≤ k → k < a + n → IsBlock (volume k)) → (length (flat_map volume (range_with_len a n)) ≡ 2048 * n) × AreBytes (flat_map volume (range_with_len a n))
blocks_long volume a zero h = (refl, All-nil (λ x. x < 256))
blocks_long volume a (suc n) h = let first : IsBlock (volume a) = h a (omega arith) (omega arith) in
    let more : (length (flat_map volume (range_with_len (a + 1) n)) ≡ 2048 * n) × AreBytes (flat_map volume (range_with_len (a + 1) n)) = blocks_long volume (a + 1) n (λ k l m. h k (omega (arith, l)) (omega (arith, m))) in
    let whole : length (volume a) ≡ 2048 = first.whole in
    (length-append (volume a) (flat_map volume (range_with_len (a + 1) n)) ∙ omega (arith, whole, more.0), All-append (λ x. x < 256) (volume a) (flat_map volume (range_with_len (a + 1) n)) first.bytes more.1)

module _ (volume : Volume) (last size place : ℕ) (v : IsVolume volume last) (fits : place + blocks_in size ≤ last + 1) where
  blocks_are : (length (flat_map volume (range_with_len place (blocks_in size))) ≡ 2048 * blocks_in size) × AreBytes (flat_map volume (range_with_len place (blocks_in size)))
  blocks_are = blocks_long volume place (blocks_in size) (λ k l m. v.each k (omega (arith, m, fits)))

  copy_long : length (table_at volume size place) ≡ size
  copy_long = length-take-le size (flat_map volume (range_with_len place (blocks_in size))) (let n : length (flat_map volume (range_with_len place (blocks_in size))) ≡ 2048 * blocks_in size = blocks_are.0 in omega (arith, n))

  copy_bytes : AreBytes (table_at volume size place)
  copy_bytes = All-take (λ x. x < 256) size (flat_map volume (range_with_len place (blocks_in size))) blocks_are.1

-- ---- a map whose packets are found
no_holes : (blocks : Blocks) (last packet size : ℕ) (tables : List ℕ) (sp : Spared) → spared blocks last (sparable packet size tables) ≡ found sp → unread blocks tables (blocks_in size) ≡ []
unfolding spared
no_holes blocks last packet size tables sp e = by (unread blocks tables (blocks_in size)) refl
  where
    by : (ks : List ℕ) → unread blocks tables (blocks_in size) ≡ ks → ks ≡ []
    by [] q = refl
    by (k ∷ ks) q = absurd (let z : spared_unless tables (k ∷ ks) (spared_by blocks last packet size tables) ≡ found sp = ap (λ x. spared_unless tables x (spared_by blocks last packet size tables)) (sym q) ∙ e in let no : ⊥ = cc in no)

map_by_tables : (volume : Volume) (last : ℕ) (n : ℕ) (m : PartitionMap) (sp : Spared) → IsVolume volume last → IsBoundedMap last m → SparingAgrees volume m → spared (complete volume last) n m ≡ found sp → IsSparedByTables volume n m
map_by_tables volume last n type1 sp v b same e = tt
map_by_tables volume last n (sparable packet size []) sp v b same e = λ place c. absurd (included [] place c)
map_by_tables volume last n (sparable packet size (q ∷ qs)) sp v b same e = λ place c.
    subst (IsSparingTable n packet (table_at volume size place) place) (sym (first_is (inl refl)))
    ((sparing_tables_are_by_the_table n packet (table_at volume size place) (copy_bytes volume last size place v (b.ends place c))
    (let long : length (table_at volume size place) ≡ size = copy_long volume last size place v (b.ends place c) in omega (arith, long, b.from)) place sp).0
    ((λ i. spared_from n packet (copy_long volume last size place v (b.ends place c) i) (same.tags place c i) (drop 16 (table_at volume size place))) ∙ reads place (included (q ∷ qs) place c)))
  where
    reads : (place : ℕ) → Includes (q ∷ qs) place → spared_from n packet size true (drop 16 (table_at volume size place)) ≡ found sp
    reads place i = sym (whole_table (complete volume last) volume last n packet size (q ∷ qs) v b same (complete_agrees volume last) (no_holes (complete volume last) n packet size (q ∷ qs) sp e) place i) ∙ e

    first_is : Includes (q ∷ qs) q → first_table volume (sparable packet size (q ∷ qs)) ≡ sp
    first_is i = (unless_fault-found (sparing_fault n packet size true (drop 16 (table_at volume size q))) (spared_in (drop 16 (table_at volume size q))) sp (reads q i)).1

-- ---- each partition
each_map : (volume : Volume) (last n : ℕ) (ps : List Partition) (ss : Spans) → IsVolume volume last → ((p : Partition) → Includes ps p → IsBoundedMap last p.kind)
    → ((p : Partition) → Includes ps p → SparingAgrees volume p.kind) → spans (complete volume last) n ps ≡ found ss → (p : Partition) → Includes ps p → IsSparedByTables volume n p.kind
each_map volume last n [] ss v b same e p i = absurd i
each_map volume last n (x ∷ ps) ss v b same e p i = by i (each_map volume last n ps h.0 v (λ y j. b y (inr j)) (λ y j. same y (inr j)) h.1 p)
  where
    C : Blocks
    C = complete volume last

    f : (s : Span) × (span C n x ≡ found s) × (and_then (spans C n ps) (λ xs. found (s ∷ xs)) ≡ found ss)
    f = and_then-found (span C n x) (λ s. and_then (spans C n ps) (λ xs. found (s ∷ xs))) ss e

    g : (sp : Spared) × (spared C n x.kind ≡ found sp) × (found (span_of x sp) ≡ found f.0)
    g = and_then-found (spared C n x.kind) (λ sp. found (span_of x sp)) f.0 f.1

    h : (xs : Spans) × (spans C n ps ≡ found xs) × (found (f.0 ∷ xs) ≡ found ss)
    h = and_then-found (spans C n ps) (λ xs. found (f.0 ∷ xs)) ss f.2

    by : Includes (x ∷ ps) p → (Includes ps p → IsSparedByTables volume n p.kind) → IsSparedByTables volume n p.kind
    by (inl q) more = subst (λ y. IsSparedByTables volume n y.kind) q (map_by_tables volume last n x.kind g.0 v (b x (inl refl)) (same x (inl refl)) g.1)
    by (inr j) more = more j

-- the spans of a space that is found
spans_found : (profile : Profile) (volume : Volume) (last : ℕ) (lawful : IsLawfulBy profile volume last) → (ss : Spans) × (spans (complete volume last) lawful.is_volume.found_is.layout.last lawful.is_volume.found_is.layout.partitions ≡ found ss)
unfolding space
spans_found profile volume last lawful = (q.0, sym whole ∙ q.1)
  where
    C : Blocks
    C = complete volume last

    l : Layout
    l = lawful.is_volume.found_is.layout

    by : FoundBy profile C last lawful.is_volume.found_is
    by = found_by profile C last lawful.is_volume.found_is lawful.is_volume.finds

    whole : spans C l.last (map (counted l.profile C) l.partitions) ≡ spans C l.last l.partitions
    whole = any_copies profile C volume last l lawful.is_volume.volume_is by.layout_is lawful.is_volume.sparing.tables (complete_agrees volume last) l.profile

    q : (xs : Spans) × (spans C l.last (map (counted l.profile C) l.partitions) ≡ found xs) × (found (record { spans = xs; profile = l.profile }) ≡ found lawful.is_volume.found_is.space)
    q = and_then-found (spans C l.last (map (counted l.profile C) l.partitions)) (λ ss. found (record { spans = ss; profile = l.profile })) lawful.is_volume.found_is.space by.space_is

pub sparing_by_tables : SparingByTables
sparing_by_tables profile volume last lawful opened o p c = subst (λ l. IsSparedByTables volume l.last p.kind) (sym same)
    (each_map volume last f.layout.last f.layout.partitions ss.0 lawful.is_volume.volume_is
    (λ x i. (bounds.of_each x (contained f.layout.partitions x i)).bounded_map) (λ x i. lawful.is_volume.sparing.tables x (contained f.layout.partitions x i)) ss.1 p
    (included f.layout.partitions p (subst (λ l. Contains l.partitions p) same c)))
  where
    f : Found
    f = lawful.is_volume.found_is

    r : ReadAs profile volume last f
    r = read_as profile volume last lawful

    same : opened.layout ≡ f.layout
    same = ap (λ x. x.layout) (r.only opened o) ∙ ap (λ x. x.layout) r.is_found

    by : FoundBy profile (complete volume last) last f
    by = found_by profile (complete volume last) last f lawful.is_volume.finds

    bounds : IsBounded last f.layout
    bounds = layout_is_bounded_by profile (complete volume last) last f.layout by.layout_is

    ss : (ss : Spans) × (spans (complete volume last) f.layout.last f.layout.partitions ≡ found ss)
    ss = spans_found profile volume last lawful
