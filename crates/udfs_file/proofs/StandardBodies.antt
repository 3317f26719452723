-- Over a complete partition a body that the standard reads has no fault, and is the body by its definition.
use Rattle.std.proofs.Common.{◌≡◌, refl, sym, ◌∙◌, ap, subst, inl, inr, ◌⊎◌, ℕ, ◌+◌, ◌-◌, ◌*◌, ◌<◌, ◌≤◌, ◌%◌, min, Bool, true, false, not, List, [], ◌∷◌, ◌++◌, length, take, map, cond, ◌&&◌, ◌||◌, arith, Option, Some, None, nat_eq, nat_le, nat_lt, add-zero, is_none}
use Rattle.std.specs.Prelude.{zero, suc, flat_map, take_while, option_map}
use Rattle.std.specs.List.{range_with_len, list_any}
use Rattle.std.proofs.lemmas.Bool.{eqb-true, leb-true, le-leb}
use Rattle.std.proofs.lemmas.List.{length-append}
use Rattle.std.proofs.lemmas.List.Sums.{take_while-cons}
use Rattle.udfs_volume.specs.Sequence.{Bytes}
use Rattle.udfs_volume.specs.Layout.{blocks_in}
use Rattle.udfs_lattice.specs.declared.facts.Fact.TheVariants.{Known}
use Rattle.udfs_tag.specs.declared.layouts.LongAd.{LongAd}
use Rattle.udfs_tag.specs.Faults.{first_fault}
use Rattle.udfs_tag.specs.Fields.{part, uint32_at}
use Rattle.udfs_tag.specs.Tags.{is_valid}
use Rattle.udfs_space.specs.Places.{View}
use Rattle.udfs_volume.specs.Profiles.{takes_tail}
use Rattle.udfs_file.specs.Entries.{EntryFields, descriptor_size}
use Rattle.udfs_file.specs.Bodies.{Next, no_more, area_at, broken, Descriptors, covers, cells_in, extent_fault, continuation_fault, next_of, next_if, next_area, next_descriptor, descriptors_in, joined, no_descriptors, chain, allocation_descriptors, extent_cells, Body, cells, faulty_body, body_unless, extents_body, extents_body_by, embedded_body, body}
use Rattle.udfs_file.specs.declared.cells.Cell.{Cell}
use Rattle.udfs_file.specs.declared.cells.Cell.TheVariants.{Byte}
use Rattle.udfs_file.specs.declared.faults.NodeFault.TheVariants.{Short, Chain, Range, Reference, Odd}
use Rattle.udfs_file.specs.Standard.{PartitionBlocks, Located, extent_bytes, up_to_end, IsExtentAt, IsEmbeddedBody}
use Rattle.udfs_file.proofs.CountedBodies.{IsExtentOf, AreExtentsOf, IsJoined, IsExtentsBody, IsBodyOf}
use Rattle.udfs_file.proofs.StandardTails.{blocks_fit, body_as_counted, bytes_most, min_left}
use Rattle.udfs_file.specs.Complete.{HasPartitions, IsReadBody, IsComplete, StandardBodies, as_cells}
use Rattle.udfs_file.proofs.BodyFrom.{from, le_or_lt, body-from, is_lt, not_le, not_lt}
use Rattle.udfs_file.proofs.BodyFrom as front
use Rattle.udfs_file.proofs.Parts.{from-done, from-on}
use Rattle.udfs_file.proofs.ChainFits.{is_other, next-cons, onto}
use Rattle.udfs_file.proofs.Tails.{body_counted}
use Rattle.udfs_file.proofs.WholeBodies.{IsJoinedBy, area-cons, area_chain, body_law, bytes_of, is_three, not_three}

-- the body has no fault
abbrev HasCells : Body → Type 0
HasCells b = (cs : List Cell) × (b ≡ cells cs)

-- ---- a block that the standard finds has a place
record IsPlaced (all : View) (r b : ℕ) (bytes : Bytes) : Type 0 where
  at : ℕ
  place : all.place r b ≡ Some at
  known : all.blocks at ≡ Known bytes
  within : nat_le all.partitions r ≡ false

placed : (all : View) (blocks : PartitionBlocks) → IsComplete all blocks → HasPartitions all → (r b : ℕ) (bytes : Bytes) → blocks.at r b ≡ Some bytes → IsPlaced all r b bytes
placed all blocks w has r b bytes e = go (all.place r b) refl
  where
    go : (o : Option ℕ) → all.place r b ≡ o → IsPlaced all r b bytes
    go None q = absurd (let z : None ≡ Some bytes = sym (w.nowhere r b q) ∙ e in let x : ⊥ = cc in x)
    go (Some n) q = let t : (x : Bytes) × (all.blocks n ≡ Known x) × (blocks.at r b ≡ Some x) × (length x ≡ 2048) = w.there r b n q in
        let same : t.0 ≡ bytes = (let z : Some (t.0) ≡ Some bytes = sym t.2 ∙ e in cc) in
        record { at = n; place = q; known = t.1 ∙ ap Known same; within = not_le all.partitions r (has r b n q) }

-- ---- an extent of the standard has no fault
clear_three : {A : Type 0} (a b c : Bool) (x y z : A) → a ≡ false → b ≡ false → c ≡ false → first_fault ((a, x) ∷ (b, y) ∷ (c, z) ∷ []) ≡ None
clear_three a b c x y z p q r = λ i. first_fault ((p i, x) ∷ (q i, y) ∷ (r i, z) ∷ [])

none_absent : (p : ℕ → Bool) (a n : ℕ) → ((j : ℕ) → j < n → p (a + j) ≡ false) → list_any p (range_with_len a n) ≡ false
none_absent p a zero h = refl
none_absent p a (suc n) h = (λ i. first i || list_any p (range_with_len (a + 1) n))
    ∙ none_absent p (a + 1) n (λ j l. ap p (let g : a + 1 + j ≡ a + (1 + j) = omega arith in g) ∙ h (1 + j) (omega (arith, l)))
  where
    first : p a ≡ false
    first = ap p (sym (add-zero a)) ∙ h 0 (omega arith)

odd_clear : (c size len : ℕ) (k : Bool) → (c + len < size → len % 2048 ≡ 0) → (k && nat_lt (c + len) size && not (nat_eq (len % 2048) 0)) ≡ false
odd_clear c size len false h = refl
odd_clear c size len true h = go (le_or_lt size (c + len))
  where
    go : (size ≤ c + len) ⊎ (c + len < size) → (nat_lt (c + len) size && not (nat_eq (len % 2048) 0)) ≡ false
    go (inl l) = ap (λ b. b && not (nat_eq (len % 2048) 0)) (not_lt (c + len) size l)
    go (inr l) = ap (λ b. b && not (nat_eq (len % 2048) 0)) (is_lt (c + len) size l) ∙ ap (λ n. not (nat_eq n 0)) (h l)

in_first : (j m l : ℕ) → j < blocks_in m → m ≤ l → 2048 * j < l
in_first j m l p q = omega (arith, p, q)

in_body : (j l s c : ℕ) → c < s → j < blocks_in (min l (s - c)) → c + 2048 * j < s
in_body j l s c q p = let h : min l (s - c) ≤ s - c = grind arith in omega (arith, p, q, h)

sound_extent : (all : View) (blocks : PartitionBlocks) → IsComplete all blocks → HasPartitions all → (size c : ℕ) (d : LongAd) → c < size → 0 < d.length → covers d ≡ d.length
    → IsExtentOf blocks c size d → extent_fault all size (c, d) ≡ None
sound_extent all blocks w has size c d l long cover x = clear_three (nat_eq d.kind 0 && nat_le all.partitions d.reference) (nat_eq d.kind 0 && list_any absent (range_with_len 0 (blocks_in m)))
    (not (nat_eq d.kind 3) && nat_lt (c + d.length) size && not (nat_eq (d.length % 2048) 0)) Reference Range Odd
    (referred (nat_eq d.kind 0) refl) (there (nat_eq d.kind 0) refl) (odd_clear c size d.length (not (nat_eq d.kind 3)) x.full)
  where
    m : ℕ
    m = cells_in size (c, d)

    absent : ℕ → Bool
    absent j = is_none (all.place d.reference (d.block + j))

    block : nat_eq d.kind 0 ≡ true → (j : ℕ) → j < blocks_in m → (bytes : Bytes) × IsPlaced all d.reference (d.block + j) bytes
    block e j h = let less : m ≤ d.length = subst (λ z. m ≤ z) cover (min_left (covers d) (size - c)) in
        let t : (bytes : Bytes) × (blocks.at d.reference (d.block + j) ≡ Some bytes) = x.there (eqb-true d.kind 0 e) j (in_first j m d.length h less) (in_body j (covers d) size c l h) in
        (t.0, placed all blocks w has d.reference (d.block + j) t.0 t.1)

    some : 0 < blocks_in m
    some = let a : covers d ≡ d.length = cover in let b : m ≡ min d.length (size - c) = ap (λ z. min z (size - c)) a in
        let p : 0 < min d.length (size - c) = grind (arith, l, long) in omega (arith, b, p)

    referred : (b : Bool) → nat_eq d.kind 0 ≡ b → (b && nat_le all.partitions d.reference) ≡ false
    referred true e = (block e 0 some).1.within
    referred false e = refl

    there : (b : Bool) → nat_eq d.kind 0 ≡ b → (b && list_any absent (range_with_len 0 (blocks_in m))) ≡ false
    there true e = none_absent absent 0 (blocks_in m) (λ j h. let t : (bytes : Bytes) × IsPlaced all d.reference (d.block + j) bytes = block e j h in
        ap (λ z. is_none (all.place d.reference (d.block + z))) (let g : 0 + j ≡ j = omega arith in g) ∙ ap is_none (t.1.place))
    there false e = refl

-- ---- one descriptor is taken
taken_on : (v : View) (size : ℕ) (behind : Next) (c : ℕ) (d : LongAd) (ds : List LongAd) → c < size → nat_lt 0 d.length ≡ true → extent_fault v size (c, d) ≡ None
    → HasCells (from v size behind (c + covers d) ds) → HasCells (from v size behind c (d ∷ ds))
taken_on v size behind c d ds l long clear (cs, e) = (
  extent_cells v size (c, d) ++ cs,
  from-on v size behind c d ds l ∙ (λ i. cond (long i) (body_unless (clear i) (front.onto (extent_cells v size (c, d)) (e i))) (faulty_body Short)),
)

done : (v : View) (size : ℕ) (behind : Next) (c : ℕ) (ds : List LongAd) → size ≤ c → HasCells (from v size behind c ds)
done v size behind c ds h = ([], from-done v size behind c ds h)

-- ---- the extents that are left
-- What the standard reads from cell c on.
record Left (blocks : PartitionBlocks) (size c : ℕ) (xs : List LongAd) : Type 0 where
  sound : AreExtentsOf blocks c size (up_to_end xs)
  enough : size - c ≤ length (bytes_of blocks xs)

nothing_left : (blocks : PartitionBlocks) (size c : ℕ) (xs : List LongAd) → Left blocks size c xs → xs ≡ [] → size ≤ c
nothing_left blocks size c xs h e = let p : size - c ≤ 0 = subst (λ z. size - c ≤ length (bytes_of blocks z)) e h.enough in omega (arith, p)

-- behind the first extent
left_on : (blocks : PartitionBlocks) (size c : ℕ) (d : LongAd) (xs : List LongAd) → nat_lt 0 d.length ≡ true → Left blocks size c (d ∷ xs) → IsExtentOf blocks c size d × Left blocks size (c + d.length) xs
left_on blocks size c d xs long h = (both.0, record { sound = both.1; enough = enough })
  where
    ends : up_to_end (d ∷ xs) ≡ d ∷ up_to_end xs
    ends = take_while-cons (λ a. nat_lt 0 a.length) d xs ∙ ap (λ b. cond b (d ∷ up_to_end xs) []) long

    both : IsExtentOf blocks c size d × AreExtentsOf blocks (c + d.length) size (up_to_end xs)
    both = subst (AreExtentsOf blocks c size) ends h.sound

    enough : size - (c + d.length) ≤ length (bytes_of blocks xs)
    enough = let a : length (bytes_of blocks (d ∷ xs)) ≡ length (extent_bytes blocks d) + length (bytes_of blocks xs) =
        ap (λ z. length (flat_map (extent_bytes blocks) z)) ends ∙ length-append (extent_bytes blocks d) (bytes_of blocks xs) in
        let b : size - c ≤ length (bytes_of blocks (d ∷ xs)) = h.enough in let m : length (extent_bytes blocks d) ≤ d.length = bytes_most blocks d in omega (arith, a, b, m)

-- where cells are left, the first extent is not empty
is_long : (blocks : PartitionBlocks) (size c : ℕ) (d : LongAd) (xs : List LongAd) → c < size → Left blocks size c (d ∷ xs) → nat_lt 0 d.length ≡ true
is_long blocks size c d xs l h = go (nat_lt 0 d.length) refl
  where
    go : (b : Bool) → nat_lt 0 d.length ≡ b → nat_lt 0 d.length ≡ true
    go true e = e
    go false e = let ends : up_to_end (d ∷ xs) ≡ [] = take_while-cons (λ a. nat_lt 0 a.length) d xs ∙ ap (λ b. cond b (d ∷ up_to_end xs) []) e in
        let p : size - c ≤ 0 = subst (λ z. size - c ≤ length (flat_map (extent_bytes blocks) z)) ends h.enough in absurd (let x : ⊥ = omega (arith, l, p) in x)

-- ---- a continuation of the standard is followed
extent_true : (form b : ℕ) (bytes : Bytes) → IsExtentAt form b bytes → (is_valid bytes b 258 && nat_le (24 + uint32_at bytes 20) 2048 && nat_eq (uint32_at bytes 20 % descriptor_size form) 0) ≡ true
extent_true form b bytes (v, fits, even) = λ i. v i && le-leb (24 + uint32_at bytes 20) 2048 fits i && nat_eq (even i) 0

follows : (all : View) (blocks : PartitionBlocks) → IsComplete all blocks → HasPartitions all → (form : ℕ) (d : LongAd) (bytes : Bytes) → d.length ≤ 2048 → blocks.at d.reference d.block ≡ Some bytes
    → IsExtentAt form d.block bytes → next_of all form false (Some d) ≡ area_at (part bytes 24 (uint32_at bytes 20))
follows all blocks w has form d bytes short k v = (λ i. next_if form d.block (clear i) (option_map (λ n. (n, all.blocks n)) (p.place i))) ∙ (λ i. next_area form d.block p.at (p.known i))
    ∙ ap (λ b. cond b (area_at (part bytes 24 (uint32_at bytes 20))) (broken Chain)) (extent_true form d.block bytes v)
  where
    p : IsPlaced all d.reference d.block bytes
    p = placed all blocks w has d.reference d.block bytes k

    clear : continuation_fault all false d ≡ None
    clear = clear_three (nat_le all.partitions d.reference) (is_none (all.place d.reference d.block)) (nat_lt 2048 d.length || false) Reference Range Chain
        p.within (ap is_none p.place) (ap (λ b. b || false) (not_lt 2048 d.length short))

-- it covers nothing, and has no fault of an extent
no_extent : (all : View) (size c : ℕ) (d : LongAd) → nat_eq d.kind 3 ≡ true → extent_fault all size (c, d) ≡ None
no_extent all size c d three = clear_three (nat_eq d.kind 0 && nat_le all.partitions d.reference) (nat_eq d.kind 0 && list_any absent (range_with_len 0 (blocks_in (cells_in size (c, d)))))
    (not (nat_eq d.kind 3) && nat_lt (c + d.length) size && not (nat_eq (d.length % 2048) 0)) Reference Range Odd
    (ap (λ b. b && nat_le all.partitions d.reference) not_zero) (ap (λ b. b && list_any absent (range_with_len 0 (blocks_in (cells_in size (c, d))))) not_zero)
    (ap (λ b. not b && nat_lt (c + d.length) size && not (nat_eq (d.length % 2048) 0)) three)
  where
    absent : ℕ → Bool
    absent j = is_none (all.place d.reference (d.block + j))

    not_zero : nat_eq d.kind 0 ≡ false
    not_zero = ap (λ n. nat_eq n 0) (eqb-true d.kind 3 three)

-- ---- area after area
-- what is shown of the areas behind this one
abbrev Later : View → PartitionBlocks → ℕ → ℕ → ℕ → ℕ → (Bytes → Descriptors) → Type 0
Later all blocks form r size below later = (a : Bytes) (c : ℕ) (f : List Bytes) (xs : List LongAd) → IsJoined blocks form r a f xs → length f ≤ below → Left blocks size c xs
    → HasCells (from all size (later a).behind c (later a).all)

-- a continuation may be followed
abbrev HasRoom : Bool → ℕ → List Bytes → Type 0
HasRoom is_last below f = (bytes : Bytes) (more : List Bytes) → f ≡ bytes ∷ more → (is_last ≡ false) × (length more ≤ below)

more_extents : (blocks : PartitionBlocks) (form r : ℕ) (d : LongAd) (ds : List LongAd) (f : List Bytes) (xs : List LongAd) → is_other d ≡ true → IsJoinedBy blocks form r (d ∷ ds) f xs
    → (rest : List LongAd) × (xs ≡ d ∷ rest) × IsJoinedBy blocks form r ds f rest
more_extents blocks form r d ds [] xs e h = (take_while is_other ds, h ∙ take_while-cons is_other d ds ∙ ap (λ b. cond b (d ∷ take_while is_other ds) []) e, refl)
more_extents blocks form r d ds (b ∷ f) xs e (a, later, n, o, k, v, j, x) = (
  take_while is_other ds ++ later,
  x ∙ ap (λ z. z ++ later) (take_while-cons is_other d ds ∙ ap (λ b. cond b (d ∷ take_while is_other ds) []) e),
  (a, later, sym (ap (λ b. cond b (next_descriptor ds) (Some d)) e) ∙ sym (next-cons d ds) ∙ n, o, k, v, j, refl),
)

area_back : (all : View) (blocks : PartitionBlocks) → IsComplete all blocks → HasPartitions all → (form r size below : ℕ) (is_last : Bool) (later : Bytes → Descriptors) → (is_last ≡ false → Later all blocks form r size below later)
    → (ds : List LongAd) (c : ℕ) (f : List Bytes) (xs : List LongAd) → HasRoom is_last below f → IsJoinedBy blocks form r ds f xs → Left blocks size c xs
    → HasCells (from all size (area_chain all form is_last later ds).behind c (area_chain all form is_last later ds).all)
area_back all blocks w has form r size below is_last later h [] c [] xs room j left = done all size no_more c [] (nothing_left blocks size c xs left j)
area_back all blocks w has form r size below is_last later h [] c (b ∷ f) xs room (a, rest, n, o, k, v, j, x) left = absurd (let z : None ≡ Some a = n in let y : ⊥ = cc in y)
area_back all blocks w has form r size below is_last later h (d ∷ ds) c f xs room j left =
    go (λ n ys j left. area_back all blocks w has form r size below is_last later h ds n f ys room j left) (is_other d) refl (le_or_lt size c)
  where
    J : List LongAd → Descriptors
    J x = area_chain all form is_last later x

    by : (D : Descriptors) → J (d ∷ ds) ≡ D → HasCells (from all size D.behind c D.all) → HasCells (from all size (J (d ∷ ds)).behind c (J (d ∷ ds)).all)
    by D q = subst (λ z. HasCells (from all size z.behind c z.all)) (sym q)

    -- the next area
    on_next : is_other d ≡ false → c < size → (g : List Bytes) → f ≡ g → IsJoinedBy blocks form r (d ∷ ds) g xs → HasCells (from all size (J (d ∷ ds)).behind c (J (d ∷ ds)).all)
    on_next e l [] q jj = absurd (let p : size ≤ c = nothing_left blocks size c xs left (jj ∙ take_while-cons is_other d ds ∙ ap (λ b. cond b (d ∷ take_while is_other ds) []) e) in let z : ⊥ = omega (arith, l, p) in z)
    on_next e l (bytes ∷ more) q (a, rest, n, o, k, v, jj, x) = by (record { all = d ∷ (later area).all; behind = (later area).behind })
        (area-cons all form is_last later d ds false e ∙ ap (λ y. joined (d ∷ []) y later) next)
        (taken_on all size (later area).behind c d (later area).all l (is_lt 0 d.length long) (no_extent all size c d three)
        (subst (λ z. HasCells (from all size (later area).behind z (later area).all)) (sym same_cell) (h (room bytes more q).0 area c more rest jj (room bytes more q).1 (subst (Left blocks size c) (x ∙ none) left))))
      where
        at : a ≡ d
        at = let z : Some d ≡ Some a = sym (ap (λ b. cond b (next_descriptor ds) (Some d)) e) ∙ sym (next-cons d ds) ∙ n in cc

        area : Bytes
        area = part bytes 24 (uint32_at bytes 20)

        three : nat_eq d.kind 3 ≡ true
        three = is_three (nat_eq d.kind 3) e

        long : 0 < d.length
        long = subst (λ z. 0 < z.length) at o.0

        next : next_of all form is_last (Some d) ≡ area_at area
        next = ap (λ b. next_of all form b (Some d)) (room bytes more q).0
            ∙ follows all blocks w has form d bytes (subst (λ z. z.length ≤ 2048) at o.1) (subst (λ z. blocks.at z.reference z.block ≡ Some bytes) at k) (subst (λ z. IsExtentAt form z.block bytes) at v)

        none : take_while is_other (d ∷ ds) ++ rest ≡ rest
        none = ap (λ z. z ++ rest) (take_while-cons is_other d ds ∙ ap (λ b. cond b (d ∷ take_while is_other ds) []) e)

        same_cell : c + covers d ≡ c
        same_cell = ap (λ b. c + cond b 0 d.length) three ∙ add-zero c

    go : ((n : ℕ) (ys : List LongAd) → IsJoinedBy blocks form r ds f ys → Left blocks size n ys → HasCells (from all size (J ds).behind n (J ds).all))
        → (b : Bool) → is_other d ≡ b → (size ≤ c) ⊎ (c < size) → HasCells (from all size (J (d ∷ ds)).behind c (J (d ∷ ds)).all)
    go ih b e (inl l) = done all size (J (d ∷ ds)).behind c (J (d ∷ ds)).all l
    go ih true e (inr l) = by (onto d (J ds)) (area-cons all form is_last later d ds true e)
        (taken_on all size (J ds).behind c d (J ds).all l long (sound_extent all blocks w has size c d l (leb-true 1 d.length long) cover both.0)
        (subst (λ n. HasCells (from all size (J ds).behind (c + n) (J ds).all)) (sym cover) (ih (c + d.length) m.0 m.2 both.1)))
      where
        m : (rest : List LongAd) × (xs ≡ d ∷ rest) × IsJoinedBy blocks form r ds f rest
        m = more_extents blocks form r d ds f xs e j

        here : Left blocks size c (d ∷ m.0)
        here = subst (Left blocks size c) m.1 left

        long : nat_lt 0 d.length ≡ true
        long = is_long blocks size c d m.0 l here

        both : IsExtentOf blocks c size d × Left blocks size (c + d.length) m.0
        both = left_on blocks size c d m.0 long here

        cover : covers d ≡ d.length
        cover = ap (λ b. cond b 0 d.length) (not_three (nat_eq d.kind 3) e)
    go ih false e (inr l) = on_next e l f refl j

by_area : (blocks : PartitionBlocks) (form r : ℕ) (area : Bytes) (f : List Bytes) (xs : List LongAd) → IsJoined blocks form r area f xs → IsJoinedBy blocks form r (descriptors_in (takes_tail blocks.profile) form r area) f xs
by_area blocks form r area [] xs h = h
by_area blocks form r area (b ∷ f) xs h = h

chain_back : (all : View) (blocks : PartitionBlocks) → IsComplete all blocks → HasPartitions all → (form r size most : ℕ) (area : Bytes) (c : ℕ) (f : List Bytes) (xs : List LongAd)
    → IsJoined blocks form r area f xs → length f ≤ most → Left blocks size c xs → HasCells (from all size (chain (takes_tail blocks.profile) all form r most area).behind c (chain (takes_tail blocks.profile) all form r most area).all)
chain_back all blocks w has form r size zero area c f xs j few left = area_back all blocks w has form r size 0 true (λ a. no_descriptors) (λ last. absurd (let z : ⊥ = cc in z))
    (descriptors_in (takes_tail blocks.profile) form r area) c f xs (λ bytes more q. absurd (let p : length f ≡ suc (length more) = ap length q in let z : ⊥ = omega (arith, few, p) in z)) (by_area blocks form r area f xs j) left
chain_back all blocks w has form r size (suc most) area c f xs j few left = area_back all blocks w has form r size most false (λ a. chain (takes_tail blocks.profile) all form r most a)
    (λ last a. chain_back all blocks w has form r size most a) (descriptors_in (takes_tail blocks.profile) form r area) c f xs
    (λ bytes more q. (refl, let p : length f ≡ suc (length more) = ap length q in omega (arith, few, p))) (by_area blocks form r area f xs j) left

extents_back : (all : View) (blocks : PartitionBlocks) → IsComplete all blocks → HasPartitions all → (r : ℕ) (entry : EntryFields) (whole : List Located) → IsExtentsBody blocks r entry whole
    → HasCells (extents_body all entry.size (allocation_descriptors all r entry))
unfolding allocation_descriptors
extents_back all blocks w has r entry whole x = (got.0, body-from all entry.size (allocation_descriptors all r entry) ∙ got.1)
  where
    got : HasCells (from all entry.size (allocation_descriptors all r entry).behind 0 (allocation_descriptors all r entry).all)
    got = subst (λ t. HasCells (from all entry.size (chain t all entry.form r 256 entry.area).behind 0 (chain t all entry.form r 256 entry.area).all)) (ap takes_tail w.profile)
        (chain_back all blocks w has entry.form r entry.size 256 entry.area 0 x.followed x.extents x.joined x.limit
        (record { sound = x.sound; enough = let e : entry.size ≤ length x.bytes = x.enough in let z : length x.bytes ≡ length (bytes_of blocks x.extents) = ap length x.together in omega (arith, e, z) }))

body_back : (all : View) (blocks : PartitionBlocks) → IsComplete all blocks → HasPartitions all → (r b : ℕ) (entry : EntryFields) (whole : List Located) → IsBodyOf blocks r b entry whole
    → HasCells (body all r b entry)
unfolding body
body_back all blocks w has r b entry whole = go (nat_eq entry.form 3)
  where
    go : (x : Bool) → cond x (IsEmbeddedBody b entry whole) (IsExtentsBody blocks r entry whole) → HasCells (cond x (embedded_body b entry) (extents_body_by all entry.form r entry.size entry.area))
    go true e = (
      map (λ x. Byte x (Some b)) (take entry.size entry.area),
      ap (λ t. cond t (cells (map (λ x. Byte x (Some b)) (take entry.size entry.area))) (faulty_body Short)) (le-leb entry.size (length entry.area) e.enough),
    )
    go false e = let q : HasCells (extents_body all entry.size (allocation_descriptors all r entry)) = extents_back all blocks w has r entry whole e in
        (q.0, body_counted all r entry q.0 q.1)

pub standard_bodies : StandardBodies
standard_bodies all blocks w has r b entry whole is = got.1 ∙ ap cells (read.is ∙ ap as_cells (sym (read.only whole is)))
  where
    got : HasCells (body all r b entry)
    got = body_back all blocks w has r b entry whole (body_as_counted blocks (blocks_fit all blocks w) r b entry whole is)

    read : IsReadBody blocks r b entry got.0
    read = body_law all blocks w r b entry got.0 got.1
