-- Areas of allocation descriptors are read as their tables give them.
use Rattle.std.proofs.Common.{◌≡◌, refl, sym, ◌∙◌, ap, subst, inl, inr, ◌⊎◌, ℕ, ◌+◌, ◌*◌, ◌/◌, ◌%◌, ◌^◌, ◌<◌, ◌≤◌, List, [], ◌∷◌, ◌++◌, length, map, take, drop, cond, nat_eq, arith}
use Rattle.std.specs.Prelude.{zero, suc}
use Rattle.std.specs.List.{range_with_len}
use Rattle.std.proofs.lemmas.List.{drop-append-le, drop-drop, drop_at, length-append, length-drop, length-take-le, take-append-drop, take_at}
use Rattle.std.proofs.lemmas.List.Elements.{All-drop, All-same, All-take}
use Rattle.byteorder.specs.Endian.{little_number}
use Rattle.byteorder.specs.Numbers.{little_from-append}
use Rattle.udfs_tag.specs.Fields.{long_ad_of, part, short_ad_of, uint16_at, uint32_at}
use Rattle.udfs_tag.specs.declared.layouts.LongAd.{LongAd}
use Rattle.udfs_file.specs.Bodies.{long_of, recorded_at}
use Rattle.udfs_file.specs.Entries.{descriptor_size}
use Rattle.udfs_file.specs.Standard.{recorded_in}
use Rattle.udfs_lawfulness.specs.Extents.{AreRecorded, AreWhole, IsLongAd, IsOfForm}
use Rattle.udfs_lawfulness.specs.EcmaLaws.{AllocationExtentLaw, AreBytes, AreaLaw}
use Rattle.udfs_lawfulness.proofs.ExtentTables.{long_is, long_of_bytes, short_is, short_of}
use Rattle.udfs_lawfulness.proofs.MapTables.{range_shift}
use Rattle.udfs_lawfulness.proofs.Reading.{field_by, field_fits, field_is, holds_is, holds_of}
use Rattle.udfs_lawfulness.proofs.TagTables.{tag_law}

-- ---- the first descriptor of an area
-- a number in the front of bytes
front_number : (xs ys : List ℕ) (p c : ℕ) → p + c ≤ length xs → little_number c (drop p (xs ++ ys)) ≡ little_number c (drop p xs)
front_number xs ys p c l = ap (little_number c) (drop-append-le p xs ys (omega (arith, l))) ∙ little_from-append c (drop p xs) ys (omega (arith, l, length-drop p xs))

-- the reader of a form
abbrev read : ℕ → ℕ → List ℕ → LongAd
read form r bytes = cond (nat_eq form 0) (long_of r (short_ad_of bytes)) (long_ad_of bytes)

short_front : (r : ℕ) (xs ys : List ℕ) → length xs ≡ 8 → read 0 r (xs ++ ys) ≡ read 0 r xs
short_front r xs ys l = λ i. record { kind = n i / 2 ^ 30; length = n i % 2 ^ 30; block = b i; reference = r }
  where
    n : uint32_at (xs ++ ys) 0 ≡ uint32_at xs 0
    n = front_number xs ys 0 4 (omega (arith, l))

    b : uint32_at (xs ++ ys) 4 ≡ uint32_at xs 4
    b = front_number xs ys 4 4 (omega (arith, l))

long_front : (r : ℕ) (xs ys : List ℕ) → length xs ≡ 16 → read 1 r (xs ++ ys) ≡ read 1 r xs
long_front r xs ys l = λ i. record { kind = n i / 2 ^ 30; length = n i % 2 ^ 30; block = b i; reference = f i }
  where
    n : uint32_at (xs ++ ys) 0 ≡ uint32_at xs 0
    n = front_number xs ys 0 4 (omega (arith, l))

    b : uint32_at (xs ++ ys) 4 ≡ uint32_at xs 4
    b = front_number xs ys 4 4 (omega (arith, l))

    f : uint16_at (xs ++ ys) 8 ≡ uint16_at xs 8
    f = front_number xs ys 8 2 (omega (arith, l))

-- ---- an area of pieces of one size, each read by itself
module _ (size : ℕ) (one : List ℕ → LongAd) (fronts : (xs ys : List ℕ) → length xs ≡ size → one (xs ++ ys) ≡ one xs) where
  abbrev reads : List ℕ → ℕ → List LongAd
  reads area n = map (λ i. one (drop (size * i) area)) (range_with_len 0 n)

  reads_more : (piece rest : List ℕ) (n : ℕ) → length piece ≡ size → reads (piece ++ rest) (suc n) ≡ one piece ∷ reads rest n
  reads_more piece rest n l = λ i. first i ∷ range_shift (λ k. one (drop (size * k) (piece ++ rest))) (λ k. one (drop (size * k) rest)) 1 0 n later i
    where
      first : one (drop (size * 0) (piece ++ rest)) ≡ one piece
      first = ap (λ k. one (drop k (piece ++ rest))) {x = size * 0} {y = 0} (omega arith) ∙ fronts piece rest l

      later : (k : ℕ) → one (drop (size * (1 + k)) (piece ++ rest)) ≡ one (drop (size * (0 + k)) rest)
      later k = ap (λ j. one (drop j (piece ++ rest))) {x = size * (1 + k)} {y = size + size * (0 + k)} (grind arith)
          ∙ ap one (sym (drop-drop (size * (0 + k)) size (piece ++ rest))) ∙ ap (λ x. one (drop (size * (0 + k)) x)) (drop_at piece rest size l)

  -- pieces, each of which is read as a descriptor
  ArePieces : List ℕ → List LongAd → Type 0
  ArePieces area [] = area ≡ []
  ArePieces area (d ∷ ds) = (piece : List ℕ) × (rest : List ℕ) × (area ≡ piece ++ rest) × (length piece ≡ size) × (d ≡ one piece) × ArePieces rest ds

  pieces_are : (ds : List LongAd) (area : List ℕ) → ArePieces area ds → reads area (length ds) ≡ ds
  unfolding ArePieces
  pieces_are [] area h = refl
  pieces_are (d ∷ ds) area (piece, rest, e, l, q, more) = ap (λ x. reads x (suc (length ds))) e ∙ reads_more piece rest (length ds) l ∙ (λ i. sym q i ∷ pieces_are ds rest more i)

  pieces_long : (ds : List LongAd) (area : List ℕ) → ArePieces area ds → length area ≡ length ds * size
  unfolding ArePieces
  pieces_long [] area e = ap length e ∙ omega arith
  pieces_long (d ∷ ds) area (piece, rest, e, l, q, more) = let n : length rest ≡ length ds * size = pieces_long ds rest more in
      ap length e ∙ length-append piece rest ∙ grind (arith, n, l)

  pieces_of : (n : ℕ) (area : List ℕ) → length area ≡ n * size → ArePieces area (reads area n)
  unfolding ArePieces
  pieces_of zero area l = empty area (l ∙ omega arith)
    where
      empty : (xs : List ℕ) → length xs ≡ 0 → xs ≡ []
      empty [] e = refl
      empty (x ∷ xs) e = absurd (let z : ⊥ = omega (arith, e) in z)
  pieces_of (suc n) area l = subst (λ x. ArePieces x (reads x (suc n))) (take-append-drop size area)
      (subst (ArePieces (take size area ++ drop size area)) (sym (reads_more (take size area) (drop size area) n long))
      (take size area, drop size area, refl, long, refl, pieces_of n (drop size area) left))
    where
      whole : length area ≡ size + n * size
      whole = l ∙ grind arith

      long : length (take size area) ≡ size
      long = length-take-le size area (omega (arith, whole))

      left : length (drop size area) ≡ n * size
      left = length-drop size area ∙ omega (arith, whole)

-- ---- the two forms
-- the pieces of bytes are bytes
pub split : (area piece rest : List ℕ) → AreBytes area → area ≡ piece ++ rest → AreBytes piece × AreBytes rest
split area piece rest b e = (
  All-same (λ x. x < 256) piece (take (length piece) area) (sym (ap (take (length piece)) e ∙ take_at piece rest (length piece) refl)) (All-take (λ x. x < 256) (length piece) area b),
  All-same (λ x. x < 256) rest (drop (length piece) area) (sym (ap (drop (length piece)) e ∙ drop_at piece rest (length piece) refl)) (All-drop (λ x. x < 256) (length piece) area b),
)

short_piece : (r : ℕ) (piece : List ℕ) (d : LongAd) → AreBytes piece → IsOfForm 0 r piece d → (length piece ≡ 8) × (d ≡ read 0 r piece)
short_piece r piece d b (inl (e, l, h)) = (l, (λ i. record { kind = h.kind i; length = h.size i; block = h.block i; reference = h.reference i }) ∙ ap (long_of r) (short_is piece h.short b h.is))
short_piece r piece d b (inr (e, l, h)) = absurd (let z : ⊥ = omega (arith, e) in z)

piece_short : (r : ℕ) (piece : List ℕ) (d : LongAd) → AreBytes piece → length piece ≡ 8 → d ≡ read 0 r piece → IsOfForm 0 r piece d
piece_short r piece d b l q = inl (
  refl,
  l,
  record {
    short = short_ad_of piece;
    is = short_of piece b (omega (arith, l));
    kind = ap (λ x. x.kind) q;
    size = ap (λ x. x.length) q;
    block = ap (λ x. x.block) q;
    reference = ap (λ x. x.reference) q;
  },
)

long_piece : (r : ℕ) (piece : List ℕ) (d : LongAd) → AreBytes piece → IsOfForm 1 r piece d → (length piece ≡ 16) × (d ≡ read 1 r piece)
long_piece r piece d b (inl (e, l, h)) = absurd (let z : ⊥ = omega (arith, e) in z)
long_piece r piece d b (inr (e, l, h)) = (l, long_is piece d b h)

piece_long : (r : ℕ) (piece : List ℕ) (d : LongAd) → AreBytes piece → length piece ≡ 16 → d ≡ read 1 r piece → IsOfForm 1 r piece d
piece_long r piece d b l q = inr (refl, l, subst (IsLongAd piece) (sym q) (long_of_bytes piece b (omega (arith, l))))

module _ (r : ℕ) where
  shorts_to : (ds : List LongAd) (area : List ℕ) → AreBytes area → AreRecorded 0 r area ds → ArePieces 8 (read 0 r) (short_front r) area ds
  unfolding ArePieces
  shorts_to [] area b h = h
  shorts_to (d ∷ ds) area b (piece, rest, e, f, more) = let s : AreBytes piece × AreBytes rest = split area piece rest b e in
      let p : (length piece ≡ 8) × (d ≡ read 0 r piece) = short_piece r piece d s.0 f in (piece, rest, e, p.0, p.1, shorts_to ds rest s.1 more)

  shorts_from : (ds : List LongAd) (area : List ℕ) → AreBytes area → ArePieces 8 (read 0 r) (short_front r) area ds → AreRecorded 0 r area ds
  unfolding ArePieces
  shorts_from [] area b h = h
  shorts_from (d ∷ ds) area b (piece, rest, e, l, q, more) = let s : AreBytes piece × AreBytes rest = split area piece rest b e in
      (piece, rest, e, piece_short r piece d s.0 l q, shorts_from ds rest s.1 more)

  longs_to : (ds : List LongAd) (area : List ℕ) → AreBytes area → AreRecorded 1 r area ds → ArePieces 16 (read 1 r) (long_front r) area ds
  unfolding ArePieces
  longs_to [] area b h = h
  longs_to (d ∷ ds) area b (piece, rest, e, f, more) = let s : AreBytes piece × AreBytes rest = split area piece rest b e in
      let p : (length piece ≡ 16) × (d ≡ read 1 r piece) = long_piece r piece d s.0 f in (piece, rest, e, p.0, p.1, longs_to ds rest s.1 more)

  longs_from : (ds : List LongAd) (area : List ℕ) → AreBytes area → ArePieces 16 (read 1 r) (long_front r) area ds → AreRecorded 1 r area ds
  unfolding ArePieces
  longs_from [] area b h = h
  longs_from (d ∷ ds) area b (piece, rest, e, l, q, more) = let s : AreBytes piece × AreBytes rest = split area piece rest b e in
      (piece, rest, e, piece_long r piece d s.0 l q, longs_from ds rest s.1 more)

  -- as many as there is room for
  short_area : (area : List ℕ) (k : ℕ) (ds : List LongAd) → AreBytes area → length area ≡ 8 * k → (recorded_in 0 r area ≡ ds → AreRecorded 0 r area ds) × (AreRecorded 0 r area ds → recorded_in 0 r area ≡ ds)
  short_area area k ds b l = (
    λ e. subst (AreRecorded 0 r area) (sym (same k (omega (arith, l))) ∙ e) (shorts_from (reads 8 (read 0 r) (short_front r) area k) area b (pieces_of 8 (read 0 r) (short_front r) k area (omega (arith, l)))),
    λ h. let p : ArePieces 8 (read 0 r) (short_front r) area ds = shorts_to ds area b h in
        same (length ds) (let n : length area ≡ length ds * 8 = pieces_long 8 (read 0 r) (short_front r) ds area p in omega (arith, n)) ∙ pieces_are 8 (read 0 r) (short_front r) ds area p,
  )
    where
      same : (n : ℕ) → length area / 8 ≡ n → recorded_in 0 r area ≡ reads 8 (read 0 r) (short_front r) area n
      same n e = ap (λ m. map (recorded_at 0 r area) (range_with_len 0 m)) e

  long_area : (area : List ℕ) (k : ℕ) (ds : List LongAd) → AreBytes area → length area ≡ 16 * k → (recorded_in 1 r area ≡ ds → AreRecorded 1 r area ds) × (AreRecorded 1 r area ds → recorded_in 1 r area ≡ ds)
  long_area area k ds b l = (
    λ e. subst (AreRecorded 1 r area) (sym (same k (omega (arith, l))) ∙ e) (longs_from (reads 16 (read 1 r) (long_front r) area k) area b (pieces_of 16 (read 1 r) (long_front r) k area (omega (arith, l)))),
    λ h. let p : ArePieces 16 (read 1 r) (long_front r) area ds = longs_to ds area b h in
        same (length ds) (let n : length area ≡ length ds * 16 = pieces_long 16 (read 1 r) (long_front r) ds area p in omega (arith, n)) ∙ pieces_are 16 (read 1 r) (long_front r) ds area p,
  )
    where
      same : (n : ℕ) → length area / 16 ≡ n → recorded_in 1 r area ≡ reads 16 (read 1 r) (long_front r) area n
      same n e = ap (λ m. map (recorded_at 1 r area) (range_with_len 0 m)) e

pub area_law : AreaLaw
area_law form r area b (inl (e, (k, l))) ds = subst (λ f. (recorded_in f r area ≡ ds → AreRecorded f r area ds) × (AreRecorded f r area ds → recorded_in f r area ≡ ds)) (sym e) (short_area r area k ds b l)
area_law form r area b (inr (e, (k, l))) ds = subst (λ f. (recorded_in f r area ≡ ds → AreRecorded f r area ds) × (AreRecorded f r area ds → recorded_in f r area ≡ ds)) (sym e) (long_area r area k ds b l)

-- ---- allocation extent descriptors
whole_if : (form count : ℕ) → (form ≡ 0) ⊎ (form ≡ 1) → count % descriptor_size form ≡ 0 → AreWhole form count
whole_if form count (inl e) d = let q : count % 8 ≡ 0 = ap (λ f. count % descriptor_size f) (sym e) ∙ d in inl (e, (count / 8, omega (arith, q)))
whole_if form count (inr e) d = let q : count % 16 ≡ 0 = ap (λ f. count % descriptor_size f) (sym e) ∙ d in inr (e, (count / 16, omega (arith, q)))

if_whole : (form count : ℕ) → AreWhole form count → count % descriptor_size form ≡ 0
if_whole form count (inl (e, (k, q))) = let d : count % 8 ≡ 0 = omega (arith, q) in ap (λ f. count % descriptor_size f) e ∙ d
if_whole form count (inr (e, (k, q))) = let d : count % 16 ≡ 0 = omega (arith, q) in ap (λ f. count % descriptor_size f) e ∙ d

pub allocation_extent_law : AllocationExtentLaw
allocation_extent_law form of bytes block place area = (
  λ h. record {
    tagged = (tag_law bytes block.bytes place 258).0 h.0.0;
    size = uint32_at bytes 20;
    size_is = holds_of bytes 20 4 (omega (arith, long));
    area_is = field_by bytes 24 (uint32_at bytes 20) area (let l : 24 + uint32_at bytes 20 ≤ 2048 = h.0.1 in omega (arith, l, long)) h.1;
    whole = whole_if form (uint32_at bytes 20) of h.0.2;
  },
  λ h. let n : uint32_at bytes 20 ≡ h.size = holds_is bytes 20 4 h.size h.size_is in (
    ((tag_law bytes block.bytes place 258).1 h.tagged, omega (arith, n, long, field_fits bytes 24 h.size area h.area_is), ap (λ k. k % descriptor_size form) n ∙ if_whole form h.size h.whole),
    sym (ap (part bytes 24) n ∙ field_is bytes 24 h.size area h.area_is),
  ),
)
  where
    long : length bytes ≡ 2048
    long = block.whole
