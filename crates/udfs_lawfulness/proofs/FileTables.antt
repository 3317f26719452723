-- Files and directories are read as the tables give them.
use Rattle.std.proofs.Common.{◌≡◌, ◌≢◌, refl, sym, ◌∙◌, ap, subst, inl, inr, ◌⊎◌, ℕ, ◌+◌, Bool, true, false, List, [], ◌∷◌, ◌++◌, length, cond, None, nat_eq, eqb-true}
use Rattle.std.specs.Prelude.{not, Option, Some}
use Rattle.std.proofs.lemmas.Bool.{eq-eqb}
use Rattle.udfs_lattice.specs.States.{IsBlock}
use Rattle.udfs_tag.specs.Fields.{part, uint32_at}
use Rattle.udfs_tag.specs.declared.layouts.LongAd.{LongAd}
use Rattle.udfs_volume.specs.declared.profiles.Profile.{Profile}
use Rattle.udfs_volume.specs.Sequence.{Bytes}
use Rattle.udfs_file.specs.Bodies.{next_descriptor, up_to_next}
use Rattle.udfs_file.specs.Entries.{EntryFields, entry_fault, entry_of}
use Rattle.udfs_file.specs.Identifiers.{Identifier}
use Rattle.udfs_file.specs.Standard.{IsBodyOf, IsDirectoryBody, IsEmbeddedBody, IsExtentAt, IsExtentsBody, IsListed, Located, MayName, PartitionBlocks, recorded_in}
use Rattle.udfs_file.proofs.ChainFits.{next-cons, up-cons}
use Rattle.udfs_lawfulness.specs.Entries.{IsAreaOf, IsEntryAt}
use Rattle.udfs_lawfulness.specs.Extents.{AreWhole, IsAllocationExtent}
use Rattle.udfs_lawfulness.specs.Files.{AreIdentifiers, AreListed, IsBodyAt, IsCutAt, bytes_in}
use Rattle.udfs_lawfulness.specs.Identifiers.{IsIdentifierAt}
use Rattle.udfs_lawfulness.specs.EcmaLaws.{AreBytes, AreWholeBlocks, DirectoryLaw, FileLaw}
use Rattle.udfs_lawfulness.proofs.AreaTables.{allocation_extent_law, area_law, split}
use Rattle.udfs_lawfulness.proofs.EntryTables.{entry_law, unequal}
use Rattle.udfs_lawfulness.proofs.IdentifierTables.{identifier_law}
use Rattle.udfs_lawfulness.proofs.Reading.{field_bytes}

-- ---- the descriptors of an entry
form_of : (form count : ℕ) → AreWhole form count → (form ≡ 0) ⊎ (form ≡ 1)
form_of form count (inl h) = inl h.0
form_of form count (inr h) = inr h.0

-- the area of a continuation is whole descriptors
next_whole : (form place : ℕ) (bytes area : Bytes) → IsAllocationExtent form bytes place area → AreWhole form (length area)
next_whole form place bytes area h = subst (AreWhole form) (sym h.area_is.size) h.whole

-- ---- up to the first of type 3
cut_of : (here : List LongAd) → IsCutAt here (up_to_next here) (next_descriptor here)
cut_of [] = (refl, refl)
cut_of (d ∷ here) = by (nat_eq d.kind 3) refl (cut_of here)
  where
    by : (t : Bool) → nat_eq d.kind 3 ≡ t → IsCutAt here (up_to_next here) (next_descriptor here) → IsCutAt (d ∷ here) (up_to_next (d ∷ here)) (next_descriptor (d ∷ here))
    by true e c = inl (eqb-true d.kind 3 e, up-cons d here ∙ ap (λ b. cond (not b) (d ∷ up_to_next here) (d ∷ [])) e, next-cons d here ∙ ap (λ b. cond (not b) (next_descriptor here) (Some d)) e)
    by false e c = inr (
      λ s. let z : true ≡ false = sym (eq-eqb d.kind 3 s) ∙ e in let no : ⊥ = cc in no,
      (
        up_to_next here,
        up-cons d here ∙ ap (λ b. cond (not b) (d ∷ up_to_next here) (d ∷ [])) e,
        subst (IsCutAt here (up_to_next here)) (sym (next-cons d here ∙ ap (λ b. cond (not b) (next_descriptor here) (Some d)) e)) c,
      ),
    )

-- and there is one way to cut
one_cut : (here ds es : List LongAd) (m n : Option LongAd) → IsCutAt here ds m → IsCutAt here es n → (ds ≡ es) × (m ≡ n)
one_cut [] ds es m n (p, q) (r, s) = (p ∙ sym r, q ∙ sym s)
one_cut (d ∷ here) ds es m n (inl (k, p, q)) (inl (l, r, s)) = (p ∙ sym r, q ∙ sym s)
one_cut (d ∷ here) ds es m n (inl (k, p, q)) (inr (l, x)) = absurd (l k)
one_cut (d ∷ here) ds es m n (inr (k, x)) (inl (l, r, s)) = absurd (k l)
one_cut (d ∷ here) ds es m n (inr (k, (rest, p, c))) (inr (l, (other, r, x))) = let t : (rest ≡ other) × (m ≡ n) = one_cut here rest other m n c x in (p ∙ ap (λ y. d ∷ y) t.0 ∙ sym r, t.1)

module _ (blocks : PartitionBlocks) (whole : AreWholeBlocks blocks) (form r : ℕ) where
  list_to : (followed : List Bytes) (area : Bytes) (ds : List LongAd) → AreBytes area → AreWhole form (length area) → IsListed blocks form r area followed ds → AreListed blocks form r area followed ds
  list_to [] area ds b w h = (
    recorded_in form r area,
    next_descriptor (recorded_in form r area),
    (area_law form r area b w (recorded_in form r area)).0 refl,
    subst (λ x. IsCutAt (recorded_in form r area) x (next_descriptor (recorded_in form r area))) (sym h) (cut_of (recorded_in form r area)),
  )
  list_to (bytes ∷ more) area ds b w (d, later, n, one, at, ext, listed, e) =
      let block : IsBlock bytes = whole d.reference d.block bytes at in
      let next : IsAllocationExtent form bytes d.block (part bytes 24 (uint32_at bytes 20)) = (allocation_extent_law form (form_of form (length area) w) bytes block d.block (part bytes 24 (uint32_at bytes 20))).0 (ext, refl) in (
        recorded_in form r area,
        up_to_next (recorded_in form r area),
        d,
        part bytes 24 (uint32_at bytes 20),
        later,
        (area_law form r area b w (recorded_in form r area)).0 refl,
        subst (IsCutAt (recorded_in form r area) (up_to_next (recorded_in form r area))) n (cut_of (recorded_in form r area)),
        one,
        at,
        next,
        list_to more (part bytes 24 (uint32_at bytes 20)) later (field_bytes bytes 24 next.size (part bytes 24 (uint32_at bytes 20)) block.bytes next.area_is) (next_whole form d.block bytes (part bytes 24 (uint32_at bytes 20)) next) listed,
        e,
      )

  list_from : (followed : List Bytes) (area : Bytes) (ds : List LongAd) → AreBytes area → AreWhole form (length area) → AreListed blocks form r area followed ds → IsListed blocks form r area followed ds
  list_from [] area ds b w (here, next, a, c) = (one_cut here ds (up_to_next here) next (next_descriptor here) c (cut_of here)).0 ∙ ap up_to_next (sym ((area_law form r area b w here).1 a))
  list_from (bytes ∷ more) area ds b w (here, front, d, next, later, a, c, one, at, ext, listed, e) =
      let block : IsBlock bytes = whole d.reference d.block bytes at in
      let read : recorded_in form r area ≡ here = (area_law form r area b w here).1 a in
      let cut : (front ≡ up_to_next here) × (Some d ≡ next_descriptor here) = one_cut here front (up_to_next here) (Some d) (next_descriptor here) c (cut_of here) in
      let x : IsExtentAt form d.block bytes × (next ≡ part bytes 24 (uint32_at bytes 20)) = (allocation_extent_law form (form_of form (length area) w) bytes block d.block next).1 ext in
      let all : IsListed blocks form r next more later = list_from more next later (field_bytes bytes 24 ext.size next block.bytes ext.area_is) (next_whole form d.block bytes next ext) listed in
      (d, later, ap next_descriptor read ∙ sym cut.1, one, at, x.0, subst (λ y. IsListed blocks form r y more later) x.1 all, e ∙ ap (λ y. y ++ later) (cut.0 ∙ ap up_to_next (sym read)))

-- ---- the body
module _ (blocks : PartitionBlocks) (whole : AreWholeBlocks blocks) (r b : ℕ) (bytes : Bytes) (block : IsBlock bytes) (e : EntryFields) (body : List Located) where
  pub area_bytes : IsEntryAt bytes b e → AreBytes e.area
  area_bytes (inl h) = field_bytes bytes (176 + h.attributes) h.descriptors e.area block.bytes h.area
  area_bytes (inr h) = field_bytes bytes (216 + h.attributes) h.descriptors e.area block.bytes h.area

  not_embedded : (count : ℕ) → e.form ≢ 3 → IsAreaOf e.form count → AreWhole e.form count
  not_embedded count n (inl h) = h
  not_embedded count n (inr h) = absurd (n h)

  area_whole : IsEntryAt bytes b e → e.form ≢ 3 → AreWhole e.form (length e.area)
  area_whole (inl h) n = subst (AreWhole e.form) (sym h.area.size) (not_embedded h.descriptors n h.whole)
  area_whole (inr h) n = subst (AreWhole e.form) (sym h.area.size) (not_embedded h.descriptors n h.whole)

  body_to : IsEntryAt bytes b e → IsBodyOf blocks r b e body → IsBodyAt blocks r b e body
  body_to i h = by (nat_eq e.form 3) refl h
    where
      by : (t : Bool) → nat_eq e.form 3 ≡ t → cond t (IsEmbeddedBody b e body) (IsExtentsBody blocks r e body) → IsBodyAt blocks r b e body
      by true q h = inl (eqb-true e.form 3 q, h)
      by false q h = let n : e.form ≢ 3 = λ s. let z : true ≡ false = sym (eq-eqb e.form 3 s) ∙ q in let no : ⊥ = cc in no in
          inr (
            n,
            record {
              followed = h.followed;
              descriptors = h.descriptors;
              listed = list_to blocks whole e.form r h.followed e.area h.descriptors (area_bytes i) (area_whole i n) h.listed;
              limit = h.limit;
              sound = h.sound;
              bytes = h.bytes;
              together = h.together;
              enough = h.enough;
              is = h.is;
            },
          )

  body_from : IsEntryAt bytes b e → IsBodyAt blocks r b e body → IsBodyOf blocks r b e body
  body_from i (inl (q, h)) = subst (λ t. cond t (IsEmbeddedBody b e body) (IsExtentsBody blocks r e body)) (sym (eq-eqb e.form 3 q)) h
  body_from i (inr (n, h)) = let x : IsExtentsBody blocks r e body = record {
    followed = h.followed;
    descriptors = h.descriptors;
    listed = list_from blocks whole e.form r h.followed e.area h.descriptors (area_bytes i) (area_whole i n) h.listed;
    limit = h.limit;
    sound = h.sound;
    bytes = h.bytes;
    together = h.together;
    enough = h.enough;
    is = h.is;
  } in subst (λ t. cond t (IsEmbeddedBody b e body) (IsExtentsBody blocks r e body)) (sym (unequal e.form 3 n)) x

pub file_law : FileLaw
file_law blocks whole r b bytes at e body = (to, from)
  where
    block : IsBlock bytes
    block = whole r b bytes at

    to : (entry_fault bytes b ≡ None) × (e ≡ entry_of bytes) × IsBodyOf blocks r b e body → IsEntryAt bytes b e × IsBodyAt blocks r b e body
    to (s, q, h) = let i : IsEntryAt bytes b e = (entry_law bytes block b e).0 (s, q) in (i, body_to blocks whole r b bytes block e body i h)

    from : IsEntryAt bytes b e × IsBodyAt blocks r b e body → (entry_fault bytes b ≡ None) × (e ≡ entry_of bytes) × IsBodyOf blocks r b e body
    from (i, h) = let x : (entry_fault bytes b ≡ None) × (e ≡ entry_of bytes) = (entry_law bytes block b e).1 i in (x.0, x.1, body_from blocks whole r b bytes block e body i h)

-- ---- directories
bytes_append : (xs ys : List Located) → bytes_in (xs ++ ys) ≡ bytes_in xs ++ bytes_in ys
bytes_append [] ys = refl
bytes_append (x ∷ xs) ys = ap (λ zs. x.0 ∷ zs) (bytes_append xs ys)

parts_are : (body piece rest : List Located) → AreBytes (bytes_in body) → body ≡ piece ++ rest → AreBytes (bytes_in piece) × AreBytes (bytes_in rest)
parts_are body piece rest b e = split (bytes_in body) (bytes_in piece) (bytes_in rest) b (ap bytes_in e ∙ bytes_append piece rest)

ids_to : (profile : Profile) (ids : List Identifier) (body : List Located) → AreBytes (bytes_in body) → IsDirectoryBody profile body ids → AreIdentifiers profile body ids
ids_to profile [] body b h = h
ids_to profile (id ∷ ids) body b (piece, rest, e, i, more) =
    let s : AreBytes (bytes_in piece) × AreBytes (bytes_in rest) = parts_are body piece rest b e in
    let t : (place : ℕ) × MayName profile piece place × IsIdentifierAt (bytes_in piece) place id = (identifier_law profile piece s.0 id).0 i in
    (piece, rest, t.0, e, t.1, t.2, ids_to profile ids rest s.1 more)

ids_from : (profile : Profile) (ids : List Identifier) (body : List Located) → AreBytes (bytes_in body) → AreIdentifiers profile body ids → IsDirectoryBody profile body ids
ids_from profile [] body b h = h
ids_from profile (id ∷ ids) body b (piece, rest, place, e, may, i, more) =
    let s : AreBytes (bytes_in piece) × AreBytes (bytes_in rest) = parts_are body piece rest b e in
    (piece, rest, e, (identifier_law profile piece s.0 id).1 (place, may, i), ids_from profile ids rest s.1 more)

pub directory_law : DirectoryLaw
directory_law profile body b ids = (λ h. ids_to profile ids body b h, λ h. ids_from profile ids body b h)
