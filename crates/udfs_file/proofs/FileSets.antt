-- The file set over a view of which a part is known, and over a complete one.
use Rattle.std.proofs.Common.{◌≡◌, refl, sym, ◌≢◌, ◌∙◌, ap, ℕ, Bool, true, false, not, cond, [], ◌∷◌, Option, Some, None, nat_le, is_none, ◌||◌}
use Rattle.std.specs.Prelude.{option_map, length, ◌==◌}
use Rattle.std.proofs.lemmas.Bool.{eqb-true, true≢false}
use Rattle.udfs_tag.specs.Faults.{first_fault}
use Rattle.udfs_file.specs.declared.faults.NodeFault.TheVariants.{Reference, Range}
use Rattle.udfs_lattice.specs.States.{State, is_known}
use Rattle.udfs_lattice.specs.declared.facts.Fact.TheVariants.{Unknown, Known, Conflict}
use Rattle.udfs_tag.specs.declared.layouts.LongAd.{LongAd}
use Rattle.udfs_tag.specs.Fields.{long_ad_at}
use Rattle.udfs_tag.specs.Tags.{is_valid}
use Rattle.udfs_volume.specs.Answers.{Answer, found, faulty}
use Rattle.udfs_volume.specs.Sequence.{Bytes}
use Rattle.udfs_volume.specs.declared.faults.VolumeFault.TheVariants.{FileSet}
use Rattle.udfs_space.specs.Places.{View, IsPartOf}
use Rattle.udfs_file.specs.Addresses.{address_fault, file_set, file_set_at, file_set_in}
use Rattle.udfs_file.specs.Complete.{FileSetLaw}
use Rattle.udfs_file.specs.Laws.{IsPartialFileSet, known, unread, PartialFileSet}
use Rattle.udfs_file.specs.declared.faults.NodeFault.{NodeFault}

-- the file set by what is wrong with the address and by its place
file_set_by : View → LongAd → Option NodeFault → Option ℕ → Answer LongAd
file_set_by v a o x = file_set_at a o (option_map (λ n. (n, v.blocks n)) x)

by_is : (v : View) (a : LongAd) (o : Option NodeFault) (x : Option ℕ) → address_fault v a ≡ o → v.place a.reference a.block ≡ x → file_set v a ≡ file_set_by v a o x
unfolding file_set file_set_by
by_is v a o x p q = λ i. file_set_at a (p i) (option_map (λ n. (n, v.blocks n)) (q i))

-- a file set that names a root
record Rooted (v : View) (a root : LongAd) : Type 0 where
  good : address_fault v a ≡ None
  block : ℕ
  place : v.place a.reference a.block ≡ Some block
  is : file_set_in a block (v.blocks block) ≡ found root

rooted : (v : View) (a root : LongAd) → file_set v a ≡ found root → Rooted v a root
unfolding file_set_by
rooted v a root e = go (address_fault v a) refl (v.place a.reference a.block) refl
  where
    go : (o : Option NodeFault) → address_fault v a ≡ o → (x : Option ℕ) → v.place a.reference a.block ≡ x → Rooted v a root
    go (Some f) p x q = absurd (let t : faulty FileSet ≡ found root = sym (by_is v a (Some f) x p q) ∙ e in let z : ⊥ = cc in z)
    go None p None q = absurd (let t : faulty FileSet ≡ found root = sym (by_is v a None None p q) ∙ e in let z : ⊥ = cc in z)
    go None p (Some n) q = record { good = p; block = n; place = q; is = sym (by_is v a None (Some n) p q) ∙ e }

same_address : (s w : View) → IsPartOf s w → (a : LongAd) → address_fault s a ≡ address_fault w a
same_address s w p a = λ i. address_fault (record { partitions = p.partitions i; place = λ r b. p.places r b i; blocks = s.blocks; profile = p.profile i }) a

pub partial_file_set : PartialFileSet
unfolding file_set_by
partial_file_set s w p a root e = let r : Rooted w a root = rooted w a root e in (r.block, r.place, state r (s.blocks r.block) refl)
  where
    is : (r : Rooted w a root) → file_set s a ≡ file_set_in a r.block (s.blocks r.block)
    is r = by_is s a None (Some r.block) (same_address s w p a ∙ r.good) (p.places a.reference a.block ∙ r.place)

    state : (r : Rooted w a root) → (x : State) → s.blocks r.block ≡ x → IsPartialFileSet s r.block a root
    state r Unknown q = unread (is r ∙ ap (file_set_in a r.block) q) (ap is_known q)
    state r (Known bytes) q = known (is r ∙ ap (file_set_in a r.block) (q ∙ sym (p.agrees a.reference a.block r.block bytes r.place q)) ∙ r.is) (ap is_known q)
    state r Conflict q = unread (is r ∙ ap (file_set_in a r.block) q) (ap is_known q)

-- ---- complete
record Named (a root : LongAd) (bytes : Bytes) : Type 0 where
  valid : is_valid bytes a.block 256 ≡ true
  is : root ≡ long_ad_at bytes 400

named : (a root : LongAd) (n : ℕ) (bytes : Bytes) → file_set_in a n (Known bytes) ≡ found root → Named a root bytes
named a root n bytes e = go (is_valid bytes a.block 256) refl e
  where
    go : (b : Bool) → is_valid bytes a.block 256 ≡ b → cond b (found (long_ad_at bytes 400)) (faulty FileSet) ≡ found root → Named a root bytes
    go true v q = record { valid = v; is = let t : long_ad_at bytes 400 ≡ root = cc in sym t }
    go false v q = absurd (let z : ⊥ = cc in z)

some_same : {A : Type 0} (x y : A) → Some x ≡ Some y → x ≡ y
some_same x y e = cc

is_recorded : (x y z u : Bool) (a : LongAd) → (a.kind == 0) ≡ x → (a.length == 0) ≡ y → first_fault ((not x || y || z, Reference) ∷ (u, Range) ∷ []) ≡ None
    → (a.kind ≡ 0) × (a.length ≢ 0)
is_recorded false y z u a p q e = absurd (let n : ⊥ = cc in n)
is_recorded true true z u a p q e = absurd (let n : ⊥ = cc in n)
is_recorded true false true u a p q e = absurd (let n : ⊥ = cc in n)
is_recorded true false false u a p q e = (eqb-true a.kind 0 p, λ h. let t : true ≡ false = sym (ap (λ n. n == 0) h) ∙ q in true≢false t)

pub file_set_law : FileSetLaw
file_set_law all blocks w a root e = record {
  reads = record { recorded = whole.0; not_empty = whole.1; bytes = bytes; block = there.2; valid = what.valid; is = what.is };
  only = λ other o. o.is ∙ ap (λ z. long_ad_at z 400) (some_same o.bytes bytes (sym o.block ∙ there.2)) ∙ sym what.is;
}
  where
    r : Rooted all a root
    r = rooted all a root e

    there : (bytes : Bytes) × (all.blocks r.block ≡ Known bytes) × (blocks.at a.reference a.block ≡ Some bytes) × (length bytes ≡ 2048)
    there = w.there a.reference a.block r.block r.place

    bytes : Bytes
    bytes = there.0

    whole : (a.kind ≡ 0) × (a.length ≢ 0)
    whole = is_recorded (a.kind == 0) (a.length == 0) (nat_le all.partitions a.reference) (is_none (all.place a.reference a.block)) a refl refl r.good

    what : Named a root bytes
    what = named a root r.block bytes (ap (file_set_in a r.block) (sym there.1) ∙ r.is)
