-- What an address is that leads to an entry: a recorded block, and the entry in it.
use Rattle.std.proofs.Common.{◌≡◌, ◌≢◌, refl, sym, ◌∙◌, ap, ℕ, Bool, true, false, not, [], ◌∷◌, length, Option, Some, None, nat_le, is_none, ◌||◌}
use Rattle.std.specs.Prelude.{option_map, ◌==◌}
use Rattle.std.proofs.lemmas.Bool.{eqb-true, true≢false}
use Rattle.udfs_lattice.specs.States.{State}
use Rattle.udfs_lattice.specs.declared.facts.Fact.TheVariants.{Known}
use Rattle.udfs_tag.specs.declared.layouts.LongAd.{LongAd}
use Rattle.udfs_tag.specs.Faults.{first_fault}
use Rattle.udfs_volume.specs.Sequence.{Bytes}
use Rattle.udfs_space.specs.Places.{View}
use Rattle.udfs_file.specs.Addresses.{address_fault}
use Rattle.udfs_file.specs.Complete.{IsComplete}
use Rattle.udfs_file.specs.Entries.{EntryFields, entry_fault, entry_of}
use Rattle.udfs_file.specs.declared.faults.NodeFault.{NodeFault}
use Rattle.udfs_file.specs.declared.faults.NodeFault.TheVariants.{Reference, Range}
use Rattle.udfs_walk.specs.Targets.{entry, entry_unless, target_in, target_at, target}
use Rattle.udfs_walk.specs.Trees.{PartitionBlocks}

pub some_same : {A : Type 0} (x y : A) → Some x ≡ Some y → x ≡ y
some_same x y e = cc

pub record IsRecorded (a : LongAd) : Type 0 where
  pub kind : a.kind ≡ 0
  pub not_empty : a.length ≢ 0

recorded_by : (x y z u : Bool) (a : LongAd) → (a.kind == 0) ≡ x → (a.length == 0) ≡ y → first_fault ((not x || y || z, Reference) ∷ (u, Range) ∷ []) ≡ None → IsRecorded a
recorded_by false y z u a p q e = absurd (let n : ⊥ = cc in n)
recorded_by true true z u a p q e = absurd (let n : ⊥ = cc in n)
recorded_by true false true u a p q e = absurd (let n : ⊥ = cc in n)
recorded_by true false false u a p q e = record { kind = eqb-true a.kind 0 p; not_empty = λ h. let t : true ≡ false = sym (ap (λ n. n == 0) h) ∙ q in true≢false t }

-- an address without a fault is that of a recorded extent
pub recorded : (v : View) (a : LongAd) → address_fault v a ≡ None → IsRecorded a
recorded v a e = recorded_by (a.kind == 0) (a.length == 0) (nat_le v.partitions a.reference) (is_none (v.place a.reference a.block)) a refl refl e

-- the entry at an address
pub record TargetIs (blocks : PartitionBlocks) (a : LongAd) (e : EntryFields) : Type 0 where
  pub good : IsRecorded a
  pub bytes : Bytes
  pub block : blocks.at a.reference a.block ≡ Some bytes
  pub sound : entry_fault bytes a.block ≡ None
  pub fields : entry_of bytes ≡ e

pub target_is : (all : View) (blocks : PartitionBlocks) → IsComplete all blocks → (a : LongAd) (e : EntryFields) → target all a ≡ entry e → TargetIs blocks a e
unfolding target
target_is all blocks w a e t = go (address_fault all a) refl (all.place a.reference a.block) refl t
  where
    at : Option ℕ → Option (ℕ × State)
    at o = option_map (λ n. (n, all.blocks n)) o

    sound : IsRecorded a → (bytes : Bytes) → blocks.at a.reference a.block ≡ Some bytes → (f : Option NodeFault) → entry_fault bytes a.block ≡ f → entry_unless f (entry_of bytes) ≡ entry e → TargetIs blocks a e
    sound g bytes k None q s = record { good = g; bytes = bytes; block = k; sound = q; fields = cc }
    sound g bytes k (Some f) q s = absurd (let x : ⊥ = cc in x)

    go : (f : Option NodeFault) → address_fault all a ≡ f → (o : Option ℕ) → all.place a.reference a.block ≡ o → target_at f a.block (at o) ≡ entry e → TargetIs blocks a e
    go (Some f) g o p s = absurd (let x : ⊥ = cc in x)
    go None g None p s = absurd (let x : ⊥ = cc in x)
    go None g (Some n) p s = let t : (bytes : Bytes) × (all.blocks n ≡ Known bytes) × (blocks.at a.reference a.block ≡ Some bytes) × (length bytes ≡ 2048) = w.there a.reference a.block n p in
        sound (recorded all a g) t.0 t.2 (entry_fault t.0 a.block) refl (sym (ap (target_in a.block n) t.1) ∙ s)
