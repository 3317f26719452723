-- What an address leads to, by its fault and its block.
use Rattle.std.proofs.Common.{◌≡◌, refl, sym, ◌∙◌, ap, ℕ, List, Option, Some, None}
use Rattle.udfs_lattice.specs.States.{State}
use Rattle.udfs_lattice.specs.declared.facts.Fact.TheVariants.{Known}
use Rattle.udfs_tag.specs.declared.layouts.LongAd.{LongAd}
use Rattle.udfs_space.specs.Places.{View, block_at}
use Rattle.udfs_file.specs.Addresses.{address_fault}
use Rattle.udfs_file.specs.Entries.{entry_fault, entry_of}
use Rattle.udfs_file.specs.declared.faults.NodeFault.{NodeFault}
use Rattle.udfs_file.specs.declared.faults.NodeFault.TheVariants.{Range}
use Rattle.udfs_walk.specs.Routes.{Walked}
use Rattle.udfs_walk.specs.Targets.{Target, bad, unread, entry, entry_unless, target_in, target_at, target}
use Rattle.udfs_walk.specs.Unsettled.{unsettled, unsettled_at}

target_is : (v : View) (a : LongAd) (f : Option NodeFault) (o : Option (ℕ × State)) → address_fault v a ≡ f → block_at v a.reference a.block ≡ o → target v a ≡ target_at f a.block o
unfolding target
target_is v a f o e h = λ i. target_at (e i) a.block (h i)

pub bad_target : (v : View) (a : LongAd) (f : NodeFault) → Some f ≡ address_fault v a → bad f ≡ target v a
bad_target v a f e = sym (target_is v a (Some f) (block_at v a.reference a.block) (sym e) refl)

pub no_block : (v : View) (a : LongAd) → None ≡ address_fault v a → None ≡ block_at v a.reference a.block → bad Range ≡ target v a
no_block v a e h = sym (target_is v a None None (sym e) (sym h))

pub block_target : (v : View) (a : LongAd) (n : ℕ) (s : State) → None ≡ address_fault v a → Some (n, s) ≡ block_at v a.reference a.block → target_in a.block n s ≡ target v a
block_target v a n s e h = sym (target_is v a None (Some (n, s)) (sym e) (sym h))

pub entry_target : (v : View) (a : LongAd) (n : ℕ) (bytes got : List ℕ) → None ≡ address_fault v a → Some (n, Known bytes) ≡ block_at v a.reference a.block
    → got ≡ bytes → entry_fault bytes a.block ≡ None → entry (entry_of got) ≡ target v a
entry_target v a n bytes got e h g f = ap (λ x. entry (entry_of x)) g ∙ ap (λ o. entry_unless o (entry_of bytes)) (sym f) ∙ block_target v a n (Known bytes) e h

pub fault_target : (v : View) (a : LongAd) (n : ℕ) (bytes : List ℕ) (fault : NodeFault) → None ≡ address_fault v a → Some (n, Known bytes) ≡ block_at v a.reference a.block
    → entry_fault bytes a.block ≡ Some fault → bad fault ≡ target v a
fault_target v a n bytes fault e h f = ap (λ o. entry_unless o (entry_of bytes)) (sym f) ∙ block_target v a n (Known bytes) e h

pub unsettled_is : (v : View) (w : Walked) (t : Target) → t ≡ target v w.address → unsettled_at v w t ≡ unsettled v w
unfolding unsettled
unsettled_is v w t e = ap (unsettled_at v w) e

-- a node stands at the end of its route
pub unsettled_path : (v : View) (w : Walked) → (unsettled v w).path ≡ w.path
unfolding unsettled
unsettled_path v w = go (target v w.address)
  where
    go : (t : Target) → (unsettled_at v w t).path ≡ w.path
    go (bad f) = refl
    go (unread n) = refl
    go (entry e) = refl

-- and has the address that leads there
pub unsettled_address : (v : View) (w : Walked) → (unsettled v w).icb ≡ w.address
unfolding unsettled
unsettled_address v w = go (target v w.address)
  where
    go : (t : Target) → (unsettled_at v w t).icb ≡ w.address
    go (bad f) = refl
    go (unread n) = refl
    go (entry e) = refl
