-- The entry at an information control block, and what its directory lists.
use Rattle.std.proofs.Common.{◌≡◌, refl, sym, ◌∙◌, ap, subst, ℕ, ◌<◌, List, [], length, Option, Some, None, Err, IfErr}
use Rattle.std.specs.Prelude.{IsErrAnd, MatchResult, Result}
use Rattle.std.proofs.lemmas.Result.{err_from_is_err_and}
use Rattle.udfs_lattice.specs.States.{State}
use Rattle.udfs_lattice.specs.declared.facts.Fact.TheVariants.{Unknown, Known, Conflict}
use Rattle.udfs_space.specs.Places.{View, block_at}
use Rattle.udfs_file.specs.Addresses.{address_fault}
use Rattle.udfs_file.specs.Bodies.{body}
use Rattle.udfs_file.specs.Entries.{entry_fault, entry_of}
use Rattle.udfs_file.specs.declared.faults.NodeFault.{NodeFault}
use Rattle.udfs_file.specs.declared.faults.NodeFault.TheVariants.{Range}
use Rattle.udfs_walk.specs.Routes.{kind_entries, target_entries}
use Rattle.udfs_walk.specs.Targets.{Icb, Target, bad, unread, entry, entry_unless, target, target_at}
use Rattle.udfs_walk.specs.UnnamedEntries.{address_of}
use Rattle.udfs_walk.specs.Visits.{AreRefused}
use Rattle.udfs_walk.specs.declared.answers.NodesError.{NodesError}
use Rattle.udfs_walk.specs.declared.answers.NodesError.TheVariants.{TooManyPaths, OutOfMemory}
use Rattle.udfs_walk.specs.GivingUp.{IfTold}
use Rattle.udfs_walk.specs.declared.answers.NodesGaveUp.{NodesGaveUp}
use Rattle.udfs_walk.specs.declared.answers.NodesGaveUp.TheVariants as gave_up
use Rattle.udfs_lost.specs.Entries.{AreEntriesRefused, IsEntryAt, entries_at}
use Rattle.udfs_lost.specs.Links.{links_at, links_in}
use Rattle.udfs_lost.specs.Parents.{kind_parent, parent_at, target_parent}

-- what the address leads to where it has a fault, and where it has none
faulty : (v : View) (icb : Icb) (f : NodeFault) → address_fault v (address_of icb) ≡ Some f → target v (address_of icb) ≡ bad f
unfolding target
faulty v icb f e = ap (λ o. target_at o icb.block (block_at v icb.reference icb.block)) e

sound : (v : View) (icb : Icb) (o : Option (ℕ × State)) → address_fault v (address_of icb) ≡ None → block_at v icb.reference icb.block ≡ o → target v (address_of icb) ≡ target_at None icb.block o
unfolding target
sound v icb o e q = (λ i. target_at (e i) icb.block (q i))

no_bad : (v : View) (icb : Icb) (f : NodeFault) → target v (address_of icb) ≡ bad f → IsEntryAt v icb None
no_bad v icb f p e q = let x : bad f ≡ entry e = sym p ∙ q in let z : ⊥ = cc in z

no_unread : (v : View) (icb : Icb) (n : ℕ) → target v (address_of icb) ≡ unread n → IsEntryAt v icb None
no_unread v icb n p e q = let x : unread n ≡ entry e = sym p ∙ q in let z : ⊥ = cc in z

-- the address has a fault
pub bad_entry : (v : View) (icb : Icb) (f : NodeFault) → Some f ≡ address_fault v (address_of icb) → IsEntryAt v icb None
bad_entry v icb f e = no_bad v icb f (faulty v icb f (sym e))

-- the block has no place
pub no_block : (v : View) (icb : Icb) → None ≡ address_fault v (address_of icb) → None ≡ block_at v icb.reference icb.block → IsEntryAt v icb None
no_block v icb e q = no_bad v icb Range (sound v icb None (sym e) (sym q))

-- the block is not known
pub unknown_block : (v : View) (icb : Icb) (n : ℕ) → None ≡ address_fault v (address_of icb) → Some (n, Unknown) ≡ block_at v icb.reference icb.block → IsEntryAt v icb None
unknown_block v icb n e q = no_unread v icb n (sound v icb (Some (n, Unknown)) (sym e) (sym q))

pub disputed_block : (v : View) (icb : Icb) (n : ℕ) → None ≡ address_fault v (address_of icb) → Some (n, Conflict) ≡ block_at v icb.reference icb.block → IsEntryAt v icb None
disputed_block v icb n e q = no_unread v icb n (sound v icb (Some (n, Conflict)) (sym e) (sym q))

-- the block is known, and is no entry
pub faulty_block : (v : View) (icb : Icb) (n : ℕ) (bytes : List ℕ) (f : NodeFault) → None ≡ address_fault v (address_of icb) → Some (n, Known bytes) ≡ block_at v icb.reference icb.block
    → entry_fault bytes icb.block ≡ Some f → IsEntryAt v icb None
faulty_block v icb n bytes f e q g = no_bad v icb f (sound v icb (Some (n, Known bytes)) (sym e) (sym q) ∙ ap (λ o. entry_unless o (entry_of bytes)) g)

-- the block is known, and is an entry
pub entry_block : (v : View) (icb : Icb) (n : ℕ) (bytes found : List ℕ) → None ≡ address_fault v (address_of icb) → Some (n, Known bytes) ≡ block_at v icb.reference icb.block
    → found ≡ bytes → entry_fault bytes icb.block ≡ None → IsEntryAt v icb (Some found)
entry_block v icb n bytes found e q s g = (
  sound v icb (Some (n, Known bytes)) (sym e) (sym q) ∙ ap (λ o. entry_unless o (entry_of bytes)) g ∙ ap (λ z. entry (entry_of z)) (sym s),
  (n, sym q ∙ ap (λ z. Some (n, Known z)) (sym s)),
)

-- ---- what the directory lists
pub nothing_listed : (v : View) (icb : Icb) → IsEntryAt v icb None → [] ≡ entries_at v icb
unfolding entries_at
nothing_listed v icb h = go (target v (address_of icb)) refl
  where
    go : (t : Target) → target v (address_of icb) ≡ t → [] ≡ target_entries v (address_of icb) (target v (address_of icb))
    go (bad f) e = ap (target_entries v (address_of icb)) (sym e)
    go (unread n) e = ap (target_entries v (address_of icb)) (sym e)
    go (entry x) e = absurd (h x e)

pub something_listed : (v : View) (icb : Icb) (bytes : List ℕ) → IsEntryAt v icb (Some bytes)
    → kind_entries v.profile (entry_of bytes).kind (body v icb.reference icb.block (entry_of bytes)) ≡ entries_at v icb
unfolding entries_at
something_listed v icb bytes h = ap (target_entries v (address_of icb)) (sym h.0)

-- ---- the link count
pub links_block : (v : View) (icb : Icb) (o : Option (ℕ × State)) → o ≡ block_at v icb.reference icb.block → links_in o ≡ links_at v icb
unfolding links_at
links_block v icb o e = ap links_in e

-- too many entries are those of the directory there
pub listing_refused : (v : View) (icb : Icb) (bytes : List ℕ) (error : NodesError) → IsEntryAt v icb (Some bytes)
    → AreRefused 65535 (kind_entries v.profile (entry_of bytes).kind (body v icb.reference icb.block (entry_of bytes))) error → AreEntriesRefused v icb error
listing_refused v icb bytes TooManyPaths h x = subst (λ z. 65535 < length z) (something_listed v icb bytes h) x
listing_refused v icb bytes OutOfMemory h x = tt

-- what holds of an error of a table's walk, where something else holds of it
pub told_more : (P Q : NodesError → Type 0) → ((e : NodesError) → P e → Q e) → (error : NodesGaveUp) → IfTold P error → IfTold Q error
told_more P Q f gave_up.TooManyPaths p = f TooManyPaths p
told_more P Q f gave_up.OutOfMemory p = f OutOfMemory p
told_more P Q f gave_up.Unread p = tt

-- what an error says where it is handed on, of what a store tells only under a condition
pub refused_on : {A : Type 0} (Told : Type 0) (P Q : NodesError → Type 0) (r : Result A NodesGaveUp) (error : NodesGaveUp) → IsErrAnd r (λ e. e ≡ error)
    → (Told → (e : NodesError) → P e → Q e) → (Told → IfTold P error) → IfErr r (λ e. Told → IfTold Q e)
refused_on Told P Q r error h f p = let x = err_from_is_err_and r h in subst (λ z. IfErr z (λ e. Told → IfTold Q e)) (sym (x.1 ∙ ap Err x.2)) (λ told. told_more P Q (f told) error (p told))

-- the same where the other outcome has a clause too
pub refused_in : {A : Type 0} (T : A → Type 0) (P Q : NodesError → Type 0) (r : Result A NodesGaveUp) (error : NodesGaveUp) → IsErrAnd r (λ e. e ≡ error)
    → ((e : NodesError) → P e → Q e) → IfTold P error → MatchResult r T (IfTold Q)
refused_in T P Q r error h f p = let x = err_from_is_err_and r h in subst (λ z. MatchResult z T (IfTold Q)) (sym (x.1 ∙ ap Err x.2)) (told_more P Q f error p)

-- ---- the parent
pub no_parent : (v : View) (icb : Icb) → IsEntryAt v icb None → None ≡ parent_at v icb
unfolding parent_at
no_parent v icb h = go (target v (address_of icb)) refl
  where
    go : (t : Target) → target v (address_of icb) ≡ t → None ≡ target_parent v icb (target v (address_of icb))
    go (bad f) e = ap (target_parent v icb) (sym e)
    go (unread n) e = ap (target_parent v icb) (sym e)
    go (entry x) e = absurd (h x e)

pub some_parent : (v : View) (icb : Icb) (bytes : List ℕ) → IsEntryAt v icb (Some bytes) → kind_parent v icb (entry_of bytes) (entry_of bytes).kind ≡ parent_at v icb
unfolding parent_at
some_parent v icb bytes h = ap (target_parent v icb) (sym h.0)
