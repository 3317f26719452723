-- Routes cut where their paths are cut, and the entries by which they go on.
use Rattle.std.proofs.Common.{◌≡◌, refl, sym, ◌∙◌, ap, ℕ, Bool, true, false, List, [], ◌∷◌, ◌++◌, cond, ◌||◌, Option, Some, None, slice_get}
use Rattle.std.specs.Prelude.{option_map}
use Rattle.std.proofs.lemmas.List.{append_assoc, append-nil}
use Rattle.udfs_lattice.specs.States.{State}
use Rattle.udfs_lattice.specs.Volumes.{IsKnownAt}
use Rattle.udfs_lattice.specs.declared.facts.Fact.TheVariants.{Unknown, Known, Conflict}
use Rattle.udfs_tag.specs.declared.layouts.LongAd.{LongAd}
use Rattle.udfs_space.specs.Places.{View, block_at}
use Rattle.udfs_file.specs.Addresses.{address_fault}
use Rattle.udfs_file.specs.Entries.{EntryFields}
use Rattle.udfs_file.specs.declared.directories.DirEntry.{DirEntry}
use Rattle.udfs_file.specs.declared.faults.NodeFault.{NodeFault}
use Rattle.udfs_walk.specs.Targets.{Target, bad, unread, entry, target_in, target_at, target}
use Rattle.udfs_walk.specs.Routes.{Route, Walked, below, is_loop, is_deep, target_entries, entries_below, walk_from}
use Rattle.udfs_walk.proofs.WholeRoutes.{Step, step_inv, step_on, cancel, Adds, adds, longer}

-- the name of a step
pub step_named : (v : View) (w end : Walked) (j : ℕ) (js : Route) (s : Step v w j js end) (name : List ℕ) (names : List (List ℕ)) → end.path ≡ w.path ++ name ∷ names → s.entry.name ≡ name
step_named v w end j js s name names p = let t : s.entry.name ∷ a.names ≡ name ∷ names = tails in cc
  where
    a : Adds (below w s.entry) end
    a = adds v js (below w s.entry) end s.then

    tails : s.entry.name ∷ a.names ≡ name ∷ names
    tails = cancel w.path (s.entry.name ∷ a.names) (name ∷ names) (sym (append_assoc w.path (s.entry.name ∷ []) a.names) ∙ sym a.path ∙ p)

-- A route, cut where its path is cut.
pub record Cut (v : View) (w end : Walked) (before : List (List ℕ)) : Type 0 where
  pub front : Route
  pub mid : Walked
  pub back : Route
  pub to : walk_from v w front ≡ Some mid
  pub path : mid.path ≡ w.path ++ before
  pub on : walk_from v mid back ≡ Some end

pub cut : (v : View) (route : Route) (w end : Walked) (before after : List (List ℕ)) → walk_from v w route ≡ Some end → end.path ≡ w.path ++ (before ++ after) → Cut v w end before
cut v route w end [] after e p = record { front = []; mid = w; back = route; to = refl; path = sym (append-nil w.path); on = e }
cut v [] w end (name ∷ names) after e p = longer w end name (names ++ after) p (let same : end ≡ w = cc in ap (λ z. z.path) same)
cut v (j ∷ js) w end (name ∷ names) after e p = go (step_inv v w j js end e) (λ d. cut v js (below w d) end names after)
  where
    go : Step v w j js end → ((d : DirEntry) → walk_from v (below w d) js ≡ Some end → end.path ≡ (below w d).path ++ (names ++ after) → Cut v (below w d) end names) → Cut v w end (name ∷ names)
    go s ih = record {
      front = j ∷ c.front;
      mid = c.mid;
      back = c.back;
      to = step_on v w j c.front s.entry s.at ∙ c.to;
      path = c.path ∙ append_assoc w.path (s.entry.name ∷ []) names ∙ ap (λ z. w.path ++ z ∷ names) named;
      on = c.on;
    }
      where
        named : s.entry.name ≡ name
        named = step_named v w end j js s name (names ++ after) p

        c : Cut v (below w s.entry) end names
        c = ih s.entry s.then (p ∙ ap (λ z. w.path ++ z ∷ (names ++ after)) (sym named) ∙ sym (append_assoc w.path (s.entry.name ∷ []) (names ++ after)))

-- the block of an entry that is read is known
pub entry_known : (v : View) (a : LongAd) (e : EntryFields) (n : ℕ) → target v a ≡ entry e → v.place a.reference a.block ≡ Some n → IsKnownAt v.blocks n
unfolding target
entry_known v a e n t p = by_fault (address_fault v a) t
  where
    state : (x : State) → v.blocks n ≡ x → target_in a.block n x ≡ entry e → IsKnownAt v.blocks n
    state Unknown q k = absurd (let z : ⊥ = cc in z)
    state (Known bytes) q k = (bytes, q)
    state Conflict q k = absurd (let z : ⊥ = cc in z)

    by_fault : (o : Option NodeFault) → target_at o a.block (block_at v a.reference a.block) ≡ entry e → IsKnownAt v.blocks n
    by_fault None k = state (v.blocks n) refl (ap (λ o. target_at None a.block (option_map (λ n. (n, v.blocks n)) o)) (sym p) ∙ k)
    by_fault (Some f) k = absurd (let z : ⊥ = cc in z)

-- where a route goes on, or the end is an entry, an entry is read
pub goes_entry : (v : View) (w : Walked) (j : ℕ) (d : DirEntry) → slice_get (entries_below v w) j ≡ Some d → (e : EntryFields) × (target v w.address ≡ entry e)
unfolding entries_below
goes_entry v w j d k = by (is_loop w || is_deep w) (target v w.address) refl k
  where
    by : (b : Bool) (t : Target) → target v w.address ≡ t → slice_get (cond b [] (target_entries v w.address t)) j ≡ Some d → (e : EntryFields) × (target v w.address ≡ entry e)
    by true t q k = absurd (let z : ⊥ = cc in z)
    by false (bad f) q k = absurd (let z : ⊥ = cc in z)
    by false (unread n) q k = absurd (let z : ⊥ = cc in z)
    by false (entry e) q k = (e, q)

pub mid_entry : (v : View) (back : Route) (mid end : Walked) (e : EntryFields) → walk_from v mid back ≡ Some end → target v end.address ≡ entry e → (e : EntryFields) × (target v mid.address ≡ entry e)
mid_entry v [] mid end e k t = (e, ap (λ z. target v z.address) (let same : mid ≡ end = cc in same) ∙ t)
mid_entry v (j ∷ js) mid end e k t = let s : Step v mid j js end = step_inv v mid j js end k in goes_entry v mid j s.entry s.at

-- The entry by which a route goes on.
pub record Onward (v : View) (mid : Walked) (name : List ℕ) : Type 0 where
  pub j : ℕ
  pub entry : DirEntry
  pub at : slice_get (entries_below v mid) j ≡ Some entry
  pub named : entry.name ≡ name

pub onward : (v : View) (back : Route) (mid end : Walked) (name : List ℕ) (after : List (List ℕ)) → walk_from v mid back ≡ Some end → end.path ≡ mid.path ++ name ∷ after → Onward v mid name
onward v [] mid end name after k p = longer mid end name after p (let same : end ≡ mid = cc in ap (λ z. z.path) same)
onward v (j ∷ js) mid end name after k p = let s : Step v mid j js end = step_inv v mid j js end k in record { j = j; entry = s.entry; at = s.at; named = step_named v mid end j js s name after p }
