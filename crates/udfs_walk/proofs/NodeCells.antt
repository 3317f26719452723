-- The node at a place of the list, the end of its route, and the cells of its body.
use Rattle.std.proofs.Common.{◌≡◌, refl, sym, ◌∙◌, ap, subst, ℕ, List, map, Option, Some, None, Bool, true, false, cond}
use Rattle.std.specs.Prelude.{slice_get, option_map}
use Rattle.std.proofs.lemmas.Option.{slice_get-map}
use Rattle.udfs_space.specs.Places.{View}
use Rattle.udfs_file.specs.Entries.{EntryFields}
use Rattle.udfs_file.specs.Bodies.{Body, cells, faulty_body, body}
use Rattle.udfs_file.specs.declared.cells.Cell.{Cell}
use Rattle.udfs_walk.specs.Laws.{HasBody, NodeCells}
use Rattle.udfs_walk.specs.NodeBodies.{HasCells}
use Rattle.udfs_walk.specs.NodeFields.{NodeFields}
use Rattle.udfs_walk.specs.Nodes.{node, node_at}
use Rattle.udfs_walk.specs.Routes.{Walked, is_loop, is_deep}
use Rattle.udfs_walk.specs.Standings.{body_standing}
use Rattle.udfs_walk.specs.Targets.{Target, bad, unread, entry, target}
use Rattle.udfs_walk.specs.declared.standings.Standing.TheVariants.{Loop}

-- the address of a node is the one at the end of its route
icb_at : (v : View) (w : Walked) (t : Target) → (node_at v w t).icb ≡ w.address
icb_at v w (bad f) = refl
icb_at v w (unread n) = refl
icb_at v w (entry e) = refl

-- a node with a body has its cells
entry_cells : (v : View) (w : Walked) (e : EntryFields) (b : Body) (l : Bool) → target v w.address ≡ entry e
    → body v w.address.reference w.address.block e ≡ b → HasBody (cond l Loop (body_standing v.profile e.kind (is_deep w) b)) (Some e.size)
    → (cs : List Cell) × HasCells v w.address cs
entry_cells v w e b true t has h = absurd h
entry_cells v w e (cells cs) false t has h = (cs, record { fields = e; is_entry = t; has_body = has })
entry_cells v w e (faulty_body f) false t has h = absurd h

target_cells : (v : View) (w : Walked) (t : Target) → target v w.address ≡ t → HasBody (node_at v w t).standing (node_at v w t).size → (cs : List Cell) × HasCells v w.address cs
target_cells v w (bad f) is h = absurd h
target_cells v w (unread n) is h = absurd h
target_cells v w (entry e) is h = entry_cells v w e (body v w.address.reference w.address.block e) (is_loop w) is refl h

none_some : {A : Type 0} (x : A) (o : Option A) → o ≡ None → o ≡ Some x → ⊥
none_some x o e h = let z : ⊥ = cc in z

some_same : {A : Type 0} {x y : A} → Some x ≡ Some y → x ≡ y
some_same {x = x} e = ap (λ o. elim o [ None ↦ x | Some z ↦ z ]) e

-- the node at an index, and the end of its route
at_index : (v : View) (walks : List Walked) (ns : List NodeFields) (i : ℕ) (n : NodeFields) → ns ≡ map (node v) walks → slice_get ns i ≡ Some n
    → (w : Walked) × (slice_get walks i ≡ Some w) × (n ≡ node v w)
at_index v walks ns i n e h = by_walk (slice_get walks i) refl
  where
    mapped : option_map (node v) (slice_get walks i) ≡ Some n
    mapped = sym (slice_get-map (node v) walks i) ∙ ap (λ l. slice_get l i) (sym e) ∙ h

    by_walk : (o : Option Walked) → slice_get walks i ≡ o → (w : Walked) × (slice_get walks i ≡ Some w) × (n ≡ node v w)
    by_walk None s = absurd (none_some n (option_map (node v) (slice_get walks i)) (ap (option_map (node v)) s) mapped)
    by_walk (Some w) s = (w, s, some_same (sym mapped ∙ ap (option_map (node v)) s))

pub node_cells : NodeCells
unfolding node
node_cells v root nodes are i n at h = (
  end.0,
  end.1,
  ap (λ m. m.icb) end.2 ∙ icb_at v end.0 (target v end.0.address),
  target_cells v end.0 (target v end.0.address) refl (subst (λ m. HasBody m.standing m.size) end.2 h),
)
  where
    end : (w : Walked) × (slice_get are.walks i ≡ Some w) × (n ≡ node v w)
    end = at_index v are.walks nodes i n are.is at
