-- Whether an address leads to an entry with a body.
use Rattle.std.proofs.Common.{◌≡◌, refl, sym, ◌∙◌, ap, true, false, List}
use Rattle.udfs_tag.specs.declared.layouts.LongAd.{LongAd}
use Rattle.udfs_space.specs.Places.{View}
use Rattle.udfs_file.specs.Bodies.{Body, body, cells, faulty_body}
use Rattle.udfs_file.specs.Entries.{EntryFields}
use Rattle.udfs_file.specs.TailBodies.{has_cells}
use Rattle.udfs_file.specs.declared.cells.Cell.{Cell}
use Rattle.udfs_walk.specs.NodeBodies.{HasCells}
use Rattle.udfs_walk.specs.Targets.{Target, bad, unread, entry, target}
use Rattle.udfs_lawfulness.specs.Filled.{target_has_cells}

pub mapped_some : (v : View) (a : LongAd) (cs : List Cell) → HasCells v a cs → true ≡ target_has_cells v a (target v a)
mapped_some v a cs h = sym (ap (target_has_cells v a) h.is_entry ∙ ap has_cells h.has_body)

pub mapped_none : (v : View) (a : LongAd) → ((cs : List Cell) → ¬ HasCells v a cs) → false ≡ target_has_cells v a (target v a)
mapped_none v a h = sym (go (target v a) refl)
  where
    by_body : (e : EntryFields) → target v a ≡ entry e → (b : Body) → body v a.reference a.block e ≡ b → has_cells b ≡ false
    by_body e t (cells cs) q = absurd (h cs (record { fields = e; is_entry = t; has_body = q }))
    by_body e t (faulty_body f) q = refl

    go : (t : Target) → target v a ≡ t → target_has_cells v a t ≡ false
    go (bad f) t = refl
    go (unread n) t = refl
    go (entry e) t = by_body e t (body v a.reference a.block e) refl
