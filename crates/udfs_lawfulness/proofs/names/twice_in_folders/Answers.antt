use Rattle.std.proofs.Common.{◌≡◌, ◌-◌, ◌<◌, ◌≤◌, ◌∙◌, inl, inr, refl, sym, ap, arith, [], get_or, length, Some, slice_get}
use Rattle.std.specs.Prelude.{slice_index}
use Rattle.std.proofs.lemmas.Option.{slice_get_read}
use Rattle.udfs_walk.specs.NodeFields.{NodeFields}
use Rattle.udfs_lawfulness.proofs.Keys.{added, if_one, more, one_if, still}
use Rattle.udfs_lawfulness.proofs.Twice.{IsKey, all_apart, here_or_before, more_apart, not_false, not_true, one_key, same_key, same_keys}
use Rattle.udfs_lawfulness.proofs.names.twice_in_folders.Goals as goal

pub returns-then-not-branch : goal.returns-then-not-branch
returns-then-not-branch c =
    let nodes = c.args.nodes.now in
    let at = c.loop-at.at in
    let n = c.index-nodes-at.result in
    let is : slice_get nodes at ≡ Some n = slice_get_read nodes (length nodes) at n refl c.loop-at-test.true c.index-nodes-at.is in
    let key : IsKey nodes c.args.folders.now at (slice_index c.args.folders.now at) c.in_ok-units.units.items = record {
      inside = c.loop-at-test.true;
      behind = c.loop-at.invariant.begun;
      node = n;
      node_is = is;
      folder_is = refl;
      units_are = c.in_ok-units.ensures ∙ ap (λ (x : NodeFields). get_or x.path (length x.path - 1) []) c.node.view_is;
    } in
    let r = c.loop-at.invariant.from (slice_index c.args.folders.now at, c.in_ok-units.units) (not_false _ (sym c.if-not-branch.true ∙ c.in_ok-insert.ensures.added)) in
    one_key nodes c.args.folders.now r.0 at (slice_index c.args.folders.now at) c.in_ok-units.units.items c.requires r.1 r.2 key

pub loop-at-preserved : goal.loop-at-preserved
loop-at-preserved c =
    let nodes = c.args.nodes.now in
    let folders = c.args.folders.now in
    let at = c.loop-at.at in
    let begun : 0 < at = c.loop-at.invariant.begun in
    let n = c.index-nodes-at.result in
    let is : slice_get nodes at ≡ Some n = slice_get_read nodes (length nodes) at n refl c.loop-at-test.true c.index-nodes-at.is in
    let key : IsKey nodes folders at (slice_index folders at) c.in_ok-units.units.items = record {
      inside = c.loop-at-test.true;
      behind = begun;
      node = n;
      node_is = is;
      folder_is = refl;
      units_are = c.in_ok-units.ensures ∙ ap (λ (x : NodeFields). get_or x.path (length x.path - 1) []) c.node.view_is;
    } in
    let fresh = not_true _ (sym c.if-not-branch.false ∙ c.in_ok-insert.ensures.added) in
    record {
      begun = omega arith;
      apart = more_apart nodes at c.loop-at.invariant.apart (λ twice.
          let k = same_key nodes folders at (slice_index folders at) c.in_ok-units.units.items c.requires c.loop-at.invariant.apart key twice in
          fresh (c.loop-at.invariant.has (slice_index folders at, c.in_ok-units.units) twice.first twice.before k.1));
      has = λ q i lt k. elim (here_or_before at i lt) [
        | inl here ↦ let s = same_keys nodes folders i at (slice_index folders at) q.0 c.in_ok-units.units.items q.1.items here key k in
            added _ _ _ (c.in_ok-insert.ensures.updates.0 q) (if_one (slice_index folders at) c.in_ok-units.units.items q.0 q.1.items s.0 s.1)
        | inr before ↦ still _ _ _ (c.in_ok-insert.ensures.updates.0 q) (c.loop-at.invariant.has q i before k)
      ];
      from = λ q has. elim (more _ _ _ (c.in_ok-insert.ensures.updates.0 q) has) [
        | inl one ↦ let s = one_if (slice_index folders at) c.in_ok-units.units.items q.0 q.1.items one in
            (at, omega arith, record { inside = key.inside; behind = begun; node = n; node_is = is; folder_is = sym s.0; units_are = sym s.1 ∙ key.units_are })
        | inr had ↦ let r = c.loop-at.invariant.from q had in let l : r.0 < at = r.1 in (r.0, omega (arith, l), r.2)
      ];
    }

pub returns : goal.returns
returns c =
    let end : length c.args.nodes.now ≤ c.loop-at.at = omega (arith, c.loop-at-test.false) in
    all_apart c.args.nodes.now c.loop-at.at end c.loop-at.invariant.apart
