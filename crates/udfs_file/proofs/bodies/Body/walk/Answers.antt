use Rattle.std.proofs.Common.{◌≡◌, ◌∙◌, sym, ap, subst, Bool, true, false, not, cond, min, ◌^◌, is_ok, arith, ℕ, ◌+◌, ◌<◌, ◌≤◌, ◌-◌, List, [], ◌∷◌, ◌++◌, length}
use Rattle.std.specs.Prelude.{suc, ◌==◌}
use Rattle.udfs_space.specs.Views.{view_by}
use Rattle.udfs_file.specs.Bodies.{descriptor_count, covers, cells, listed_body}
use Rattle.udfs_file.specs.Stretches.{LieInBlocks, cells_of, stretch_count, IsExtent}
use Rattle.udfs_file.specs.declared.stretches.Stretch.{Stretch}
use Rattle.udfs_file.specs.declared.stretches.Stretch.TheVariants.{Missing}
use Rattle.udfs_file.proofs.BlockLemmas.{AllFill, fill_more, lie_more}
use Rattle.udfs_file.proofs.WalkLemmas.{IsWalk, count_none, count_push, walk-start, walk-done, walk-zero, walk-fault, walk-extent, walk-area, walk-unread, walk-broken}
use Rattle.udfs_file.proofs.bodies.Body.walk.Goals as goal

pushed : {A : Type 0} (new old : List A) (x : A) (ok : Bool) → new ≡ cond ok (old ++ x ∷ []) old → ok ≡ true → new ≡ old ++ x ∷ []
pushed new old x true e h = e
pushed new old x false e h = cc

within : (c n size m limit : ℕ) → n ≡ min m (size - c) → c ≤ size → size < limit → c + n < limit
within c n size m limit e h k = omega arith

allowed : (n : ℕ) → (n == 0) ≡ false → n ≡ suc (n - 1)
allowed n h = grind arith

pub walk-init : goal.walk-init
walk-init g c = record {
  walk = λ told. let e : [] ≡ c.new-stretches.result.items = sym c.new-stretches.ensures.items in
      subst (λ (area : List ℕ). IsWalk c.args.tail (view_by g.B.BlockStore.states c.args.view) c.args.size c.args.form c.args.reference
      (listed_body c.args.tail (view_by g.B.BlockStore.states c.args.view) c.args.form c.args.reference c.args.size c.args.area.now) 256 0 area 0 c.new-stretches.result.items) (sym c.of-area.ensures)
      (subst (IsWalk c.args.tail (view_by g.B.BlockStore.states c.args.view) c.args.size c.args.form c.args.reference
      (listed_body c.args.tail (view_by g.B.BlockStore.states c.args.view) c.args.form c.args.reference c.args.size c.args.area.now) 256 0 c.args.area.now 0) e
      (walk-start c.args.tail (view_by g.B.BlockStore.states c.args.view) c.args.size c.args.form c.args.reference c.args.area.now));
  count = λ v. ap (λ (ss : List Stretch). length (cells_of v ss)) c.new-stretches.ensures.items ∙ count_none v;
  area_fits = subst (λ (area : List ℕ). length area ≤ 2048) (sym c.of-area.ensures) c.requires;
  within = omega arith;
  fill = λ more. subst AllFill (sym c.new-stretches.ensures.items) tt;
  lie = subst LieInBlocks (sym c.new-stretches.ensures.items) tt;
}

pub returns-then-d-eq0-clause-value : goal.returns-then-d-eq0-clause-value
returns-then-d-eq0-clause-value g c told =
    let here : c.walk.i < descriptor_count c.args.form c.walk.area = omega arith in
    walk-zero _ _ _ _ _ _ _ _ _ _ _ (c.walk.invariant.walk told) c.descriptor-d.result c.walk-test.true here c.descriptor-d.ensures c.if-d-eq0.true

pub returns-in-Broken-clause-value : goal.returns-in-Broken-clause-value
returns-in-Broken-clause-value g c told =
    let here : c.walk.i < descriptor_count c.args.form c.walk.area = omega arith in
    walk-broken _ _ _ _ _ _ _ _ _ _ _ (c.walk.invariant.walk told) c.descriptor-d.result c.walk-test.true here c.descriptor-d.ensures c.if-d-eq0.false c.if-d-eq-NEXT_EXTENT.true
    c.in-Broken.fault (sym (rw c.in-Broken.is at (c.in_ok-fault.ensures.value told)))

pub returns-in-Unread-clause-value : goal.returns-in-Unread-clause-value
returns-in-Unread-clause-value g c told =
    let here : c.walk.i < descriptor_count c.args.form c.walk.area = omega arith in
    let e : c.push.new.self.items ≡ c.walk.stretches.items ++ Missing c.in-Unread.n (c.args.size - c.walk.c) ∷ [] =
    pushed c.push.new.self.items c.walk.stretches.items _ (is_ok c.push.result) c.push.ensures.items (c.is_err.ensures.negation ∙ ap not c.if-is_err.false) in
    walk-unread _ _ _ _ _ _ _ _ _ _ _ (c.walk.invariant.walk told) c.descriptor-d.result c.walk-test.true here c.descriptor-d.ensures c.if-d-eq0.false c.if-d-eq-NEXT_EXTENT.true
    c.in-Unread.n (sym (rw c.in-Unread.is at (c.in_ok-fault.ensures.value told)))
    ∙ ap (λ (taken : List Stretch). cells (cells_of (view_by g.B.BlockStore.states c.args.view) taken)) (sym e)

pub returns-in-Unread-clause-size : goal.returns-in-Unread-clause-size
returns-in-Unread-clause-size g c v =
    let e : c.push.new.self.items ≡ c.walk.stretches.items ++ Missing c.in-Unread.n (c.args.size - c.walk.c) ∷ [] =
    pushed c.push.new.self.items c.walk.stretches.items _ (is_ok c.push.result) c.push.ensures.items (c.is_err.ensures.negation ∙ ap not c.if-is_err.false) in
    let more : length (cells_of v c.push.new.self.items) ≡ length (cells_of v c.walk.stretches.items) + (c.args.size - c.walk.c) =
    ap (λ (ss : List Stretch). length (cells_of v ss)) e ∙ count_push v c.walk.stretches.items (Missing c.in-Unread.n (c.args.size - c.walk.c)) in
    let so_far : length (cells_of v c.walk.stretches.items) ≡ c.walk.c = c.walk.invariant.count v in
    omega (arith, more, so_far, c.walk.invariant.within)

pub invariant_of-result : goal.invariant_of-result
invariant_of-result g c =
    let e : c.walk.stretches.items ++ Missing c.in-Unread.n (c.args.size - c.walk.c) ∷ [] ≡ c.push.new.self.items =
    sym (pushed c.push.new.self.items c.walk.stretches.items _ (is_ok c.push.result) c.push.ensures.items (c.is_err.ensures.negation ∙ ap not c.if-is_err.false)) in
    subst LieInBlocks e (lie_more c.walk.stretches.items (Missing c.in-Unread.n (c.args.size - c.walk.c)) (c.walk.invariant.fill c.walk-test.true) tt)

pub walk-preserved-in-Area : goal.walk-preserved-in-Area
walk-preserved-in-Area g c =
    let here : c.walk.i < descriptor_count c.args.form c.walk.area = omega arith in
    let may = rw c.in-Area.is at c.in_ok-fault.ensures.allowed in
    let more : c.walk.left ≡ suc (c.walk.left - 1) = allowed c.walk.left may.1 in
    record {
      walk = λ told. subst (λ (area : List ℕ). IsWalk c.args.tail (view_by g.B.BlockStore.states c.args.view) c.args.size c.args.form c.args.reference
          (listed_body c.args.tail (view_by g.B.BlockStore.states c.args.view) c.args.form c.args.reference c.args.size c.args.area.now) (c.walk.left - 1) c.walk.c area 0 c.walk.stretches.items) (sym c.of-area-in-Area.ensures)
          (walk-area _ _ _ _ _ _ _ _ _ _ _ (c.walk.invariant.walk told) c.descriptor-d.result c.walk-test.true here c.descriptor-d.ensures c.if-d-eq0.false c.if-d-eq-NEXT_EXTENT.true
          c.in-Area.next.now (sym (rw c.in-Area.is at (c.in_ok-fault.ensures.value told))) (c.walk.left - 1) more);
      count = c.walk.invariant.count;
      area_fits = subst (λ (area : List ℕ). length area ≤ 2048) (sym c.of-area-in-Area.ensures) may.0;
      within = c.walk.invariant.within;
      fill = c.walk.invariant.fill;
      lie = c.walk.invariant.lie;
    }

pub returns-in-Err-clause-value : goal.returns-in-Err-clause-value
returns-in-Err-clause-value g c told =
    let here : c.walk.i < descriptor_count c.args.form c.walk.area = omega arith in
    walk-fault _ _ _ _ _ _ _ _ _ _ _ (c.walk.invariant.walk told) c.descriptor-d.result c.walk-test.true here c.descriptor-d.ensures c.if-d-eq0.false c.if-d-eq-NEXT_EXTENT.false
    c.in-Err.fault (c.in-Err.ensures (g.B.BlockStore.states c.args.view.blocks.now))

pub overflow_add-c : goal.overflow_add-c
overflow_add-c g c =
    let e : c.count-c.result ≡ min (covers c.descriptor-d.result) (c.args.size - c.walk.c) = c.count-c.ensures ∙ (c.in-Ok.ensures (g.B.BlockStore.states c.args.view.blocks.now)).count in
    let fits = c.ranges.size.fits in
    record { fits = within c.walk.c c.count-c.result c.args.size (covers c.descriptor-d.result) (2 ^ 64) e c.walk.invariant.within fits }

pub walk-preserved : goal.walk-preserved
walk-preserved g c =
    let here : c.walk.i < descriptor_count c.args.form c.walk.area = omega arith in
    let x : IsExtent (view_by g.B.BlockStore.states c.args.view) c.args.size c.walk.c c.descriptor-d.result c.in-Ok.stretch = c.in-Ok.ensures (g.B.BlockStore.states c.args.view.blocks.now) in
    let n : stretch_count c.in-Ok.stretch ≡ c.count-c.result = sym c.count-c.ensures in
    let e : c.walk.stretches.items ++ c.in-Ok.stretch ∷ [] ≡ c.push-in-Ok.new.self.items =
    sym (pushed c.push-in-Ok.new.self.items c.walk.stretches.items c.in-Ok.stretch (is_ok c.push-in-Ok.result) c.push-in-Ok.ensures.items
    (c.is_err-in-Ok.ensures.negation ∙ ap not c.if-is_err-2.false)) in
    record {
      walk = λ told. let w = walk-extent _ _ _ _ _ _ _ _ _ _ _ (c.walk.invariant.walk told) c.descriptor-d.result c.walk-test.true here c.descriptor-d.ensures c.if-d-eq0.false c.if-d-eq-NEXT_EXTENT.false
          c.in-Ok.stretch x in
          subst (λ (m : ℕ). IsWalk c.args.tail (view_by g.B.BlockStore.states c.args.view) c.args.size c.args.form c.args.reference
          (listed_body c.args.tail (view_by g.B.BlockStore.states c.args.view) c.args.form c.args.reference c.args.size c.args.area.now) c.walk.left (c.walk.c + m) c.walk.area (c.walk.i + 1) c.push-in-Ok.new.self.items) n
          (subst (IsWalk c.args.tail (view_by g.B.BlockStore.states c.args.view) c.args.size c.args.form c.args.reference
          (listed_body c.args.tail (view_by g.B.BlockStore.states c.args.view) c.args.form c.args.reference c.args.size c.args.area.now) c.walk.left (c.walk.c + stretch_count c.in-Ok.stretch) c.walk.area (c.walk.i + 1)) e w);
      count = λ v. ap (λ (ss : List Stretch). length (cells_of v ss)) (sym e) ∙ count_push v c.walk.stretches.items c.in-Ok.stretch ∙ (λ j. c.walk.invariant.count v j + n j);
      area_fits = c.walk.invariant.area_fits;
      within = let k : stretch_count c.in-Ok.stretch ≡ min (covers c.descriptor-d.result) (c.args.size - c.walk.c) = x.count in omega arith;
      fill = λ more. subst AllFill e (fill_more c.walk.stretches.items c.in-Ok.stretch (c.walk.invariant.fill c.walk-test.true)
          (x.fills (subst (λ (m : ℕ). c.walk.c + m < c.args.size) (sym n) more)));
      lie = subst LieInBlocks e (lie_more c.walk.stretches.items c.in-Ok.stretch (c.walk.invariant.fill c.walk-test.true) x.last);
    }

pub returns-clause-value : goal.returns-clause-value
returns-clause-value g c told = walk-done _ _ _ _ _ _ _ _ _ _ _ (c.walk.invariant.walk told) (omega arith)

pub returns-clause-size : goal.returns-clause-size
returns-clause-size g c v = let so_far : length (cells_of v c.walk.stretches.items) ≡ c.walk.c = c.walk.invariant.count v in omega (arith, so_far, c.walk.invariant.within)
