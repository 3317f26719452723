use Rattle.std.proofs.Common.{◌∙◌, sym, subst, ◌≡◌}
use Rattle.udfs_space.specs.Places.{view}
use Rattle.udfs_file.specs.Bodies.{cells_in}
use Rattle.udfs_file.specs.Stretches.{IsExtent}
use Rattle.udfs_file.specs.declared.stretches.Stretch.TheVariants.{Recorded}
use Rattle.udfs_file.proofs.ExtentLemmas.{misreferred, misplaced, odd, recorded, zeros, count_is}
use Rattle.udfs_file.proofs.extents.extent.Goals as goal

pub returns-then-is_misreferred : goal.returns-then-is_misreferred
returns-then-is_misreferred c = λ blocks. misreferred (view blocks c.args.space.now) c.args.size c.args.c c.args.d
    (sym (c.is_misreferred.ensures blocks) ∙ c.if-is_misreferred.true)

pub returns-then-is_misplaced : goal.returns-then-is_misplaced
returns-then-is_misplaced c = λ blocks.
    let e : c.min-count.result ≡ cells_in c.args.size (c.args.c, c.args.d) = cc (count_is c.args.size c.args.c c.args.d c.requires.is_extent) in
    misplaced (view blocks c.args.space.now) c.args.size c.args.c c.min-count.result c.args.d e
    (sym (c.is_misreferred.ensures blocks) ∙ c.if-is_misreferred.false) (sym (c.is_misplaced.ensures blocks) ∙ c.if-is_misplaced.true)

pub returns-then-is_odd : goal.returns-then-is_odd
returns-then-is_odd c = λ blocks.
    let e : c.min-count.result ≡ cells_in c.args.size (c.args.c, c.args.d) = cc (count_is c.args.size c.args.c c.args.d c.requires.is_extent) in
    odd (view blocks c.args.space.now) c.args.size c.args.c c.min-count.result c.args.d e
    (sym (c.is_misreferred.ensures blocks) ∙ c.if-is_misreferred.false) (sym (c.is_misplaced.ensures blocks) ∙ c.if-is_misplaced.false)
    (sym c.is_odd.ensures ∙ c.if-is_odd.true)

pub returns-then-d-eq-RECORDED : goal.returns-then-d-eq-RECORDED
returns-then-d-eq-RECORDED c = λ blocks.
    let e : c.min-count.result ≡ cells_in c.args.size (c.args.c, c.args.d) = cc (count_is c.args.size c.args.c c.args.d c.requires.is_extent) in
    subst (λ a. IsExtent (view blocks c.args.space.now) c.args.size c.args.c c.args.d (Recorded (record { address = a; offset = 0 }) c.min-count.result)) (sym c.address.ensures)
    (recorded (view blocks c.args.space.now) c.args.size c.args.c c.min-count.result c.args.d e
    (sym (c.is_misreferred.ensures blocks) ∙ c.if-is_misreferred.false) (sym (c.is_misplaced.ensures blocks) ∙ c.if-is_misplaced.false)
    (sym c.is_odd.ensures ∙ c.if-is_odd.false) c.requires.is_extent c.if-d-eq-RECORDED.true)

pub returns-else-d-eq-RECORDED : goal.returns-else-d-eq-RECORDED
returns-else-d-eq-RECORDED c = λ blocks.
    let e : c.min-count.result ≡ cells_in c.args.size (c.args.c, c.args.d) = cc (count_is c.args.size c.args.c c.args.d c.requires.is_extent) in
    zeros (view blocks c.args.space.now) c.args.size c.args.c c.min-count.result c.args.d e
    (sym (c.is_misreferred.ensures blocks) ∙ c.if-is_misreferred.false) (sym (c.is_misplaced.ensures blocks) ∙ c.if-is_misplaced.false)
    (sym c.is_odd.ensures ∙ c.if-is_odd.false) c.requires.is_extent c.if-d-eq-RECORDED.false
