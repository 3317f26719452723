use Rattle.std.proofs.Common.{◌∙◌, ◌≡◌, ◌<◌, ap, arith, false, length, map, sym, take, true}
use Rattle.udfs_words.specs.Globs.{fits, name_step}
use Rattle.udfs_words.specs.GlobRows.{last_from}
use Rattle.udfs_words.proofs.GlobBelow.{found_one, passed_over, taken_of}
use Rattle.udfs_words.proofs.GlobReaching.{same_count}
use Rattle.udfs_words.proofs.globs.is_front.Goals as goal

pub returns-then-is_at_end : goal.returns-then-is_at_end
returns-then-is_at_end c =
    let pattern = map (λ name. name.items) c.args.pattern.now in
    let names = map (λ name. name.items) c.args.names.now in
    let many = same_count (λ name. name.items) c.args.pattern.now in
    let less : c.loop-count.count < length pattern = omega (arith, c.loop-count-test.true, many) in
    let reached : fits (map name_step (take c.loop-count.count pattern)) names ≡ true =
    ap (λ front. fits (map name_step front) names) (taken_of (λ name. name.items) c.loop-count.count c.args.pattern.now)
    ∙ c.in_ok-row.ensures.all ∙ ap (λ row. last_from false row) (sym c.deref.ensures.value) ∙ sym c.is_at_end.ensures ∙ c.if-is_at_end.true in
    sym (sym c.loop-count.invariant ∙ found_one (λ k. fits (map name_step (take k pattern)) names) c.loop-count.count (length pattern) less reached)

pub loop-count-preserved : goal.loop-count-preserved
loop-count-preserved c =
    let pattern = map (λ name. name.items) c.args.pattern.now in
    let names = map (λ name. name.items) c.args.names.now in
    let many = same_count (λ name. name.items) c.args.pattern.now in
    let less : c.loop-count.count < length pattern = omega (arith, c.loop-count-test.true, many) in
    let passed : fits (map name_step (take c.loop-count.count pattern)) names ≡ false =
    ap (λ front. fits (map name_step front) names) (taken_of (λ name. name.items) c.loop-count.count c.args.pattern.now)
    ∙ c.in_ok-row.ensures.all ∙ ap (λ row. last_from false row) (sym c.deref.ensures.value) ∙ sym c.is_at_end.ensures ∙ c.if-is_at_end.false in
    passed_over (λ k. fits (map name_step (take k pattern)) names) c.loop-count.count (length pattern) less passed ∙ c.loop-count.invariant
