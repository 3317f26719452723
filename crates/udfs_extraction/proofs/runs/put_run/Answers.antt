use Rattle.std.proofs.Common.{◌≡◌, ◌∙◌, ℕ, Bor, List, ap, arith, drop, length, map, rules, subst, sym}
use Rattle.std.proofs.lemmas.List.{length-map}
use Rattle.udfs_salvage.specs.Found.{volume_now}
use Rattle.udfs_salvage.specs.Listings.{full_in, listing_by}
use Rattle.udfs_extraction.specs.Runs.{AreFresh, AreHeld, ArePlaced}
use Rattle.udfs_extraction.proofs.PutNodes.{each_map}
use Rattle.udfs_extraction.proofs.RunLemmas.{are_held_still, run_on, run_quiet, run_removed, texts_moved, told_moved}
use Rattle.udfs_extraction.proofs.runs.put_run.Goals as goal

pub returns-in_err-tell_each-clause-put : goal.returns-in_err-tell_each-clause-put
returns-in_err-tell_each-clause-put g c known =
    let F = g.F.Files in
    let out = g.F.Output.Sink.stream in
    let l = c.args.listing.now in
    let report = listing_by g.B.BlockStore.states l in
    let only = map (λ (word : Bor (List ℕ)). word.now) c.args.only.now in
    let one = c.put_each-put.new.files in
    let two = c.name_files-named.new.files in
    let three = c.tell_each.new.files in
    let first = c.args.first in
    let puts = c.as_slice-made.result.now in
    let value = c.as_slice-made.ensures.value in
    let names = c.name_files-named.ensures in
    let before = subst (AreHeld F out one only (g.B.BlockStore.states l.table.now) report c.args.fill c.args.short c.args.digest c.args.folder.now first) (sym value) (c.put_each-put.ensures.held known) in
    let held = are_held_still F out only (g.B.BlockStore.states l.table.now) report c.args.fill c.args.short c.args.digest c.args.folder.now one two first puts (λ told q bytes is. names.others q ∙ is) before in
    let told = c.tell_each.ensures.put c.args.fill c.args.short c.args.digest held in
    let moved = told_moved F out only (g.B.BlockStore.states l.table.now) report c.args.fill c.args.short c.args.folder.now two three c.name_files-named.result c.tell_each.ensures.named in
    (told.0, record { each = each_map _ _ moved first (drop first report.nodes) told.0 told.1.each; lines = told.1.lines }, search rules)

pub returns-in_err-put-clause-put : goal.returns-in_err-put-clause-put
returns-in_err-put-clause-put g c known =
    let F = g.F.Files in
    let out = g.F.Output.Sink.stream in
    let l = c.args.listing.now in
    let report = listing_by g.B.BlockStore.states l in
    let only = map (λ (word : Bor (List ℕ)). word.now) c.args.only.now in
    let one = c.put_each-put.new.files in
    let two = c.name_files-named.new.files in
    let three = c.tell_each.new.files in
    let first = c.args.first in
    let puts = c.as_slice-made.result.now in
    let value = c.as_slice-made.ensures.value in
    let names = c.name_files-named.ensures in
    let before = subst (AreHeld F out one only (g.B.BlockStore.states l.table.now) report c.args.fill c.args.short c.args.digest c.args.folder.now first) (sym value) (c.put_each-put.ensures.held known) in
    let held = are_held_still F out only (g.B.BlockStore.states l.table.now) report c.args.fill c.args.short c.args.digest c.args.folder.now one two first puts (λ told q bytes is. names.others q ∙ is) before in
    let told = c.tell_each.ensures.put c.args.fill c.args.short c.args.digest held in
    let moved = told_moved F out only (g.B.BlockStore.states l.table.now) report c.args.fill c.args.short c.args.folder.now two three c.name_files-named.result c.tell_each.ensures.named in
    (told.0, record { each = each_map _ _ moved first (drop first report.nodes) told.0 told.1.each; lines = told.1.lines }, search rules)

pub returns-clause-put : goal.returns-clause-put
returns-clause-put g c known =
    let F = g.F.Files in
    let out = g.F.Output.Sink.stream in
    let l = c.args.listing.now in
    let report = listing_by g.B.BlockStore.states l in
    let only = map (λ (word : Bor (List ℕ)). word.now) c.args.only.now in
    let one = c.put_each-put.new.files in
    let two = c.name_files-named.new.files in
    let three = c.tell_each.new.files in
    let first = c.args.first in
    let puts = c.as_slice-made.result.now in
    let value = c.as_slice-made.ensures.value in
    let names = c.name_files-named.ensures in
    let before = subst (AreHeld F out one only (g.B.BlockStore.states l.table.now) report c.args.fill c.args.short c.args.digest c.args.folder.now first) (sym value) (c.put_each-put.ensures.held known) in
    let held = are_held_still F out only (g.B.BlockStore.states l.table.now) report c.args.fill c.args.short c.args.digest c.args.folder.now one two first puts (λ told q bytes is. names.others q ∙ is) before in
    let told = c.in_ok-tell_each.ensures.put c.args.fill c.args.short c.args.digest held in
    let moved = told_moved F out only (g.B.BlockStore.states l.table.now) report c.args.fill c.args.short c.args.folder.now two three c.name_files-named.result c.tell_each.ensures.named in
    let all = told.2 in
    let count = all.0 in (
      told.0,
      record { each = each_map _ _ moved first (drop first report.nodes) told.0 told.1.each; lines = told.1.lines },
      (
        omega (arith, count),
        all.1,
        λ wanted tells.
            let text = all.2 wanted tells in
            (text.0, texts_moved F out only (g.B.BlockStore.states l.table.now) report c.args.fill c.args.short c.args.folder.now two three c.name_files-named.result c.tell_each.ensures.named first (drop first report.nodes) told.0 text.0 told.1.each text.1, text.2),
      ),
    )

pub returns-in_err-tell_each-clause-spares : goal.returns-in_err-tell_each-clause-spares
returns-in_err-tell_each-clause-spares g c =
    let F = g.F.Files in
    let l = c.args.listing.now in
    let report = listing_by g.B.BlockStore.states l in
    let only = map (λ (word : Bor (List ℕ)). word.now) c.args.only.now in
    let one = c.put_each-put.new.files in
    let two = c.name_files-named.new.files in
    let three = c.tell_each.new.files in
    let first = c.args.first in
    let puts = c.as_slice-made.result.now in
    let value = c.as_slice-made.ensures.value in
    let names = c.name_files-named.ensures in
    let are = subst (ArePlaced only report c.args.fill c.args.short c.args.folder.now first) (sym value) c.put_each-put.ensures.placed in
    let many : length report.nodes ≡ length l.nodes.items = length-map l.nodes.items (full_in (g.B.BlockStore.states l.table.now) (volume_now l.volume)) in
    let long = ap length value in
    let few = c.put_each-put.ensures.few in
    run_removed F only c.args.fill c.args.short report c.args.folder.now c.args.files.now two three first puts (omega (arith, many, few, long)) are
    (λ told. subst (AreFresh (F.holds c.args.files.now)) (sym value) (c.put_each-put.ensures.fresh told))
    (run_on F only c.args.fill c.args.short report c.args.folder.now c.args.files.now one two c.put_each-put.ensures.spares (run_quiet F only c.args.fill c.args.short report c.args.folder.now one two names.others names.crash)) c.tell_each.ensures.others c.tell_each.ensures.crash

pub returns-in_err-put-clause-spares : goal.returns-in_err-put-clause-spares
returns-in_err-put-clause-spares g c =
    let F = g.F.Files in
    let l = c.args.listing.now in
    let report = listing_by g.B.BlockStore.states l in
    let only = map (λ (word : Bor (List ℕ)). word.now) c.args.only.now in
    let one = c.put_each-put.new.files in
    let two = c.name_files-named.new.files in
    let three = c.tell_each.new.files in
    let first = c.args.first in
    let puts = c.as_slice-made.result.now in
    let value = c.as_slice-made.ensures.value in
    let names = c.name_files-named.ensures in
    let are = subst (ArePlaced only report c.args.fill c.args.short c.args.folder.now first) (sym value) c.put_each-put.ensures.placed in
    let many : length report.nodes ≡ length l.nodes.items = length-map l.nodes.items (full_in (g.B.BlockStore.states l.table.now) (volume_now l.volume)) in
    let long = ap length value in
    let few = c.put_each-put.ensures.few in
    run_removed F only c.args.fill c.args.short report c.args.folder.now c.args.files.now two three first puts (omega (arith, many, few, long)) are
    (λ told. subst (AreFresh (F.holds c.args.files.now)) (sym value) (c.put_each-put.ensures.fresh told))
    (run_on F only c.args.fill c.args.short report c.args.folder.now c.args.files.now one two c.put_each-put.ensures.spares (run_quiet F only c.args.fill c.args.short report c.args.folder.now one two names.others names.crash)) c.tell_each.ensures.others c.tell_each.ensures.crash

pub returns-clause-spares : goal.returns-clause-spares
returns-clause-spares g c =
    let F = g.F.Files in
    let l = c.args.listing.now in
    let report = listing_by g.B.BlockStore.states l in
    let only = map (λ (word : Bor (List ℕ)). word.now) c.args.only.now in
    let one = c.put_each-put.new.files in
    let two = c.name_files-named.new.files in
    let three = c.tell_each.new.files in
    let first = c.args.first in
    let puts = c.as_slice-made.result.now in
    let value = c.as_slice-made.ensures.value in
    let names = c.name_files-named.ensures in
    let are = subst (ArePlaced only report c.args.fill c.args.short c.args.folder.now first) (sym value) c.put_each-put.ensures.placed in
    let many : length report.nodes ≡ length l.nodes.items = length-map l.nodes.items (full_in (g.B.BlockStore.states l.table.now) (volume_now l.volume)) in
    let long = ap length value in
    let few = c.put_each-put.ensures.few in
    run_removed F only c.args.fill c.args.short report c.args.folder.now c.args.files.now two three first puts (omega (arith, many, few, long)) are
    (λ told. subst (AreFresh (F.holds c.args.files.now)) (sym value) (c.put_each-put.ensures.fresh told))
    (run_on F only c.args.fill c.args.short report c.args.folder.now c.args.files.now one two c.put_each-put.ensures.spares (run_quiet F only c.args.fill c.args.short report c.args.folder.now one two names.others names.crash)) c.tell_each.ensures.others c.tell_each.ensures.crash
