use Rattle.std.proofs.Common.{◌≡◌, ◌∙◌, ◌+◌, ◌-◌, ◌<◌, ◌≤◌, ◌++◌, ◌∷◌, ℕ, [], Bor, List, Some, None, ap, arith, length, length-append, map, rules, slice_get, subst, sym}
use Rattle.udfs_salvage.specs.Listings.{listing_by}
use Rattle.udfs_extraction.specs.Runs.{AreFresh, AreHeld, ArePlaced}
use Rattle.udfs_extraction.specs.ShortNames.{IsWay}
use Rattle.udfs_extraction.specs.declared.naming.Put.{Put}
use Rattle.udfs_extraction.proofs.RunLemmas.{are_held_more, are_held_still, are_fresh_more, are_placed_more, run_nothing, run_on}
use Rattle.udfs_extraction.proofs.runs.put_each.Goals as goal

pub loop-index-init : goal.loop-index-init
loop-index-init g c =
    let none = c.requires.none in
    record {
      held = λ known k n put at. let bad : None ≡ Some put = subst (λ l. slice_get l k ≡ Some put) none at in absurd (let no : ⊥ = cc in no);
      placed = λ k n put at. let bad : None ≡ Some put = subst (λ l. slice_get l k ≡ Some put) none at in absurd (let no : ⊥ = cc in no);
      fresh = λ told k put bytes at. let bad : None ≡ Some put = subst (λ l. slice_get l k ≡ Some put) none at in absurd (let no : ⊥ = cc in no);
      count = (let zero_long : length c.args.puts.now.items ≡ 0 = ap length none in omega (arith, zero_long));
      way = c.requires.way;
      spares = run_nothing g.F.Files (map (λ (word : Bor (List ℕ)). word.now) c.args.only.now) c.args.fill c.args.short (listing_by g.B.BlockStore.states c.args.listing.now) c.args.folder.now c.args.files.now;
    }

pub loop-index-preserved : goal.loop-index-preserved
loop-index-preserved g c =
    let F = g.F.Files in
    let out = g.F.Output.Sink.stream in
    let inv = c.loop-index.invariant in
    let l = c.args.listing.now in
    let report = listing_by g.B.BlockStore.states l in
    let only = map (λ (word : Bor (List ℕ)). word.now) c.args.only.now in
    let put = c.in_ok-put.put in
    let puts = c.loop-index.puts.items in
    let pushed : c.push_reserved.new.self.items ≡ puts ++ put ∷ [] = c.push_reserved.ensures.items ∙ ap (λ (l : List Put). l ++ put ∷ []) c.reserve.ensures.items in
    let spares = c.put_one.ensures.spares in
    let longer = length-append puts (put ∷ []) in
    let count = inv.count in
    record {
      held = λ known. subst (AreHeld F out c.put_one.new.files only (g.B.BlockStore.states l.table.now) report c.args.fill c.args.short c.args.digest c.args.folder.now c.args.first) (sym pushed)
          (are_held_more F out only (g.B.BlockStore.states l.table.now) report c.args.fill c.args.short c.args.digest c.args.folder.now c.loop-index.files c.put_one.new.files c.args.first c.loop-index.index puts put count spares.stays (inv.held known) (c.in_ok-put.ensures.held known));
      placed = subst (ArePlaced only report c.args.fill c.args.short c.args.folder.now c.args.first) (sym pushed) (are_placed_more only report c.args.fill c.args.short c.args.folder.now c.args.first c.loop-index.index puts put count inv.placed c.in_ok-put.ensures.placed);
      fresh = λ told. subst (AreFresh (F.holds c.args.files.now)) (sym pushed) (are_fresh_more (F.holds c.args.files.now) (F.holds c.loop-index.files) puts put (inv.spares.stays told) (inv.fresh told) (λ written. c.in_ok-put.ensures.fresh written told));
      count = (let long = ap length pushed in omega (arith, count, longer, long));
      way = (let back : c.loop-index.index + 1 - 1 ≡ c.loop-index.index = omega arith in subst (λ k. IsWay report.nodes k c.put_one.new.way.items) (sym back) c.in_ok-put.ensures.way);
      spares = run_on F only c.args.fill c.args.short report c.args.folder.now c.args.files.now c.loop-index.files c.put_one.new.files inv.spares spares;
    }

pub returns-in_err-reserve-clause-held : goal.returns-in_err-reserve-clause-held
returns-in_err-reserve-clause-held g c known =
    subst (AreHeld g.F.Files g.F.Output.Sink.stream c.loop-index.files (map (λ (word : Bor (List ℕ)). word.now) c.args.only.now) (g.B.BlockStore.states c.args.listing.now.table.now) (listing_by g.B.BlockStore.states c.args.listing.now) c.args.fill c.args.short c.args.digest c.args.folder.now c.args.first)
    (sym c.reserve.ensures.items) (c.loop-index.invariant.held known)

pub returns-in_err-reserve-clause-placed : goal.returns-in_err-reserve-clause-placed
returns-in_err-reserve-clause-placed g c =
    subst (ArePlaced (map (λ (word : Bor (List ℕ)). word.now) c.args.only.now) (listing_by g.B.BlockStore.states c.args.listing.now) c.args.fill c.args.short c.args.folder.now c.args.first) (sym c.reserve.ensures.items) c.loop-index.invariant.placed

pub returns-in_err-reserve-clause-fresh : goal.returns-in_err-reserve-clause-fresh
returns-in_err-reserve-clause-fresh g c told = subst (AreFresh (g.F.Files.holds c.args.files.now)) (sym c.reserve.ensures.items) (c.loop-index.invariant.fresh told)

pub returns-in_err-reserve-clause-few : goal.returns-in_err-reserve-clause-few
returns-in_err-reserve-clause-few g c =
    let count = c.loop-index.invariant.count in
    let long = ap length c.reserve.ensures.items in
    let less : c.loop-index.index < length c.args.listing.now.nodes.items = search rules in
    omega (arith, count, long, less)

pub returns-in_err-reserve-clause-spares : goal.returns-in_err-reserve-clause-spares
returns-in_err-reserve-clause-spares g c = c.loop-index.invariant.spares

pub returns-in_err-put-clause-held : goal.returns-in_err-put-clause-held
returns-in_err-put-clause-held g c known =
    let only = map (λ (word : Bor (List ℕ)). word.now) c.args.only.now in
    let l = c.args.listing.now in
    subst (AreHeld g.F.Files g.F.Output.Sink.stream c.put_one.new.files only (g.B.BlockStore.states l.table.now) (listing_by g.B.BlockStore.states l) c.args.fill c.args.short c.args.digest c.args.folder.now c.args.first) (sym c.reserve.ensures.items)
    (are_held_still g.F.Files g.F.Output.Sink.stream only (g.B.BlockStore.states l.table.now) (listing_by g.B.BlockStore.states l) c.args.fill c.args.short c.args.digest c.args.folder.now c.loop-index.files c.put_one.new.files c.args.first c.loop-index.puts.items
    c.put_one.ensures.spares.stays (c.loop-index.invariant.held known))

pub returns-in_err-put-clause-placed : goal.returns-in_err-put-clause-placed
returns-in_err-put-clause-placed g c =
    subst (ArePlaced (map (λ (word : Bor (List ℕ)). word.now) c.args.only.now) (listing_by g.B.BlockStore.states c.args.listing.now) c.args.fill c.args.short c.args.folder.now c.args.first) (sym c.reserve.ensures.items) c.loop-index.invariant.placed

pub returns-in_err-put-clause-fresh : goal.returns-in_err-put-clause-fresh
returns-in_err-put-clause-fresh g c told = subst (AreFresh (g.F.Files.holds c.args.files.now)) (sym c.reserve.ensures.items) (c.loop-index.invariant.fresh told)

pub returns-in_err-put-clause-few : goal.returns-in_err-put-clause-few
returns-in_err-put-clause-few g c =
    let count = c.loop-index.invariant.count in
    let long = ap length c.reserve.ensures.items in
    let less : c.loop-index.index < length c.args.listing.now.nodes.items = search rules in
    omega (arith, count, long, less)

pub returns-in_err-put-clause-spares : goal.returns-in_err-put-clause-spares
returns-in_err-put-clause-spares g c = run_on g.F.Files (map (λ (word : Bor (List ℕ)). word.now) c.args.only.now) c.args.fill c.args.short (listing_by g.B.BlockStore.states c.args.listing.now) c.args.folder.now c.args.files.now c.loop-index.files c.put_one.new.files c.loop-index.invariant.spares c.put_one.ensures.spares

pub returns-then-last-clause-held : goal.returns-then-last-clause-held
returns-then-last-clause-held g c known =
    let F = g.F.Files in
    let out = g.F.Output.Sink.stream in
    let inv = c.loop-index.invariant in
    let l = c.args.listing.now in
    let report = listing_by g.B.BlockStore.states l in
    let only = map (λ (word : Bor (List ℕ)). word.now) c.args.only.now in
    let put = c.in_ok-put.put in
    let puts = c.loop-index.puts.items in
    let pushed : c.push_reserved.new.self.items ≡ puts ++ put ∷ [] = c.push_reserved.ensures.items ∙ ap (λ (l : List Put). l ++ put ∷ []) c.reserve.ensures.items in
    let spares = c.put_one.ensures.spares in
    let count = inv.count in
    subst (AreHeld F out c.put_one.new.files only (g.B.BlockStore.states l.table.now) report c.args.fill c.args.short c.args.digest c.args.folder.now c.args.first) (sym pushed)
    (are_held_more F out only (g.B.BlockStore.states l.table.now) report c.args.fill c.args.short c.args.digest c.args.folder.now c.loop-index.files c.put_one.new.files c.args.first c.loop-index.index puts put count spares.stays (inv.held known) (c.in_ok-put.ensures.held known))

pub returns-then-last-clause-placed : goal.returns-then-last-clause-placed
returns-then-last-clause-placed g c =
    let inv = c.loop-index.invariant in
    let l = c.args.listing.now in
    let report = listing_by g.B.BlockStore.states l in
    let only = map (λ (word : Bor (List ℕ)). word.now) c.args.only.now in
    let put = c.in_ok-put.put in
    let puts = c.loop-index.puts.items in
    let pushed : c.push_reserved.new.self.items ≡ puts ++ put ∷ [] = c.push_reserved.ensures.items ∙ ap (λ (l : List Put). l ++ put ∷ []) c.reserve.ensures.items in
    let count = inv.count in
    subst (ArePlaced only report c.args.fill c.args.short c.args.folder.now c.args.first) (sym pushed)
    (are_placed_more only report c.args.fill c.args.short c.args.folder.now c.args.first c.loop-index.index puts put count inv.placed c.in_ok-put.ensures.placed)

pub returns-then-last-clause-fresh : goal.returns-then-last-clause-fresh
returns-then-last-clause-fresh g c =
    let F = g.F.Files in
    let inv = c.loop-index.invariant in
    let l = c.args.listing.now in
    let put = c.in_ok-put.put in
    let puts = c.loop-index.puts.items in
    let pushed : c.push_reserved.new.self.items ≡ puts ++ put ∷ [] = c.push_reserved.ensures.items ∙ ap (λ (l : List Put). l ++ put ∷ []) c.reserve.ensures.items in
    λ told. subst (AreFresh (F.holds c.args.files.now)) (sym pushed) (are_fresh_more (F.holds c.args.files.now) (F.holds c.loop-index.files) puts put (inv.spares.stays told) (inv.fresh told) (λ written. c.in_ok-put.ensures.fresh written told))

pub returns-then-last-clause-few : goal.returns-then-last-clause-few
returns-then-last-clause-few g c =
    let inv = c.loop-index.invariant in
    let l = c.args.listing.now in
    let put = c.in_ok-put.put in
    let puts = c.loop-index.puts.items in
    let pushed : c.push_reserved.new.self.items ≡ puts ++ put ∷ [] = c.push_reserved.ensures.items ∙ ap (λ (l : List Put). l ++ put ∷ []) c.reserve.ensures.items in
    let longer = length-append puts (put ∷ []) in
    let long = ap length pushed in
    let count = inv.count in
    let less : c.loop-index.index < length l.nodes.items = search rules in
    omega (arith, count, longer, long, less)

pub returns-then-last-clause-some : goal.returns-then-last-clause-some
returns-then-last-clause-some g c =
    let l = c.args.listing.now in
    let put = c.in_ok-put.put in
    let puts = c.loop-index.puts.items in
    let pushed : c.push_reserved.new.self.items ≡ puts ++ put ∷ [] = c.push_reserved.ensures.items ∙ ap (λ (l : List Put). l ++ put ∷ []) c.reserve.ensures.items in
    let longer = length-append puts (put ∷ []) in
    let long = ap length pushed in
    λ there. omega (arith, longer, long)

pub returns-then-last-clause-way : goal.returns-then-last-clause-way
returns-then-last-clause-way g c =
    let inv = c.loop-index.invariant in
    let l = c.args.listing.now in
    let report = listing_by g.B.BlockStore.states l in
    let put = c.in_ok-put.put in
    let puts = c.loop-index.puts.items in
    let pushed : c.push_reserved.new.self.items ≡ puts ++ put ∷ [] = c.push_reserved.ensures.items ∙ ap (λ (l : List Put). l ++ put ∷ []) c.reserve.ensures.items in
    let longer = length-append puts (put ∷ []) in
    let long = ap length pushed in
    let count = inv.count in
    let here : c.args.first + length c.push_reserved.new.self.items - 1 ≡ c.loop-index.index = omega (arith, count, longer, long) in
    subst (λ k. IsWay report.nodes k c.put_one.new.way.items) (sym here) c.in_ok-put.ensures.way

pub returns-then-last-clause-spares : goal.returns-then-last-clause-spares
returns-then-last-clause-spares g c =
    let F = g.F.Files in
    let inv = c.loop-index.invariant in
    let l = c.args.listing.now in
    let report = listing_by g.B.BlockStore.states l in
    let only = map (λ (word : Bor (List ℕ)). word.now) c.args.only.now in
    let spares = c.put_one.ensures.spares in
    run_on F only c.args.fill c.args.short report c.args.folder.now c.args.files.now c.loop-index.files c.put_one.new.files inv.spares spares

pub returns-clause-few : goal.returns-clause-few
returns-clause-few g c =
    let count = c.loop-index.invariant.count in
    let most : c.loop-index.index ≤ length c.args.listing.now.nodes.items = search rules in
    omega (arith, count, most)

pub returns-clause-some : goal.returns-clause-some
returns-clause-some g c less =
    let count = c.loop-index.invariant.count in
    let end : length c.args.listing.now.nodes.items ≤ c.loop-index.index = search rules in
    omega (arith, count, end, less)

pub returns-clause-way : goal.returns-clause-way
returns-clause-way g c =
    let count = c.loop-index.invariant.count in
    let here : c.args.first + length c.loop-index.puts.items - 1 ≡ c.loop-index.index - 1 = omega (arith, count) in
    subst (λ k. IsWay (listing_by g.B.BlockStore.states c.args.listing.now).nodes k c.loop-index.way.items) (sym here) c.loop-index.invariant.way
