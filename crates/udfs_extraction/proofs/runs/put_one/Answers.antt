use Rattle.std.proofs.Common.{◌≡◌, ◌∙◌, ◌-◌, ◌++◌, ℕ, Bor, List, Some, ap, arith, map, rules, slice_get, string_bytes, subst, suc, sym}
use Rattle.udfs_salvage.specs.Listings.{listing_by}
use Rattle.udfs_walk.specs.NodeFields.{NodeFields}
use Rattle.udfs_extraction.specs.Extracting.{path_below}
use Rattle.udfs_extraction.specs.Manifests.{IsNoted}
use Rattle.udfs_extraction.specs.ShortNames.{placed}
use Rattle.udfs_extraction.proofs.RunLemmas.{run_nothing, run_step}
use Rattle.udfs_extraction.proofs.runs.put_one.Goals as goal

pub returns-in_err-place-clause-spares : goal.returns-in_err-place-clause-spares
returns-in_err-place-clause-spares g c = run_nothing g.F.Files (map (λ (word : Bor (List ℕ)). word.now) c.args.only.now) c.args.fill c.args.short (listing_by g.B.BlockStore.states c.args.listing.now) c.args.folder.now c.args.files.now

pub returns-in_err-path-clause-spares : goal.returns-in_err-path-clause-spares
returns-in_err-path-clause-spares g c = run_nothing g.F.Files (map (λ (word : Bor (List ℕ)). word.now) c.args.only.now) c.args.fill c.args.short (listing_by g.B.BlockStore.states c.args.listing.now) c.args.folder.now c.args.files.now

pub returns-in_err-done-clause-spares : goal.returns-in_err-done-clause-spares
returns-in_err-done-clause-spares g c =
    let F = g.F.Files in
    let report = listing_by g.B.BlockStore.states c.args.listing.now in
    let place = c.in_ok-place.ensures in
    let text : c.as_str-text.result.now ≡ string_bytes c.in_ok-place.place.text = search rules in
    let is : c.as_str-whole.result.now ≡ c.args.folder.now ++ c.as_str-text.result.now = search rules in
    let back : suc (c.args.index - 1) ≡ c.args.index = omega (arith, c.requires.after) in
    let here : (n : NodeFields) → slice_get report.nodes c.args.index ≡ Some n → c.as_str-whole.result.now ≡ path_below c.args.folder.now (placed c.args.short report c.args.index n)
    = λ n at. is ∙ ap (λ t. c.args.folder.now ++ t) (text ∙ place.text n (c.args.index - 1) at back c.requires.way) in
    run_step F (map (λ (word : Bor (List ℕ)). word.now) c.args.only.now) c.args.fill c.args.short report c.args.folder.now c.args.files.now c.put_chosen.new.files c.args.index c.as_str-whole.result.now
    (place.names.0, is ∙ ap (λ t. c.args.folder.now ++ t) (text ∙ place.names.1)) here c.put_chosen.ensures.stays c.put_chosen.ensures.others c.put_chosen.ensures.elsewhere c.put_chosen.ensures.crash

pub returns-clause-spares : goal.returns-clause-spares
returns-clause-spares g c =
    let F = g.F.Files in
    let report = listing_by g.B.BlockStore.states c.args.listing.now in
    let place = c.in_ok-place.ensures in
    let text : c.as_str-text.result.now ≡ string_bytes c.in_ok-place.place.text = search rules in
    let is : c.as_str-whole.result.now ≡ c.args.folder.now ++ c.as_str-text.result.now = search rules in
    let back : suc (c.args.index - 1) ≡ c.args.index = omega (arith, c.requires.after) in
    let here : (n : NodeFields) → slice_get report.nodes c.args.index ≡ Some n → c.as_str-whole.result.now ≡ path_below c.args.folder.now (placed c.args.short report c.args.index n)
    = λ n at. is ∙ ap (λ t. c.args.folder.now ++ t) (text ∙ place.text n (c.args.index - 1) at back c.requires.way) in
    run_step F (map (λ (word : Bor (List ℕ)). word.now) c.args.only.now) c.args.fill c.args.short report c.args.folder.now c.args.files.now c.put_chosen.new.files c.args.index c.as_str-whole.result.now
    (place.names.0, is ∙ ap (λ t. c.args.folder.now ++ t) (text ∙ place.names.1)) here c.put_chosen.ensures.stays c.put_chosen.ensures.others c.put_chosen.ensures.elsewhere c.put_chosen.ensures.crash

pub returns-clause-held : goal.returns-clause-held
returns-clause-held g c known n at =
    let F = g.F.Files in
    let report = listing_by g.B.BlockStore.states c.args.listing.now in
    let place = c.in_ok-place.ensures in
    let text : c.as_str-text.result.now ≡ string_bytes c.in_ok-place.place.text = search rules in
    let is : c.as_str-whole.result.now ≡ c.args.folder.now ++ c.as_str-text.result.now = search rules in
    let whole : c.as_str-whole.result.now ≡ string_bytes c.in_ok-path.path = search rules in
    let back : suc (c.args.index - 1) ≡ c.args.index = omega (arith, c.requires.after) in
    let here : c.as_str-whole.result.now ≡ path_below c.args.folder.now (placed c.args.short report c.args.index n)
    = is ∙ ap (λ t. c.args.folder.now ++ t) (text ∙ place.text n (c.args.index - 1) at back c.requires.way) in
    record {
      path = sym whole ∙ here;
      own = place.own n at;
      done = c.in_ok-done.ensures.put known n c.args.short c.args.folder.now at here;
      noted = subst (λ p. IsNoted c.args.digest F.tells (F.holds c.put_chosen.new.files) p c.in_ok-done.done.fate c.in_ok-done.done.digest) whole c.in_ok-done.ensures.digest;
    }

pub returns-clause-placed : goal.returns-clause-placed
returns-clause-placed g c n at =
    let F = g.F.Files in
    let report = listing_by g.B.BlockStore.states c.args.listing.now in
    let place = c.in_ok-place.ensures in
    let text : c.as_str-text.result.now ≡ string_bytes c.in_ok-place.place.text = search rules in
    let is : c.as_str-whole.result.now ≡ c.args.folder.now ++ c.as_str-text.result.now = search rules in
    let whole : c.as_str-whole.result.now ≡ string_bytes c.in_ok-path.path = search rules in
    let back : suc (c.args.index - 1) ≡ c.args.index = omega (arith, c.requires.after) in
    let here : c.as_str-whole.result.now ≡ path_below c.args.folder.now (placed c.args.short report c.args.index n)
    = is ∙ ap (λ t. c.args.folder.now ++ t) (text ∙ place.text n (c.args.index - 1) at back c.requires.way) in
    record {
      path = sym whole ∙ here;
      chosen = λ written. (c.in_ok-done.ensures.file written n at).0;
      file = λ written. (c.in_ok-done.ensures.file written n at).1;
    }

pub returns-clause-way : goal.returns-clause-way
returns-clause-way g c =
    let back : suc (c.args.index - 1) ≡ c.args.index = omega (arith, c.requires.after) in
    c.in_ok-place.ensures.way (c.args.index - 1) back c.requires.way
