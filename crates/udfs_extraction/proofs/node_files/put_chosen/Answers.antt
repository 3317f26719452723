use Rattle.std.proofs.Common.{◌≡◌, ◌∙◌, Bor, ℕ, List, true, false, ap, map, rules, subst, sym}
use Rattle.udfs_walk.specs.NodeFields.{NodeFields}
use Rattle.udfs_salvage.specs.Found.{volume_now}
use Rattle.udfs_salvage.specs.Listings.{full_in}
use Rattle.udfs_salvage.specs.Choosing.{is_chosen}
use Rattle.udfs_extraction.proofs.node_files.put_chosen.Goals as goal

pub returns-in-Ok-clause-put : goal.returns-in-Ok-clause-put
returns-in-Ok-clause-put g c known n short folder at placed_at =
    let only = map (λ (word : Bor (List ℕ)). word.now) c.args.only.now in
    let l = c.args.listing.now in
    let same : full_in (g.B.BlockStore.states l.table.now) (volume_now l.volume) c.node_at-node.result.now ≡ n = let e = sym c.node_at-node.ensures ∙ at in cc in
    let seen : c.node.inside.path ≡ c.node_at-node.result.now.path = search rules in
    let asked : is_chosen only n.path ≡ true = subst (λ (p : List (List ℕ)). is_chosen only p ≡ true) (seen ∙ ap (λ (m : NodeFields). m.path) same) (sym c.in_ok-is_chosen.ensures ∙ c.if-branch.true) in
    record {
      asked = λ is. c.in-Ok.ensures.put known n short folder at placed_at;
      passed = λ is. let bad : true ≡ false = sym asked ∙ is in cc;
    }

pub returns-in-Ok-clause-elsewhere : goal.returns-in-Ok-clause-elsewhere
returns-in-Ok-clause-elsewhere g c q other =
    let l = c.args.listing.now in
    let only = map (λ (word : Bor (List ℕ)). word.now) c.args.only.now in
    let seen : c.node.inside.path ≡ c.node_at-node.result.now.path = search rules in
    c.put_node.ensures.elsewhere q (λ n at made.
    let same : full_in (g.B.BlockStore.states l.table.now) (volume_now l.volume) c.node_at-node.result.now ≡ n = let e = sym c.node_at-node.ensures ∙ at in cc in
    let asked : is_chosen only n.path ≡ true = subst (λ (p : List (List ℕ)). is_chosen only p ≡ true) (seen ∙ ap (λ (m : NodeFields). m.path) same) (sym c.in_ok-is_chosen.ensures ∙ c.if-branch.true) in
    other n at asked made)

pub returns-in-Err-clause-elsewhere : goal.returns-in-Err-clause-elsewhere
returns-in-Err-clause-elsewhere g c q other =
    let l = c.args.listing.now in
    let only = map (λ (word : Bor (List ℕ)). word.now) c.args.only.now in
    let seen : c.node.inside.path ≡ c.node_at-node.result.now.path = search rules in
    c.put_node.ensures.elsewhere q (λ n at made.
    let same : full_in (g.B.BlockStore.states l.table.now) (volume_now l.volume) c.node_at-node.result.now ≡ n = let e = sym c.node_at-node.ensures ∙ at in cc in
    let asked : is_chosen only n.path ≡ true = subst (λ (p : List (List ℕ)). is_chosen only p ≡ true) (seen ∙ ap (λ (m : NodeFields). m.path) same) (sym c.in_ok-is_chosen.ensures ∙ c.if-branch.true) in
    other n at asked made)

pub returns-in-Ok-clause-file : goal.returns-in-Ok-clause-file
returns-in-Ok-clause-file g c written n at =
    let only = map (λ (word : Bor (List ℕ)). word.now) c.args.only.now in
    let l = c.args.listing.now in
    let same : full_in (g.B.BlockStore.states l.table.now) (volume_now l.volume) c.node_at-node.result.now ≡ n = let e = sym c.node_at-node.ensures ∙ at in cc in
    let seen : c.node.inside.path ≡ c.node_at-node.result.now.path = search rules in
    let asked : is_chosen only n.path ≡ true = subst (λ (p : List (List ℕ)). is_chosen only p ≡ true) (seen ∙ ap (λ (m : NodeFields). m.path) same) (sym c.in_ok-is_chosen.ensures ∙ c.if-branch.true) in
    (asked, c.in-Ok.ensures.file written n at)
