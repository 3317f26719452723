use Rattle.std.proofs.Common.{ap, arith, length, map}
use Rattle.udfs_space.specs.Views.{view_by}
use Rattle.udfs_walk.specs.Counting.{icb_key}
use Rattle.udfs_walk.proofs.CountLemmas.{counted_none}
use Rattle.udfs_walk.proofs.MemoLemmas.{words_of}
use Rattle.udfs_walk.proofs.SettleLemmas.{are_settled, few_unsettled, settled_icbs}
use Rattle.udfs_walk.proofs.walks.counted_nodes_by.Goals as goal

pub settled_nodes-requires : goal.settled_nodes-requires
settled_nodes-requires g c told = words_of (view_by g.B.BlockStore.states c.args.view) c.unsettled_nodes.new.memo (c.in_ok-found.ensures.memo told)

pub returns-in_err-nodes-clause-few : goal.returns-in_err-nodes-clause-few
returns-in_err-nodes-clause-few g c told =
    let keys = map icb_key c.in_ok-found.found.items in
    let within = c.in_err-nodes.ensures.within told c.args.walks.now keys (λ n i. i) (c.in_ok-found.ensures.counted told c.args.walks.now keys (λ n i. i) (counted_none c.args.walks.now keys c.new-memo.result c.new-memo.ensures)) in
    let few = few_unsettled (view_by g.B.BlockStore.states c.args.view) c.args.root c.in_ok-found.found.items (c.in_ok-found.ensures.nodes told) in
    omega (arith, within, few)

pub returns-clause-few : goal.returns-clause-few
returns-clause-few g c told =
    let keys = map icb_key c.in_ok-found.found.items in
    let within = c.in_ok-nodes.ensures.within told c.args.walks.now keys (λ n i. i) (c.in_ok-found.ensures.counted told c.args.walks.now keys (λ n i. i) (counted_none c.args.walks.now keys c.new-memo.result c.new-memo.ensures)) in
    let few = few_unsettled (view_by g.B.BlockStore.states c.args.view) c.args.root c.in_ok-found.found.items (c.in_ok-found.ensures.nodes told) in
    omega (arith, within, few)

pub returns-clause-once : goal.returns-clause-once
returns-clause-once g c told =
    let keys = map icb_key c.in_ok-found.found.items in
    let within = c.in_ok-nodes.ensures.within told c.args.walks.now keys (λ n i. i) (c.in_ok-found.ensures.counted told c.args.walks.now keys (λ n i. i) (counted_none c.args.walks.now keys c.new-memo.result c.new-memo.ensures)) in
    let same = ap length (settled_icbs (view_by g.B.BlockStore.states c.args.view) c.in_ok-found.found.items c.in_ok-nodes.nodes.items (c.in_ok-nodes.ensures.settled told)) in
    omega (arith, within, same)

pub returns-clause-nodes : goal.returns-clause-nodes
returns-clause-nodes g c told = are_settled (view_by g.B.BlockStore.states c.args.view) c.args.root c.in_ok-found.found.items c.in_ok-nodes.nodes.items (c.in_ok-found.ensures.nodes told) (c.in_ok-nodes.ensures.settled told)
