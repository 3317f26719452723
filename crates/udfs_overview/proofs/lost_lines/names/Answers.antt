use Rattle.std.proofs.Common.{◌∙◌, ◌&&◌, ap, is_none}
use Rattle.udfs_space.specs.Views.{view_by}
use Rattle.udfs_file.specs.Addresses.{address_fault}
use Rattle.udfs_walk.specs.Targets.{icb_of, is_icb}
use Rattle.udfs_overview.proofs.lost_lines.names.Goals as goal

pub returns-in-Some : goal.returns-in-Some
returns-in-Some g c =
    let states = g.B.BlockStore.states in
    let v = view_by states c.args.view in
    ap (λ o. is_none o && is_icb c.args.address (icb_of c.args.node.now.icb)) (c.in-Some.ensures (states c.args.view.blocks.now) ∙ ap (λ n. address_fault v n.icb) c.node.view_is)

pub returns-in-None : goal.returns-in-None
returns-in-None g c =
    let states = g.B.BlockStore.states in
    let v = view_by states c.args.view in
    c.is_icb.ensures ∙ ap (is_icb c.args.address) (c.address.ensures ∙ ap (λ n. icb_of n.icb) c.node.view_is)
    ∙ ap (λ o. is_none o && is_icb c.args.address (icb_of c.args.node.now.icb)) (c.in-None.ensures (states c.args.view.blocks.now) ∙ ap (λ n. address_fault v n.icb) c.node.view_is)
