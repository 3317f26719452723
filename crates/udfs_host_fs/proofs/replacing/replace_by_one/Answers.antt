use Rattle.std.proofs.Common.{string_bytes, ap, sym, ◌∙◌, subst}
use Rattle.udfs_host_fs.specs.Disk.{IsOwn}
use Rattle.udfs_host_fs.proofs.Going.{own_apart, tried_then_replaced, only_tried}
use Rattle.udfs_host_fs.proofs.replacing.replace_by_one.Goals as goal

pub replace_by-requires-clause-own : goal.replace_by-requires-clause-own
replace_by-requires-clause-own g c =
    subst (IsOwn c.args.path.now) (ap string_bytes (sym c.name-item.is) ∙ sym c.as_str.ensures.value) (c.requires.own c.loop-name.name-index c.name-item.result c.loop-name-test.true)

pub replace_by-requires-clause-apart : goal.replace_by-requires-clause-apart
replace_by-requires-clause-apart g c = own_apart c.args.path.now c.as_str.result.now (replace_by-requires-clause-own g c)

pub returns-in-Ok-clause-any_moment : goal.returns-in-Ok-clause-any_moment
returns-in-Ok-clause-any_moment g c tells =
    tried_then_replaced _ _ _ c.args.path.now _ c.args.files.now c.loop-name.files c.replace_by.new.files c.loop-name.invariant.goes (c.replace_by.ensures.any_moment tells)

pub returns-in-Ok-clause-elsewhere : goal.returns-in-Ok-clause-elsewhere
returns-in-Ok-clause-elsewhere g c q not_path far =
    c.replace_by.ensures.others q (λ e. far (subst (IsOwn c.args.path.now) (sym e) (subst (IsOwn c.args.path.now) (ap string_bytes (sym c.name-item.is) ∙ sym c.as_str.ensures.value) (c.requires.own c.loop-name.name-index c.name-item.result c.loop-name-test.true)))) not_path ∙ c.loop-name.invariant.holds q

pub returns-in-Err-clause-any_moment : goal.returns-in-Err-clause-any_moment
returns-in-Err-clause-any_moment g c tells =
    tried_then_replaced _ _ _ c.args.path.now _ c.args.files.now c.loop-name.files c.replace_by.new.files c.loop-name.invariant.goes (c.replace_by.ensures.any_moment tells)

pub returns-in-Err-clause-elsewhere : goal.returns-in-Err-clause-elsewhere
returns-in-Err-clause-elsewhere g c q not_path far =
    c.replace_by.ensures.others q (λ e. far (subst (IsOwn c.args.path.now) (sym e) (subst (IsOwn c.args.path.now) (ap string_bytes (sym c.name-item.is) ∙ sym c.as_str.ensures.value) (c.requires.own c.loop-name.name-index c.name-item.result c.loop-name-test.true)))) not_path ∙ c.loop-name.invariant.holds q

pub returns-clause-any_moment : goal.returns-clause-any_moment
returns-clause-any_moment g c tells = only_tried _ _ _ c.args.path.now _ c.args.files.now c.loop-name.files c.loop-name.invariant.goes
