use Rattle.std.proofs.Common.{sym, ◌∙◌}
use Rattle.udfs_host_fs.proofs.Slashes.{empty_front, parts, parts_none, parts_some, whole_front}
use Rattle.udfs_host_fs.proofs.places.split.Goals as goal

pub returns-in-Some-clause-folder : goal.returns-in-Some-clause-folder
returns-in-Some-clause-folder c = sym ((parts_some c.args.path.now c.rsplit_once.result (c.in-Some.folder, c.in-Some.name) c.in-Some.is (parts c.args.path.now c.rsplit_once.result c.rsplit_once.ensures.cases)).0 ∙ empty_front c.is_empty.result c.in-Some.folder.now c.is_empty.ensures c.if-is_empty.true)

pub returns-in-Some-clause-name : goal.returns-in-Some-clause-name
returns-in-Some-clause-name c = sym (parts_some c.args.path.now c.rsplit_once.result (c.in-Some.folder, c.in-Some.name) c.in-Some.is (parts c.args.path.now c.rsplit_once.result c.rsplit_once.ensures.cases)).1

pub returns-in-Some-2-clause-folder : goal.returns-in-Some-2-clause-folder
returns-in-Some-2-clause-folder c = sym ((parts_some c.args.path.now c.rsplit_once.result (c.in-Some.folder, c.in-Some.name) c.in-Some.is (parts c.args.path.now c.rsplit_once.result c.rsplit_once.ensures.cases)).0 ∙ whole_front c.is_empty.result c.in-Some.folder.now c.is_empty.ensures c.if-is_empty.false)

pub returns-in-Some-2-clause-name : goal.returns-in-Some-2-clause-name
returns-in-Some-2-clause-name c = sym (parts_some c.args.path.now c.rsplit_once.result (c.in-Some.folder, c.in-Some.name) c.in-Some.is (parts c.args.path.now c.rsplit_once.result c.rsplit_once.ensures.cases)).1

pub returns-in-None-clause-folder : goal.returns-in-None-clause-folder
returns-in-None-clause-folder c = sym (parts_none c.args.path.now c.rsplit_once.result c.in-None.is (parts c.args.path.now c.rsplit_once.result c.rsplit_once.ensures.cases)).0

pub returns-in-None-clause-name : goal.returns-in-None-clause-name
returns-in-None-clause-name c = sym (parts_none c.args.path.now c.rsplit_once.result c.in-None.is (parts c.args.path.now c.rsplit_once.result c.rsplit_once.ensures.cases)).1
