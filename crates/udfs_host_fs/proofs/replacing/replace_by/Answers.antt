use Rattle.std.proofs.Common.{refl, ℕ, List}
use Rattle.udfs_host_fs.proofs.Going.{not_made, not_tried, not_written, written, then_removed, then_named}
use Rattle.udfs_host_fs.proofs.replacing.replace_by.Goals as goal

pub returns-in-Err-Files-NotMade-clause-any_moment : goal.returns-in-Err-Files-NotMade-clause-any_moment
returns-in-Err-Files-NotMade-clause-any_moment g c tells =
    not_made c.args.own.now c.args.path.now _ c.requires.own c.requires.apart _ _ _ c.args.files.now c.write_new.new.files c.write_new.ensures.crash

pub returns-in-Err-Files-NotMade-clause-not_tried : goal.returns-in-Err-Files-NotMade-clause-not_tried
returns-in-Err-Files-NotMade-clause-not_tried g c is =
    not_tried c.args.own.now c.args.path.now (λ (x : List ℕ). ⊥) c.requires.own c.requires.apart _ _ _ c.args.files.now c.write_new.new.files c.write_new.ensures.crash

pub returns-in-Err-clause-any_moment : goal.returns-in-Err-clause-any_moment
returns-in-Err-clause-any_moment g c tells =
    not_written c.args.own.now c.args.path.now _ c.requires.own c.requires.apart _ _ _ c.args.files.now c.write_new.new.files c.give_up-in-Err.new.files c.write_new.ensures.crash c.give_up-in-Err.ensures.crash

pub returns-in-Err-Refused-clause-any_moment : goal.returns-in-Err-Refused-clause-any_moment
returns-in-Err-Refused-clause-any_moment g c tells =
    not_written c.args.own.now c.args.path.now _ c.requires.own c.requires.apart _ _ _ c.args.files.now c.write_new.new.files c.give_up.new.files c.write_new.ensures.crash c.give_up.ensures.crash

pub returns-in-Err-rename-clause-any_moment : goal.returns-in-Err-rename-clause-any_moment
returns-in-Err-rename-clause-any_moment g c tells =
    then_removed c.args.own.now c.args.path.now _ c.requires.own c.requires.apart _ _ _ c.args.files.now c.rename.new.self c.give_up-in-Err-rename.new.files
    (written c.args.own.now c.args.path.now _ c.requires.own c.requires.apart _ _ _ c.args.files.now c.write_new.new.files c.rename.new.self _ (c.in-Ok.ensures.durable tells) c.write_new.ensures.crash c.rename.ensures.crash)
    c.give_up-in-Err-rename.ensures.crash

pub returns-in-Ok-sync_folder-clause-any_moment : goal.returns-in-Ok-sync_folder-clause-any_moment
returns-in-Ok-sync_folder-clause-any_moment g c tells =
    then_named c.args.own.now c.args.path.now _ c.requires.own c.requires.apart _ _ _ c.args.files.now c.rename.new.self c.sync_folder.new.self
    (written c.args.own.now c.args.path.now _ c.requires.own c.requires.apart _ _ _ c.args.files.now c.write_new.new.files c.rename.new.self _ (c.in-Ok.ensures.durable tells) c.write_new.ensures.crash c.rename.ensures.crash)
    c.sync_folder.ensures.crash

pub returns-in-Err-sync_folder-clause-any_moment : goal.returns-in-Err-sync_folder-clause-any_moment
returns-in-Err-sync_folder-clause-any_moment g c tells =
    then_named c.args.own.now c.args.path.now _ c.requires.own c.requires.apart _ _ _ c.args.files.now c.rename.new.self c.sync_folder.new.self
    (written c.args.own.now c.args.path.now _ c.requires.own c.requires.apart _ _ _ c.args.files.now c.write_new.new.files c.rename.new.self _ (c.in-Ok.ensures.durable tells) c.write_new.ensures.crash c.rename.ensures.crash)
    c.sync_folder.ensures.crash

pub returns-in-Ok-sync_folder-clause-durable : goal.returns-in-Ok-sync_folder-clause-durable
returns-in-Ok-sync_folder-clause-durable g c tells d left =
    c.in-Ok.ensures.durable tells _ (c.in-Ok-rename.ensures.durable _ (c.in-Ok-sync_folder.ensures.durable d c.args.path.now left refl))
