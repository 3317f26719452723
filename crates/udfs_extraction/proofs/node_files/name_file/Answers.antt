use Rattle.std.proofs.Common.{◌≡◌, ◌∙◌, refl, rules, sym, true, false}
use Rattle.udfs_host_fs.specs.Disk.{Fails}
use Rattle.udfs_extraction.specs.declared.nodes.Fate.TheVariants.{Written}
use Rattle.udfs_extraction.proofs.node_files.name_file.Goals as goal

pub returns-in-Ok-clause-kept : goal.returns-in-Ok-clause-kept
returns-in-Ok-clause-kept g c written tells bytes is = record {
  held = c.sync_folder.ensures.others c.args.path.now ∙ is;
  durable = λ d left. g.met.F.Files.held_kept c.args.files.now c.args.path.now bytes (d c.args.path.now) tells is (c.in-Ok.ensures.durable d c.args.path.now left refl);
}

pub returns-then-ne-clause-end : goal.returns-then-ne-clause-end
returns-then-ne-clause-end g c = (
  true,
  record { same = λ is. refl; unwritten = λ never. refl; given_up = λ not written. let bad : true ≡ false = not in absurd (let no : ⊥ = cc in no) },
  λ not. let bad : true ≡ false = not in absurd (let no : ⊥ = cc in no),
)

pub returns-in-Ok-clause-end : goal.returns-in-Ok-clause-end
returns-in-Ok-clause-end g c =
    let was : c.args.fate ≡ Written = search rules in (
      true,
      record { same = λ is. sym was; unwritten = λ never. absurd (never was); given_up = λ not written. let bad : true ≡ false = not in absurd (let no : ⊥ = cc in no) },
      λ not. let bad : true ≡ false = not in absurd (let no : ⊥ = cc in no),
    )

pub returns-in-Err-clause-end : goal.returns-in-Err-clause-end
returns-in-Err-clause-end g c =
    let was : c.args.fate ≡ Written = search rules in
    let fails : Fails g.F.Files.faults = search rules in (
      false,
      record { same = λ is. let bad : false ≡ true = is in absurd (let no : ⊥ = cc in no); unwritten = λ never. absurd (never was); given_up = λ not written. c.give_up.ensures.fate },
      λ not. fails,
    )
