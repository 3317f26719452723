use Rattle.std.proofs.Common.{subst}
use Rattle.udfs_lattice.specs.Tables.{state_of}
use Rattle.udfs_salvage.specs.Stores.{IsStoreRefused}
use Rattle.udfs_salvage.proofs.StoreAnswers.{of_refusal, of_report}
use Rattle.udfs_salvage.proofs.surveys.survey_volume_by.Goals as goal

pub returns-in-Ok : goal.returns-in-Ok
returns-in-Ok c =
    let is = c.in-Ok.ensures in
    let answers = of_report c.args.profile (state_of c.args.table.now) c.args.last _ c.in-Ok.survey (is.report tt) in
    record {
      range = answers.range;
      past = answers.past;
      too_many = answers.too_many;
      report = is.report tt;
      headline = is.headline tt;
      memory = answers.memory;
      of_no_lawful = tt;
      rising = is.rising tt;
      rules = is.of.2;
      of = (is.of.0, is.of.1);
    }

pub returns-in-Err-Salvage : goal.returns-in-Err-Salvage
returns-in-Err-Salvage c =
    let answers = of_refusal c.args.profile (state_of c.args.table.now) c.args.last c.in-Err-Salvage.error (subst (IsStoreRefused c.args.profile (state_of c.args.table.now) c.args.last) c.in-Err-Salvage.field-0-is (c.in-Err-Salvage.ensures.refused tt)) in
    record {
      range = answers.range;
      past = answers.past;
      too_many = answers.too_many;
      report = tt;
      headline = tt;
      memory = answers.memory;
      of_no_lawful = answers.of_no_lawful;
      rising = tt;
      rules = tt;
      of = tt;
    }
