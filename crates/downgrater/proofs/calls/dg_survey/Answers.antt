-- `downgrater::calls::dg_survey` meets its contract.
-- Assumes nothing.
use Rattle.packing.specs.Packing.{ValueFits, Says}
use Rattle.downgrater.proofs.Ranges.{survey_fits}
use Rattle.downgrater.proofs.Answers.{fitting, said, surveyed}
use Rattle.downgrater.proofs.calls.dg_survey.Goals as goal

pub verdict_bits-requires : goal.verdict_bits-requires
verdict_bits-requires c =
    let a = c.args in
    fitting ValueFits c.survey.ensures.verdict_is (survey_fits a.file.now a.out.now)

pub returns : goal.returns
returns c =
    let k = c.survey.ensures in
    (said Says k.verdict_is _ c.verdict_bits.ensures, surveyed _ _ _ _ k)
