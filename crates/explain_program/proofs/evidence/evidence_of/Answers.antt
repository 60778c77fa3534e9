use Rattle.std.proofs.Common.{[], take, arith, rules}
use Rattle.std.proofs.lemmas.Grind.{common_steps}
use Rattle.explain_program.proofs.FolderLemmas.{evidence_next, place_next}
use Rattle.explain_program.proofs.evidence.evidence_of.Goals as goal

pub loop-at-init : goal.loop-at-init
loop-at-init c = record {
  rs = [];
  read = tt;
  logs_are = first_of (search rules, grind (arith, common_steps));
  faults_are = first_of (search rules, grind (arith, common_steps));
}

pub loop-at-preserved : goal.loop-at-preserved
loop-at-preserved c =
    let fs = c.args.folders.now in
    let n = c.loop-at.at in
    evidence_next fs n c.index-folders-at.result _ _ c.loop-at-test.true c.index-folders-at.is
    (c.in_ok-add.ensures (take n fs) c.loop-at.invariant (place_next fs n c.loop-at-test.true))
