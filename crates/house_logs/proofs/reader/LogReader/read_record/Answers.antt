use Rattle.std.proofs.Common.{refl}
use Rattle.std.specs.Prelude.{option_copied}
use Rattle.std.proofs.lemmas.Bool.{OnFalse_at}
use Rattle.house_logs.proofs.RecordLemmas.{has_last, no_body, no_next}
use Rattle.house_logs.proofs.reader.LogReader.read_record.Goals as goal

pub returns-in_default-clause-why : goal.returns-in_default-clause-why
returns-in_default-clause-why c = λ bodies has. (refl, refl, no_body bodies c.args.octets.now c.in_default.ensures.none)

pub returns-in-Some-other_number-clause-why : goal.returns-in-Some-other_number-clause-why
returns-in-Some-other_number-clause-why c = λ bodies has. (
  refl,
  refl,
  no_next c.args.self.now bodies c.args.octets.now c.in-Some.body has c.in-Some.ensures.some c.in-Some-other_number.ensures.none,
  record {
    clock = c.in-Some.body.clock;
    text = c.in-Some.body.text.now;
    image = option_copied c.in-Some.body.image;
    body = c.in-Some.ensures.some;
    last = c.args.self.now.number;
    is_last = has_last c.args.self.now bodies has;
    due_is = c.in-Some-other_number.ensures.due;
    other = c.in-Some-other_number.ensures.other;
  },
)

pub returns-else-branch-clause-why : goal.returns-else-branch-clause-why
returns-else-branch-clause-why c = λ bodies has. (
  refl,
  refl,
  no_next c.args.self.now bodies c.args.octets.now c.in-Some.body has c.in-Some.ensures.some (OnFalse_at c.if-branch.false c.in_ok-take_body.ensures.refused),
)
