use Rattle.std.proofs.Common.{◌∙◌, refl, arith}
use Rattle.std.proofs.lemmas.Grind.{common_steps}
use Rattle.house_logs.proofs.ReadingLemmas.{two_passed}
use Rattle.house_logs.proofs.SegmentLemmas.{chained_ends, chained_more, chained_none, chained_stops, none_goes_on, other_goes_on}
use Rattle.house_logs.proofs.reader.LogReader.read_chain.Goals as goal

pub records-init : goal.records-init
records-init c = record {
  digest = refl;
  segments = refl;
  read = λ bodies has. chained_none _ _ bodies _ has;
  few = first_of (omega arith, grind (arith, common_steps));
}

pub records-preserved : goal.records-preserved
records-preserved c = record {
  digest = c.in_ok-read_record.ensures.digest ∙ c.records.invariant.digest;
  segments = c.in_ok-read_record.ensures.segments ∙ c.records.invariant.segments;
  read = λ bodies has.
      chained_more _ _ _ _ _ _ _ _ bodies _ _ _ _ (c.records.invariant.read bodies has) c.in-Some.ensures.some c.in-Some-unsealed.ensures.is
      c.in-Some-unsealed.ensures.digest refl c.in_ok-read_record.ensures.read;
  few = (let few = c.records.invariant.few in let less = c.in-Some.ensures.shorter in first_of (omega (arith, few, less), grind (arith, few, less, common_steps)));
}

pub returns-in_default-unsealed-clause-read : goal.returns-in_default-unsealed-clause-read
returns-in_default-unsealed-clause-read c = λ bodies has.
    chained_ends _ _ _ _ bodies _ _ _ (c.records.invariant.read bodies has) refl refl
    (other_goes_on _ _ _ _ c.in-Some.ensures.some c.in_default-unsealed.ensures.none)

pub returns-in_err-read_record-clause-stopped : goal.returns-in_err-read_record-clause-stopped
returns-in_err-read_record-clause-stopped c bodies has =
    let h = c.records.invariant.read bodies has in
    two_passed c.from_residual.result _ c.from_residual.ensures
    (λ f read of. chained_stops c.args.number _ _ _ _ _ _ _ bodies _ _ _ f h c.in-Some.ensures.some c.in-Some-unsealed.ensures.is read of)
    (c.in_err-read_record.ensures.stopped _ h.read) (c.in_err-read_record.ensures.why _ h.read)

pub returns-clause-read : goal.returns-clause-read
returns-clause-read c = λ bodies has.
    chained_ends _ _ _ _ bodies _ _ _ (c.records.invariant.read bodies has) refl refl (none_goes_on _ _ c.in_default.ensures.none)
