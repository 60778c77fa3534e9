use Rattle.std.proofs.Common.{◌≡◌, ℕ, ◌+◌, ◌++◌, refl, subst, ◌∙◌, arith, rules}
use Rattle.std.proofs.lemmas.Grind.{common_steps}
use Rattle.house_logs.specs.declared.fault.LogFault.TheVariants as why
use Rattle.house_logs.specs.Logs.{IsSegment}
use Rattle.house_logs.specs.Reads.{ReadsFront}
use Rattle.house_logs.proofs.ReadingLemmas.{fault_passed, read_kept}
use Rattle.house_logs.proofs.SegmentLemmas.{head_stops, segment_cut, segment_read, segment_stops}
use Rattle.house_logs.proofs.reader.LogReader.read.Goals as goal

pub returns-in-Err-clause-stopped : goal.returns-in-Err-clause-stopped
returns-in-Err-clause-stopped c = λ bodies has few.
    let number : c.in-Some.number ≡ c.args.self.now.segments + 1 = first_of (omega arith, search rules, grind (arith, common_steps)) in
    subst (λ (n : ℕ). ReadsFront n c.args.self.now.digest bodies c.args.octets.now c.in-Err.fault c.args.self.now) number
    (head_stops c.in-Some.number c.args.self.now.digest c.args.octets.now bodies c.in-Err.fault c.args.self.now has
    (c.in-Err.ensures.fault (c.deref.ensures.value ∙ c.in_ok-title.ensures) bodies))

pub returns-in_err-chain-clause-stopped : goal.returns-in_err-chain-clause-stopped
returns-in_err-chain-clause-stopped c = λ bodies has few.
    let number : c.in-Some.number ≡ c.args.self.now.segments + 1 = first_of (omega arith, search rules, grind (arith, common_steps)) in
    fault_passed c.from_residual-in_err-chain.result _ c.from_residual-in_err-chain.ensures
    (λ f stops. subst (λ (n : ℕ). ReadsFront n c.args.self.now.digest bodies c.args.octets.now f c.read_chain.new.self) number
    (segment_stops c.in-Some.number c.args.self.now.digest c.args.octets.now bodies c.in-Ok.head f c.read_chain.new.self
    (c.in-Ok.ensures.is (c.deref.ensures.value ∙ c.in_ok-title.ensures)) stops))
    (c.in_err-chain.ensures.stopped bodies has)

pub returns-in_default-last_record-clause-stopped : goal.returns-in_default-last_record-clause-stopped
returns-in_default-last_record-clause-stopped c = λ bodies has few.
    let number : c.in-Some.number ≡ c.args.self.now.segments + 1 = first_of (omega arith, search rules, grind (arith, common_steps)) in
    subst (λ (n : ℕ). ReadsFront n c.args.self.now.digest bodies c.args.octets.now (why.Damaged c.in-Some.number c.in_ok-chain.chain.place) c.read_chain.new.self)
    number
    (segment_cut c.in-Some.number c.deref-2.result.now c.args.self.now.digest c.args.octets.now bodies c.in-Ok.head c.in_ok-chain.chain c.read_chain.new.self
    (c.deref-2.ensures.value ∙ c.in_ok-title.ensures) (c.in-Ok.ensures.is (c.deref.ensures.value ∙ c.in_ok-title.ensures))
    (c.in_ok-chain.ensures.read bodies has) c.in_default-last_record.ensures.none)

pub returns-clause-read : goal.returns-clause-read
returns-clause-read c = λ bodies has.
    let number : c.in-Some.number ≡ c.args.self.now.segments + 1 = first_of (omega arith, search rules, grind (arith, common_steps)) in
    let read = c.in_ok-chain.ensures.read bodies has in
    record {
      more = read.front;
      segment =
          subst (λ (n : ℕ). IsSegment n c.args.self.now.digest c.args.octets.now read.front c.in_ok-chain.chain.digest) number
          (segment_read c.in-Some.number c.deref-2.result.now c.args.self.now.digest c.args.octets.now c.in-Some-last_record.field-0.body.now
          c.in-Some-last_record.field-0.digest bodies c.in-Ok.head c.in_ok-chain.chain c.read_chain.new.self
          (c.deref-2.ensures.value ∙ c.in_ok-title.ensures) (c.in-Ok.ensures.is (c.deref.ensures.value ∙ c.in_ok-title.ensures)) read
          c.in-Some-last_record.ensures.some c.in-Some-last_record.ensures.ends);
      read = read_kept c.read_chain.new.self _ (bodies ++ read.front) refl refl refl refl refl refl read.read;
    }
