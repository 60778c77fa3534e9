use Rattle.std.proofs.Common.{refl}
use Rattle.house_logs.proofs.ReadingLemmas.{fault_passed}
use Rattle.house_logs.proofs.TextLemmas.{answers_fault, count_is, house_is, octets_is, takes_fault, words_are}
use Rattle.house_logs.proofs.text.message_in.Goals as goal

pub returns-in_err-exactly-clause-none : goal.returns-in_err-exactly-clause-none
returns-in_err-exactly-clause-none c =
    fault_passed c.from_residual.result _ c.from_residual.ensures (λ f is. count_is c.args.words.now f is)
    (answers_fault _ _ c.in_err-exactly.ensures.answer)

pub returns-in_err-house-clause-none : goal.returns-in_err-house-clause-none
returns-in_err-house-clause-none c =
    fault_passed c.from_residual-in_err-house.result _ c.from_residual-in_err-house.ensures (λ f is. house_is c.args.words.now f is)
    (takes_fault _ _ _ c.in_err-house.ensures)

pub returns-in_err-octets-clause-none : goal.returns-in_err-octets-clause-none
returns-in_err-octets-clause-none c =
    fault_passed c.from_residual-in_err-octets.result _ c.from_residual-in_err-octets.ensures
    (λ f is. octets_is c.args.words.now _ _ f c.in_ok-house.ensures is) (takes_fault _ _ _ c.in_err-octets.ensures)

pub returns-clause-is : goal.returns-clause-is
returns-clause-is c =
    words_are c.args.words.now.rest c.args.words.now _ _ _ _ refl c.in_ok-exactly.ensures.answer c.in_ok-house.ensures c.in_ok-octets.ensures
