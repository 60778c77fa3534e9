use Rattle.std.proofs.Common.{true, subst, sym}
use Rattle.resolver.specs.Readers.{Reader}
use Rattle.resolver.specs.Walks.{Ends}
use Rattle.cds_clerk.specs.Agreements.{Agrees}
use Rattle.cds_clerk.specs.Heards.{IsUnheard}
use Rattle.cds_clerk.specs.Inquirings.{IsAtName}
use Rattle.cds_clerk.specs.Searches.{AreAsked}
use Rattle.cds_clerk.proofs.HeardLaws.{if_ended, if_wants}
use Rattle.cds_clerk.proofs.InquiryLaws.{one_asked}
use Rattle.cds_clerk.proofs.inquiring.inquire.Goals as goal

pub list_at-requires : goal.list_at-requires
list_at-requires c = record {
  end = c.in-Ended._end;
  walked = if_ended c.in_ok-walked.walked c.in-Ended._end (λ e. (r : Reader) → Agrees r c.args.heard.now → Ends r true c.args.name.now e)
      c.in-Ended.is c.in_ok-walked.ensures.done;
}

pub returns-in_ok-alone-in-Lacks-clause-asks : goal.returns-in_ok-alone-in-Lacks-clause-asks
returns-in_ok-alone-in-Lacks-clause-asks c =
    let h = c.args.heard.now in
    let q = c.in-Lacks.lack in
    let Wanted = IsAtName h c.args.name.now in
    subst (AreAsked h Wanted) (sym c.in_ok-alone-in-Lacks.ensures)
    (one_asked h Wanted q (if_wants c.in_ok-walked.walked q (IsUnheard h) c.in-Lacks.is c.in_ok-walked.ensures.asks)
    (if_wants c.in_ok-walked.walked q Wanted c.in-Lacks.is c.in_ok-walked.ensures.needs))
