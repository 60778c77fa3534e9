use Rattle.house_logs.proofs.fault.LogFault.push.Goals as goal

pub returns-in-NotNext : goal.returns-in-NotNext
returns-in-NotNext c = rw c.in-NotNext.is c.push_segment-in-NotNext.ensures

pub returns-in-BadRecord : goal.returns-in-BadRecord
returns-in-BadRecord c = rw c.in-BadRecord.is c.push_record-in-BadRecord.ensures
