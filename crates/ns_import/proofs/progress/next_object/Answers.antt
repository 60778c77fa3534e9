use Rattle.std.proofs.Common.{◌∙◌, true, false}
use Rattle.ns_import.proofs.SameEntries.{has_by}
use Rattle.ns_import.proofs.Advancing.{popped_new, popped_old, popped_none}
use Rattle.ns_import.proofs.progress.next_object.Goals as goal

pub returns-then-not-contains-clause-next : goal.returns-then-not-contains-clause-next
returns-then-not-contains-clause-next g c =
    let searched = c.args.searched.now.keys in
    popped_new (g.R.EntryReader.tells c.args.reader.now) searched c.names.names.items c.pop.new.self.items c.in-Some.name c.in-Some.ensures.items
    c.in-Ok.entry.at c.in-Ok.ensures.answer (has_by c.in-Ok.entry.at searched false c.if-not-contains.ensures)
    ∙ c.names.invariant.same

pub names-preserved-in-Ok : goal.names-preserved-in-Ok
names-preserved-in-Ok g c =
    let searched = c.args.searched.now.keys in
    record {
      same =
          popped_old (g.R.EntryReader.tells c.args.reader.now) searched c.names.names.items c.pop.new.self.items c.in-Some.name c.in-Some.ensures.items
          c.in-Ok.entry.at c.in-Ok.ensures.answer (has_by c.in-Ok.entry.at searched true c.if-not-contains.ensures)
          ∙ c.names.invariant.same;
      near = c.object.ensures.near;
    }

pub names-preserved : goal.names-preserved
names-preserved g c =
    record {
      same =
          popped_none (g.R.EntryReader.tells c.args.reader.now) c.args.searched.now.keys c.names.names.items c.pop.new.self.items c.in-Some.name
          c.in-Some.ensures.items c.in-Err-Fault.field-0-0 (rw c.in-Err-Fault.field-0-is at c.in-Err-Fault.ensures.answer)
          ∙ c.names.invariant.same;
      near = c.object.ensures.near;
    }
