use Rattle.std.proofs.Common.{◌∙◌, reverse, sym, ap}
use Rattle.std.proofs.lemmas.List.{nil_from_length}
use Rattle.ns_import.specs.Coming.{bindings_to_come, next_at}
use Rattle.ns_import.proofs.Landing.{shown_lead}
use Rattle.ns_import.proofs.Advancing.{entry_is_new, fewer_unseen, coming_stays, at_the_end}
use Rattle.ns_import.proofs.progress.Progress.advance.Goals as goal

pub enter-requires-clause-new : goal.enter-requires-clause-new
enter-requires-clause-new g c =
    entry_is_new (g.R.EntryReader.tells c.args.reader.now) c.entries.self.searched.keys (next_at c.in_ok-entry.field-0)
    (reverse c.entries.self.names.items) (reverse c.next_object.new.names.items) c.in_ok-entry.ensures.next c.in-Some-2.entry.at (ap next_at c.in-Some-2.is)

pub entries-smaller : goal.entries-smaller
entries-smaller g c =
    let tells = g.R.EntryReader.tells c.args.reader.now in
    let objects = g.R.EntryReader.objects c.args.reader.now in
    rw c.in_ok-enter-in-Some-2.ensures.searched
    (fewer_unseen tells c.entries.self.searched.keys (next_at c.in_ok-entry.field-0)
    (reverse c.entries.self.names.items) (reverse c.next_object.new.names.items) c.in_ok-entry.ensures.next c.in-Some-2.entry.at (ap next_at c.in-Some-2.is)
    objects (shown_lead tells objects (g.met.R.EntryReader.shows_only c.args.reader.now)))

pub entries-preserved : goal.entries-preserved
entries-preserved g c =
    let tells = g.R.EntryReader.tells c.args.reader.now in
    let objects = g.R.EntryReader.objects c.args.reader.now in
    record {
      near = rw c.in_ok-enter-in-Some-2.ensures.near c.next_object.ensures.near;
      same = coming_stays tells c.entries.self.searched.keys (next_at c.in_ok-entry.field-0)
          (reverse c.entries.self.names.items) (reverse c.next_object.new.names.items) c.in_ok-entry.ensures.next c.in-Some-2.entry.at (ap next_at c.in-Some-2.is)
          objects (shown_lead tells objects (g.met.R.EntryReader.shows_only c.args.reader.now)) c.args.client.now
          c.entries.self.ready.items (reverse c.enter.new.self.ready.items) c.enter.new.self.searched.keys (reverse c.enter.new.self.names.items)
          (nil_from_length c.entries.self.ready.items (sym c.entries.self.ready.ok.0 ∙ c.in_default.ensures.cases.0))
          c.in_ok-enter-in-Some-2.ensures.ready c.in_ok-enter-in-Some-2.ensures.searched c.in_ok-enter-in-Some-2.ensures.names
          ∙ c.entries.invariant.same;
    }

pub returns-in-None-clause-next : goal.returns-in-None-clause-next
returns-in-None-clause-next g c =
    let tells = g.R.EntryReader.tells c.args.reader.now in
    let objects = g.R.EntryReader.objects c.args.reader.now in
    at_the_end tells objects c.args.client.now c.entries.self.searched.keys (next_at c.in_ok-entry.field-0)
    c.entries.self.names.items c.next_object.new.names.items c.in_ok-entry.ensures.next c.in_ok-entry.ensures.end (ap next_at c.in-None.is)
    c.entries.self.ready.items c.pop.new.self.items (bindings_to_come tells objects c.args.client.now c.args.self.now)
    (nil_from_length c.entries.self.ready.items (sym c.entries.self.ready.ok.0 ∙ c.in_default.ensures.cases.0))
    (nil_from_length c.pop.new.self.items (sym c.pop.new.self.ok.0 ∙ c.in_default.ensures.cases.1))
    c.entries.invariant.same
