use Rattle.std.proofs.Common.{reverse, sym, subst}
use Rattle.house_journal.specs.MemoryDisks.{MemState, left_now}
use Rattle.house_journal.specs.Restarts.{left_of}
use Rattle.house_journal.specs.ClockProofs.{reads_left_lem}
use Rattle.house_journal.proofs.Restarting.{left_lawful, on_ok, opens_anew}
use Rattle.house_journal.proofs.memory.MemDisk.restart.Goals as goal

pub returns-in-Never-clause-lawful : goal.returns-in-Never-clause-lawful
returns-in-Never-clause-lawful c = let m : MemState = c.args.self.now in reads_left_lem m.steps m.octets

pub returns-in-After-clause-lawful : goal.returns-in-After-clause-lawful
returns-in-After-clause-lawful c =
    let m : MemState = c.args.self.now in
    let leave = c.in-After.leave in
    let inside = c.self.inside in
    let lawful = subst (λ (n : MemState). left_now n.steps n.octets (left_of leave n)) c.self.view_is
    (left_lawful leave (reverse inside.steps.items) inside.octets.items c.self.invariant) in
    on_ok c.begin_by.result c.begin_by.ensures.ok (λ is. subst (λ (n : MemState). left_now m.steps m.octets n.octets) (sym is) lawful)

pub returns-in-After-clause-kept : goal.returns-in-After-clause-kept
returns-in-After-clause-kept c clean =
    let m : MemState = c.args.self.now in
    let leave = c.in-After.leave in
    let inside = c.self.inside in
    let lawful = subst (λ (n : MemState). left_now n.steps n.octets (left_of leave n)) c.self.view_is
    (left_lawful leave (reverse inside.steps.items) inside.octets.items c.self.invariant) in
    opens_anew c.begin_by.result m c.begin_by.new.self (left_of leave m) c.begin_by.ensures.ok c.begin_by.ensures.err lawful clean
