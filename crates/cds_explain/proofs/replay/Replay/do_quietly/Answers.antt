use Rattle.std.proofs.Common.{List, ℕ, subst, sym}
use Rattle.entry_lines.specs.SaidLines.{SaysCommand}
use Rattle.cds_explain.proofs.ReplayLemmas.{done_quietly}
use Rattle.cds_explain.proofs.replay.Replay.do_quietly.Goals as goal

pub returns-clause-done : goal.returns-clause-done
returns-clause-done c = λ cs has.
    let said = c.args.said in
    done_quietly c.args.self.now c.do_only.new.self c.push.new.self cs said.command c.deref.result.now has (c.in_ok-do_only.ensures.done cs has)
    c.in_ok-push.ensures.text c.push.ensures.lines c.push.ensures.replayer
    (subst (λ (octets : List ℕ). SaysCommand octets said.command) (sym c.deref.ensures.value) c.requires)
