use Rattle.std.proofs.Common.{ℕ, List, ◌++◌, ap, ◌∙◌}
use Rattle.std.specs.Prelude.{Option, codes, decimal}
use Rattle.cds_stamps.specs.declared.members.Member.{Member}
use Rattle.cds_stamps.specs.declared.stamp.Stamp.{Stamp}
use Rattle.script_answers.specs.Texts.{members_text, stamp_or}
use Rattle.house_turns.proofs.Shows.{status_written}
use Rattle.house_turns.proofs.showing.push_status.Goals as goal

pub returns : goal.returns
returns c =
    let t2 : List ℕ = c.push_stamped.new.text.items in
    let t3 : List ℕ = c.push_stamped-2.new.text.items in
    let t5 : List ℕ = c.extend_from_slice.new.self.items in
    status_written c.args.held.now c.args.text.now.items c.push_counted.new.text.items t2 t3 c.push_counted-2.new.text.items t5 c.push_members.new.text.items
    c.in_ok-push_counted.ensures c.in_ok-push_stamped.ensures
    (c.in_ok-push_stamped-2.ensures ∙ ap (λ (o : Option Stamp). t2 ++ (codes " skulk " ++ stamp_or (codes "none") o)) c.stamp_of.ensures)
    (c.in_ok-push_counted-2.ensures ∙ ap (λ (k : ℕ). t3 ++ (codes " entries " ++ decimal k)) c.live_entries.ensures) c.in_ok-extend_from_slice.ensures.items
    (c.in_ok-push_members.ensures ∙ ap (λ (ms : List Member). t5 ++ members_text ms) c.list.ensures.value)
