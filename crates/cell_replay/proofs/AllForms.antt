-- The laws of what is demanded, for each form.
use Rattle.std.proofs.Common.{◌≡◌, List, ℕ, [], ◌++◌, refl, sym, ap, ◌∙◌}
use Rattle.hex.specs.Hex.{IsBytes}
use Rattle.cell_model.specs.Cells.{empty_cell}
use Rattle.line_forms.specs.Demand.{Demand, Faulty, LineRule, line_demand, ends_with}
use Rattle.line_forms.specs.Readings.{Reading, by_lines}
use Rattle.cds_base.specs.RunEnds.{IsFront}
use Rattle.line_forms.proofs.Staying.{demanded_body, demanded_fault}
use Rattle.line_forms.specs.LineRules.{dialogue_rule}
use Rattle.script_replay.specs.Loading.{load_text}
use Rattle.script_replay.specs.Replies.{run_dialogue}
use Rattle.clerk_replay.specs.Clerking.{clerk_dialogue, start}
use Rattle.inquire_replay.specs.Inquiring.{inquire_dialogue}
use Rattle.journal_replay.specs.CellJournals.{empty_state}
use Rattle.journal_replay.specs.JournalRules.{journal_rule}
use Rattle.cell_replay.specs.Checking.{check_rule, counts}
use Rattle.cell_replay.specs.Forms.{reading_of}
use Rattle.cell_replay.specs.FormReadings.{by_towers, by_whole, spelling_rule, without_input}
use Rattle.cell_replay.specs.WholeDemand.{WholeTask, Migrating, Auditing, whole_demand}
use Rattle.cell_replay.specs.declared.forms.Form.{Form}
use Rattle.cell_replay.specs.declared.forms.Form.TheVariants as form
use Rattle.cell_replay.proofs.Streams.{total}
use Rattle.cell_replay.proofs.TowerLaws.{one_towers_demand, towers_fault_stays, towers_body_stays}
use Rattle.cell_replay.proofs.WholeTurns.{whole_body_stays, whole_fault_stays}

-- octets demand one thing; what is due is due whatever follows; and a fault that shows ends what is
-- due
pub record IsLawful (reading : Reading) : Type 0 where
  pub some : (octets : List ℕ) → IsBytes octets → (d : Demand) × reading.demands octets d
  pub only : (octets : List ℕ) (d e : Demand) → reading.demands octets d → reading.demands octets e → d ≡ e
  pub due_stays : (xs ys : List ℕ) (d e : Demand) → reading.demands xs d → reading.demands (xs ++ ys) e → IsFront d.body e.body
  pub fault_stays : (xs ys : List ℕ) (d : Demand) → reading.demands xs d → d.verdict ≡ Faulty → reading.demands (xs ++ ys) d

lines_lawful : {S : Type 0} (rule : LineRule S) (state : S) → IsLawful (by_lines rule state)
lines_lawful rule state = record {
  some = λ octets bytes. (line_demand rule state octets, refl);
  only = λ octets d e first second. sym first ∙ second;
  due_stays = λ xs ys d e first second.
      let front = demanded_body rule state xs ys in
      (front.0, ap (λ (x : Demand). x.body) (sym second) ∙ front.1 ∙ ap (λ (x : Demand). x.body ++ front.0) first);
  fault_stays = λ xs ys d demands faulty. demanded_fault rule state xs ys (ap (λ (x : Demand). x.verdict) demands ∙ faulty) ∙ demands;
}

towers_lawful : IsLawful by_towers
towers_lawful = record {
  some = λ octets bytes. total 1 octets bytes;
  only = one_towers_demand;
  due_stays = towers_body_stays;
  fault_stays = towers_fault_stays;
}

whole_lawful : (task : WholeTask) → IsLawful (by_whole task)
whole_lawful task = record {
  some = λ octets bytes. (whole_demand task octets, refl);
  only = λ octets d e first second. sym first ∙ second;
  due_stays = λ xs ys d e first second.
      let front = whole_body_stays task xs ys in
      (front.0, ap (λ (x : Demand). x.body) (sym second) ∙ front.1 ∙ ap (λ (x : Demand). x.body ++ front.0) first);
  fault_stays = λ xs ys d demands faulty. whole_fault_stays task xs ys (ap (λ (x : Demand). x.verdict) demands ∙ faulty) ∙ demands;
}

text_lawful : (text : List ℕ) → IsLawful (without_input text)
text_lawful text = record {
  some = λ octets bytes. (ends_with text, refl);
  only = λ octets d e first second. sym first ∙ second;
  due_stays = λ xs ys d e first second. ([], ap (λ (x : Demand). x.body) (sym second) ∙ ap (λ (x : Demand). x.body ++ []) first);
  fault_stays = λ xs ys d demands faulty. demands;
}

-- so it is of each form
pub all_lawful : (f : Form) → IsLawful (reading_of f)
all_lawful form.Run = lines_lawful (dialogue_rule run_dialogue) empty_cell
all_lawful form.Check = lines_lawful check_rule (counts 0 0)
all_lawful (form.Load rounds) = text_lawful (load_text rounds)
all_lawful (form.Clerk room) = lines_lawful (dialogue_rule clerk_dialogue) (start room)
all_lawful form.Towers = towers_lawful
all_lawful form.Untowers = lines_lawful spelling_rule tt
all_lawful form.Migrate = whole_lawful Migrating
all_lawful form.Inquire = lines_lawful (dialogue_rule inquire_dialogue) empty_cell
all_lawful (form.Audit dir) = whole_lawful (Auditing dir)
all_lawful form.Journal = lines_lawful journal_rule empty_state
