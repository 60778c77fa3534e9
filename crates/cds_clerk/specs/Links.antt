-- Where links lead, as it is seen by a reader.
use Rattle.std.specs.Prelude.{◌≡◌, Some, Result, Ok, Err}
use Rattle.cell_names.specs.ChildPointers.{Pointer}
use Rattle.resolver.specs.declared.refusal.Refusal.{Refusal}
use Rattle.resolver.specs.declared.seen.Found.{Found}
use Rattle.resolver.specs.Readers.{Reader, Sight, Unreachable, Absent, Object, Link, Child}
use Rattle.resolver.specs.SeenEnds.{entry_seen}
use Rattle.clerk_lines.specs.declared.hearing.Told.TheVariants.{Shows}
use Rattle.clerk_lines.specs.declared.shown.Lead.{Lead}
use Rattle.clerk_lines.specs.declared.shown.Lead.TheVariants as lead
use Rattle.clerk_lines.specs.declared.shown.ShownEntry.{ShownEntry}
use Rattle.script_answers.specs.declared.answer.Answer.{Answer}
use Rattle.script_answers.specs.declared.answer.Answer.TheVariants as answer
use Rattle.script_answers.specs.declared.answer.ScriptRefusal.TheVariants as why
use Rattle.ns_commands.specs.Asks.{refusal_of_walk}
use Rattle.cds_clerk.specs.declared.heard.Heard.{Heard}
use Rattle.cds_clerk.specs.Heards.{heard_sight, lead_sight, told_of}

-- the answer where a link leads that is seen so; any other entry is none
abbrev pub target_seen : Sight → Answer
target_seen Unreachable = answer.Refused why.NotLink
target_seen (Absent house) = answer.Refused why.NotLink
target_seen (Object house) = answer.Refused why.NotLink
target_seen (Link house target) = answer.Target target
target_seen (Child house child) = answer.Refused why.NotLink

-- the entry is seen at its house, and this is the answer where it leads
pub record IsTargetOf (r : Reader) (f : Found) (a : Answer) : Type 0 where
  pub at : Pointer
  pub dir : at.dir ≡ f.dir.0
  pub seen : entry_seen (r.sees at f.name) ≡ Some (f.house.0, f.kind)
  pub is : a ≡ target_seen (r.sees at f.name)

-- the answer where the entry leads that is found, or why none is
abbrev pub IsTargetRead : Reader → Result Found Refusal → Answer → Type 0
IsTargetRead r (Ok found) a = IsTargetOf r found a
IsTargetRead r (Err why) a = a ≡ answer.Refused (refusal_of_walk why)

-- ---- words of private contracts

-- the answer where an entry leads that was shown so
abbrev pub lead_read : Lead → Answer
lead_read lead.Object = answer.Refused why.NotLink
lead_read (lead.Link target) = answer.Target target
lead_read (lead.Child p) = answer.Refused why.NotLink

-- the house of an entry showed it, and so it is seen by what was heard
pub record IsLed (h : Heard) (f : Found) : Type 0 where
  pub at : Pointer
  pub dir : at.dir ≡ f.dir.0
  pub entry : ShownEntry
  pub told : told_of h.answers f.dir.0 f.house.0 f.name ≡ Some (Shows entry)
  pub sight : heard_sight h at f.name ≡ Some (lead_sight f.house.0 entry.lead)
  pub seen : entry_seen (lead_sight f.house.0 entry.lead) ≡ Some (f.house.0, f.kind)
