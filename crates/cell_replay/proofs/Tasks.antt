-- How a form without input ends.
use Rattle.std.proofs.Common.{◌≡◌, List, ℕ, [], inl, refl, subst, arith}
use Rattle.cds_base.proofs.KnownOctets.{appends_none, consumes_self}
use Rattle.line_forms.specs.declared.endings.Status.{Status}
use Rattle.line_forms.specs.declared.endings.Status.TheVariants.{Ok as AllRead}
use Rattle.line_forms.specs.Demand.{ends_with}
use Rattle.cell_replay.specs.FormReadings.{without_input}
use Rattle.line_forms.specs.Endings.{EndsBetween, Side, StopsWith}
use Rattle.line_forms.proofs.Progress.{Pending, stops_with}

module _ (text : List ℕ) (source sink : Side) where
  -- nothing is read, and nothing written yet
  abbrev begun : Pending (without_input text) source.octets source.octets sink.octets sink.octets []
  begun = record {
    front = [];
    since = [];
    out = [];
    demand = ends_with text;
    taken = consumes_self source.octets;
    written = appends_none sink.octets;
    demands = refl;
    answered = ([], refl);
    near = inl refl;
    few = omega arith;
  }

  -- a run that writes this text with nothing waiting in front of it, and stops, ends as a form
  -- without input does
  pub writes : (waited : List ℕ) (sink' : Side) (result : Status) → waited ≡ [] → StopsWith sink sink' AllRead text waited result
      → EndsBetween (without_input text) source source sink sink' result
  writes waited sink' result none stops =
      stops_with (without_input text) source.octets source.octets sink.octets sink.octets [] begun (ends_with text) refl sink'.octets text [] AllRead
      result source.faults source.faults sink.faults sink.faults sink'.faults (tt, (refl, refl)) (record {
        front = [];
        one = [];
        behind = [];
        demand = ends_with text;
        taken = consumes_self source.octets;
        demands = refl;
        due = (refl, tt);
        at_once = inl refl;
        soon = omega arith;
      }) (subst (λ (w : List ℕ). StopsWith sink sink' AllRead text w result) none stops) refl refl
