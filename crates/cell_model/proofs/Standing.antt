-- What holds of histories, members and messages in every cell that is reached.
use Rattle.std.proofs.Common.{◌≡◌, List, [], ◌∷◌, ◌++◌, refl, ap, ◌∙◌, subst}
use Rattle.cds_stamps.specs.Members.{is_listed}
use Rattle.cell_model.specs.Cells.{Message, Cell, empty_cell}
use Rattle.cell_model.specs.Commands.{Command, Accepted}
use Rattle.cell_model.specs.Sets.{In}
use Rattle.cell_model.specs.Steps.{outcome, replay, accepted_updates}
use Rattle.cell_model.specs.Reached.{IsReached, ReachedHolds}
use Rattle.cell_model.specs.Holdings.{HistoriesHold, MembersHold}
use Rattle.cell_model.specs.Taking.{CanTake}
use Rattle.cell_model.proofs.Views.{In-of_dir}
use Rattle.cell_model.proofs.Runs.{replay-append}
use Rattle.cell_model.proofs.Downs.{still_lem}
use Rattle.cell_model.proofs.Issues.{logged_at}
use Rattle.cell_model.proofs.NeverComes.{reaching_last}
use Rattle.cell_model.proofs.Merging.{closed_history, merges_lem}
use Rattle.cell_model.proofs.FloorTimes.{floors_lem}

-- what holds after every list of commands holds of each cell that is reached
pub on_reached : (P : Cell → Type 0) → ((commands : List Command) → P (replay commands)) → (g : Cell) → IsReached g → P g
on_reached P all g r = subst P r.leads (all r.commands)

-- the cells that are reached
pub reached_lem : ReachedHolds
reached_lem = record {
  empty = record { commands = []; leads = refl };
  after = λ g c r. record {
    commands = r.commands ++ c ∷ [];
    leads = replay-append r.commands (c ∷ []) empty_cell ∙ ap (λ (z : Cell). (outcome z c).cell) r.leads;
  };
}

module _ (commands : List Command) where
  once : (a b : Accepted) → In a (accepted_updates commands) → In b (accepted_updates commands) → a.stamp ≡ b.stamp → a ≡ b
  once = (logged_at commands).once

  -- histories and marks of messages are histories
  pub histories_lem : HistoriesHold (replay commands)
  histories_lem = record {
    houses = λ x d r at.
        let known = (reaching_last commands d).known in
        closed_history d (accepted_updates commands) known.well (logged_at commands).once r.history (known.only x r at) (known.origin x r at);
    messages = λ m i.
        let known = (reaching_last commands m.dir).known in
        let posted = In-of_dir m.dir (replay commands).bag m i refl in
        closed_history m.dir (accepted_updates commands) known.well (logged_at commands).once _ (known.only_m m posted) (known.origin_m m posted);
  }

  -- who holds a directory is a member, and masters alone run skulks
  pub members_lem : MembersHold (replay commands)
  members_lem = record {
    listed = λ x d r at. let ok = (reaching_last commands d).sound.held x r at in ap (is_listed x) ok.members ∙ ok.listed.1.0;
    master = λ x d r t at run. (((reaching_last commands d).sound.held x r at).phase t run).0;
    idle = λ x d r at down. still_lem commands x down d r at;
  }

  -- a receiver can take what was posted to it
  pub can_take_lem : (m : Message) → In m (replay commands).bag → CanTake ((replay commands).house m.receiver) m
  can_take_lem m i = record {
    history = histories_lem.messages m i;
    below = ((floors_lem commands).messages m i).times;
    receiver = λ r at. members_lem.listed m.receiver m.dir r at;
    merges = λ r marks t at adds. merges_lem commands m r marks t i at adds;
  }
