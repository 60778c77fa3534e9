-- What never comes.
use Rattle.std.proofs.Common.{◌≡◌, ℕ, List, [], refl, sym, ap, ◌∙◌, subst, arith}
use Rattle.cds_stamps.specs.Members.{is_listed}
use Rattle.cell_model.specs.Cells.{Phase, Body, Message}
use Rattle.cell_model.specs.Commands.{Command}
use Rattle.cell_model.specs.Sets.{In}
use Rattle.cell_model.specs.Steps.{replay, accepted_updates}
use Rattle.cell_model.specs.Nevers.{Nevers}
use Rattle.cell_model.proofs.Lists.{append_nil}
use Rattle.cell_model.proofs.Terms.{Listed}
use Rattle.cell_model.proofs.Facts.{view, Kind, Lawful}
use Rattle.cell_model.proofs.Rounds.{Round}
use Rattle.cell_model.proofs.Views.{In-of_dir}
use Rattle.cell_model.proofs.Passages.{Reaching}
use Rattle.cell_model.proofs.Runs.{roll_of, reaching_at}

-- the last cell of a run, in each directory
pub reaching_last : (commands : List Command) (d : ℕ) → Reaching (roll_of d commands) (view d (replay commands)) (accepted_updates commands)
reaching_last commands d = reaching_at d commands commands [] (append_nil commands)

-- each message in the bag of a run is one that a run may post
pub lawful : (commands : List Command) (m : Message) → In m (replay commands).bag → Lawful (roll_of m.dir commands) (view m.dir (replay commands)) m
lawful commands m i = (reaching_last commands m.dir).sound.messages m (In-of_dir m.dir (replay commands).bag m i refl)

-- what the answers Foreign and a stale epoch would tell of never comes
pub nevers_lem : (commands : List Command) → Nevers (replay commands)
nevers_lem commands = record {
  from_member = λ m r i at e.
      let ok = (reaching_last commands m.dir).sound.held m.receiver r at in
      let by = (lawful commands m i).by in
      ap (is_listed m.sender) (ok.members ∙ ap (roll_of m.dir commands).list (sym e)) ∙ by.1.0;
  among_members = λ m members copy i is.
      let l = lawful commands m i in
      let k : (members ≡ (roll_of m.dir commands).list m.epoch) × ((b : ℕ) × Listed ((roll_of m.dir commands).list m.epoch) m.receiver b) =
      subst (λ (b : Body). Kind (roll_of m.dir commands) m b) is l.kind in
      (ap (is_listed m.receiver) k.0 ∙ k.1.1.0, ap (is_listed m.sender) k.0 ∙ l.by.1.0);
  given = λ h d r at. let ok = (reaching_last commands d).sound.held h r at in omega (arith, ok.top);
  no_leave = λ m r i is at e.
      let ok = (reaching_last commands m.dir).sound.held m.receiver r at in
      let out : (b : ℕ) → Listed ((roll_of m.dir commands).list m.epoch) m.receiver b
      → ⊥ = subst (λ (b : Body). Kind (roll_of m.dir commands) m b) is (lawful commands m i).kind in
      out ok.listed.0 (subst (λ (k : ℕ). Listed ((roll_of m.dir commands).list k) m.receiver ok.listed.0) (sym e) ok.listed.1);
  no_ack = λ m r t a i is at run.
      let round = subst (λ (p : Phase). Round (roll_of m.dir commands) (view m.dir (replay commands)) m.receiver r p) run
      ((reaching_last commands m.dir).rounds m.receiver r at) in
      round.no_ack m (In-of_dir m.dir (replay commands).bag m i refl) is;
}
