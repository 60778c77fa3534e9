use Rattle.std.proofs.Common.{ℕ, Bool, cond, ◌+◌, ◌∙◌, ap, refl}
use Rattle.std.specs.Prelude.{not, ◌&&◌}
use Rattle.cell_script.proofs.Splitting.{byte_is}
use Rattle.script_replay.specs.PrivateKinds.{is_complete, refuses}
use Rattle.script_replay.proofs.LoadTurns.{took}
use Rattle.script_replay.proofs.loader.Loader.take.Goals as goal

pub returns : goal.returns
returns c g cmd s is =
    let a = c.in_ok-answer.answer in
    took c.args.self.now _ g c.args.line cmd a is (c.in_ok-answer.ensures.reply g s) refl
    (ap (λ (n : ℕ). c.args.self.now.accepted + n)
    (c.from.ensures ∙ byte_is c.accepts.result ∙ ap (λ (b : Bool). cond {A = ℕ} b 1 0)
    (c.accepts.ensures ∙ ap (λ (b : Bool). b && not (refuses a)) c.is_change-changes.ensures)))
    (ap (λ (n : ℕ). c.args.self.now.complete + n)
    (c.from-2.ensures ∙ byte_is c.completes.result ∙ ap (λ (b : Bool). cond {A = ℕ} b 1 0)
    (c.completes.ensures ∙ ap (λ (b : Bool). b && is_complete a) c.is_delivery-delivers.ensures)))
