use Rattle.std.proofs.Common.{[], ◌∷◌, ◌++◌, ◌∙◌, ◌≡◌, List, ℕ, ap}
use Rattle.std.specs.Prelude.{Option, Some, None}
use Rattle.std.specs.Int.{from_be_bytes, w64}
use Rattle.std.specs.Result.{result_ok}
use Rattle.script_answers.proofs.ReadWords.{node_is}
use Rattle.house_turns.proofs.SkulkWords.{node_made, node_read}
use Rattle.house_turns.proofs.running.node_in.Goals as goal

pub returns-in_err-ok : goal.returns-in_err-ok
returns-in_err-ok c = λ n small is.
    let read = node_read n c.args.word.now c.decode_to_slice.result c.decode_to_slice.new.out is c.decode_to_slice.ensures.value in
    let none : ◌≡◌ {A = Option (Unit {0})} None (Some tt) = c.in_err-ok.ensures.value ∙ ap result_ok read.0 in
    absurd (cc none)

pub returns : goal.returns
returns c = λ n small is.
    let read = node_read n c.args.word.now c.decode_to_slice.result c.decode_to_slice.new.out is c.decode_to_slice.ensures.value in
    node_made c.new.result c.from_be_bytes.result n c.new.ensures
    (c.from_be_bytes.ensures ∙ ap (λ (o : List ℕ). from_be_bytes w64 (0 ∷ 0 ∷ (o ++ []))) read.1 ∙ node_is n small) small
