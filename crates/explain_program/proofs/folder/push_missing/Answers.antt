use Rattle.explain_program.proofs.RunLemmas.{three_pieces}
use Rattle.explain_program.proofs.folder.push_missing.Goals as goal

pub returns : goal.returns
returns c =
    three_pieces c.args.text.now.items _ _ _ _ _ _ c.in_ok-extend_from_slice.ensures.items c.in_ok-push_number.ensures.ok
    c.in_ok-extend_from_slice-2.ensures.items
