use Rattle.std.proofs.Common.{Global, ℕ}
use Rattle.std.specs.Prelude.{Option}
use Rattle.std.specs.declared.vec.Vec.{Vec}
use Rattle.script_answers.specs.declared.answer.Answer.{Answer}
use Rattle.journal_replay.proofs.FullTold.{tells_up}
use Rattle.journal_replay.proofs.keeper.Keeper.reply.Goals as goal

pub returns-in_err-reply_plain-in-Plain-clause-full : goal.returns-in_err-reply_plain-in-Plain-clause-full
returns-in_err-reply_plain-in-Plain-clause-full c =
    tells_up Answer c.from_residual.result c.in_err-reply_plain-in-Plain.field-0.0 _ _ c.from_residual.ensures.1 c.in_err-reply_plain-in-Plain.ensures.full

pub returns-in_err-image-in-Image-clause-full : goal.returns-in_err-image-in-Image-clause-full
returns-in_err-image-in-Image-clause-full c =
    tells_up (Option (Vec ℕ Global)) c.from_residual-in_err-image-in-Image.result c.in_err-image-in-Image.field-0.0 _ _ c.from_residual-in_err-image-in-Image.ensures.1
    c.in_err-image-in-Image.ensures.full
