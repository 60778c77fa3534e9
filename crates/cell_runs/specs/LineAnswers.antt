-- What a house answers: an answer of the model as a line, in which messages have no serials.
use Rattle.std.specs.Prelude.{List, ℕ, [], codes}
use Rattle.cell_model.specs.Commands as model
use Rattle.script_answers.specs.Texts.{answer_line}
use Rattle.script_answers.specs.declared.answer.Answer.TheVariants as answer
use Rattle.script_answers.specs.declared.answer.ScriptRefusal.{ScriptRefusal}
use Rattle.cds_cell.specs.Scripted.{refusal_of}

-- a refusal
abbrev pub refused : ScriptRefusal → List ℕ
refused r = answer_line (answer.Refused r)

-- an answer of the model, as a house says it: messages have no serials there
abbrev pub answer_said : model.Answer → List ℕ
answer_said model.Done = answer_line answer.Done
answer_said (model.Posted ns) = answer_line answer.Done
answer_said (model.Made d s ns) = answer_line (answer.Made (record { 0 = d }) s [])
answer_said (model.Stamped s ns) = answer_line (answer.Stamped s [])
answer_said (model.NewEpoch e ns) = answer_line (answer.Epoch (record { 0 = e }) [])
answer_said (model.Taken ns) = answer_line (answer.Taken [])
answer_said (model.Late k e) = answer_line (answer.Late (record { 0 = k }) (record { 0 = e }))
answer_said (model.Early k e) = answer_line (answer.Early (record { 0 = k }) (record { 0 = e }))
answer_said (model.Stale t r) = answer_line (answer.Stale t r)
answer_said model.NoReplica = answer_line answer.NoReplica
answer_said model.Foreign = codes "ok foreign"
answer_said (model.Complete t ns) = answer_line (answer.Complete t [])
answer_said (model.Refused r) = refused (refusal_of r)
