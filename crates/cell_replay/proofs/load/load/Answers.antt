use Rattle.script_replay.specs.Loading.{load_text}
use Rattle.line_forms.specs.Endings.{side_of}
use Rattle.cell_replay.proofs.Tasks.{writes}
use Rattle.cell_replay.proofs.load.load.Goals as goal

pub returns : goal.returns
returns g c source =
    writes (load_text c.args.rounds) source (side_of g.K.Sink.written g.K.Sink.faults c.args.sink.now) c.new-waiting.result _ _ c.new-waiting.ensures
    (c.stop_with.ensures (load_text c.args.rounds) c.summary_line.ensures)
