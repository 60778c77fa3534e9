use Rattle.std.proofs.lemmas.Result.{on_ok_weaker}
use Rattle.mend_replay.proofs.PutLines.{put_epoch}
use Rattle.mend_replay.proofs.lines.push_epoch.Goals as goal

pub returns : goal.returns
returns c =
    on_ok_weaker c.push_line.result
    (put_epoch c.args.script.now.items c.push_line.new.script.items c.args.dir.0 c.args.master.0 c.args.members.now c.in_ok-others.others c.requires c.in_ok-others.ensures)
    c.push_line.ensures
