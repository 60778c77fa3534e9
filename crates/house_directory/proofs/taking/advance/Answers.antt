use Rattle.house_directory.proofs.taking.advance.Goals as goal

pub returns : goal.returns
returns g c = record {
  merged = c.advance_counted.ensures.merged;
  up_to = c.advance_counted.ensures.all_up_to;
  dropped = λ _. c.advance_counted.ensures.dropped;
  valid = c.advance_counted.ensures.valid;
  below = λ n _. c.advance_counted.ensures.times n;
}
