use Rattle.ns_profiles.proofs.ReadBack.{written_read, read_again, read_written}
use Rattle.ns_profiles.proofs.laws.elements_read_back.Goals as goal

pub returns : goal.returns
returns c = record { read = written_read; known = read_again; written = read_written }
