use Rattle.server_entries.proofs.ServerReading.{bytes_from, server_read, server_again}
use Rattle.server_entries.proofs.laws.server_towers_are_read.Goals as goal

pub returns : goal.returns
returns c = λ octets tower all. (server_read octets tower (bytes_from octets all), server_again octets tower)
