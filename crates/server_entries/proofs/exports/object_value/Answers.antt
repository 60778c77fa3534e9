use Rattle.std.proofs.Common.{◌≡◌, length, ap, ◌∙◌, arith}
use Rattle.server_entries.proofs.Unexports.{object_fits}
use Rattle.server_entries.proofs.exports.object_value.Goals as goal

pub known-requires : goal.known-requires
known-requires c =
    let sixteen : length c.into_bytes-octets.result ≡ 16 = omega arith in
    object_fits c.as_slice.result.now (ap length c.as_slice.ensures ∙ sixteen)
