use Rattle.std.proofs.Common.{◌∙◌, ◌++◌, [], ap, sym}
use Rattle.std.specs.Option.{option_map_or}
use Rattle.cds_stamps.specs.Firsts.{if_new}
use Rattle.tower_codec.specs.Serving.{same_interface}
use Rattle.ns_inquire.proofs.InterfaceLaws.{inserted}
use Rattle.ns_inquire.proofs.servers.insert_some.Goals as goal

pub returns-in_ok-insert-in-Some : goal.returns-in_ok-insert-in-Some
returns-in_ok-insert-in-Some c =
    let keys = c.args.found.now.keys in
    c.in_ok-insert-in-Some.ensures.keys ∙ inserted keys c.in-Some.interface
    ∙ ap (λ o. keys ++ option_map_or (if_new same_interface keys) o []) (sym c.in-Some.is)
