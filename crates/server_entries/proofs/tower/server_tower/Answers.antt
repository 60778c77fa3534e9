use Rattle.std.proofs.Common.{◌+◌, take, drop, Ok, Err, sym, subst, arith}
use Rattle.std.proofs.lemmas.List.{take_all, take-append-drop, length-take-le, length-drop}
use Rattle.tower_codec.specs.Tower.{IsTower}
use Rattle.tower_codec.proofs.Grammar.{IsBytes}
use Rattle.server_entries.specs.declared.tower.ServerFault.TheVariants.{BadTower, Trailing, NotRpcTower}
use Rattle.server_entries.proofs.ServerReading.{read_as}
use Rattle.server_entries.proofs.tower.server_tower.Goals as goal

pub returns-in-Err-clause-read : goal.returns-in-Err-clause-read
returns-in-Err-clause-read c =
    let bytes : IsBytes c.args.octets.now = λ i. omega (arith, c.type_inv.octets i) in
    read_as c.args.octets.now (Err (BadTower c.in-Err.fault)) bytes c.in-Err.ensures.fault

pub returns-then-len-octets-clause-says : goal.returns-then-len-octets-clause-says
returns-then-len-octets-clause-says c =
    let octets = c.args.octets.now in
    let len = c.in-Ok.read.1 in (
      c.in-Ok.read.0,
      take len octets,
      drop len octets,
      c.in-Ok.ensures.tower,
      sym (take-append-drop len octets),
      omega (arith, length-drop len octets),
      omega (arith, length-take-le len octets c.in-Ok.ensures.length),
    )

pub returns-then-len-octets-clause-read : goal.returns-then-len-octets-clause-read
returns-then-len-octets-clause-read c =
    let bytes : IsBytes c.args.octets.now = λ i. omega (arith, c.type_inv.octets i) in
    read_as c.args.octets.now (Err (Trailing (c.in-Ok.read.1 + 1))) bytes (returns-then-len-octets-clause-says c)

pub returns-in-Some-clause-says : goal.returns-in-Some-clause-says
returns-in-Some-clause-says c = (
  c.in-Ok.read.0,
  subst (IsTower c.in-Ok.read.0)
      (take_all c.in-Ok.read.1 c.args.octets.now c.if-len-octets.false) c.in-Ok.ensures.tower,
  c.in-Some.ensures.found,
)

pub returns-in-Some-clause-read : goal.returns-in-Some-clause-read
returns-in-Some-clause-read c =
    let bytes : IsBytes c.args.octets.now = λ i. omega (arith, c.type_inv.octets i) in
    read_as c.args.octets.now (Ok c.in-Some.tower) bytes (returns-in-Some-clause-says c)

pub returns-in-None-clause-says : goal.returns-in-None-clause-says
returns-in-None-clause-says c = (
  c.in-Ok.read.0,
  subst (IsTower c.in-Ok.read.0)
      (take_all c.in-Ok.read.1 c.args.octets.now c.if-len-octets.false) c.in-Ok.ensures.tower,
  λ tower is. let never = c.in-None.ensures.only tower is in cc,
)

pub returns-in-None-clause-read : goal.returns-in-None-clause-read
returns-in-None-clause-read c =
    let bytes : IsBytes c.args.octets.now = λ i. omega (arith, c.type_inv.octets i) in
    read_as c.args.octets.now (Err NotRpcTower) bytes (returns-in-None-clause-says c)
