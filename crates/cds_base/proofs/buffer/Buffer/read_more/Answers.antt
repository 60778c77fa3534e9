use Rattle.std.proofs.Common.{◌+◌, List, ℕ, ◌++◌, ◌∙◌, ap, arith}
use Rattle.std.specs.List.{slice_range}
use Rattle.cds_base.proofs.Buffers.{between_kept, between_more}
use Rattle.cds_base.proofs.KnownOctets.{grows_none}
use Rattle.cds_base.proofs.buffer.Buffer.read_more.Goals as goal

pub returns-in-Ok-clause-reads : goal.returns-in-Ok-clause-reads
returns-in-Ok-clause-reads g c =
    let s = c.make_room.new.self in
    let now = c.read_from.new.octets.items in
    let read = slice_range now s.end (s.end + c.in-Ok.count) in record {
      read = read;
      taken = c.in-Ok.ensures.bytes;
      grown = between_more s.octets.items now s.start s.end c.in-Ok.count (omega arith) c.in-Ok.ensures.front
          ∙ ap (λ (l : List ℕ). l ++ read) c.make_room.ensures.same;
    }

pub returns-in-Err-clause-reads : goal.returns-in-Err-clause-reads
returns-in-Err-clause-reads g c =
    let s = c.make_room.new.self in
    grows_none _ _ _ _ c.in-Err.ensures.err
    (between_kept s.octets.items c.read_from.new.octets.items s.start s.end (omega arith) c.in-Err.ensures.front ∙ c.make_room.ensures.same)

pub returns-in-Err-clause-err : goal.returns-in-Err-clause-err
returns-in-Err-clause-err g c =
    let s = c.make_room.new.self in
    between_kept s.octets.items c.read_from.new.octets.items s.start s.end (omega arith) c.in-Err.ensures.front ∙ c.make_room.ensures.same
