use Rattle.std.proofs.Common.{◌≡◌, ◌-◌, length}
use Rattle.cds_base.specs.Buffers.{octets_in, room_of}
use Rattle.cds_base.specs.SourceReading.{GrowsByReading}
use Rattle.cds_base.proofs.buffer.Buffer.fill.Given as goal

abbrev pub invariant-reads : goal.invariant-reads
invariant-reads g l = record {
  reads : GrowsByReading (g.S.Source.left l.fn.source) (g.S.Source.left l.source) (octets_in l.fn.self) (octets_in l.self);
  room : room_of l.self ≡ room_of l.fn.self;
  untouched : length (octets_in l.fn.self) ≡ room_of l.fn.self → l.source ≡ l.fn.source;
  faults : g.S.Source.faults l.source ≡ g.S.Source.faults l.fn.source;
}

abbrev pub decreases-reads : goal.decreases-reads
decreases-reads g l = room_of l.self - length (octets_in l.self)
