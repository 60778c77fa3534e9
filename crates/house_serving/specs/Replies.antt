-- A reply as its caller sees it.
use Rattle.std.specs.Option.{option_map}
use Rattle.house_serving.specs.declared.responder.Reply.{Reply}
use Rattle.house_serving.specs.Turns.{Said}

-- what a reply says, and the body of its record
abbrev pub said_in : Reply → Said
said_in r = record { text = r.text.items; body = option_map (λ v. v.items) r.record }
