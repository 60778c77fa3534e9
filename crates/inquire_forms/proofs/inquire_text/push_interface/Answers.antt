use Rattle.std.specs.Prelude.{codes}
use Rattle.tower_codec.specs.InterfaceTexts.{interface_text}
use Rattle.inquire_forms.proofs.InquireTexts.{line_ends}
use Rattle.inquire_forms.proofs.inquire_text.push_interface.Goals as goal

pub returns : goal.returns
returns c =
    line_ends c.args.front.now c.args.text.now.items (codes "interface") (interface_text c.args.interface.now) c.begin.new.text.items
    c.append_interface.new.text.items c.push.new.self.items c.in_ok-begin.ensures c.in_ok-append_interface.ensures c.in_ok-push.ensures.items
