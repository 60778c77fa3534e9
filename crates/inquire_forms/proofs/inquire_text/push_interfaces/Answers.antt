use Rattle.inquire_forms.specs.InquireTexts.{interface_line}
use Rattle.inquire_forms.proofs.InquireTexts.{one_more_line}
use Rattle.inquire_forms.proofs.inquire_text.push_interfaces.Goals as goal

pub loop-interface-preserved : goal.loop-interface-preserved
loop-interface-preserved c =
    one_more_line interface_line c.args.front.now c.args.interfaces.now c.loop-interface.interface-index c.interface-item.result c.args.text.now.items c.loop-interface.text.items
    c.push_interface.new.text.items c.loop-interface-test.true c.interface-item.is c.loop-interface.invariant c.in_ok-push_interface.ensures
