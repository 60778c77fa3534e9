use Rattle.std.proofs.Common.{◌∙◌, sym, ap, refl}
use Rattle.std.specs.Prelude.{not}
use Rattle.cds_stamps.specs.Members.{members_of}
use Rattle.house_directory.proofs.Takings.{bar_is, listed_is}
use Rattle.clearinghouse.proofs.house.Clearinghouse.bars_join.Goals.{then-is_none-via-then-is_none, then-is_none-via-else-is_none+then-is_none-2}
use Rattle.clearinghouse.proofs.house.Clearinghouse.bars_join.Goals as goal

pub returns-then-is_none : goal.returns-then-is_none
returns-then-is_none c =
    elim c.then-is_none.branch [
      | then-is_none-via-then-is_none w ↦ sym (bar_is c.args.self.now.house.0 c.args.message.now (members_of c.args.members.now) _ _ _
          (sym c.passes_join.ensures ∙ c.in_default.is)
          (listed_is c.args.self.now.house.0 (members_of c.args.members.now) c.place.result c.place.ensures ∙ c.is_none.ensures
          ∙ ap not w.if-is_none.true) refl)
      | then-is_none-via-else-is_none+then-is_none-2 w ↦ sym (bar_is c.args.self.now.house.0 c.args.message.now (members_of c.args.members.now) _ _ _
          (sym c.passes_join.ensures ∙ c.in_default.is)
          (listed_is c.args.self.now.house.0 (members_of c.args.members.now) c.place.result c.place.ensures ∙ c.is_none.ensures ∙ ap not w.if-is_none.false)
          (listed_is c.args.message.now.from.0 (members_of c.args.members.now) w.place-else-is_none.result w.place-else-is_none.ensures
          ∙ w.is_none-else-is_none.ensures ∙ ap not w.if-is_none-2.true))
    ]

pub returns : goal.returns
returns c =
    sym (bar_is c.args.self.now.house.0 c.args.message.now (members_of c.args.members.now) _ _ _
    (sym c.passes_join.ensures ∙ c.in_default.is)
    (listed_is c.args.self.now.house.0 (members_of c.args.members.now) c.place.result c.place.ensures ∙ c.is_none.ensures ∙ ap not c.if-is_none.false)
    (listed_is c.args.message.now.from.0 (members_of c.args.members.now) c.place-else-is_none.result c.place-else-is_none.ensures
    ∙ c.is_none-else-is_none.ensures ∙ ap not c.if-is_none-2.false))
