use Rattle.std.proofs.Common.{true, None, subst}
use Rattle.std.specs.Prelude.{Bool}
use Rattle.directory.specs.EntryChanges.{AreAccepted}
use Rattle.resolver.specs.WalkEnds.{place_of_walk, walk_end}
use Rattle.server_entries.specs.Exports.{export_changes}
use Rattle.ns_groups.specs.Groups as groups
use Rattle.ns_profiles.specs.Profiles as profiles
use Rattle.script_replay.specs.Replies.{trusted_reader}
use Rattle.script_replay.proofs.UpdateLaws.{found_lacks, place_lacks, unless_lacks}
use Rattle.cell_replay.proofs.laws.name_commands_lack_stamps_alone.Goals as goal

pub returns-clause-exports : goal.returns-clause-exports
returns-clause-exports c g name interface bindings objects reached =
    unless_lacks g reached (c.holdings.ensures.histories g reached) (c.masters_refuse_for_stamps_alone.ensures g) _ _
    (place_lacks g reached (c.holdings.ensures.histories g reached) (c.masters_refuse_for_stamps_alone.ensures g) (place_of_walk (trusted_reader g) name) _
    (c.asked_houses_accept.ensures.placed g None name)
    (λ p past history is. subst (λ (b : Bool). AreAccepted past (export_changes p.name b interface bindings objects)) is
    (c.server_updates_are_accepted.ensures.exports past p.name interface bindings objects history)))

pub returns-clause-unexports : goal.returns-clause-unexports
returns-clause-unexports c g name interface objects reached =
    found_lacks g reached (c.holdings.ensures.histories g reached) (c.masters_refuse_for_stamps_alone.ensures g) (walk_end (trusted_reader g) true name) _ _
    (c.asked_houses_accept.ensures.found g None true name)
    (λ f past e is. c.server_updates_are_accepted.ensures.unexports past f.name e _ _ interface objects is)

pub returns-clause-members : goal.returns-clause-members
returns-clause-members c g name member reached = (
  place_lacks g reached (c.holdings.ensures.histories g reached) (c.masters_refuse_for_stamps_alone.ensures g) (place_of_walk (trusted_reader g) name) _
      (c.asked_houses_accept.ensures.placed g None name)
      (λ p past history is. subst (λ (b : Bool). AreAccepted past (groups.member_addition p.name b member)) is
      (c.group_updates_are_accepted.ensures.additions past p.name member history)),
  found_lacks g reached (c.holdings.ensures.histories g reached) (c.masters_refuse_for_stamps_alone.ensures g) (walk_end (trusted_reader g) true name) _ _
      (c.asked_houses_accept.ensures.found g None true name)
      (λ f past e is. c.group_updates_are_accepted.ensures.deletions past f.name e member is),
)

pub returns-clause-elements : goal.returns-clause-elements
returns-clause-elements c g name interface member priority note reached = (
  unless_lacks g reached (c.holdings.ensures.histories g reached) (c.masters_refuse_for_stamps_alone.ensures g) _ _
      (place_lacks g reached (c.holdings.ensures.histories g reached) (c.masters_refuse_for_stamps_alone.ensures g) (place_of_walk (trusted_reader g) name) _
      (c.asked_houses_accept.ensures.placed g None name)
      (λ p past history is. subst (λ (b : Bool). AreAccepted past (profiles.element_addition p.name b (profiles.new_element interface member priority note))) is
      (c.profile_updates_are_accepted.ensures.additions past p.name (profiles.new_element interface member priority note) history))),
  found_lacks g reached (c.holdings.ensures.histories g reached) (c.masters_refuse_for_stamps_alone.ensures g) (walk_end (trusted_reader g) true name) _ _
      (c.asked_houses_accept.ensures.found g None true name)
      (λ f past e is. c.profile_updates_are_accepted.ensures.deletions past f.name e interface member ((trusted_reader g).values f profiles.profile) is),
)
