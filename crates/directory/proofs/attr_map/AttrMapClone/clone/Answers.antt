use Rattle.std.proofs.Common.{ap, ◌∙◌, rules}
use Rattle.std.specs.FinMap.{from_entries}
use Rattle.std.proofs.lemmas.Map.Entries.{entries_from_clone}
use Rattle.cds_stamps.specs.Octets.{octets_cmp}
use Rattle.directory.proofs.attr_map.AttrMapClone.clone.Goals as goal

pub returns : goal.returns
returns c =
    record {
      cases = ap (from_entries {R = octets_cmp}) (entries_from_clone _ _
          (λ x y h. search rules)
          (λ v w h. search rules) c.self.inside.cells c.in_ok-clone.field-0 c.in_ok-clone.ensures.cases) ∙ c.self.view_is;
    }
