use Rattle.std.proofs.Common.{◌≡◌, true, false, sym, ap, ◌∙◌}
use Rattle.std.specs.Prelude.{◌&&◌}
use Rattle.std.specs.Cmp.Lexicographic.{texts_ties}
use Rattle.cds_stamps.specs.Octets.{is_octets}
use Rattle.directory.specs.IndexWords.{is_absence}
use Rattle.directory.proofs.deletions.is_absence.Goals as goal

pub returns-then-eq : goal.returns-then-eq
returns-then-eq c =
    let a = c.args.attr.now in
    let v = c.args.value.now in
    let same : is_octets c.in-Absent.of a ≡ true = sym (texts_ties c.in-Absent.of a) ∙ sym c.eq.ensures ∙ c.if-eq.true in
    c.eq-then-eq.ensures ∙ texts_ties c.in-Absent.gone v
    ∙ sym (ap (is_absence a v) c.in-Absent.is ∙ ap (λ b. b && is_octets c.in-Absent.gone v) same)

pub returns-else-eq : goal.returns-else-eq
returns-else-eq c =
    let a = c.args.attr.now in
    let v = c.args.value.now in
    let apart : is_octets c.in-Absent.of a ≡ false = sym (texts_ties c.in-Absent.of a) ∙ sym c.eq.ensures ∙ c.if-eq.false in
    c.if-eq.false ∙ sym (ap (is_absence a v) c.in-Absent.is ∙ ap (λ b. b && is_octets c.in-Absent.gone v) apart)
