use Rattle.std.proofs.Common.{◌≡◌, ◌≤◌, Some, None, Ok, true, false, refl, sym, ◌∙◌, ap, subst, arith}
use Rattle.std.specs.Option.{option_map}
use Rattle.std.specs.Str.{bytes_eq}
use Rattle.cell_model.specs.Steps.{outcome}
use Rattle.cds_cell.specs.CommandImages.{image_after}
use Rattle.cds_cell.specs.Scripted.{step_of}
use Rattle.cds_cell.specs.ModelCells.{Stands}
use Rattle.journal_forms.specs.declared.journal_answer.JournalAnswer.{JournalAnswer}
use Rattle.journal_forms.specs.declared.journal_line.JournalLine.TheVariants as line
use Rattle.journal_replay.specs.CellDisks.{disk_count}
use Rattle.journal_replay.proofs.DiskUses.{stop_calls}
use Rattle.journal_replay.proofs.FullTold.{tells_memory, tells_up}
use Rattle.journal_replay.proofs.StopDone.{has_image, image_then, unchanged}
use Rattle.journal_replay.proofs.StopReplies.{unless_memory, unless_up}
use Rattle.journal_replay.proofs.keeper.Keeper.stop_changed.Goals as goal

pub returns-in_err-image-clause-reply : goal.returns-in_err-image-clause-reply
returns-in_err-image-clause-reply c s command a done answered =
    unless_memory c.from_residual.result a c.args.self.now s (line.Stop c.args.house c.args.call c.args.leave command) c.from_residual.ensures.1 done.disks

pub returns-in_err-image-clause-full : goal.returns-in_err-image-clause-full
returns-in_err-image-clause-full c = tells_memory c.from_residual.result _ _ c.from_residual.ensures.1 refl

-- ---- the house is there

pub returns-in_default-clause-reply : goal.returns-in_default-clause-reply
returns-in_default-clause-reply c s command a done answered =
    let few : c.args.house.0 ≤ disk_count = omega arith in
    let old = c.args.self.now in
    let next = (outcome s.cell (step_of command)).cell in
    absurd (has_image old old s c.args.house c.args.call c.args.leave command c.args.mark c.requires.house few done
    (sym (c.in_ok-image.ensures next (subst (λ x. Stands x next) (sym c.cell.ensures) done.now)) ∙ ap (option_map (λ v. v.items)) c.in_default.is))

pub returns-in_default-clause-calls : goal.returns-in_default-clause-calls
returns-in_default-clause-calls c s command done =
    let few : c.args.house.0 ≤ disk_count = omega arith in
    let old = c.args.self.now in
    let next = (outcome s.cell (step_of command)).cell in
    absurd (has_image old old s c.args.house c.args.call c.args.leave command c.args.mark c.requires.house few done
    (sym (c.in_ok-image.ensures next (subst (λ x. Stands x next) (sym c.cell.ensures) done.now)) ∙ ap (option_map (λ v. v.items)) c.in_default.is))

-- ---- its image stays

pub returns-then-eq-clause-reply : goal.returns-then-eq-clause-reply
returns-then-eq-clause-reply c s command a done answered =
    let few : c.args.house.0 ≤ disk_count = omega arith in
    let old = c.args.self.now in
    let next = (outcome s.cell (step_of command)).cell in
    let told = c.in_ok-image.ensures next (subst (λ x. Stands x next) (sym c.cell.ensures) done.now) in
    let test : true ≡ bytes_eq c.in-Some.image.items c.args.mark.image.items =
    sym c.if-eq.true ∙ c.eq.ensures ∙ ap (λ x. bytes_eq x c.image.result.now) c.as_slice.ensures.value ∙ ap (bytes_eq c.in-Some.image.items) c.image.ensures in
    let none = image_then old old s c.args.house c.args.call c.args.leave command c.args.mark c.requires.house few done _ c.in-Some.image.items true
    (ap (option_map (λ v. v.items)) c.in-Some.is) told test in
    unchanged old old s c.args.house c.args.call c.args.leave command c.args.mark c.requires.house few done c.images_stay.ensures a none answered done.disks
    done.now

pub returns-then-eq-clause-calls : goal.returns-then-eq-clause-calls
returns-then-eq-clause-calls c s command done image allowed some =
    let few : c.args.house.0 ≤ disk_count = omega arith in
    let old = c.args.self.now in
    let next = (outcome s.cell (step_of command)).cell in
    let told = c.in_ok-image.ensures next (subst (λ x. Stands x next) (sym c.cell.ensures) done.now) in
    let test : true ≡ bytes_eq c.in-Some.image.items c.args.mark.image.items =
    sym c.if-eq.true ∙ c.eq.ensures ∙ ap (λ x. bytes_eq x c.image.result.now) c.as_slice.ensures.value ∙ ap (bytes_eq c.in-Some.image.items) c.image.ensures in
    let none : image_after s.cell c.args.house.0 (step_of command) ≡ None =
    image_then old old s c.args.house c.args.call c.args.leave command c.args.mark c.requires.house few done _ c.in-Some.image.items true
    (ap (option_map (λ v. v.items)) c.in-Some.is) told test in
    absurd (let e = sym none ∙ some in cc)

-- ---- its put is stopped

pub returns-in_err-stopped-clause-reply : goal.returns-in_err-stopped-clause-reply
returns-in_err-stopped-clause-reply c s command a done answered =
    let few : c.args.house.0 ≤ disk_count = omega arith in
    let old = c.args.self.now in
    let next = (outcome s.cell (step_of command)).cell in
    let told = c.in_ok-image.ensures next (subst (λ x. Stands x next) (sym c.cell.ensures) done.now) in
    let test : false ≡ bytes_eq c.in-Some.image.items c.args.mark.image.items =
    sym c.if-eq.false ∙ c.eq.ensures ∙ ap (λ x. bytes_eq x c.image.result.now) c.as_slice.ensures.value ∙ ap (bytes_eq c.in-Some.image.items) c.image.ensures in
    let some = image_then old old s c.args.house c.args.call c.args.leave command c.args.mark c.requires.house few done _ c.in-Some.image.items false
    (ap (option_map (λ v. v.items)) c.in-Some.is) told test in
    unless_up c.from_residual-in_err-stopped.result a c.in_err-stopped.field-0.0 c.stop_put.new.self s (line.Stop c.args.house c.args.call c.args.leave command)
    c.from_residual-in_err-stopped.ensures.1 (c.in_err-stopped.ensures.reply s command done some)

pub returns-in_err-stopped-clause-full : goal.returns-in_err-stopped-clause-full
returns-in_err-stopped-clause-full c =
    tells_up JournalAnswer c.from_residual-in_err-stopped.result c.in_err-stopped.field-0.0 _ _ c.from_residual-in_err-stopped.ensures.1 c.in_err-stopped.ensures.full

pub returns-clause-reply : goal.returns-clause-reply
returns-clause-reply c s command a done answered =
    let few : c.args.house.0 ≤ disk_count = omega arith in
    let old = c.args.self.now in
    let next = (outcome s.cell (step_of command)).cell in
    let told = c.in_ok-image.ensures next (subst (λ x. Stands x next) (sym c.cell.ensures) done.now) in
    let test : false ≡ bytes_eq c.in-Some.image.items c.args.mark.image.items =
    sym c.if-eq.false ∙ c.eq.ensures ∙ ap (λ x. bytes_eq x c.image.result.now) c.as_slice.ensures.value ∙ ap (bytes_eq c.in-Some.image.items) c.image.ensures in
    let some = image_then old old s c.args.house c.args.call c.args.leave command c.args.mark c.requires.house few done _ c.in-Some.image.items false
    (ap (option_map (λ v. v.items)) c.in-Some.is) told test in
    c.in_ok-stopped.ensures.reply s command done some

pub returns-clause-calls : goal.returns-clause-calls
returns-clause-calls c s command done =
    let few : c.args.house.0 ≤ disk_count = omega arith in
    let old = c.args.self.now in
    let next = (outcome s.cell (step_of command)).cell in
    let told = c.in_ok-image.ensures next (subst (λ x. Stands x next) (sym c.cell.ensures) done.now) in
    let test : false ≡ bytes_eq c.in-Some.image.items c.args.mark.image.items =
    sym c.if-eq.false ∙ c.eq.ensures ∙ ap (λ x. bytes_eq x c.image.result.now) c.as_slice.ensures.value ∙ ap (bytes_eq c.in-Some.image.items) c.image.ensures in
    let some = image_then old old s c.args.house c.args.call c.args.leave command c.args.mark c.requires.house few done _ c.in-Some.image.items false
    (ap (option_map (λ v. v.items)) c.in-Some.is) told test in
    stop_calls (Ok c.in_ok-stopped.stopped) s c.args.house c.args.call c.args.leave command c.in-Some.image.items _ _ some (c.in_ok-stopped.ensures.calls s command done some)
