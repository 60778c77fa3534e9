use Rattle.std.proofs.Common.{◌≡◌, ◌^◌, ◌<◌, ◌++◌, ◌∷◌, [], ℕ, true, false, List, if◌then◌else◌, sym, ◌∙◌, subst}
use Rattle.std.specs.Prelude.{Option}
use Rattle.std.specs.Option.{option_map, option_map_or}
use Rattle.std.specs.Str.{bytes_eq}
use Rattle.house_journal.specs.JournalRecords.{images}
use Rattle.disk_journals.specs.KeptJournals.{HoldsEither, StopsAndOpens, size_of, stops_after}
use Rattle.journal_replay.proofs.StopHouse.{given_last, still_last, word_is}
use Rattle.journal_replay.proofs.FullTold.{full_up}
use Rattle.journal_replay.proofs.stopping.stop_kept.Goals as goal

pub returns-then-not-gives-clause-kept : goal.returns-then-not-gives-clause-kept
returns-then-not-gives-clause-kept c =
    let image = c.args.image.items in
    let list = images c.args.disk.now.octets in
    let o : Option (List ℕ) = option_map (λ v. v.items) c.in_ok-journal.given in
    let stops = stops_after c.args.call c.args.leave in
    let kept : images c.stopped_put.new.disk.octets ≡ (if stops then list ++ image ∷ [] else list) =
    subst (λ (i : List ℕ). images c.stopped_put.new.disk.octets ≡ (if stops then list ++ i ∷ [] else list)) c.deref.ensures.value c.in_ok-journal.ensures.images in
    let other : option_map_or (bytes_eq image) o false ≡ false = cc in
    (c.in_ok-journal.ensures.«open», still_last stops image list c.stopped_put.new.disk o c.args.kept.now.image.items kept c.in_ok-journal.ensures.last other c.requires.«open».1)

pub returns-then-not-gives-clause-word : goal.returns-then-not-gives-clause-word
returns-then-not-gives-clause-word c new =
    let image = c.args.image.items in
    let list = images c.args.disk.now.octets in
    let o : Option (List ℕ) = option_map (λ v. v.items) c.in_ok-journal.given in
    let stops = stops_after c.args.call c.args.leave in
    let kept : images c.stopped_put.new.disk.octets ≡ (if stops then list ++ image ∷ [] else list) =
    subst (λ (i : List ℕ). images c.stopped_put.new.disk.octets ≡ (if stops then list ++ i ∷ [] else list)) c.deref.ensures.value c.in_ok-journal.ensures.images in
    let other : option_map_or (bytes_eq image) o false ≡ false = cc in
    sym other ∙ word_is stops image list c.stopped_put.new.disk o new kept c.in_ok-journal.ensures.last

pub returns-clause-kept : goal.returns-clause-kept
returns-clause-kept c =
    let o : Option (List ℕ) = option_map (λ v. v.items) c.in_ok-journal.given in
    let same : option_map_or (bytes_eq c.args.image.items) o false ≡ true = cc in
    (c.in_ok-journal.ensures.«open», given_last c.args.image.items c.stopped_put.new.disk o c.in_ok-journal.ensures.last same)

pub returns-clause-word : goal.returns-clause-word
returns-clause-word c new =
    let image = c.args.image.items in
    let list = images c.args.disk.now.octets in
    let o : Option (List ℕ) = option_map (λ v. v.items) c.in_ok-journal.given in
    let stops = stops_after c.args.call c.args.leave in
    let kept : images c.stopped_put.new.disk.octets ≡ (if stops then list ++ image ∷ [] else list) =
    subst (λ (i : List ℕ). images c.stopped_put.new.disk.octets ≡ (if stops then list ++ i ∷ [] else list)) c.deref.ensures.value c.in_ok-journal.ensures.images in
    let same : option_map_or (bytes_eq image) o false ≡ true = cc in
    sym same ∙ word_is stops image list c.stopped_put.new.disk o new kept c.in_ok-journal.ensures.last

pub returns-clause-crash : goal.returns-clause-crash
returns-clause-crash c =
    subst (λ (i : List ℕ). HoldsEither c.stopped_put.new.disk (images c.args.disk.now.octets) (images c.args.disk.now.octets ++ i ∷ []))
    c.deref.ensures.value c.stopped_put.ensures.crash

pub returns-then-not-gives-clause-stops : goal.returns-then-not-gives-clause-stops
returns-then-not-gives-clause-stops c =
    subst (λ (i : List ℕ). StopsAndOpens c.args.kept.now.journal.place i c.args.call c.args.leave c.args.disk.now c.stopped_put.new.disk)
    c.deref.ensures.value c.in_ok-journal.ensures.stops

pub returns-clause-stops : goal.returns-clause-stops
returns-clause-stops c =
    subst (λ (i : List ℕ). StopsAndOpens c.args.kept.now.journal.place i c.args.call c.args.leave c.args.disk.now c.stopped_put.new.disk)
    c.deref.ensures.value c.in_ok-journal.ensures.stops

pub returns-in_err-journal-clause-lacking : goal.returns-in_err-journal-clause-lacking
returns-in_err-journal-clause-lacking c many =
    full_up _ c.from_residual.result c.in_err-journal.field-0.0 c.from_residual.ensures.1
    (c.in_err-journal.ensures.lacking
    (subst (λ (i : List ℕ). 2 ^ 40 < size_of (images c.args.disk.now.octets ++ i ∷ [])) (sym c.deref.ensures.value) many))
