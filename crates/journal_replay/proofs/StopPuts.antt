-- Lines that stop a put: which commands they are, and what their house puts.
use Rattle.std.proofs.Common.{◌≡◌, ◌≢◌, ℕ, ◌+◌, ◌-◌, ◌≤◌, Bool, true, false, ◌&&◌, not, List, [], ◌∷◌, ◌++◌, map, length, refl, sym, ◌∙◌, ap, if◌then◌else◌, arith}
use Rattle.std.specs.Prelude.{Option, Some, None, nat_lt}
use Rattle.std.specs.List.{last_or, range_with_len}
use Rattle.std.specs.Str.{bytes_eq}
use Rattle.std.proofs.lemmas.Bool.Decides.{nat_tests}
use Rattle.std.proofs.lemmas.Slice.Eq.{bytes_eq-Decides}
use Rattle.cell_model.specs.Cells.{Cell}
use Rattle.cell_model.specs.Commands as command
use Rattle.cell_model.specs.Commands.{Command}
use Rattle.cell_model.specs.Sets.{has}
use Rattle.cell_model.specs.Steps.{outcome}
use Rattle.cds_cell.specs.CommandImages.{actors, crash_losing, image_after, octets_at}
use Rattle.script_answers.specs.declared.answer.Answer.TheVariants as plain
use Rattle.script_answers.specs.declared.answer.ScriptRefusal.TheVariants as why
use Rattle.journal_forms.specs.declared.journal_answer.JournalAnswer.{JournalAnswer}
use Rattle.journal_forms.specs.declared.journal_answer.JournalAnswer.TheVariants as answer
use Rattle.disk_journals.specs.KeptJournals.{is_last}
use Rattle.disk_journals.proofs.Lasts.{last_is_not, last_same}
use Rattle.journal_replay.specs.Journaled.{is_only, lacks_message, stop_refused}
use Rattle.journal_replay.specs.CellJournals.{JournaledCell, Lists, Put, has_to_put, puts_of}
use Rattle.journal_replay.specs.CellDisks.{GiveImages, disk_count, image_in}
use Rattle.journal_replay.proofs.Acting.{outcome_made}
use Rattle.journal_replay.proofs.Giving.{image_of_made}

-- ---- what is refused

-- a house that acts alone
pub only_is : (h : ℕ) (xs : List ℕ) → is_only h xs ≡ true → xs ≡ h ∷ []
only_is h [] is = absurd (cc)
only_is h (x ∷ []) is = let same : x ≡ h = grind (arith, nat_tests) in ap (λ y. y ∷ []) same
only_is h (x ∷ y ∷ ys) is = absurd (cc)

-- the tests of a stop, one after another
abbrev refused_by : (made lacks only : Bool) → Option JournalAnswer
refused_by made lacks only =
    if not made then Some (answer.Plain (plain.Refused why.NoHouse))
    else (if lacks then Some (answer.Plain (plain.Refused why.NoMessage))
    else (if only then None else Some answer.NotActing))

allowed_by : (made lacks only : Bool) → refused_by made lacks only ≡ None → (made ≡ true) × (only ≡ true)
allowed_by true false true is = (refl, refl)
allowed_by true false false is = absurd (cc)
allowed_by true true only is = absurd (cc)
allowed_by false lacks only is = absurd (cc)

-- what is so where a stop is not refused: the house was made, and acts alone
pub not_refused : (g : Cell) (h : ℕ) (c : Command) → stop_refused g h c ≡ None → (has h g.made ≡ true) × (actors g c ≡ h ∷ [])
not_refused g h c is =
    let allowed = allowed_by (has h g.made) (lacks_message g c) (is_only h (actors g c)) is in
    (allowed.0, only_is h (actors g c) allowed.1)

-- ---- the image that a command makes

image_same : (new old : List ℕ) → (if bytes_eq new old then None else Some new) ≡ None → new ≡ old
image_same new old is = by_test (bytes_eq new old) refl is
  where
    by_test : (b : Bool) → bytes_eq new old ≡ b → (if b then None else Some new) ≡ None → new ≡ old
    by_test true same is = (bytes_eq-Decides new old).0 same
    by_test false same is = absurd (cc)

image_other : (new old image : List ℕ) → (if bytes_eq new old then None else Some new) ≡ Some image → (new ≡ image) × (old ≢ image)
image_other new old image is = by_test (bytes_eq new old) refl is
  where
    by_test : (b : Bool) → bytes_eq new old ≡ b → (if b then None else Some new) ≡ Some image → (new ≡ image) × (old ≢ image)
    by_test true same is = absurd (cc)
    by_test false same is =
        let made : new ≡ image = cc in
        (made, λ stays. let alike = (bytes_eq-Decides new old).1 (made ∙ sym stays) in absurd (let e = sym same ∙ alike in cc))

-- it stays
pub image_stays : (g : Cell) (h : ℕ) (c : Command) → image_after g h c ≡ None → octets_at (outcome g c).cell h ≡ octets_at g h
image_stays g h c is = image_same (octets_at (outcome g c).cell h) (octets_at g h) is

-- or is another
pub image_changes : (g : Cell) (h : ℕ) (c : Command) (image : List ℕ) → image_after g h c ≡ Some image
    → (octets_at (outcome g c).cell h ≡ image) × (octets_at g h ≢ image)
image_changes g h c image is = image_other (octets_at (outcome g c).cell h) (octets_at g h) image is

-- by the octets of before and after
pub image_told : (g : Cell) (h : ℕ) (c : Command) (before after : List ℕ) (b : Bool) → before ≡ octets_at g h → after ≡ octets_at (outcome g c).cell h
    → b ≡ bytes_eq after before → image_after g h c ≡ (if b then None else Some after)
image_told g h c before after b first second test =
    let is : image_after g h c ≡ (if bytes_eq after before then None else Some after) = rw (first, second) refl in
    is ∙ ap (λ (t : Bool). if t then None else Some after) (sym test)

-- ---- the puts

-- a house that was made, and still is
made_still : (g next : Cell) (h : ℕ) → (has h next.made ≡ false → has h g.made ≡ false) → has h g.made ≡ true → has h next.made ≡ true
made_still g next h grown made = by_made (has h next.made) refl
  where
    by_made : (b : Bool) → has h next.made ≡ b → b ≡ true
    by_made true is = refl
    by_made false is = absurd (let e = sym made ∙ grown is in cc)

pub made_then : (g : Cell) (h : ℕ) (c : Command) → has h g.made ≡ true → has h (outcome g c).cell.made ≡ true
made_then g h c made = made_still g (outcome g c).cell h (outcome_made g c h).1 made

-- the last image in the journal of a house
pub last_there : (s : JournaledCell) (h : ℕ) → 1 ≤ h → h ≤ disk_count → GiveImages s → has h s.cell.made ≡ true
    → last_or None (s.lists h) ≡ Some (octets_at s.cell h)
last_there s h first few gives made =
    let same : h - 1 + 1 ≡ h = omega arith in
    ap (λ n. last_or None (s.lists n)) (sym same) ∙ gives (h - 1) (omega (arith, first, few)) ∙ ap (image_in s.cell) same ∙ image_of_made s.cell h made

pub some_list : (list : List (List ℕ)) (image : List ℕ) → last_or None list ≡ Some image → list ≢ []
some_list list image last none = let e = sym (ap (last_or None) none) ∙ last in cc

-- a house that was made puts its image, unless that is the last
to_put : (next : Cell) (lists : Lists) (h : ℕ) → 1 ≤ h → has h next.made ≡ true → has_to_put next lists h ≡ not (is_last (octets_at next h) (lists h))
to_put next lists h few made =
    let first : nat_lt 0 h ≡ true = grind (arith, nat_tests) in
    ap (λ (b : Bool). b && (has h next.made && not (is_last (octets_at next h) (lists h)))) first
    ∙ ap (λ (b : Bool). b && not (is_last (octets_at next h) (lists h))) made

abbrev puts_if : Bool → (h : ℕ) → List ℕ → List Put
puts_if b h image = if b then record { house = h; image = image } ∷ [] else []

pub no_puts : (next : Cell) (lists : Lists) (h : ℕ) → 1 ≤ h → has h next.made ≡ true → last_or None (lists h) ≡ Some (octets_at next h)
    → puts_of next (h ∷ []) lists ≡ []
no_puts next lists h first made last =
    ap (λ (b : Bool). puts_if b h (octets_at next h))
    (to_put next lists h first made ∙ ap not (last_same (octets_at next h) (lists h) last))

pub one_put : (next : Cell) (lists : Lists) (h : ℕ) (image : List ℕ) → 1 ≤ h → has h next.made ≡ true → octets_at next h ≡ image
    → is_last image (lists h) ≡ false → puts_of next (h ∷ []) lists ≡ record { house = h; image = image } ∷ []
one_put next lists h image first made is new =
    ap (λ (b : Bool). puts_if b h (octets_at next h))
    (to_put next lists h first made ∙ ap (λ (i : List ℕ). not (is_last i (lists h))) is ∙ ap not new)
    ∙ ap (puts_if true h) is

-- a command that is not refused, and leaves the image, puts nothing
pub nothing_put : (s : JournaledCell) (h : ℕ) (c : Command) → 1 ≤ h → h ≤ disk_count → GiveImages s → stop_refused s.cell h c ≡ None
    → image_after s.cell h c ≡ None → puts_of (outcome s.cell c).cell (h ∷ []) s.lists ≡ []
nothing_put s h c first few gives allowed none =
    let made = (not_refused s.cell h c allowed).0 in
    no_puts (outcome s.cell c).cell s.lists h first (made_then s.cell h c made)
    (last_there s h first few gives made ∙ ap Some (sym (image_stays s.cell h c none)))

-- and one that makes another image puts it
pub new_image : (s : JournaledCell) (h : ℕ) (c : Command) (image : List ℕ) → 1 ≤ h → h ≤ disk_count → GiveImages s → stop_refused s.cell h c ≡ None
    → image_after s.cell h c ≡ Some image → (is_last image (s.lists h) ≡ false) × (s.lists h ≢ [])
new_image s h c image first few gives allowed some =
    let last = last_there s h first few gives (not_refused s.cell h c allowed).0 in (
      last_is_not image (s.lists h) (λ same. (image_changes s.cell h c image some).1 (let e = sym last ∙ same in cc)),
      some_list (s.lists h) (octets_at s.cell h) last,
    )

pub image_put : (s : JournaledCell) (h : ℕ) (c : Command) (image : List ℕ) → 1 ≤ h → h ≤ disk_count → GiveImages s → stop_refused s.cell h c ≡ None
    → image_after s.cell h c ≡ Some image → puts_of (outcome s.cell c).cell (h ∷ []) s.lists ≡ record { house = h; image = image } ∷ []
image_put s h c image first few gives allowed some =
    one_put (outcome s.cell c).cell s.lists h image first (made_then s.cell h c (not_refused s.cell h c allowed).0)
    (image_changes s.cell h c image some).0 (new_image s h c image first few gives allowed some).0

-- nothing is lost where nothing was posted
pub only_crash : (g : Cell) (h : ℕ) → crash_losing g h (length g.bag) ≡ command.Crash h ∷ []
only_crash g h =
    let none : length g.bag - length g.bag ≡ 0 = omega arith in
    ap (λ (n : ℕ). map command.Lose (range_with_len (length g.bag + 1) n) ++ command.Crash h ∷ []) none
