-- The definitions at single values, by computing.
use Rattle.std.proofs.Common.{◌≡◌, ℕ, inl, inr, true, List, [], ◌∷◌, refl, subst, sym}
use Rattle.cds_stamps.specs.declared.members.MemberKind.TheVariants.{Master, ReadOnly}
use Rattle.std.specs.FinMap.{empty, get-empty}
use Rattle.cds_messages.specs.Dirs.{dir_cmp}
use Rattle.directory.specs.Updates.{Create}
use Rattle.cds_messages.specs.declared.image.Image.{Image}
use Rattle.cds_records.specs.RecordOctets.{image_octets}
use Rattle.cell_model.specs.Cells.{Leave, empty_cell}
use Rattle.cell_model.specs.Commands as commands
use Rattle.cell_model.specs.Commands.{Command}
use Rattle.cell_model.specs.Sets.{In, has}
use Rattle.cell_runs.specs.Entries.{Root, Skulk, Epoch, Take, Post, Entry, Started, Turned}
use Rattle.cell_runs.specs.HonestRuns.{IsHonest}
use Rattle.cell_runs.specs.Orders.{CanFollow, MadeHouse, after_all, commands_of, new_house, nothing_seen, place_of}
use Rattle.cell_runs.specs.Views.{view_from}

-- house 1 founds the root with house 2, which takes the Join; house 1 starts again, and begins a
-- skulk
abbrev two : List MadeHouse
two = record { house = 1; node = 11 } ∷ record { house = 2; node = 12 } ∷ []

abbrev line : List (ℕ × Entry)
line =
    (1, Turned (record { clock = 5; order = Root (2 ∷ []) []; posts = record { to = 2; octets = 7 ∷ 8 ∷ [] } ∷ []; answer = []; image = [] }))
    ∷ (2, Turned (record { clock = 6; order = Take (7 ∷ 8 ∷ []); posts = []; answer = []; image = [] }))
    ∷ (1, Started [])
    ∷ (1, Turned (record { clock = 9; order = Skulk 1; posts = record { to = 2; octets = 3 ∷ [] } ∷ []; answer = []; image = [] }))
    ∷ []

-- the commands of this order
abbrev cs : List Command
cs = commands_of two line

line-commands : cs ≡ commands.House 1 11 ∷ commands.House 2 12 ∷ commands.Clock 1 5 ∷ commands.Root 1 (2 ∷ []) [] ∷ commands.Clock 2 6 ∷ commands.Deliver 1
    ∷ commands.Crash 1 ∷ commands.Start 1 ∷ commands.Clock 1 9 ∷ commands.Skulk 1 1 ∷ []
line-commands = refl

-- the clocks of entries, and 0 for a start
abbrev clocks : List Entry → List ℕ
clocks [] = []
clocks (Started image ∷ es) = 0 ∷ clocks es
clocks (Turned e ∷ es) = e.clock ∷ clocks es

-- what the two houses see of them: three entries, and one
first-sees : clocks (view_from empty_cell 1 cs) ≡ 5 ∷ 0 ∷ 9 ∷ []
first-sees = refl

second-sees : clocks (view_from empty_cell 2 cs) ≡ 6 ∷ []
second-sees = refl

-- a message that was delivered twice is seen twice; an update at a house that is read-only, and a
-- skulk there, are not seen
twice-seen : clocks (view_from empty_cell 2 (commands.House 1 11 ∷ commands.House 2 12 ∷ commands.Root 1 (2 ∷ []) [] ∷ commands.Deliver 1 ∷ commands.Deliver 1
    ∷ commands.Accept 2 1 (Create (65 ∷ [])) ∷ commands.Skulk 2 1 ∷ [])) ≡ 0 ∷ 0 ∷ []
twice-seen = refl

-- a child whose directory has another master is seen nowhere
other-master : view_from empty_cell 1 (commands.House 1 11 ∷ commands.House 2 12 ∷ commands.Root 1 (2 ∷ []) [] ∷ commands.Mkdir 1 1 (65 ∷ []) 2 [] [] ∷ [])
    ≡ view_from empty_cell 1 (commands.House 1 11 ∷ commands.House 2 12 ∷ commands.Root 1 (2 ∷ []) [] ∷ [])
other-master = refl

-- the first message of these octets to this house, of three
first-place : place_of 2 (7 ∷ []) (record { to = 1; octets = 7 ∷ [] } ∷ record { to = 2; octets = 7 ∷ [] } ∷ record { to = 2; octets = 7 ∷ [] } ∷ []) ≡ 1
first-place = refl

-- nothing can be taken that was not posted before to this house; afterwards it can
not-posted : CanFollow (nothing_seen (1 ∷ 2 ∷ [])) 2 (Take (7 ∷ [])) → ⊥
not-posted i = elim i [ ]

can-take : CanFollow (after_all (nothing_seen (1 ∷ 2 ∷ [])) line) 2 (Take (7 ∷ 8 ∷ []))
can-take = inl refl

-- after that line the console's last epoch of the root is 1, and the next directory is 2: the epoch
-- 2 of the root with the same houses can follow
known-top : (after_all (nothing_seen (1 ∷ 2 ∷ [])) line).top 1 ≡ 1
known-top = refl

two_made : (h : ℕ) → In h (2 ∷ []) → has h (1 ∷ 2 ∷ []) ≡ true
two_made h (inl is) = subst (λ (k : ℕ). has k (1 ∷ 2 ∷ []) ≡ true) (sym is) refl
two_made h (inr i) = elim i [ ]

next-epoch : CanFollow (after_all (nothing_seen (1 ∷ 2 ∷ [])) line) 1
    (Epoch 1 2 (record { house = 1; since = 1; kind = Master } ∷ record { house = 2; since = 1; kind = ReadOnly } ∷ []) [])
next-epoch = record { next = refl; listed = refl; made = two_made; good = refl; members = refl; leaving = refl }

-- ---- honest entries

-- a new house that starts again has the image of a house without directories
abbrev bare_image : Image
bare_image = record { house = record { 0 = 1 }; node = 11; floor = 0; dirs = empty }

started-honest : IsHonest 1 (new_house 11) (Started (image_octets bare_image) ∷ [])
started-honest = (record { image = bare_image; octets_are = refl; house = refl; node = refl; floor = refl; dirs = λ d. get-empty dir_cmp d }, tt)

-- it has no directory to skulk: whatever such an entry tells, it is not honest
no-skulk : (clock : ℕ) (posts : List Post) (answer image : List ℕ)
    → IsHonest 1 (new_house 11) (Turned (record { clock = clock; order = Skulk 1; posts = posts; answer = answer; image = image }) ∷ []) → ⊥
no-skulk clock posts answer image h =
    let t = h.1 (record { receiver = 0; dir = 0; sender = 0; epoch = 0; floor = 0; body = Leave }) tt in
    let z = t.1.step_is in
    absurd (cc (z))
