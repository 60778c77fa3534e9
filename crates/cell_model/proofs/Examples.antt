-- The definitions at single values, by computing.
use Rattle.std.proofs.Common.{◌≡◌, ℕ, true, false, List, [], ◌∷◌, refl}
use Rattle.std.specs.Prelude.{Some, None, codes}
use Rattle.cds_stamps.specs.declared.members.MemberKind.TheVariants.{Master, ReadOnly, Secondary}
use Rattle.cds_stamps.specs.Members.{Member, master_of, others_of, is_accepting, since_in}
use Rattle.attr_sets.specs.AttributeCells.{Marked}
use Rattle.directory.specs.declared.entry.Kind.TheVariants.{Object}
use Rattle.directory.specs.Histories.{Mark, Birth, Attr}
use Rattle.directory.specs.declared.update.UpdateRefusal.TheVariants.{NotMaster}
use Rattle.directory.specs.Updates.{Create, MakeLink}
use Rattle.cell_model.specs.Cells.{Gathered, Message}
use Rattle.cell_model.specs.Commands.{Command, House, Root, Mkdir, Accept, Skulk, Deliver, Crash, BadMembers, Down, NoDirectory, Update, Done, Posted, Made, Stamped, Taken, Refused}
use Rattle.cell_model.specs.Sets.{IsUpTo}
use Rattle.cell_model.specs.Steps.{member_list_of, left_members, is_bad_list, answers}
use Rattle.cell_model.specs.Agreement.{IsShown, Covers, of_absence}
use Rattle.cell_model.specs.Rounds.{first_answer}
use Rattle.cell_model.proofs.ExampleWords.{at, listed}

-- ---- member lists

-- house 2 is master of 1 and 3, in the first epoch
abbrev three : List Member
three = member_list_of [] 1 2 (3 ∷ 1 ∷ []) []

three-list : three ≡ listed 1 1 ReadOnly ∷ listed 2 1 Master ∷ listed 3 1 ReadOnly ∷ []
three-list = refl

three-master : master_of three ≡ 2
three-master = refl

three-others : others_of 2 three ≡ 1 ∷ 3 ∷ []
three-others = refl

three-since : since_in three 4 9 ≡ 9
three-since = refl

only_masters : is_accepting 2 three ≡ true
only_masters = refl

no_others : is_accepting 3 three ≡ false
no_others = refl

-- epoch 5 with master 3, house 2 and a new house 4: who was listed keeps its since, and house 1
-- leaves
abbrev next : List Member
next = member_list_of three 5 3 (4 ∷ 2 ∷ []) []

next-list : next ≡ listed 2 1 ReadOnly ∷ listed 3 1 Master ∷ listed 4 5 ReadOnly ∷ []
next-list = refl

next-leaving : left_members three next ≡ 1 ∷ []
next-leaving = refl

-- a master, a read-only house and two secondary ones
abbrev mixed : List Member
mixed = member_list_of [] 1 2 (3 ∷ 1 ∷ 4 ∷ []) (4 ∷ 3 ∷ [])

mixed-list : mixed ≡ listed 1 1 ReadOnly ∷ listed 2 1 Master ∷ listed 3 1 Secondary ∷ listed 4 1 Secondary ∷ []
mixed-list = refl

-- in epoch 6 two of them are another kind, and keep their since; the master is no secondary house
-- of its own list
turned : member_list_of mixed 6 3 (2 ∷ 4 ∷ []) (2 ∷ 3 ∷ 9 ∷ []) ≡ listed 2 1 Secondary ∷ listed 3 1 Master ∷ listed 4 1 ReadOnly ∷ []
turned = refl

-- a house that is there twice
twice : is_bad_list (2 ∷ 1 ∷ 2 ∷ []) ≡ true
twice = refl

-- ---- stamps and marks

same_time : IsUpTo (at 7 1) (at 7 2)
same_time = refl

itself : IsUpTo (at 7 2) (at 7 2)
itself = refl

-- an entry with a value, and then the value removed
abbrev entry : List Mark
entry = Birth (codes "e") Object (at 1 10) ∷ Attr (codes "e") (at 1 10) (codes "A") (Marked (1 ∷ []) (record { present = true; stamp = at 2 10 })) ∷ []

abbrev removal : Mark
removal = Attr (codes "e") (at 1 10) (codes "A") (Marked (1 ∷ []) (record { present = false; stamp = at 3 10 }))

birth_shows : IsShown entry (Birth (codes "e") Object (at 1 10))
birth_shows = (_, refl, refl)

value_shows : IsShown entry (Attr (codes "e") (at 1 10) (codes "A") (Marked (1 ∷ []) (record { present = true; stamp = at 2 10 })))
value_shows = ((_, refl, refl), refl, refl)

removal_covers : Covers removal (Attr (codes "e") (at 1 10) (codes "A") (Marked (1 ∷ []) (record { present = true; stamp = at 2 10 })))
removal_covers = of_absence (codes "e") (at 1 10) (codes "A") (1 ∷ []) (record { present = false; stamp = at 3 10 })
    (record { present = true; stamp = at 2 10 }) refl refl refl

-- of two answers of a house the first counts, and one about another directory does not
abbrev answer : ℕ → ℕ → List Mark → Message
answer d y h = record { receiver = 1; dir = d; sender = y; epoch = 1; floor = 9; body = Gathered (at 9 10) (record { history = h; all_up_to = None }) }

first_counts : first_answer (answer 2 3 [] ∷ answer 1 3 entry ∷ answer 1 3 [] ∷ []) 1 3 (at 9 10) ≡ Some (record { history = entry; all_up_to = None })
first_counts = refl

-- ---- a directory below the root

abbrev below : List Command
below =
    House 1 10 ∷ House 2 11 ∷ Root 1 [] [] ∷ Accept 1 1 (MakeLink (codes "loop") (codes "loop" ∷ [])) ∷ Mkdir 1 1 (codes "sub") 1 (2 ∷ []) [] ∷
    Accept 1 2 (Create (codes "e")) ∷ Mkdir 1 3 (codes "x") 1 [] [] ∷ Mkdir 1 1 (codes "x") 1 (1 ∷ []) [] ∷ Crash 2 ∷ Mkdir 1 1 (codes "x") 2 [] [] ∷
    Mkdir 1 1 (codes "other") 1 [] [] ∷ []

below-answers : answers below ≡
    Done ∷ Done ∷ Posted [] ∷ Stamped (at 1 10) [] ∷ Made 2 (at 2 10) (1 ∷ []) ∷ Stamped (at 3 10) (2 ∷ []) ∷ Refused NoDirectory ∷
    Refused BadMembers ∷ Done ∷ Refused Down ∷ Made 3 (at 4 10) [] ∷ []
below-answers = refl

-- ---- a secondary house accepts updates and never skulks; a read-only house does neither

abbrev kinds : List Command
kinds =
    House 1 10 ∷ House 2 11 ∷ House 3 12 ∷ Root 1 (2 ∷ 3 ∷ []) (2 ∷ []) ∷ Deliver 1 ∷ Deliver 2 ∷ Accept 2 1 (Create (codes "e")) ∷
    Accept 1 1 (Create (codes "e")) ∷ Accept 3 1 (Create (codes "e")) ∷ Skulk 2 1 ∷ Skulk 3 1 ∷ Deliver 5 ∷ []

kinds-answers : answers kinds ≡
    Done ∷ Done ∷ Done ∷ Posted (1 ∷ 2 ∷ []) ∷ Taken [] ∷ Taken [] ∷ Stamped (at 1 11) (3 ∷ 4 ∷ []) ∷ Stamped (at 1 10) (5 ∷ 6 ∷ []) ∷
    Refused (Update NotMaster) ∷ Refused (Update NotMaster) ∷ Refused (Update NotMaster) ∷ Taken [] ∷ []
kinds-answers = refl
