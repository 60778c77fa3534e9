-- The definitions at single lines, by computing.
use Rattle.std.proofs.Common.{◌≡◌, [], ◌∷◌, ◌++◌, map, replicate, refl, List, ℕ, true, false}
use Rattle.std.specs.Prelude.{Some, None, Ok, Err, Result, Option, codes}
use Rattle.hex.specs.Hex.{decode_pairs}
use Rattle.cds_stamps.specs.declared.members.Member.{Member}
use Rattle.cds_stamps.specs.declared.members.MemberKind.{MemberKind}
use Rattle.cds_stamps.specs.declared.members.MemberKind.TheVariants.{Master, ReadOnly, Secondary}
use Rattle.tower_codec.specs.BindingReading.{cut_at_mark}
use Rattle.directory.specs.declared.update.Update.TheVariants as update
use Rattle.cell_script.specs.declared.fault.ParseFault.{ParseFault}
use Rattle.cell_script.specs.declared.fault.ParseFault.TheVariants.{UnknownCommand, WrongCount, BadWord}
use Rattle.cell_script.specs.Words.{words_of, number_of}
use Rattle.cell_script.specs.WordForms.{check_count, take_words}
use Rattle.house_lines.specs.declared.line.HouseLine.{HouseLine}
use Rattle.house_lines.specs.declared.line.HouseLine.TheVariants as line
use Rattle.house_lines.specs.declared.line.HouseOrder.TheVariants as order
use Rattle.house_lines.specs.declared.line.HouseQuestion.TheVariants as question
use Rattle.house_lines.specs.MemberWords.{kind_of, member_of}
use Rattle.house_lines.specs.Listings.{list_said}
use Rattle.house_lines.specs.LineRows.{epoch_words, said_by, said_in}

abbrev Said : Type 0
Said = Result (Option HouseLine) ParseFault

abbrev says : List ℕ → Said
says octets = said_in (words_of octets)

-- ---- faults

blank : says (codes "   ") ≡ Ok None
blank = refl

comment : says (codes " # image") ≡ Ok None
comment = refl

unknown : says (codes "crete 1 lpr") ≡ Err (UnknownCommand 1)
unfolding said_by
unknown = refl

-- the commands of scripts that no house does
unknown_here : map says (codes "deliver 1" ∷ codes "crash 1" ∷ codes "read 1 low /.: A" ∷ codes "decode 00" ∷ []) ≡ replicate 4 (Err (UnknownCommand 1))
unfolding said_by
unknown_here = refl

-- the count is that of all words, and comes before what they say
wrong_counts : map says (codes "clock" ∷ codes "clock x 0" ∷ codes "image 0" ∷ codes "create 0" ∷ codes "create 0 e A" ∷ codes "repoint 0 e" ∷ [])
    ≡ Err (WrongCount 1) ∷ Err (WrongCount 3) ∷ Err (WrongCount 2) ∷ Err (WrongCount 2) ∷ Err (WrongCount 4) ∷ Err (WrongCount 3) ∷ []
unfolding said_by check_count
wrong_counts = refl

-- an epoch has a list of one word at least
few_of_an_epoch : map says (codes "epoch" ∷ codes "epoch 0" ∷ codes "epoch 0 0" ∷ []) ≡ Err (WrongCount 1) ∷ Err (WrongCount 2) ∷ Err (WrongCount 3) ∷ []
unfolding said_by check_count
few_of_an_epoch = refl

-- the first bad word from the left
bad_words : map says (codes "house 0 x" ∷ codes "house 1 x" ∷ codes "root 1 s" ∷ codes "skulk 4294967296" ∷ codes "mkdir 1 e 0" ∷ [])
    ≡ Err (BadWord 2) ∷ Err (BadWord 3) ∷ Err (BadWord 3) ∷ Err (BadWord 2) ∷ Err (BadWord 4) ∷ []
unfolding said_by check_count take_words number_of decode_pairs
bad_words = refl

odd_digits : map says (codes "take 0" ∷ codes "more 0g" ∷ []) ≡ replicate 2 (Err (BadWord 2))
unfolding said_by check_count take_words decode_pairs
odd_digits = refl

-- ---- commands

house_is : says (codes "house 1 00000000000a") ≡ Ok (Some (line.House (record { 0 = 1 }) 10))
unfolding said_by check_count take_words number_of decode_pairs
house_is = refl

clock_is : says (codes "clock 0") ≡ Ok (Some (line.Clock 0))
unfolding said_by check_count take_words number_of
clock_is = refl

-- its master is the house itself, and there need not be another
root_alone : says (codes "root") ≡ Ok (Some (line.Order (order.Root [])))
unfolding said_by check_count take_words
root_alone = refl

root_is : says (codes "root s2 3") ≡ Ok
    (Some (line.Order (order.Root (record { house = record { 0 = 2 }; secondary = true } ∷ record { house = record { 0 = 3 }; secondary = false } ∷ []))))
unfolding said_by check_count take_words number_of
root_is = refl

mkdir_is : says (codes "mkdir 1 sub 2 3") ≡ Ok
    (Some (line.Order (order.Mkdir (record { 0 = 1 }) (codes "sub") (record { 0 = 2 }) (record { house = record { 0 = 3 }; secondary = false } ∷ []))))
unfolding said_by check_count take_words number_of
mkdir_is = refl

repoint_is : says (codes "repoint 1 sub 2 3 4") ≡ Ok
    (Some (line.Order (order.Repoint (record { 0 = 1 }) (codes "sub") (record { 0 = 2 }) (record { 0 = 3 } ∷ record { 0 = 4 } ∷ []))))
unfolding said_by check_count take_words number_of
repoint_is = refl

create_is : says (codes "create 1 lpr") ≡ Ok (Some (line.Order (order.Update (record { 0 = 1 }) (update.Create (codes "lpr")))))
unfolding said_by check_count take_words number_of
create_is = refl

link_is : says (codes "link 1 up /.:/a/b") ≡ Ok (Some (line.Order (order.Update (record { 0 = 1 }) (update.MakeLink (codes "up") (codes "a" ∷ codes "b" ∷ [])))))
unfolding said_by check_count take_words number_of
link_is = refl

put_is : says (codes "put 1 lpr A 5072") ≡ Ok (Some (line.Order (order.Update (record { 0 = 1 }) (update.Put (codes "lpr") (codes "A") (80 ∷ 114 ∷ [])))))
unfolding said_by check_count take_words number_of decode_pairs
put_is = refl

clear_is : says (codes "clear 1 lpr A") ≡ Ok (Some (line.Order (order.Update (record { 0 = 1 }) (update.Clear (codes "lpr") (codes "A")))))
unfolding said_by check_count take_words number_of
clear_is = refl

take_is : says (codes "take 02fF") ≡ Ok (Some (line.Order (order.Take (2 ∷ 255 ∷ []))))
unfolding said_by check_count take_words decode_pairs
take_is = refl

look_is : says (codes "look 1 lpr A") ≡ Ok (Some (line.Ask (question.Look (record { 0 = 1 }) (codes "lpr") (codes "A"))))
unfolding said_by check_count take_words number_of
look_is = refl

show_is : says (codes "show high 1 lpr") ≡ Ok (Some (line.Ask (question.Show true (record { 0 = 1 }) (codes "lpr"))))
unfolding said_by check_count take_words number_of
show_is = refl

status_is : says (codes "status 1") ≡ Ok (Some (line.Ask (question.Status (record { 0 = 1 }))))
unfolding said_by check_count take_words number_of
status_is = refl

directories_is : says (codes "directories") ≡ Ok (Some (line.Ask question.Directories))
unfolding said_by check_count
directories_is = refl

image_is : says (codes "image") ≡ Ok (Some (line.Ask question.Image))
unfolding said_by check_count
image_is = refl

-- ---- epochs

-- a member by its numbers
abbrev member : ℕ → ℕ → MemberKind → Member
member house since kind = record { house = record { 0 = house }; since = record { 0 = since }; kind = kind }

-- what the list of epoch 7 of directory 1 says
abbrev lists : List ℕ → Said
lists octets = says (codes "epoch 1 7 " ++ octets)

epoch_is : lists (codes "1:1:m 2:7:s 3:4:r") ≡ Ok (Some (line.Order (order.Epoch (record { 0 = 1 }) (record { 0 = 7 })
    (record { members = member 1 1 Master ∷ member 2 7 Secondary ∷ member 3 4 ReadOnly ∷ []; leaving = [] }))))
unfolding said_by epoch_words list_said check_count take_words number_of member_of kind_of cut_at_mark
epoch_is = refl

epoch_without_two : lists (codes "1:1:m - 4 9") ≡ Ok (Some (line.Order (order.Epoch (record { 0 = 1 }) (record { 0 = 7 })
    (record { members = member 1 1 Master ∷ []; leaving = record { 0 = 4 } ∷ record { 0 = 9 } ∷ [] }))))
unfolding said_by epoch_words list_said check_count take_words number_of member_of kind_of cut_at_mark
epoch_without_two = refl

-- a dash has a member before it and a house after it
bad_dashes : map lists (codes "-" ∷ codes "- 2" ∷ codes "1:1:m -" ∷ codes "1:1:m - -" ∷ codes "1:1:m - 2 - 3" ∷ codes "1:1:m - 2:1:r" ∷ [])
    ≡ Err (BadWord 4) ∷ Err (BadWord 4) ∷ Err (BadWord 5) ∷ Err (BadWord 6) ∷ Err (BadWord 7) ∷ Err (BadWord 6) ∷ []
unfolding said_by epoch_words list_said check_count take_words number_of member_of kind_of cut_at_mark
bad_dashes = refl

-- what is no member
bad_members : map lists
    (codes "0:1:m" ∷ codes "256:1:m" ∷ codes "1:0:m" ∷ codes "1:01:m" ∷ codes "1:1:M" ∷ codes "1:1:" ∷ codes "1:1" ∷ codes "1" ∷ codes "1:1:m:" ∷ codes "1::m" ∷ [])
    ≡ replicate 10 (Err (BadWord 4))
unfolding said_by epoch_words list_said check_count take_words number_of member_of kind_of cut_at_mark
bad_members = refl

-- the number of an epoch is from 1 on, and is read before the list
bad_number : says (codes "epoch 1 0 -") ≡ Err (BadWord 3)
unfolding said_by epoch_words check_count take_words number_of
bad_number = refl
