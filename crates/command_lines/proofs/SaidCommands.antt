-- The words of commands say these commands.
use Rattle.std.proofs.Common.{◌≡◌, ℕ, suc, ◌+◌, ◌<◌, ◌≤◌, Bool, true, false, List, [], ◌∷◌, map, length, refl, ap, ◌∙◌, arith}
use Rattle.std.specs.Prelude.{None, Some, Ok, codes, nat_le, ◌==◌, if◌then◌else◌}
use Rattle.std.specs.Char.{is_ascii_digit}
use Rattle.std.specs.Fmt.{decimal}
use Rattle.std.specs.List.{list_all}
use Rattle.std.specs.Option.{option_map}
use Rattle.std.proofs.lemmas.Bool.Decides.{nat_tests}
use Rattle.std.proofs.lemmas.Bool.{and_parts}
use Rattle.hex.specs.Hex.{encode_lower}
use Rattle.cds_stamps.specs.declared.numbers.DirId.{DirId}
use Rattle.cds_stamps.specs.declared.numbers.HouseNo.{HouseNo}
use Rattle.cds_stamps.specs.Names.{attr_fault, simple_name_fault}
use Rattle.cell_names.specs.FullNames.{full_name_octets}
use Rattle.directory.specs.declared.update.Update.{Update}
use Rattle.directory.specs.declared.update.Update.TheVariants as update
use Rattle.cell_script.specs.declared.command.Command.{Command}
use Rattle.cell_script.specs.declared.command.Command.TheVariants as command
use Rattle.cell_script.specs.declared.command.ScriptLine.TheVariants as line
use Rattle.cell_script.specs.declared.lists.Listed.{Listed}
use Rattle.cell_script.specs.CommandRows.{said_in, said_by}
use Rattle.cell_script.specs.WordForms.{check_count, each_word, take_words}
use Rattle.cell_script.specs.Words.{attr_name_of, directory_of, full_name_of, house_of, listed_as, listed_of, node_of, number_of, octets_value_of, serial_of, simple_name_of}
use Rattle.script_answers.specs.Texts.{node_octets}
use Rattle.script_answers.proofs.ReadWords.{decimal_digits, directory_read, house_read, name_read, node_read, number_read, serial_read, value_read}
use Rattle.command_lines.specs.CommandTexts.{command_words, house_word, listed_word, update_word, updated_words}
use Rattle.command_lines.specs.SayableCommands.{AreHouses, AreListed, CanBeSaid, CanUpdate, IsAttr, IsDirectory, IsHouse, IsSerial, IsSimple}

-- ---- single words

house_said : (h : HouseNo) → IsHouse h.0 → house_of (house_word h) ≡ Some h
house_said h is = house_read h.0 is.0 is.1

directory_said : (d : DirId) → IsDirectory d.0 → directory_of (decimal d.0) ≡ Some d
directory_said d is = directory_read d.0 is.0 is.1

simple_said : (s : List ℕ) → IsSimple s → simple_name_of s ≡ Some s
simple_said s is = rw is refl

attr_said : (a : List ℕ) → IsAttr a → attr_name_of a ≡ Some a
attr_said a is = rw is refl

-- a word of digits has no letter in front
plain_word : (w : List ℕ) → list_all is_ascii_digit w ≡ true → listed_of w ≡ listed_as false w
plain_word [] all = refl
plain_word (c ∷ cs) all = let other = digit_no_letter c (and_parts (is_ascii_digit c) (list_all is_ascii_digit cs) all).0 in rw other refl
  where
    digit_no_letter : (c : ℕ) → is_ascii_digit c ≡ true → (c == 115) ≡ false
    digit_no_letter c is = grind (arith, nat_tests)

listed_said : (l : Listed) → IsHouse l.house.0 → listed_of (listed_word l) ≡ Some l
listed_said l is = by_kind l.secondary
  where
    as_said : (b : Bool) → listed_as b (house_word l.house) ≡ Some (record { house = l.house; secondary = b })
    as_said b = ap (option_map (λ (h : HouseNo). let it : Listed = record { house = h; secondary = b } in it)) (house_said l.house is)

    by_kind : (b : Bool) → listed_of (if b then 115 ∷ house_word l.house else house_word l.house) ≡ Some (record { house = l.house; secondary = b })
    by_kind true = as_said true
    by_kind false = plain_word (house_word l.house) (decimal_digits l.house.0 (omega (arith, is.1))) ∙ as_said false

listeds_said : (read : ℕ) (ls : List Listed) → AreListed ls → each_word listed_of read (map listed_word ls) ≡ Ok ls
listeds_said read [] are = refl
listeds_said read (l ∷ ls) are =
    let one = listed_said l are.0 in
    let rest = listeds_said (read + 1) ls are.1 in
    rw (one, rest) refl

houses_said : (read : ℕ) (hs : List HouseNo) → AreHouses hs → each_word house_of read (map house_word hs) ≡ Ok hs
houses_said read [] are = refl
houses_said read (h ∷ hs) are =
    let one = house_said h are.0 in
    let rest = houses_said (read + 1) hs are.1 in
    rw (one, rest) refl

-- ---- words of commands

house_is : (v w : List ℕ) (h : HouseNo) (n : ℕ) → house_of v ≡ Some h → node_of w ≡ Some n
    → said_in (codes "house" ∷ v ∷ w ∷ []) ≡ Ok (Some (line.Cell (command.House h n)))
unfolding said_by check_count take_words
house_is v w h n first second = rw (first, second) refl

clock_is : (v w : List ℕ) (h : HouseNo) (t : ℕ) → house_of v ≡ Some h → number_of w ≡ Some t
    → said_in (codes "clock" ∷ v ∷ w ∷ []) ≡ Ok (Some (line.Cell (command.Clock h t)))
unfolding said_by check_count take_words
clock_is v w h t first second = rw (first, second) refl

root_is : (v : List ℕ) (ws : List (List ℕ)) (h : HouseNo) (ls : List Listed) → house_of v ≡ Some h → each_word listed_of 2 ws ≡ Ok ls
    → said_in (codes "root" ∷ v ∷ ws) ≡ Ok (Some (line.Cell (command.Root h ls)))
unfolding said_by check_count take_words
root_is v ws h ls first rest =
    let enough : nat_le 1 (suc (length ws)) ≡ true = grind (arith, nat_tests) in
    rw (enough, first, rest) refl

mkdir_is : (v w x y : List ℕ) (ws : List (List ℕ)) (h : HouseNo) (d : DirId) (s : List ℕ) (m : HouseNo) (ls : List Listed) → house_of v ≡ Some h → directory_of w ≡ Some d
    → simple_name_of x ≡ Some s → house_of y ≡ Some m → each_word listed_of 5 ws ≡ Ok ls
    → said_in (codes "mkdir" ∷ v ∷ w ∷ x ∷ y ∷ ws) ≡ Ok (Some (line.Cell (command.Mkdir h d s m ls)))
unfolding said_by check_count take_words
mkdir_is v w x y ws h d s m ls first second third fourth rest =
    let enough : nat_le 4 (suc (suc (suc (suc (length ws))))) ≡ true = grind (arith, nat_tests) in
    rw (enough, first, second, third, fourth, rest) refl

repoint_is : (v w x y : List ℕ) (ws : List (List ℕ)) (h : HouseNo) (d : DirId) (s : List ℕ) (m : HouseNo) (hs : List HouseNo) → house_of v ≡ Some h → directory_of w ≡ Some d
    → simple_name_of x ≡ Some s → house_of y ≡ Some m → each_word house_of 5 ws ≡ Ok hs
    → said_in (codes "repoint" ∷ v ∷ w ∷ x ∷ y ∷ ws) ≡ Ok (Some (line.Cell (command.Repoint h d s m hs)))
unfolding said_by check_count take_words
repoint_is v w x y ws h d s m hs first second third fourth rest =
    let enough : nat_le 4 (suc (suc (suc (suc (length ws))))) ≡ true = grind (arith, nat_tests) in
    rw (enough, first, second, third, fourth, rest) refl

epoch_is : (v w : List ℕ) (ws : List (List ℕ)) (d : DirId) (m : HouseNo) (ls : List Listed) → directory_of v ≡ Some d → house_of w ≡ Some m
    → each_word listed_of 3 ws ≡ Ok ls → said_in (codes "epoch" ∷ v ∷ w ∷ ws) ≡ Ok (Some (line.Cell (command.Epoch d m ls)))
unfolding said_by check_count take_words
epoch_is v w ws d m ls first second rest =
    let enough : nat_le 2 (suc (suc (length ws))) ≡ true = grind (arith, nat_tests) in
    rw (enough, first, second, rest) refl

skulk_is : (v w : List ℕ) (h : HouseNo) (d : DirId) → house_of v ≡ Some h → directory_of w ≡ Some d
    → said_in (codes "skulk" ∷ v ∷ w ∷ []) ≡ Ok (Some (line.Cell (command.Skulk h d)))
unfolding said_by check_count take_words
skulk_is v w h d first second = rw (first, second) refl

deliver_is : (w : List ℕ) (n : ℕ) → serial_of w ≡ Some n → said_in (codes "deliver" ∷ w ∷ []) ≡ Ok (Some (line.Cell (command.Deliver n)))
unfolding said_by check_count take_words
deliver_is w n is = rw is refl

lose_is : (w : List ℕ) (n : ℕ) → serial_of w ≡ Some n → said_in (codes "lose" ∷ w ∷ []) ≡ Ok (Some (line.Cell (command.Lose n)))
unfolding said_by check_count take_words
lose_is w n is = rw is refl

crash_is : (w : List ℕ) (h : HouseNo) → house_of w ≡ Some h → said_in (codes "crash" ∷ w ∷ []) ≡ Ok (Some (line.Cell (command.Crash h)))
unfolding said_by check_count take_words
crash_is w h is = rw is refl

start_is : (w : List ℕ) (h : HouseNo) → house_of w ≡ Some h → said_in (codes "start" ∷ w ∷ []) ≡ Ok (Some (line.Cell (command.Start h)))
unfolding said_by check_count take_words
start_is w h is = rw is refl

-- ---- words of updates

create_is : (v w x : List ℕ) (h : HouseNo) (d : DirId) (s : List ℕ) → house_of v ≡ Some h → directory_of w ≡ Some d → simple_name_of x ≡ Some s
    → said_in (codes "create" ∷ v ∷ w ∷ x ∷ []) ≡ Ok (Some (line.Cell (command.Update h d (update.Create s))))
unfolding said_by check_count take_words
create_is v w x h d s first second third = rw (first, second, third) refl

link_is : (v w x y : List ℕ) (h : HouseNo) (d : DirId) (s : List ℕ) (n : List (List ℕ)) → house_of v ≡ Some h → directory_of w ≡ Some d → simple_name_of x ≡ Some s
    → full_name_of y ≡ Some n → said_in (codes "link" ∷ v ∷ w ∷ x ∷ y ∷ []) ≡ Ok (Some (line.Cell (command.Update h d (update.MakeLink s n))))
unfolding said_by check_count take_words
link_is v w x y h d s n first second third fourth = rw (first, second, third, fourth) refl

delete_is : (v w x : List ℕ) (h : HouseNo) (d : DirId) (s : List ℕ) → house_of v ≡ Some h → directory_of w ≡ Some d → simple_name_of x ≡ Some s
    → said_in (codes "delete" ∷ v ∷ w ∷ x ∷ []) ≡ Ok (Some (line.Cell (command.Update h d (update.Delete s))))
unfolding said_by check_count take_words
delete_is v w x h d s first second third = rw (first, second, third) refl

add_is : (v w x y z : List ℕ) (h : HouseNo) (d : DirId) (s a o : List ℕ) → house_of v ≡ Some h → directory_of w ≡ Some d → simple_name_of x ≡ Some s
    → attr_name_of y ≡ Some a → octets_value_of z ≡ Some o
    → said_in (codes "add" ∷ v ∷ w ∷ x ∷ y ∷ z ∷ []) ≡ Ok (Some (line.Cell (command.Update h d (update.Add s a o))))
unfolding said_by check_count take_words
add_is v w x y z h d s a o first second third fourth fifth = rw (first, second, third, fourth, fifth) refl

remove_is : (v w x y z : List ℕ) (h : HouseNo) (d : DirId) (s a o : List ℕ) → house_of v ≡ Some h → directory_of w ≡ Some d → simple_name_of x ≡ Some s
    → attr_name_of y ≡ Some a → octets_value_of z ≡ Some o
    → said_in (codes "remove" ∷ v ∷ w ∷ x ∷ y ∷ z ∷ []) ≡ Ok (Some (line.Cell (command.Update h d (update.Remove s a o))))
unfolding said_by check_count take_words
remove_is v w x y z h d s a o first second third fourth fifth = rw (first, second, third, fourth, fifth) refl

put_is : (v w x y z : List ℕ) (h : HouseNo) (d : DirId) (s a o : List ℕ) → house_of v ≡ Some h → directory_of w ≡ Some d → simple_name_of x ≡ Some s
    → attr_name_of y ≡ Some a → octets_value_of z ≡ Some o
    → said_in (codes "put" ∷ v ∷ w ∷ x ∷ y ∷ z ∷ []) ≡ Ok (Some (line.Cell (command.Update h d (update.Put s a o))))
unfolding said_by check_count take_words
put_is v w x y z h d s a o first second third fourth fifth = rw (first, second, third, fourth, fifth) refl

clear_is : (v w x y : List ℕ) (h : HouseNo) (d : DirId) (s a : List ℕ) → house_of v ≡ Some h → directory_of w ≡ Some d → simple_name_of x ≡ Some s
    → attr_name_of y ≡ Some a
    → said_in (codes "clear" ∷ v ∷ w ∷ x ∷ y ∷ []) ≡ Ok (Some (line.Cell (command.Update h d (update.Clear s a))))
unfolding said_by check_count take_words
clear_is v w x y h d s a first second third fourth = rw (first, second, third, fourth) refl

update_said : (h : HouseNo) (d : DirId) (u : Update) → IsHouse h.0 → IsDirectory d.0 → CanUpdate u
    → said_in (command_words (command.Update h d u)) ≡ Ok (Some (line.Cell (command.Update h d u)))
update_said h d (update.Create s) is at can =
    create_is (house_word h) (decimal d.0) s h d s (house_said h is) (directory_said d at) (simple_said s can)
update_said h d (update.MakeLink s n) is at can =
    link_is (house_word h) (decimal d.0) s (full_name_octets n) h d s n (house_said h is) (directory_said d at) (simple_said s can.0) (name_read n can.1)
update_said h d (update.MakeChild s p) is at can = absurd can
update_said h d (update.Delete s) is at can =
    delete_is (house_word h) (decimal d.0) s h d s (house_said h is) (directory_said d at) (simple_said s can)
update_said h d (update.Add s a o) is at can =
    add_is (house_word h) (decimal d.0) s a (encode_lower o) h d s a o (house_said h is) (directory_said d at) (simple_said s can.0) (attr_said a can.1)
    (value_read o can.2.octets can.2.sized)
update_said h d (update.Remove s a o) is at can =
    remove_is (house_word h) (decimal d.0) s a (encode_lower o) h d s a o (house_said h is) (directory_said d at) (simple_said s can.0) (attr_said a can.1)
    (value_read o can.2.octets can.2.sized)
update_said h d (update.Put s a o) is at can =
    put_is (house_word h) (decimal d.0) s a (encode_lower o) h d s a o (house_said h is) (directory_said d at) (simple_said s can.0) (attr_said a can.1)
    (value_read o can.2.octets can.2.sized)
update_said h d (update.Clear s a) is at can =
    clear_is (house_word h) (decimal d.0) s a h d s a (house_said h is) (directory_said d at) (simple_said s can.0) (attr_said a can.1)
update_said h d (update.Repoint s hs) is at can = absurd can

-- ---- commands

pub command_said : (c : Command) → CanBeSaid c → said_in (command_words c) ≡ Ok (Some (line.Cell c))
command_said (command.House h n) can =
    house_is (house_word h) (encode_lower (node_octets n)) h n (house_said h can.0) (node_read n can.1)
command_said (command.Clock h t) can = clock_is (house_word h) (decimal t) h t (house_said h can.0) (number_read t (omega (arith, can.1)))
command_said (command.Root h ls) can = root_is (house_word h) (map listed_word ls) h ls (house_said h can.0) (listeds_said 2 ls can.1)
command_said (command.Mkdir h d s m ls) can =
    mkdir_is (house_word h) (decimal d.0) s (house_word m) (map listed_word ls) h d s m ls (house_said h can.0) (directory_said d can.1)
    (simple_said s can.2) (house_said m can.3) (listeds_said 5 ls can.4)
command_said (command.Repoint h d s m hs) can =
    repoint_is (house_word h) (decimal d.0) s (house_word m) (map house_word hs) h d s m hs (house_said h can.0) (directory_said d can.1)
    (simple_said s can.2) (house_said m can.3) (houses_said 5 hs can.4)
command_said (command.Update h d u) can = update_said h d u can.0 can.1 can.2
command_said (command.Epoch d m ls) can =
    epoch_is (decimal d.0) (house_word m) (map listed_word ls) d m ls (directory_said d can.0) (house_said m can.1) (listeds_said 3 ls can.2)
command_said (command.Skulk h d) can = skulk_is (house_word h) (decimal d.0) h d (house_said h can.0) (directory_said d can.1)
command_said (command.Deliver n) can = deliver_is (decimal n) n (serial_read n can.0 can.1)
command_said (command.Lose n) can = lose_is (decimal n) n (serial_read n can.0 can.1)
command_said (command.Crash h) can = crash_is (house_word h) h (house_said h can)
command_said (command.Start h) can = start_is (house_word h) h (house_said h can)
