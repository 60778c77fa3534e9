-- The record of an image.
use Rattle.std.specs.Prelude.{ℕ, ◌==◌, min, Option, Some, None, if◌then◌else◌}
use Rattle.std.specs.Int.{w32, w64}
use Rattle.std.specs.Option.{option_map}
use Rattle.cds_stamps.specs.declared.numbers.DirId.{DirId}
use Rattle.directory.specs.Held.{held_in, most_held}
use Rattle.purge_rule.specs.declared.replica.Replica.{Replica}
use Rattle.record_fields.specs.declared.fault.Rule.{Rule}
use Rattle.record_fields.specs.declared.fault.Rule.TheVariants.{BadTag, BadFlag, BadHeld}
use Rattle.cds_messages.specs.declared.image.ImageDir.{ImageDir}
use Rattle.cds_messages.specs.declared.image.ImageDir.TheVariants.{Held, Gone}
use Rattle.cds_messages.specs.declared.image.Image.{Image}
use Rattle.cds_messages.specs.Dirs.{dir_cmp}
use Rattle.record_fields.specs.Layouts.{Layout, done, next, choose}
use Rattle.record_fields.specs.Fields.{free, outside, number_order, octet, number, node}
use Rattle.record_fields.specs.ListLayouts.{map_of}
use Rattle.cds_records.specs.Records.{members_in, replica}

-- a directory above the one before it
unfoldable pub dir_number : Option DirId → Layout DirId
dir_number before = next (number w32 (number_order (option_map (λ d. d.0) before))) (λ n. done (record { 0 = n }))

-- a count that is not how much the replica holds
abbrev pub held_rule : Replica → ℕ → Option Rule
held_rule r n = if n == min (held_in r.table) most_held then None else Some BadHeld

-- after a replica of format 2 is how much it holds, and nothing in format 1
unfoldable pub held_count : (format : ℕ) → Replica → Layout (Unit {0})
held_count format r = choose (format == 1) (done tt) (next (number w64 (held_rule r)) (λ _. done tt))

-- the members and the replica of a directory that is held, and how much that holds
unfoldable pub held_directory : (format epoch : ℕ) → Layout ImageDir
held_directory format epoch = next (members_in format) (λ ms. next replica (λ r. next (held_count format r) (λ _. done (Held (record { 0 = epoch }) ms r))))

-- the state of a directory: held is 1, gone 2; its epoch; and where it is held what the house has
-- of it
unfoldable pub dir_state : (format : ℕ) → Layout ImageDir
dir_state format =
    next (octet (outside BadFlag 1 2))
    (λ state. next (number w64 free) (λ epoch. choose (state == 1) (held_directory format epoch) (done (Gone (record { 0 = epoch })))))

-- an image of this format after its first octet: its tag, house, node, floor, and the directories
unfoldable pub image_behind : (format : ℕ) → Layout Image
image_behind format =
    next (octet (outside BadTag 9 9))
    (λ _. next (octet free)
    (λ house. next node
    (λ node. next (number w64 free)
    (λ floor. next (number w64 free) (λ n. next (map_of {R = dir_cmp} dir_number (dir_state format) n) (λ dirs.
    done (record { house = record { 0 = house }; node = node; floor = floor; dirs = dirs })))))))

-- an image of one of these formats, which is its first octet
unfoldable pub image_in : (least most : ℕ) → Layout Image
image_in least most = next (octet (outside BadTag least most)) image_behind

-- images of format 2
unfoldable pub image : Layout Image
image = image_in 2 2

-- images of format 1
unfoldable pub image_1 : Layout Image
image_1 = image_in 1 1

-- images of either format
unfoldable pub either_image : Layout Image
either_image = image_in 1 2
