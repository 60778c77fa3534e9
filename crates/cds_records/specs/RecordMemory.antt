-- Which octets no memory is wanted for, so that they are never answered as out of memory.
use Rattle.std.specs.Prelude.{◌≡◌, ℕ, Bool, true, ◌||◌, ◌==◌, List}
use Rattle.std.specs.Int.{w32, w64}
use Rattle.record_fields.specs.declared.fault.Rule.TheVariants.{BadTag}
use Rattle.record_fields.specs.Layouts.{Layout, done, next, Stands}
use Rattle.record_fields.specs.Fields.{free, outside, octet, number, node}

-- the head of a message, which says its tag
unfoldable pub message_head : Layout ℕ
message_head =
    next (octet (outside BadTag 2 2))
    (λ _. next (octet (outside BadTag 1 8))
    (λ tag. next (number w32 free) (λ _. next (octet free) (λ _. next (number w64 free) (λ _. next (number w64 free) (λ _. done tag))))))

-- a message of this tag carries what takes memory: marks, members, a replica or a delta
abbrev pub takes_memory : ℕ → Bool
takes_memory tag = (tag == 1) || ((tag == 3) || ((tag == 4) || (tag == 7)))

-- the head of an image of one of these formats, which says how many directories follow
unfoldable pub image_head : (least most : ℕ) → Layout ℕ
image_head least most =
    next (octet (outside BadTag least most))
    (λ _. next (octet (outside BadTag 9 9))
    (λ _. next (octet free) (λ _. next node (λ _. next (number w64 free) (λ _. next (number w64 free) (λ n. done n))))))

-- a whole head is in front, of a message that takes memory
abbrev pub WantsForMessage : List ℕ → Type 0
WantsForMessage octets = (tag : ℕ) × (rest : List ℕ) × Stands message_head octets tag rest × (takes_memory tag ≡ true)

-- a whole head of an image of one of these formats is in front
abbrev pub WantsForImage : (least most : ℕ) → List ℕ → Type 0
WantsForImage least most octets = (count : ℕ) × (rest : List ℕ) × Stands (image_head least most) octets count rest
