-- The messages and the images of a cell of the model, as records (own, after C705, updates, skulks
-- and new epochs).
use Rattle.std.specs.Prelude.{ℕ, List, [], ◌∷◌, map, Option, Some, None}
use Rattle.std.specs.List.{range_with_len}
use Rattle.std.specs.Option.{option_map}
use Rattle.cds_stamps.specs.Keyed.{of_keys}
use Rattle.cds_stamps.specs.declared.members.Member as declared
use Rattle.cds_stamps.specs.declared.numbers.DirId.{DirId}
use Rattle.cds_stamps.specs.Members.{Member}
use Rattle.directory.specs.Histories.{Mark, name_in, entry_of}
use Rattle.purge_rule.specs.Replicas.{replica_of, delta_of}
use Rattle.cds_records.specs.RecordOctets.{message_octets}
use Rattle.cds_messages.specs.declared.image.Image.{Image}
use Rattle.cds_messages.specs.declared.image.ImageDir.{ImageDir}
use Rattle.cds_messages.specs.declared.image.ImageDir.TheVariants as kept
use Rattle.cds_messages.specs.declared.message.Message.{Message}
use Rattle.cds_messages.specs.declared.message.Body.{Body}
use Rattle.cds_messages.specs.declared.message.Body.TheVariants as body
use Rattle.cell_model.specs.Cells as model

-- a member list of the model, as the program has it (own)
abbrev pub declared_member : Member → declared.Member
declared_member m = record { house = record { 0 = m.house }; since = record { 0 = m.since }; kind = m.kind }

-- its members (own)
abbrev pub declared_members : List Member → List declared.Member
declared_members = map declared_member

-- the fragment of the marks of an update, which are all of one name (own)
abbrev pub update_body : List Mark → Option Body
update_body [] = None
update_body (m ∷ ms) = option_map (λ e. body.Update (record { name = name_in m; entry = e })) (entry_of (m ∷ ms) (name_in m))

-- what a message of the model carries, as a record; marks that are no update have none (own)
abbrev pub body_of : model.Body → Option Body
body_of (model.Update marks) = update_body marks
body_of (model.Gather t) = Some (body.Gather t)
body_of (model.Gathered t c) = Some (body.Gathered t (delta_of c.history c.all_up_to))
body_of (model.Spread t c) = Some (body.Spread t (delta_of c.history c.all_up_to))
body_of (model.SpreadAck t) = Some (body.SpreadAck t)
body_of (model.Advance t) = Some (body.Advance t)
body_of (model.Join members c) = Some (body.Join (declared_members members) (replica_of c.history c.all_up_to))
body_of model.Leave = Some body.Leave

-- a message of the model, as a record (own)
abbrev pub message_of : model.Message → Option Message
message_of m =
    option_map (λ b. record { dir = record { 0 = m.dir }; from = record { 0 = m.sender }; epoch = record { 0 = m.epoch }; floor = m.floor; body = b })
    (body_of m.body)

-- its octets (own)
abbrev pub octets_of : model.Message → Option (List ℕ)
octets_of m = option_map message_octets (message_of m)

-- what an image keeps of what a house has of a directory: nothing of one that it never had, and no
-- skulk (own)
abbrev pub kept_in : model.Slot → Option ImageDir
kept_in model.Absent = None
kept_in (model.Gone e) = Some (kept.Gone (record { 0 = e }))
kept_in (model.Held r) = Some (kept.Held (record { 0 = r.epoch }) (declared_members r.members) (replica_of r.history r.all_up_to))

-- the first directory numbers, so many (own)
abbrev pub first_dirs : ℕ → List DirId
first_dirs n = map (λ d. record { 0 = d }) (range_with_len 0 n)

-- the image of a house of a cell, up or down: of directories, those whose numbers were given (own)
abbrev pub image_at : model.Cell → (h : ℕ) → Image
image_at g h =
    record {
      house = record { 0 = h };
      node = (g.house h).node;
      floor = (g.house h).floor;
      dirs = of_keys (first_dirs g.next_dir) (λ d. kept_in ((g.house h).slots d.0));
    }
