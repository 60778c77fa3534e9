-- The answers of a clerk are the replies of the cell.
use Rattle.std.proofs.Common.{◌≡◌, ℕ, Bool, true, false, List, refl, sym, ap, subst, ◌∙◌}
use Rattle.std.specs.Prelude.{Option, Some, None, if◌then◌else◌}
use Rattle.cds_stamps.specs.declared.numbers.HouseNo.{HouseNo}
use Rattle.cell_model.specs.Cells.{Cell}
use Rattle.cell_model.specs.Sets.{has}
use Rattle.cds_cell.specs.ModelCells.{Stands}
use Rattle.cds_cell.specs.Readings.{cell_reader, objects_of}
use Rattle.cds_cell.specs.Telling.{first_pointer, program_reader, told_views}
use Rattle.cds_cell.specs.declared.cell.Cell as program
use Rattle.cell_script.specs.declared.command.ScriptLine.TheVariants as line
use Rattle.resolver.specs.Readers.{Reader, ShowsOnly}
use Rattle.resolver.specs.WalkEnds.{walk_end}
use Rattle.resolver.specs.declared.seen.Found.{Found}
use Rattle.server_entries.specs.declared.client.Wanted.{Wanted}
use Rattle.ns_commands.specs.Asks.{Asks}
use Rattle.ns_commands.specs.Imported.{import_answer}
use Rattle.script_answers.specs.declared.answer.Answer.{Answer}
use Rattle.script_answers.specs.declared.answer.Answer.TheVariants as answer
use Rattle.script_answers.specs.declared.answer.ScriptRefusal.TheVariants as why
use Rattle.script_replay.specs.Replies as reply
use Rattle.script_replay.specs.Replies.{asked_of, does, said_of, trusted_reader}
use Rattle.inquire_forms.specs.Inquired.{Inquired, batches_listed}
use Rattle.inquire_replay.specs.Inquiring.{asked_at, inquiry_reply, no_house}
use Rattle.script_replay.proofs.ReachedReadings.{reached_shows_only}
use Rattle.cds_clerk.specs.declared.heard.Heard.{Heard}
use Rattle.cds_clerk.specs.declared.inquiring.Listing.{Listing}
use Rattle.cds_clerk.specs.declared.inquiring.Listing.TheVariants as listing
use Rattle.cds_clerk.specs.declared.planning.Plan.{Plan}
use Rattle.cds_clerk.specs.declared.planning.Plan.TheVariants as plan
use Rattle.cds_clerk.specs.Agreements.{Agrees}
use Rattle.cds_clerk.specs.Inquirings.{inquiry_answer}
use Rattle.cds_clerk.specs.Links.{IsTargetRead}
use Rattle.cds_clerk.specs.Plans.{asks_of}
use Rattle.cds_clerk.specs.Readings.{values_read}
use Rattle.clerk_laws.specs.HeardCells.{IsHeardIn, inquiry_of, line_of}
use Rattle.clerk_laws.proofs.CellAnswers.{batches_move, import_moves, inquiry_moves, link_alike, link_moves, over_cell, plan_moves, read_alike, read_moves}

-- a house of the cell is answered
replied : (g : Cell) (x : ℕ) (a b : Answer) → has x g.made ≡ true → a ≡ b → ◌≡◌ {A = Option Answer} (Some (asked_of g x b)) (Some a)
replied g x a b made is = ap (λ (t : Bool). Some (if t then b else answer.Refused why.NoHouse)) made ∙ ap Some (sym is)

asked : (g : Cell) (x : ℕ) (a b : Inquired) → has x g.made ≡ true → a ≡ b → ◌≡◌ {A = Option Inquired} (Some (asked_at g x b)) (Some a)
asked g x a b made is = ap (λ (t : Bool). Some (if t then b else no_house)) made ∙ ap Some (sym is)

-- an inquiry is the line of a script
inquired : (g : Cell) (x : HouseNo) (high : Bool) (name : List (List ℕ)) (l : Listing)
    → inquiry_reply g (inquiry_of x high name l) ≡ Some (asked_at g x.0 (inquiry_answer (cell_reader g (Some x.0) high) name l))
inquired g x high name listing.Members = refl
inquired g x high name listing.Entry = refl
inquired g x high name (listing.Elements asked) = refl

-- a plan is the command of a script
planned : (g : Cell) (p : Plan) → said_of g (line.Question (line_of p)) ≡ does g (asks_of (trusted_reader g) p)
planned g (plan.Export name interface bindings objects) = refl
planned g (plan.Unexport name interface objects) = refl
planned g (plan.Groupadd name member) = refl
planned g (plan.Groupdel name member) = refl
planned g (plan.Profadd name interface member priority note) = refl
planned g (plan.Profdel name interface member) = refl

module _ (tell : (c : program.Cell) (g : Cell) → Stands c g → (prefer : Option ℕ) (high : Bool) → program_reader c prefer high ≡ cell_reader g prefer high)
    (g : Cell) where
  module _ (x : HouseNo) (high : Bool) (h : Heard) (heard : IsHeardIn g (Some x.0) high h) (made : has x.0 g.made ≡ true) where
    abbrev told : Reader
    told = program_reader heard.cell (Some x.0) high

    same : told ≡ cell_reader g (Some x.0) high
    same = tell heard.cell g heard.stands (Some x.0) high

    pub reads_so : (name : List (List ℕ)) (attr : List ℕ) (a : Answer)
        → ((r : Reader) → Agrees r h → a ≡ values_read r attr (walk_end r true name))
        → ◌≡◌ {A = Option Answer} (Some (asked_of g x.0 (reply.values_read (cell_reader g (Some x.0) high) attr (walk_end (cell_reader g (Some x.0) high) true name)))) (Some a)
    reads_so name attr a all =
        replied g x.0 a _ made
        (over_cell heard.cell (Some x.0) high h heard.shown heard.near (λ r. a ≡ values_read r attr (walk_end r true name)) (read_moves attr name a told) all
        ∙ read_alike told attr (walk_end told true name)
        ∙ ap (λ (r : Reader). reply.values_read r attr (walk_end r true name)) same)

    pub links_so : (name : List (List ℕ)) (a : Answer)
        → ((r : Reader) → Agrees r h → IsTargetRead r (walk_end r false name) a)
        → ◌≡◌ {A = Option Answer} (Some (asked_of g x.0 (reply.target_read (cell_reader g (Some x.0) high) (walk_end (cell_reader g (Some x.0) high) false name)))) (Some a)
    links_so name a all =
        replied g x.0 a _ made
        (link_alike (first_pointer heard.cell.directories.items) (told_views heard.cell) (Some x.0) high a (walk_end told false name)
        (over_cell heard.cell (Some x.0) high h heard.shown heard.near (λ r. IsTargetRead r (walk_end r false name) a) (link_moves name a told) all)
        ∙ ap (λ (r : Reader). reply.target_read r (walk_end r false name)) same)

    shows : ShowsOnly told (objects_of g)
    shows = subst (λ (r : Reader). ShowsOnly r (objects_of g)) (sym same) (reached_shows_only g heard.stands.reached (Some x.0) high)

    pub imports_so : (name : List (List ℕ)) (wanted : Wanted) (a : Answer)
        → ((r : Reader) (objects : List Found) → Agrees r h → ShowsOnly r objects → a ≡ import_answer r objects wanted name)
        → ◌≡◌ {A = Option Answer} (Some (asked_of g x.0 (import_answer (cell_reader g (Some x.0) high) (objects_of g) wanted name))) (Some a)
    imports_so name wanted a all =
        replied g x.0 a _ made
        (over_cell heard.cell (Some x.0) high h heard.shown heard.near (λ r. ShowsOnly r (objects_of g) → a ≡ import_answer r (objects_of g) wanted name)
        (λ alike is only. is only ∙ import_moves (objects_of g) wanted name told alike) (λ r agrees only. all r (objects_of g) agrees only) shows
        ∙ ap (λ (r : Reader). import_answer r (objects_of g) wanted name) same)

    pub lists_so : (name : List (List ℕ)) (l : Listing) (a : Inquired) → ((r : Reader) → Agrees r h → a ≡ inquiry_answer r name l)
        → inquiry_reply g (inquiry_of x high name l) ≡ Some a
    lists_so name l a all =
        inquired g x high name l
        ∙ asked g x.0 a _ made
        (over_cell heard.cell (Some x.0) high h heard.shown heard.near (λ r. a ≡ inquiry_answer r name l) (λ alike is. is ∙ inquiry_moves name l told alike) all
        ∙ ap (λ (r : Reader). inquiry_answer r name l) same)

    pub batches_so : (name : List (List ℕ)) (wanted : Wanted) (most : ℕ) (a : Inquired)
        → ((r : Reader) (objects : List Found) → Agrees r h → ShowsOnly r objects → a ≡ batches_listed r objects wanted most name)
        → ◌≡◌ {A = Option Inquired} (Some (asked_at g x.0 (batches_listed (cell_reader g (Some x.0) high) (objects_of g) wanted most name))) (Some a)
    batches_so name wanted most a all =
        asked g x.0 a _ made
        (over_cell heard.cell (Some x.0) high h heard.shown heard.near (λ r. ShowsOnly r (objects_of g) → a ≡ batches_listed r (objects_of g) wanted most name)
        (λ alike is only. is only ∙ batches_move (objects_of g) wanted most name told alike) (λ r agrees only. all r (objects_of g) agrees only) shows
        ∙ ap (λ (r : Reader). batches_listed r (objects_of g) wanted most name) same)

  pub plans_so : (h : Heard) → IsHeardIn g None true h → (p : Plan) (asks : Asks) → ((r : Reader) → Agrees r h → asks ≡ asks_of r p)
      → said_of g (line.Question (line_of p)) ≡ does g asks
  plans_so h heard p asks all =
      let told : Reader = program_reader heard.cell None true in
      planned g p
      ∙ ap (does g)
      (sym
      (over_cell heard.cell None true h heard.shown heard.near (λ r. asks ≡ asks_of r p) (λ alike is. is ∙ plan_moves p told alike) all
      ∙ ap (λ (r : Reader). asks_of r p) (tell heard.cell g heard.stands None true)))
