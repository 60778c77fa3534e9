-- Letters, as the messages that they are.
use Rattle.std.proofs.Common.{◌≡◌, ℕ, List, [], ◌∷◌, ◌++◌, refl, sym, ap, subst, ◌∙◌}
use Rattle.std.specs.Prelude.{All, map, codes, Option, Some, None, Result, Ok, Err, OnOk, MatchOption}
use Rattle.std.proofs.lemmas.Grind.{flat_map-append}
use Rattle.std.proofs.lemmas.List.{map-append}
use Rattle.std.proofs.lemmas.List.Elements.{All-append, All-cons, All-head, All-nil, All-tail}
use Rattle.std.proofs.lemmas.List.Concat.{flat_map-cons}
use Rattle.record_fields.specs.Decoding.{IsWhole}
use Rattle.cds_records.specs.RecordOctets.{message_octets}
use Rattle.cds_records.specs.Records as records
use Rattle.cds_messages.specs.Validity.{IsValidMessage}
use Rattle.cds_messages.specs.declared.message.Message.{Message}
use Rattle.cds_stamps.specs.declared.numbers.HouseNo.{HouseNo}
use Rattle.cds_cell.proofs.Bags.{body_valid}
use Rattle.cell_model.specs.Cells as model
use Rattle.house_directory.specs.declared.posted.Posted.{Posted}
use Rattle.house_directory.specs.HouseMessages.{StandEach, numbers_of, posts_to}
use Rattle.clearinghouse.specs.declared.letters.Letters.{Letters}
use Rattle.clearinghouse.specs.HouseLetters.{AreLetters}
use Rattle.cell_runs.specs.Entries.{Post}
use Rattle.cell_runs.specs.OrderSteps.{ArePosts}
use Rattle.house_turns.specs.HouseReplies.{posts_lines, posts_text}
use Rattle.house_turns.specs.PrivateTurns.{ArePostsOf, IsWholeIfValid, letters_kept, letters_text, posts_of_letters, posts_said}
use Rattle.house_turns.specs.PostTexts.{piece_lines, pieces_of, post_line}
use Rattle.script_answers.specs.Texts.{line_text, lines_text}

-- a message as octets, to a house
abbrev post_to : ℕ → List ℕ → Post
post_to to octets = record { to = to; octets = octets }

-- nothing that is posted
pub none_posted : (ps : List Posted) → ps ≡ [] → ArePostsOf [] ps
none_posted ps none = record { octets = sym (ap posts_said none); whole = subst (All IsWholeIfValid) (sym none) (All-nil IsWholeIfValid) }

-- equal posts are those of equal messages
pub same_posts : (posts others : List Post) (ps qs : List Posted) → posts ≡ others → ps ≡ qs → ArePostsOf others ps → ArePostsOf posts qs
same_posts posts others ps qs is same are =
    subst (ArePostsOf posts) same (subst (λ (os : List Post). ArePostsOf os ps) (sym is) are)

-- a message to each of some houses is whole where it is to one
whole_to : (m : Message) (houses : List ℕ) → (IsValidMessage m → IsWhole records.message m (message_octets m)) → All IsWholeIfValid (posts_to houses m)
whole_to m [] whole = All-nil IsWholeIfValid
whole_to m (h ∷ hs) whole = All-cons IsWholeIfValid (record { to = record { 0 = h }; message = m }) (posts_to hs m) whole (whole_to m hs whole)

-- letters are the messages that are posted
pub letters_posts : (ls : Letters) (ps : List Posted) → AreLetters ls ps → ArePostsOf (posts_of_letters (Some ls)) ps
letters_posts ls ps are = record {
  octets = each ls.receivers.items ∙ ap posts_said (sym are.posts);
  whole =
      subst (All IsWholeIfValid) (sym are.posts)
      (whole_to are.message (numbers_of ls.receivers.items) (λ valid. subst (IsWhole records.message are.message) are.octets (are.whole valid)));
}
  where
    each : (hs : List HouseNo) → map (λ (h : HouseNo). post_to h.0 ls.octets.items) hs ≡ posts_said (posts_to (numbers_of hs) are.message)
    each [] = refl
    each (h ∷ hs) =
        ap (λ (o : List ℕ). post_to h.0 o ∷ map (λ (h : HouseNo). post_to h.0 ls.octets.items) hs) are.octets
        ∙ ap (λ (r : List Post). post_to h.0 (message_octets are.message) ∷ r) (each hs)

-- letters that may be none
pub maybe_letters : (o : Option Letters) (ps : List Posted) → MatchOption o (ps ≡ []) (λ l. AreLetters l ps) → ArePostsOf (posts_of_letters o) ps
maybe_letters None ps none = none_posted ps none
maybe_letters (Some ls) ps are = letters_posts ls ps are

-- posted messages as octets are those of the model that they stand for
said_stand : (ps : List Posted) (ms : List model.Message) → StandEach ps ms → All IsWholeIfValid ps → ArePosts (posts_said ps) ms
said_stand [] [] each whole = tt
said_stand (p ∷ ps) (m ∷ ms) each whole =
    let valid : IsValidMessage p.message = body_valid p.message.body m.body each.0.body in (
      record {
        carried = p.message;
        stands = each.0;
        valid = valid;
        octets_are = refl;
        whole = All-head IsWholeIfValid p ps whole valid;
      },
      said_stand ps ms each.1 (All-tail IsWholeIfValid p ps whole),
    )
said_stand [] (m ∷ ms) each whole = elim each [ ]
said_stand (p ∷ ps) [] each whole = elim each [ ]

pub posts_stand : (posts : List Post) (ps : List Posted) (ms : List model.Message) → ArePostsOf posts ps → StandEach ps ms → ArePosts posts ms
posts_stand posts ps ms are each = subst (λ (os : List Post). ArePosts os ms) (sym are.octets) (said_stand ps ms each are.whole)

-- two lists of posts
pub posts_both : (posts others : List Post) (ps qs : List Posted) → ArePostsOf posts ps → ArePostsOf others qs → ArePostsOf (posts ++ others) (ps ++ qs)
posts_both posts others ps qs a b = record {
  octets =
      ap (λ (os : List Post). os ++ others) a.octets ∙ ap (λ (os : List Post). posts_said ps ++ os) b.octets
      ∙ sym (map-append (λ (p : Posted). post_to p.to.0 (message_octets p.message)) ps qs);
  whole = All-append IsWholeIfValid ps qs a.whole b.whole;
}

-- ---- the lines of letters

-- in an answer
pub text_of_letters : (n : ℕ) (octets : List ℕ) (hs : List HouseNo)
    → letters_text n octets hs ≡ lines_text n (posts_lines (map (λ (h : HouseNo). post_to h.0 octets) hs))
text_of_letters n octets [] = refl
text_of_letters n octets (h ∷ hs) =
    flat_map-cons (λ (h : HouseNo). lines_text n (piece_lines h.0 (pieces_of 2000 octets))) h hs
    ∙ ap (λ (r : List ℕ). lines_text n (piece_lines h.0 (pieces_of 2000 octets)) ++ r) (text_of_letters n octets hs)
    ∙ sym (flat_map-append (line_text n) (piece_lines h.0 (pieces_of 2000 octets)) (posts_lines (map (λ (h : HouseNo). post_to h.0 octets) hs)))
    ∙ ap (lines_text n)
    (sym (flat_map-cons (λ (p : Post). piece_lines p.to (pieces_of 2000 p.octets)) (post_to h.0 octets) (map (λ (h : HouseNo). post_to h.0 octets) hs)))

-- in a record
pub kept_of_letters : (octets : List ℕ) (hs : List HouseNo)
    → letters_kept octets hs ≡ posts_text (map (λ (h : HouseNo). post_to h.0 octets) hs)
kept_of_letters octets [] = refl
kept_of_letters octets (h ∷ hs) =
    flat_map-cons (λ (h : HouseNo). post_line (codes "post ") h.0 octets ++ 10 ∷ []) h hs
    ∙ ap (λ (r : List ℕ). (post_line (codes "post ") h.0 octets ++ 10 ∷ []) ++ r) (kept_of_letters octets hs)
    ∙ sym (flat_map-cons (λ (p : Post). post_line (codes "post ") p.to p.octets ++ 10 ∷ []) (post_to h.0 octets) (map (λ (h : HouseNo). post_to h.0 octets) hs))

-- what was written is also what is equal to it
pub pushed_same : {T E : Type 0} (r : Result T E) (t t' a b : List ℕ) → a ≡ b → OnOk r (t' ≡ t ++ a) → OnOk r (t' ≡ t ++ b)
pushed_same (Ok x) t t' a b same is = is ∙ ap (λ (r : List ℕ). t ++ r) same
pushed_same (Err e) t t' a b same is = tt
