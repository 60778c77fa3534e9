-- Messages as octets: the messages that they are.
use Rattle.std.proofs.Common.{◌≡◌, List, [], sym, ap, ◌∙◌}
use Rattle.record_fields.specs.Decoding.{IsWhole}
use Rattle.cds_records.specs.RecordOctets.{message_octets}
use Rattle.cds_records.specs.Records as records
use Rattle.cds_messages.specs.Validity.{IsValidMessage}
use Rattle.cds_stamps.specs.declared.numbers.EpochNo.{EpochNo}
use Rattle.cds_stamps.specs.declared.numbers.HouseNo.{HouseNo}
use Rattle.cds_stamps.specs.Members.{members_of, others_of}
use Rattle.clearinghouse.specs.declared.letters.Letters.{Letters}
use Rattle.house_directory.specs.declared.outgoing.Outgoing.{Outgoing}
use Rattle.house_directory.specs.declared.outgoing.Sender.{Sender}
use Rattle.house_directory.specs.declared.states.Held.{Held}
use Rattle.house_directory.specs.HouseMessages.{leave_of, message_of, numbers_of, posts_of, posts_to, receiver_of, receivers_of}
use Rattle.clearinghouse.specs.HouseLetters.{AreLetters}

module _ (s : Sender) (h : Held) (o : Outgoing) where
  -- where nobody is to be told nothing is posted
  pub nobody : (houses : List HouseNo) → numbers_of houses ≡ receivers_of (receiver_of o) (others_of s.house.0 (members_of h.members)) → houses ≡ []
      → posts_of s h o ≡ []
  nobody houses is none = ap (λ hs. posts_to hs (message_of s h o)) (sym is ∙ ap numbers_of none)

  -- else the octets of the message are the letters to them
  pub to_receivers : (ls : Letters) → numbers_of ls.receivers.items ≡ receivers_of (receiver_of o) (others_of s.house.0 (members_of h.members))
      → ls.octets.items ≡ message_octets (message_of s h o)
      → (IsValidMessage (message_of s h o) → IsWhole records.message (message_of s h o) ls.octets.items) → AreLetters ls (posts_of s h o)
  to_receivers ls is octets whole = record {
    message = message_of s h o;
    posts = ap (λ hs. posts_to hs (message_of s h o)) (sym is);
    octets = octets;
    whole = whole;
  }

-- the Leave of an epoch to these houses
pub to_leaving : (s : Sender) (k : EpochNo) (leaving : List HouseNo) (ls : Letters) → ls.receivers.items ≡ leaving
    → ls.octets.items ≡ message_octets (leave_of s k) → (IsValidMessage (leave_of s k) → IsWhole records.message (leave_of s k) ls.octets.items)
    → AreLetters ls (posts_to (numbers_of leaving) (leave_of s k))
to_leaving s k leaving ls is octets whole = record {
  message = leave_of s k;
  posts = ap (λ hs. posts_to (numbers_of hs) (leave_of s k)) (sym is);
  octets = octets;
  whole = whole;
}
