-- Walks over readers of which each look-up may change what they tell.
use Rattle.std.proofs.Common.{◌≡◌, ℕ, Bool, List, refl, sym, ap, ◌∙◌}
use Rattle.resolver.specs.declared.walk.End.{End}
use Rattle.resolver.specs.Readers.{Reader}
use Rattle.resolver.specs.Walks.{Walker, Goes, Stops, EndsFrom, start, step}
use Rattle.resolver.specs.Walks as walks
use Rattle.resolver.specs.ChangingReaders.{ChangingReader, fixed_reader, Ending, EndsChanging, stops, goes, ComesTo, begins, goes_on}
use Rattle.resolver.specs.ChangingEndProofs.{some_ending, one_ending}
use Rattle.resolver.specs.ChangingEnds.{ending_of}
use Rattle.resolver.specs.WalkEnds.{end_of}
use Rattle.resolver.proofs.EndLaws.{end_is}

module _ {S : Type 0} (reader : ChangingReader S) (last : Bool) where
  -- where a walk goes on from where it came to, it goes on from its beginning
  pub ends_behind : {s₀ : S} {w₀ : Walker} {s : S} {w : Walker} {x : Ending S} → ComesTo reader last s₀ w₀ s w → EndsChanging reader last s w x → EndsChanging reader last s₀ w₀ x
  ends_behind begins r = r
  ends_behind (goes_on c next h) r = ends_behind c (goes next h r)

  pub ending_there : (s : S) (name : List (List ℕ)) → EndsChanging reader last s (start (reader.tells s) name) (ending_of reader last s name)
  unfolding ending_of
  ending_there s name = (some_ending reader last s name).1

  -- the ending of a walk is the one to which it comes
  pub ending_is : {s : S} {name : List (List ℕ)} {x : Ending S} → EndsChanging reader last s (start (reader.tells s) name) x → ending_of reader last s name ≡ x
  ending_is {s} {name} there = one_ending reader last (ending_there s name) there

-- over a reader that no look-up changes it is a walk over that reader
fixed_ends : (reader : Reader) (last : Bool) {s : Unit {0}} {w : Walker} {x : Ending (Unit {0})} → EndsChanging (fixed_reader reader) last s w x → EndsFrom reader last w x.end
fixed_ends reader last (stops h) = walks.stops h
fixed_ends reader last (goes next h r) = walks.goes next h (fixed_ends reader last r)

pub fixed_ending : (reader : Reader) (last : Bool) (name : List (List ℕ)) → (ending_of (fixed_reader reader) last tt name).end ≡ end_of reader last name
fixed_ending reader last name = sym (end_is (fixed_ends reader last (ending_there (fixed_reader reader) last tt name)))
