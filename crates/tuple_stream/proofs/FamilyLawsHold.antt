-- The laws of streams beside each other.
use Rattle.tuple_stream.specs.FamilyCalls.{AllAtEnd}
use Rattle.tuple_stream.specs.FamilyLaws.{AllCallsAreSteps, FamiliesKeepThemselves}
use Rattle.tuple_stream.proofs.FamilyChains.{goes_none, lays_none}
use Rattle.tuple_stream.proofs.FamilyKept.{none_shown}
use Rattle.tuple_stream.proofs.FamilyWords.{empties_in, feeds, reads_in, spends_in}

pub calls_are_steps : AllCallsAreSteps
calls_are_steps t i f a b is at =
    record {
      adds = feeds t i f a b is at;
      reads = reads_in t i f a b is at;
      spends = spends_in t i f a b is at;
      empties = λ went none count. empties_in t i f a b is at went (none_shown b.stream b.held none count);
    }

pub keep_themselves : FamiliesKeepThemselves
keep_themselves t f is = record { built = lays_none (AllAtEnd f) ⊥ t f is; read = goes_none t f is }
