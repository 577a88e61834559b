-- A call that leaves a store alone leaves what all its clients have.
use Rattle.std.proofs.Common.{ℕ, Option, refl, arith}
use Rattle.store_api.specs.Holdings.{Holdings}
use Rattle.store_api.specs.Alike.{Alike}
use Rattle.store_api.specs.Emitters.{SameFor, OthersStay}
use Rattle.store_api.proofs.Reserved.{alike}

same_for : (t : ℕ) (h : Holdings) → SameFor t h h
same_for t h =
    record {
      account = refl;
      pages = λ q page own. (λ is. is, λ is. is);
      loans = λ q loan own. (λ is. is, λ is. is);
    }

pub same : (h : Holdings) → Alike h h
same h = record { rest = alike h; reservation = refl; room = refl; above = refl; clients = λ q. refl }

pub others_stay : (client : Option ℕ) (h : Holdings) → OthersStay client h h
others_stay client h =
    record {
      block_len = refl;
      session = refl;
      query = refl;
      limit = refl;
      live_clients = refl;
      told = refl;
      reservation = omega arith;
      others = λ t apart. same_for t h;
      alone = λ none. same h;
    }
