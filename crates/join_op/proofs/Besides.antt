-- What calls beside an emitter leave, one after the other.
use Rattle.std.proofs.Common.{◌≡◌, ℕ, Option, refl, subst, arith}
use Rattle.store_api.specs.Holdings.{Holdings}
use Rattle.store_api.specs.Signs.{Signs}
use Rattle.store_api.proofs.Growing.{grows_refl}
use Rattle.partition_stack.specs.Emitting.{LeavesBeside}
use Rattle.partition_stack.proofs.Emitters.{beside_then}
use Rattle.partition_stack.proofs.ReadFrames.{same_for}

pub beside_none : (t : ℕ) (client : Option ℕ) (h : Holdings) (signs : Signs) → LeavesBeside t client h h signs signs
beside_none t client h signs =
    record {
      block_len = refl;
      session = refl;
      query = refl;
      limit = refl;
      live_clients = refl;
      told = refl;
      reservation = omega arith;
      others = λ u mine theirs. same_for u h;
      reserved = omega arith;
      room = omega arith;
      grows = grows_refl signs;
    }

pub beside_more : (t : ℕ) (client now : Option ℕ) (h0 h1 h2 : Holdings) (s0 s1 s2 : Signs) → now ≡ client → LeavesBeside t client h0 h1 s0 s1 → LeavesBeside t now h1 h2 s1 s2 → LeavesBeside t client h0 h2 s0 s2
beside_more t client now h0 h1 h2 s0 s1 s2 same one two = beside_then t client h0 h1 h2 s0 s1 s2 one (subst (λ (o : Option ℕ). LeavesBeside t o h1 h2 s1 s2) same two)
