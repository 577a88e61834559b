-- What the errors of an operator tell.
use Rattle.std.specs.Prelude.{◌≡◌, ℕ, Option, None}
use Rattle.store_api.specs.Emitters.{CameOf}
use Rattle.store_api.specs.Signs.{Signs}
use Rattle.store_api.specs.declared.op_err.OpErr.{OpErr}
use Rattle.partition_stack.specs.Slots.{IsWantOf}

-- the store answered so in between, or a fault of the emitter came; and where the emitter has no client, want of slots is
-- told with the blocks of a page, and with what is left of so many slots
pub record CameBeside (blocks : ℕ) (total client : Option ℕ) (faults_old faults : ℕ) (before after : Signs) (e : OpErr) : Type 0 where
  pub came : CameOf faults_old faults before after e
  pub want : client ≡ None → IsWantOf blocks total e
