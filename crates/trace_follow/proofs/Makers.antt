-- Who makes an entry, as a trace has it.
use Rattle.std.proofs.Common.{◌≡◌, ◌<◌, ◌≤◌, Bool, true, false, le-leb, ap, sym, ◌∙◌, arith}
use Rattle.std.proofs.lemmas.Bool.{lt-leb}
use Rattle.pool_model.specs.declared.skeleton.Skeleton.{Skeleton}
use Rattle.pool_model.specs.Traces.{is_writer}
use Rattle.trace_follow.specs.Judging.{made}

marked : (k : Skeleton) (b : Bool) → is_writer k.maker ≡ b → k.writer ≡ b → made k.maker k.event ≡ k
marked k b is same = ap (λ (w : Bool). record { writer = w; maker = k.maker; event = k.event }) (is ∙ sym same)

pub as_session : (k : Skeleton) → k.maker < 240 → k.writer ≡ false → made k.maker k.event ≡ k
as_session k low same = marked k false (lt-leb 1000 k.maker (omega (arith, low))) same

pub as_writer : (k : Skeleton) → 1000 ≤ k.maker → k.writer ≡ true → made k.maker k.event ≡ k
as_writer k high same = marked k true (le-leb 1000 k.maker high) same
