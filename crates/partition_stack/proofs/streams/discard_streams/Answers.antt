use Rattle.std.proofs.Common.{◌≡◌, [], None, Some}
use Rattle.std.proofs.lemmas.List.Elements.{All-pop}
use Rattle.tuple_stream.specs.Streamed.{Streamed}
use Rattle.partition_stack.proofs.streams.discard_streams.Goals as goal

pub loop-streams-preserved : goal.loop-streams-preserved
loop-streams-preserved c =
    (All-pop (λ (s : Streamed). (s.pages ≡ []) × (s.pinned ≡ None)) c.loop-streams.streams.items c.take_last-stream.new.self.items (Some c.take_last-stream.result)
    c.take_last-stream.ensures.items c.loop-streams.invariant).0
