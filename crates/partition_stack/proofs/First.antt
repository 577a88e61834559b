-- The first sixteen partitions, over a store in which their client has nothing yet.
use Rattle.std.proofs.Common.{◌≡◌, ℕ, [], replicate, Some, refl, arith}
use Rattle.std.specs.Prelude.{slice_get}
use Rattle.std.proofs.lemmas.Option.{none-some}
use Rattle.store_api.specs.Conditions.{IsBlockCount}
use Rattle.store_api.specs.Holdings.{Holdings}
use Rattle.store_api.specs.Signs.{Signs}
use Rattle.store_api.specs.Tokens.{ClientToken}
use Rattle.tuple_stream.specs.Families.{ShowAll}
use Rattle.tuple_stream.specs.Streamed.{Streamed}
use Rattle.partition_stack.specs.Changes.{Owns}
use Rattle.partition_stack.specs.Leaving.{MayStart}
use Rattle.partition_stack.specs.Stack.{IsStack, empty, first_sixteen, no_stack, over}
use Rattle.partition_stack.proofs.Coming.{sixteen_come}
use Rattle.partition_stack.proofs.ListPlaces.{of_replicate}

pub no_stack_is : (blocks : ℕ) → IsBlockCount blocks → IsStack (no_stack blocks)
no_stack_is blocks sized = record { sized = sized; each = λ i s there. absurd (none-some s there); levelled = refl; placed = λ i level there. absurd (none-some level there) }

no_owned : (c : ClientToken) (blocks : ℕ) (h : Holdings) (signs : Signs) → MayStart c blocks h → Owns c.tracker 0 (over (no_stack blocks) h signs)
no_owned c blocks h signs may =
    record {
      lives = may.lives;
      shaped = record { each = λ i s there. absurd (none-some s there); apart = λ i j a b other here there. absurd (none-some a here) };
      only = λ q page lives outside. may.idle.pages q page lives;
      even = let free = may.free in omega (arith, free);
    }

pub each_empty : (blocks i : ℕ) (s : Streamed) → slice_get (replicate 16 (empty blocks)) i ≡ Some s → s ≡ empty blocks
each_empty blocks i s there = of_replicate 16 (empty blocks) i s there

pub first_owned : (c : ClientToken) (blocks : ℕ) (h : Holdings) (signs : Signs) → IsBlockCount blocks → MayStart c blocks h → Owns c.tracker 0 (over (first_sixteen blocks) h signs)
first_owned c blocks h signs sized may = (sixteen_come c.tracker 0 0 0 (no_stack blocks) h signs (no_stack_is blocks sized)).owns (no_owned c blocks h signs may)

pub first_shows : (blocks : ℕ) (h : Holdings) (signs : Signs) → IsBlockCount blocks → ShowAll (λ i. []) (over (first_sixteen blocks) h signs)
first_shows blocks h signs sized = (sixteen_come 0 0 0 0 (no_stack blocks) h signs (no_stack_is blocks sized)).rows (λ i. []) (λ i high. refl) (λ i s there. absurd (none-some s there))
