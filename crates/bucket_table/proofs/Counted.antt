-- How many nodes a table has.
use Rattle.std.proofs.Common.{◌≡◌, ◌≤◌, ℕ, List, [], ◌∷◌, length, map, ap, sym, ◌∙◌, arith}
use Rattle.std.proofs.lemmas.List.{length-map}
use Rattle.bucket_table.specs.Tables.{Node, used_by}
use Rattle.bucket_table.specs.Threads.{AreNodes}

-- each takes some bytes
pub few_nodes : (heads : ℕ) (area : List ℕ) (nodes : List Node) → AreNodes heads area nodes → length nodes ≤ used_by nodes
few_nodes heads area [] stand = omega arith
few_nodes heads area (n ∷ older) stand = let rest = few_nodes heads area older stand.1 in let place = stand.0.place in omega (arith, rest, place)

-- as many as before stand there, each with something else
pub as_many : (count : ℕ) (f : Node → Node) (was now : List Node) → count ≡ length was → now ≡ map f was → count ≡ length now
as_many count f was now counted are = counted ∙ sym (length-map was f) ∙ sym (ap length are)
