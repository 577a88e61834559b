-- Pages that are made while rows go through a table.
use Rattle.std.proofs.Common.{◌≡◌, ℕ, ◌+◌, ◌-◌, ◌*◌, ◌≤◌, true, List, length, Option, Some, ap, arith}
use Rattle.row_codec.specs.declared.values.Value.{Value}
use Rattle.store_api.specs.Holdings.{Holdings}
use Rattle.store_api.specs.Signs.{Signs}
use Rattle.store_api.specs.Tokens.{ClientToken}
use Rattle.store_api.specs.declared.shapes.Shape.{Shape}
use Rattle.tuple_stream.specs.Families.{Family, pages_in}
use Rattle.tuple_stream.specs.FamilyCalls.{shares}
use Rattle.tuple_stream.specs.Trails.{creates_in}
use Rattle.bucket_table.specs.Tables.{Table}
use Rattle.partition_stack.specs.Stack.{Stack, over}
use Rattle.partition_stack.proofs.Making.{counts_less, few_both, few_events, few_less}
use Rattle.group_op.specs.Finished.{ShowsFirst}
use Rattle.group_op.specs.Held.{State, rows_of, state, streams_of}
use Rattle.group_op.specs.Making.{MakesBeside, MakesFew, MakesLess}
use Rattle.group_op.specs.Operator.{Holds, entries_in, operator}
use Rattle.group_op.specs.Putting.{AsManyLeft, HasPut, HaveMade, Works}

pub made_few : (f g : Family) (most : ℕ) → HaveMade f g → pages_in g ≤ pages_in f + most → MakesFew most f.signs g.signs
made_few f g most made few = few_events most (λ events. pages_in g ≡ pages_in f + creates_in events) f.signs g.signs (λ events is. omega (arith, is, few)) made

-- the table got memory or a row
pub none_made : (t : ℕ) (shape : Shape) (table now : Table) (p : Stack) (h k : Holdings) (s r : Signs) → Works t shape (state table p h s) (state now p k r) → MakesFew 0 s r
none_made t shape table now p h k s r works = made_few (over p h s) (over p k r) 0 works.made (omega arith)

-- a row came to the table
pub put_less : (t : ℕ) (shape : Shape) (level base : ℕ) (row : List ℕ) (a b : State) → Works t shape a b → HasPut shape level base row a b → AsManyLeft a b → MakesLess (length (rows_of a.table) + 1) b.table a.signs b.signs
put_less t shape level base row a b works put left =
    let fewer = put.fewer in
    record {
      made = length (rows_of a.table) + 1 - length (rows_of b.table);
      fewer = omega (arith, fewer);
      few = made_few (streams_of a) (streams_of b) (length (rows_of a.table) + 1 - length (rows_of b.table)) works.made (omega (arith, fewer, left));
    }

-- behind calls that made none
pub less_since : (most : ℕ) (table : Table) (a b c : Signs) → MakesFew 0 a b → MakesLess most table b c → MakesLess most table a c
less_since most table a b c none less = record { made = less.made; fewer = less.fewer; few = few_both 0 less.made less.made a b c (omega arith) none less.few }

pub less_few : (most : ℕ) (table : Table) (a b : Signs) → MakesLess most table a b → MakesFew most a b
less_few most table a b less = let fewer = less.fewer in few_less less.made most a b (omega (arith, fewer)) less.few

-- all that was fed is handed on, of which the rows of the table go to the sixteen partitions first
pub finished_made : (m0 m : ℕ) (c : ClientToken) (shape : Shape) (fed : List (List Value)) (p : Stack) (was : Option Table) (own : Table) (h : Holdings) (s r : Signs) → was ≡ Some own
    → ((rows : ℕ → List (List ℕ)) → ShowsFirst shape rows (state own p h s) → MakesBeside (16 * length (rows_of own) + 15 * length (shares 16 rows)) m0 m s r)
    → Holds fed (operator c shape p was) h s → h.told ≡ true → MakesBeside (15 * length fed + length (entries_in was)) m0 m s r
finished_made m0 m c shape fed p was own h s r is made holds told =
    let few = holds.few in
    let same = ap (λ (o : Option Table). length (entries_in o)) is in
    counts_less (16 * length (rows_of own) + 15 * length (shares 16 holds.rows)) (15 * length fed + length (entries_in was)) m0 m s r (omega (arith, few, same))
    (made holds.rows (record { told = told; shows = holds.shows; formed = holds.formed; placed = holds.placed }))
