use Rattle.std.proofs.Common.{◌≡◌, ◌∙◌, ◌+◌, ◌++◌, ℕ, Bool, true, false, List, Err, length, ap, sym, subst, arith, rules}
use Rattle.std.proofs.lemmas.Bool.{false≢true}
use Rattle.store_api.specs.Holdings.{Holdings}
use Rattle.store_api.specs.Signs.{Signs}
use Rattle.store_api.proofs.Answered.{answered_before}
use Rattle.tuple_stream.specs.FamilyCalls.{shares}
use Rattle.partition_stack.specs.Stack.{Stack}
use Rattle.group_op.specs.Finishing.{HasRead, IsRead, Serves}
use Rattle.group_op.specs.Held.{IsHeld, State, lent, rows_of, state, streams_of}
use Rattle.group_op.specs.Putting.{HasGrown, HasPut, HasPutHere, IsFan}
use Rattle.group_op.proofs.Absorbed.{read_divided, read_grown, read_more}
use Rattle.group_op.proofs.Entering.{here_gone, put_of_here}
use Rattle.group_op.proofs.Serving.{fan_divided, held_divided, serves_divided, serves_of, serves_then, unless_err, where_err}
use Rattle.group_op.specs.Making.{MakesFew, MakesLess}
use Rattle.group_op.specs.Wanting.{ShowNoMore}
use Rattle.group_op.proofs.Makings.{less_since, made_few, none_made, put_less}
use Rattle.group_op.proofs.Shown.{read_long, show_read, show_refused}
use Rattle.partition_stack.proofs.Making.{few_both, few_less, few_none}
use Rattle.partition_stack.proofs.Results.{any_err}
use Rattle.group_op.proofs.absorbing.take_in.Goals as goal

pub returns-then-divided-clause-rows : goal.returns-then-divided-clause-rows
returns-then-divided-clause-rows g c = λ rows some rest told read.
    let shape = c.args.shape.now in
    let a : State = state c.args.table.now c.args.parts.now (g.St.Store.holds c.args.store.now) (g.St.Store.signs c.args.store.now) in
    let b : State = state c.put.new.table c.put.new.parts (g.St.Store.holds c.put.new.store) (g.St.Store.signs c.put.new.store) in
    let row : c.deref.result.now ≡ c.args.fed.now.row.items = c.deref.ensures.value in
    let put : HasPut shape c.args.level (c.args.at + 1) c.args.fed.now.row.items a b = subst (λ (r : List ℕ). HasPut shape c.args.level (c.args.at + 1) r a b) row c.in_ok-put.ensures.ok in
    read_more shape c.args.at c.args.level true rows some rest c.args.fed.now.row.items a b (subst (λ (d : Bool). HasRead shape c.args.at c.args.level d rows some rest a) c.if-divided.true read) told put (λ is. absurd (false≢true (sym is)))

pub returns-then-put_here-clause-rows : goal.returns-then-put_here-clause-rows
returns-then-put_here-clause-rows g c = λ rows some rest told read.
    let shape = c.args.shape.now in
    let a : State = state c.args.table.now c.args.parts.now (g.St.Store.holds c.args.store.now) (g.St.Store.signs c.args.store.now) in
    let b : State = state c.put_here.new.table c.args.parts.now (g.St.Store.holds c.put_here.new.store) (g.St.Store.signs c.put_here.new.store) in
    let row : c.deref-2.result.now ≡ c.args.fed.now.row.items = c.deref-2.ensures.value in
    let here : HasPutHere shape c.args.fed.now.row.items a b = subst (λ (r : List ℕ). HasPutHere shape r a b) row (c.put_here.ensures.put c.if-put_here.true) in
    read_more shape c.args.at c.args.level false rows some rest c.args.fed.now.row.items a b (subst (λ (d : Bool). HasRead shape c.args.at c.args.level d rows some rest a) c.if-divided.false read) told
    (put_of_here shape c.args.level (c.args.at + 1) c.args.fed.now.row.items a b here) (λ is. here_gone shape c.args.level (c.args.at + 1) c.args.fed.now.row.items a b here)

pub put-requires-2-clause-held : goal.put-requires-2-clause-held
put-requires-2-clause-held g c =
    let made = unless_err c.divide.result (sym c.is_err.ensures.value ∙ c.if-is_err.false) c.divide.ensures.ok in
    let h : Holdings = g.St.Store.holds c.put_here.new.store in
    let s : Signs = g.St.Store.signs c.put_here.new.store in
    subst (λ (p : Stack). IsHeld c.args.c.now.tracker (state c.put_here.new.table p h s)) (sym made)
    (held_divided c.args.c.now.tracker c.args.shape.now c.args.at c.args.level c.put_here.new.table c.args.parts.now h s c.law_stack.ensures c.put_here.ensures.works.held)

pub put-requires-2-clause-fan : goal.put-requires-2-clause-fan
put-requires-2-clause-fan g c =
    let made = unless_err c.divide.result (sym c.is_err.ensures.value ∙ c.if-is_err.false) c.divide.ensures.ok in
    let was : Stack = c.requires.read.0 in
    let read : IsRead false c.args.at c.args.level was c.args.parts.now = subst (λ (d : Bool). IsRead d c.args.at c.args.level was c.args.parts.now) c.if-divided.false c.requires.read.2 in
    subst (IsFan c.args.level (c.args.at + 1) c.args.at) (sym made)
    (fan_divided c.args.c.now.tracker c.args.shape.now c.args.at c.args.level c.put_here.new.table c.args.parts.now (g.St.Store.holds c.put_here.new.store) (g.St.Store.signs c.put_here.new.store) c.law_stack.ensures read.0 c.requires.deep.0 c.requires.deep.1 read.2)

pub returns-in_err-put-2-clause-serves : goal.returns-in_err-put-2-clause-serves
returns-in_err-put-2-clause-serves g c =
    let t : ℕ = c.args.c.now.tracker in
    let shape = c.args.shape.now in
    let made = unless_err c.divide.result (sym c.is_err.ensures.value ∙ c.if-is_err.false) c.divide.ensures.ok in
    let h : Holdings = g.St.Store.holds c.put_here.new.store in
    let s : Signs = g.St.Store.signs c.put_here.new.store in
    let a : State = state c.args.table.now c.args.parts.now (g.St.Store.holds c.args.store.now) (g.St.Store.signs c.args.store.now) in
    let m : State = state c.put_here.new.table c.args.parts.now h s in
    let n : State = state c.put_here.new.table c.divide.new.self h s in
    let b : State = state c.put-2.new.table c.put-2.new.parts (g.St.Store.holds c.put-2.new.store) (g.St.Store.signs c.put-2.new.store) in
    let works = c.put_here.ensures.works in
    let mid : Serves t shape m n = subst (λ (p : Stack). Serves t shape m (state c.put_here.new.table p h s)) (sym made) (serves_divided t shape c.args.at c.args.level c.put_here.new.table c.args.parts.now h s c.law_stack.ensures works.held works.entries) in
    serves_then t shape a m b (serves_of t shape a m works) (serves_then t shape m n b mid (serves_of t shape n b c.put-2.ensures.works))

pub returns-in_err-put-2-clause-cause : goal.returns-in_err-put-2-clause-cause
returns-in_err-put-2-clause-cause g c =
    let same : c.from_residual-in_err-put-2.result ≡ Err c.in_err-put-2.field-0.0 = search rules in
    rw same (answered_before c.in_err-put-2.field-0.0 (g.St.Store.signs c.args.store.now) (g.St.Store.signs c.put_here.new.store) (g.St.Store.signs c.put-2.new.store) c.put_here.ensures.works.leaves.grows c.in_err-put-2.ensures.cause)

pub returns-clause-rows : goal.returns-clause-rows
returns-clause-rows g c = λ rows some rest told read.
    let t : ℕ = c.args.c.now.tracker in
    let shape = c.args.shape.now in
    let made = unless_err c.divide.result (sym c.is_err.ensures.value ∙ c.if-is_err.false) c.divide.ensures.ok in
    let h : Holdings = g.St.Store.holds c.put_here.new.store in
    let s : Signs = g.St.Store.signs c.put_here.new.store in
    let a : State = state c.args.table.now c.args.parts.now (g.St.Store.holds c.args.store.now) (g.St.Store.signs c.args.store.now) in
    let m : State = state c.put_here.new.table c.args.parts.now h s in
    let n : State = state c.put_here.new.table c.divide.new.self h s in
    let b : State = state c.put-2.new.table c.put-2.new.parts (g.St.Store.holds c.put-2.new.store) (g.St.Store.signs c.put-2.new.store) in
    let grown : HasGrown t shape a m = c.put_here.ensures.grown c.if-put_here.false in
    let was : Stack = c.requires.read.0 in
    let place : IsRead false c.args.at c.args.level was c.args.parts.now = subst (λ (d : Bool). IsRead d c.args.at c.args.level was c.args.parts.now) c.if-divided.false c.requires.read.2 in
    let row : c.deref-3.result.now ≡ c.args.fed.now.row.items = c.deref-3.ensures.value in
    let put : HasPut shape c.args.level (c.args.at + 1) c.args.fed.now.row.items n b = subst (λ (r : List ℕ). HasPut shape c.args.level (c.args.at + 1) r n b) row c.in_ok-put-2.ensures.ok in
    let first : HasRead shape c.args.at c.args.level false rows some rest m = read_grown shape t c.args.at c.args.level false rows some rest a m (subst (λ (d : Bool). HasRead shape c.args.at c.args.level d rows some rest a) c.if-divided.false read) told grown in
    let second : HasRead shape c.args.at c.args.level true rows some rest n = subst (λ (p : Stack). HasRead shape c.args.at c.args.level true rows some rest (state c.put_here.new.table p h s)) (sym made)
    (read_divided shape t c.args.at c.args.level (lent m) rows some rest c.put_here.new.table c.args.parts.now h s c.law_stack.ensures place.0 first) in
    read_more shape c.args.at c.args.level true rows some rest c.args.fed.now.row.items n b second (grown.deals.told ∙ told) put (λ is. absurd (false≢true (sym is)))

pub returns-clause-serves : goal.returns-clause-serves
returns-clause-serves g c =
    let t : ℕ = c.args.c.now.tracker in
    let shape = c.args.shape.now in
    let made = unless_err c.divide.result (sym c.is_err.ensures.value ∙ c.if-is_err.false) c.divide.ensures.ok in
    let h : Holdings = g.St.Store.holds c.put_here.new.store in
    let s : Signs = g.St.Store.signs c.put_here.new.store in
    let a : State = state c.args.table.now c.args.parts.now (g.St.Store.holds c.args.store.now) (g.St.Store.signs c.args.store.now) in
    let m : State = state c.put_here.new.table c.args.parts.now h s in
    let n : State = state c.put_here.new.table c.divide.new.self h s in
    let b : State = state c.put-2.new.table c.put-2.new.parts (g.St.Store.holds c.put-2.new.store) (g.St.Store.signs c.put-2.new.store) in
    let works = c.put_here.ensures.works in
    let mid : Serves t shape m n = subst (λ (p : Stack). Serves t shape m (state c.put_here.new.table p h s)) (sym made) (serves_divided t shape c.args.at c.args.level c.put_here.new.table c.args.parts.now h s c.law_stack.ensures works.held works.entries) in
    serves_then t shape a m b (serves_of t shape a m works) (serves_then t shape m n b mid (serves_of t shape n b c.put-2.ensures.works))

pub returns-in_err-hash-clause-made : goal.returns-in_err-hash-clause-made
returns-in_err-hash-clause-made g c = any_err c.from_residual.result (few_less 0 (length (rows_of c.args.table.now)) (g.St.Store.signs c.args.store.now) (g.St.Store.signs c.args.store.now) (omega arith) (few_none (g.St.Store.signs c.args.store.now)))

pub returns-in_err-put-clause-made : goal.returns-in_err-put-clause-made
returns-in_err-put-clause-made g c =
    let a : State = state c.args.table.now c.args.parts.now (g.St.Store.holds c.args.store.now) (g.St.Store.signs c.args.store.now) in
    let b : State = state c.put.new.table c.put.new.parts (g.St.Store.holds c.put.new.store) (g.St.Store.signs c.put.new.store) in
    any_err c.from_residual-in_err-put.result (made_few (streams_of a) (streams_of b) (length (rows_of c.args.table.now)) c.put.ensures.works.made c.put.ensures.few)

pub returns-then-divided-clause-less : goal.returns-then-divided-clause-less
returns-then-divided-clause-less g c =
    let a : State = state c.args.table.now c.args.parts.now (g.St.Store.holds c.args.store.now) (g.St.Store.signs c.args.store.now) in
    let b : State = state c.put.new.table c.put.new.parts (g.St.Store.holds c.put.new.store) (g.St.Store.signs c.put.new.store) in
    put_less c.args.c.now.tracker c.args.shape.now c.args.level (c.args.at + 1) c.deref.result.now a b c.put.ensures.works c.in_ok-put.ensures.ok c.in_ok-put.ensures.left

pub returns-then-put_here-clause-less : goal.returns-then-put_here-clause-less
returns-then-put_here-clause-less g c =
    let fewer = (c.put_here.ensures.put c.if-put_here.true).fewer in
    record {
      made = 0;
      fewer = omega (arith, fewer);
      few = none_made c.args.c.now.tracker c.args.shape.now c.args.table.now c.put_here.new.table c.args.parts.now (g.St.Store.holds c.args.store.now) (g.St.Store.holds c.put_here.new.store) (g.St.Store.signs c.args.store.now) (g.St.Store.signs c.put_here.new.store) c.put_here.ensures.works;
    }

pub returns-then-is_err-clause-made : goal.returns-then-is_err-clause-made
returns-then-is_err-clause-made g c =
    few_less 0 (length (rows_of c.args.table.now)) (g.St.Store.signs c.args.store.now) (g.St.Store.signs c.put_here.new.store) (omega arith)
    (none_made c.args.c.now.tracker c.args.shape.now c.args.table.now c.put_here.new.table c.args.parts.now (g.St.Store.holds c.args.store.now) (g.St.Store.holds c.put_here.new.store) (g.St.Store.signs c.args.store.now) (g.St.Store.signs c.put_here.new.store) c.put_here.ensures.works)

pub returns-in_err-put-2-clause-made : goal.returns-in_err-put-2-clause-made
returns-in_err-put-2-clause-made g c =
    let h : Holdings = g.St.Store.holds c.put_here.new.store in
    let s : Signs = g.St.Store.signs c.put_here.new.store in
    let n : State = state c.put_here.new.table c.divide.new.self h s in
    let b : State = state c.put-2.new.table c.put-2.new.parts (g.St.Store.holds c.put-2.new.store) (g.St.Store.signs c.put-2.new.store) in
    let none : MakesFew 0 (g.St.Store.signs c.args.store.now) s = none_made c.args.c.now.tracker c.args.shape.now c.args.table.now c.put_here.new.table c.args.parts.now (g.St.Store.holds c.args.store.now) h (g.St.Store.signs c.args.store.now) s c.put_here.ensures.works in
    let rows = ap length (c.put_here.ensures.grown c.if-put_here.false).rows in
    any_err c.from_residual-in_err-put-2.result
    (few_both 0 (length (rows_of c.put_here.new.table)) (length (rows_of c.args.table.now)) (g.St.Store.signs c.args.store.now) s b.signs (omega (arith, rows)) none
    (made_few (streams_of n) (streams_of b) (length (rows_of c.put_here.new.table)) c.put-2.ensures.works.made c.put-2.ensures.few))

pub returns-clause-less : goal.returns-clause-less
returns-clause-less g c =
    let h : Holdings = g.St.Store.holds c.put_here.new.store in
    let s : Signs = g.St.Store.signs c.put_here.new.store in
    let n : State = state c.put_here.new.table c.divide.new.self h s in
    let b : State = state c.put-2.new.table c.put-2.new.parts (g.St.Store.holds c.put-2.new.store) (g.St.Store.signs c.put-2.new.store) in
    let none : MakesFew 0 (g.St.Store.signs c.args.store.now) s = none_made c.args.c.now.tracker c.args.shape.now c.args.table.now c.put_here.new.table c.args.parts.now (g.St.Store.holds c.args.store.now) h (g.St.Store.signs c.args.store.now) s c.put_here.ensures.works in
    let rows = ap length (c.put_here.ensures.grown c.if-put_here.false).rows in
    let same : length (rows_of c.put_here.new.table) + 1 ≡ length (rows_of c.args.table.now) + 1 = ap (λ (k : ℕ). k + 1) rows in
    subst (λ (k : ℕ). MakesLess k c.put-2.new.table (g.St.Store.signs c.args.store.now) b.signs) same
    (less_since (length (rows_of c.put_here.new.table) + 1) c.put-2.new.table (g.St.Store.signs c.args.store.now) s b.signs none
    (put_less c.args.c.now.tracker c.args.shape.now c.args.level (c.args.at + 1) c.deref-3.result.now n b c.put-2.ensures.works c.in_ok-put-2.ensures.ok c.in_ok-put-2.ensures.left))

pub returns-in_err-hash-clause-stand : goal.returns-in_err-hash-clause-stand
returns-in_err-hash-clause-stand g c =
    let a : State = state c.args.table.now c.args.parts.now (g.St.Store.holds c.args.store.now) (g.St.Store.signs c.args.store.now) in
    any_err c.from_residual.result (λ rows some rest told read. show_read c.args.shape.now c.args.at c.args.level c.args.divided rows some rest a c.requires.read.0 read c.requires.read.2 c.requires.deep.0 c.requires.deep.1)

pub returns-in_err-put-clause-stand : goal.returns-in_err-put-clause-stand
returns-in_err-put-clause-stand g c =
    let a : State = state c.args.table.now c.args.parts.now (g.St.Store.holds c.args.store.now) (g.St.Store.signs c.args.store.now) in
    let b : State = state c.put.new.table c.put.new.parts (g.St.Store.holds c.put.new.store) (g.St.Store.signs c.put.new.store) in
    let long = read_long c.args.divided c.args.at c.args.level c.requires.read.0 c.args.parts.now c.requires.read.2 c.requires.deep.0 c.requires.deep.1 in
    any_err c.from_residual-in_err-put.result (λ rows some rest told read. show_refused c.args.shape.now c.args.at c.args.level c.args.divided rows some rest a b long.0 read long.1 told c.in_err-put.ensures.stand)

pub returns-then-is_err-clause-stand : goal.returns-then-is_err-clause-stand
returns-then-is_err-clause-stand g c = λ rows some rest told read.
    let t : ℕ = c.args.c.now.tracker in
    let shape = c.args.shape.now in
    let h : Holdings = g.St.Store.holds c.put_here.new.store in
    let s : Signs = g.St.Store.signs c.put_here.new.store in
    let a : State = state c.args.table.now c.args.parts.now (g.St.Store.holds c.args.store.now) (g.St.Store.signs c.args.store.now) in
    let m : State = state c.put_here.new.table c.args.parts.now h s in
    let same : c.divide.new.self ≡ c.args.parts.now = where_err c.divide.result (sym c.is_err.ensures.value ∙ c.if-is_err.true) c.divide.ensures.err in
    let grown : HasGrown t shape a m = c.put_here.ensures.grown c.if-put_here.false in
    subst (λ (p : Stack). ShowNoMore (shares c.args.at rows ++ (some ++ rest)) (state c.put_here.new.table p h s)) (sym same)
    (show_read shape c.args.at c.args.level c.args.divided rows some rest m c.requires.read.0 (read_grown shape t c.args.at c.args.level c.args.divided rows some rest a m read told grown) c.requires.read.2 c.requires.deep.0 c.requires.deep.1)

pub returns-in_err-put-2-clause-stand : goal.returns-in_err-put-2-clause-stand
returns-in_err-put-2-clause-stand g c =
    let t : ℕ = c.args.c.now.tracker in
    let shape = c.args.shape.now in
    let made = unless_err c.divide.result (sym c.is_err.ensures.value ∙ c.if-is_err.false) c.divide.ensures.ok in
    let h : Holdings = g.St.Store.holds c.put_here.new.store in
    let s : Signs = g.St.Store.signs c.put_here.new.store in
    let a : State = state c.args.table.now c.args.parts.now (g.St.Store.holds c.args.store.now) (g.St.Store.signs c.args.store.now) in
    let m : State = state c.put_here.new.table c.args.parts.now h s in
    let n : State = state c.put_here.new.table c.divide.new.self h s in
    let b : State = state c.put-2.new.table c.put-2.new.parts (g.St.Store.holds c.put-2.new.store) (g.St.Store.signs c.put-2.new.store) in
    let grown : HasGrown t shape a m = c.put_here.ensures.grown c.if-put_here.false in
    let was : Stack = c.requires.read.0 in
    let place : IsRead false c.args.at c.args.level was c.args.parts.now = subst (λ (d : Bool). IsRead d c.args.at c.args.level was c.args.parts.now) c.if-divided.false c.requires.read.2 in
    let fan : IsFan c.args.level (c.args.at + 1) c.args.at c.divide.new.self = subst (IsFan c.args.level (c.args.at + 1) c.args.at) (sym made)
    (fan_divided t shape c.args.at c.args.level c.put_here.new.table c.args.parts.now h s c.law_stack.ensures place.0 c.requires.deep.0 c.requires.deep.1 place.2) in
    any_err c.from_residual-in_err-put-2.result
    (λ rows some rest told read.
    let first : HasRead shape c.args.at c.args.level false rows some rest m = read_grown shape t c.args.at c.args.level false rows some rest a m (subst (λ (d : Bool). HasRead shape c.args.at c.args.level d rows some rest a) c.if-divided.false read) told grown in
    let second : HasRead shape c.args.at c.args.level true rows some rest n = subst (λ (p : Stack). HasRead shape c.args.at c.args.level true rows some rest (state c.put_here.new.table p h s)) (sym made)
    (read_divided shape t c.args.at c.args.level (lent m) rows some rest c.put_here.new.table c.args.parts.now h s c.law_stack.ensures place.0 first) in
    let sixteen = fan.sixteen in
    show_refused shape c.args.at c.args.level true rows some rest n b 16 second (omega (arith, sixteen)) (grown.deals.told ∙ told) c.in_err-put-2.ensures.stand)
