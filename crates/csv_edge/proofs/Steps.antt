-- Rows that were handed out, one by one.
use Rattle.std.proofs.Common.{◌≡◌, ◌∙◌, ap, sym, List, [], ◌∷◌, ◌++◌, Option, Some, None, append_assoc}
use Rattle.csv_edge.specs.Rows.{Becomes}
use Rattle.csv_edge.specs.Typed.{Typed, row_then, rows_then}
use Rattle.row_codec.specs.declared.values.Value.{Value}

-- one step after the other
pub becomes_more : {A B C : Type 0} (f : B → A) (g : C → B) (a : Option A) (b : Option B) (c : Option C) → Becomes f a b → Becomes g b c → Becomes (λ t. f (g t)) a c
becomes_more f g None b c h k = tt
becomes_more f g (Some x) None c h k = absurd h
becomes_more f g (Some x) (Some y) None h k = absurd k
becomes_more f g (Some x) (Some y) (Some z) h k = h ∙ ap f k

-- no row was handed out yet
pub none-handed : (all rest : Option Typed) → Becomes (λ t. t) all rest → Becomes (rows_then []) all rest
none-handed None rest h = tt
none-handed (Some typed) None h = h
none-handed (Some typed) (Some rest) h = h

-- one more row was handed out
pub row-handed : (before : List (List Value)) (row : List Value) (all old new : Option Typed)
    → Becomes (rows_then before) all old → Becomes (row_then row) old new → Becomes (rows_then (before ++ row ∷ [])) all new
row-handed before row None old new h next = tt
row-handed before row (Some typed) None new h next = absurd h
row-handed before row (Some typed) (Some old) None h next = absurd next
row-handed before row (Some typed) (Some old) (Some new) h next =
    let more : rows_then before (row_then row new) ≡ rows_then (before ++ row ∷ []) new =
    ap (λ (t : List (List Value)). let joined : Typed = record { rows = t; refusal = new.refusal } in joined) (sym (append_assoc before (row ∷ []) new.rows)) in
    h ∙ ap (rows_then before) next ∙ more
