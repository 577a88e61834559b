use Rattle.std.proofs.Common.{◌≡◌, List, ℕ, take, drop, ap, sym, ◌∙◌, subst}
use Rattle.tuple_stream.specs.Streamed.{Streamed, open_bytes}
use Rattle.tuple_stream.specs.Steps.{scene}
use Rattle.tuple_stream.specs.Spending.{SpendsRow}
use Rattle.std.specs.Bool.{⊤}
use Rattle.tuple_stream.proofs.Readying.{any_err}
use Rattle.tuple_stream.proofs.ReadRow.{reads_one}
use Rattle.tuple_stream.proofs.SpentRows.{spends_after}
use Rattle.tuple_stream.proofs.stream.Stream.spend_into.Goals as goal

pub returns-clause-ok : goal.returns-clause-ok
returns-clause-ok g c =
    let t = c.args.c.now.tracker in
    let a = scene c.args.self.now (g.St.Store.holds c.args.store.now) (g.St.Store.signs c.args.store.now) in
    let m = scene c.open_at.new.self (g.St.Store.holds c.open_at.new.store) (g.St.Store.signs c.open_at.new.store) in
    let b = scene c.spend.new.self (g.St.Store.holds c.spend.new.store) (g.St.Store.signs c.spend.new.store) in
    let went = c.in_ok-open_at.ensures.went t c.requires.stream in
    let row : c.copy_from_open.new.out.items ≡ take c.in_ok-len.len (drop m.stream.spent (open_bytes m.stream.pinned)) =
    c.in_ok-len.ensures.row c.if-len-eq0.false ∙ ap (λ (x : Streamed). take c.in_ok-len.len (drop x.spent (open_bytes m.stream.pinned))) c.self-2.view_is in
    spends_after t c.copy_from_open.new.out.items a m b went c.in_ok-open_at.ensures.same c.in_ok-open_at.ensures.ok
    (λ opened. let still = c.in_ok-open_at.ensures.still opened in (still.1, still.2))
    (subst (λ (bytes : List ℕ). SpendsRow ⊤ t bytes m b) (sym row) (c.spend.ensures.went t went.step.shape))

pub returns-in_err-open_at-clause-err : goal.returns-in_err-open_at-clause-err
returns-in_err-open_at-clause-err g c =
    let t = c.args.c.now.tracker in
    any_err c.from_residual.result (reads_one 0 t _ _ (c.in_err-open_at.ensures.went t c.requires.stream))

pub returns-in_err-len-clause-err : goal.returns-in_err-len-clause-err
returns-in_err-len-clause-err g c =
    let t = c.args.c.now.tracker in
    any_err c.from_residual-in_err-len.result (reads_one 0 t _ _ (c.in_ok-open_at.ensures.went t c.requires.stream))

pub returns-then-len-eq0-clause-err : goal.returns-then-len-eq0-clause-err
returns-then-len-eq0-clause-err g c =
    let t = c.args.c.now.tracker in
    reads_one 0 t _ _ (c.in_ok-open_at.ensures.went t c.requires.stream)
