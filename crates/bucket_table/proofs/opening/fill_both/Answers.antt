use Rattle.std.proofs.Common.{ℕ, subst}
use Rattle.store_api.proofs.Growing.{grows_trans}
use Rattle.bucket_table.specs.Lending.{WasShort}
use Rattle.bucket_table.proofs.Entered.{loans_more}
use Rattle.bucket_table.proofs.Filled.{fills_none}
use Rattle.bucket_table.proofs.Held.{any_err, if_err, short_before}
use Rattle.bucket_table.proofs.opening.fill_both.Goals as goal

pub returns-in_err-fill-clause-err : goal.returns-in_err-fill-clause-err
returns-in_err-fill-clause-err g c =
    let some = c.in_err-fill.ensures.err in
    any_err c.from_residual.result (
      some.0,
      0,
      record {
        between = g.St.Store.holds c.fill.new.store;
        first = some.1;
        second = fills_none c.args.c.now.tracker c.args.nodes.now (g.St.Store.holds c.fill.new.store) some.1.lends.is;
      },
    )

pub returns-clause-cause : goal.returns-clause-cause
returns-clause-cause g c =
    if_err c.fill-2.result c.fill-2.ensures.cause (λ e is.
    subst (λ (n : ℕ). WasShort c.args.c.now.tracker n (g.St.Store.signs c.args.store.now) (g.St.Store.signs c.fill-2.new.store) e) c.requires.same.0
    (short_before e c.args.c.now.tracker c.args.nodes.now.blocks _ _ _ c.in_ok-fill.ensures.grows is))

pub returns-clause-grows : goal.returns-clause-grows
returns-clause-grows g c = grows_trans _ _ _ c.in_ok-fill.ensures.grows c.fill-2.ensures.grows

pub returns-clause-entries : goal.returns-clause-entries
returns-clause-entries g c = loans_more _ _ _ c.in_ok-fill.ensures.entries c.fill-2.ensures.entries
