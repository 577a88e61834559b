use Rattle.std.proofs.Common.{◌≡◌, ◌+◌, arith, rules}
use Rattle.store_api.specs.Signs.{Signs}
use Rattle.store_api.proofs.Growing.{grows_trans}
use Rattle.store_api.proofs.Names.{counts_made, creation_makes, these_make, makes_both}
use Rattle.tests_stores.proofs.tests.stores.page_rows.PageRowsEmit.row.Goals as goal

pub returns-clause-grows : goal.returns-clause-grows
returns-clause-grows g c =
    let first : Signs = g.St.Store.signs c.args.store.now in
    let mid : Signs = g.St.Store.signs c.create.new.self in
    let last : Signs = g.St.Store.signs c.destroy.new.self in
    let more : c.in-Some.rows ≡ c.args.self.now.rows + 1 = search rules in
    record {
      grows = grows_trans first mid last c.create.ensures.grows c.destroy.ensures.grows;
      alone = λ none. absurd (cc);
      pages =
          counts_made 1 c.args.self.now.rows c.in-Some.rows first last more
          (makes_both 1 0 first mid last (creation_makes _ _ _ _ _ _ _ first mid c.in_ok-page.ensures.entries) (these_make _ 0 _ mid last (omega arith) c.destroy.ensures.entries));
    }
