use Rattle.bucket_table.proofs.Opened.{closed_again}
use Rattle.tests_stores.proofs.tests.tables.narrow.Goals as goal

pub returns : goal.returns
returns g c =
    closed_again c.args.c.now.tracker c.in_ok-table.table c.taken-seen.new.table _ _ _ c.in_ok-table.ensures.ok.client c.taken-seen.ensures c.in_ok-table.ensures.ok.lends c.close.ensures.lends
