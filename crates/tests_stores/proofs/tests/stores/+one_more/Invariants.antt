use Rattle.tests_stores.proofs.tests.stores.+one_more.Given as goal

-- each client more leaves one fewer to come
abbrev pub decreases-one_more : goal.decreases-one_more
decreases-one_more g l = l.before
